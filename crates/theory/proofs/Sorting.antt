-- A list sorted by a rank. Assumes nothing.
use Prim.Native.Nat.{ℕ}
use mathlib.Core.Bool.{Bool, ◌&&◌, false, not, true}
use mathlib.Core.List.Memᴰ
use mathlib.Core.List.{List, [], ◌∷◌}
use mathlib.Core.Logic.{◌⊎◌, inl, inr, ⊎_elim}
use mathlib.Core.Path.{◌≡◌, ap, refl, sym}
use native.Mathlib.Omega.{arith}
use lib.Dec.{eqb, leb, ltb}
use borrow.Author.Tests.{le-leb, leb-false, leb-true, ltb-true, ne_eqb}
use Rattle.laws.proofs.Keeping.{pairs_weaken}
use Rattle.laws.proofs.Lists.{◌∈◌, all_in, all_out, and_both, and_left, and_right}
use Rattle.rules.specs.Lists.{all, pairs}

abbrev pub is_ordered : (ℕ → ℕ) → ℕ → ℕ → Bool
is_ordered rank a b = leb (rank a) (rank b) && not (eqb a b)

abbrev pub place : (ℕ → ℕ) → ℕ → List ℕ → List ℕ
place rank x [] = x ∷ []
place rank x (y ∷ ys) = elim (leb (rank x) (rank y)) [ true ↦ x ∷ y ∷ ys | false ↦ y ∷ place rank x ys ]

abbrev pub sort : (ℕ → ℕ) → List ℕ → List ℕ
sort rank [] = []
sort rank (x ∷ xs) = place rank x (sort rank xs)

module _ (rank : ℕ → ℕ) where
  place_out : {z : ℕ} (x : ℕ) (ys : List ℕ) → z ∈ place rank x ys → (z ≡ x) ⊎ (z ∈ ys)
  place_out x [] m = Memᴰ.cases_cons m
  place_out {z} x (y ∷ ys) m = go (leb (rank x) (rank y)) m (place_out x ys)
    where
      go : (b : Bool) → z ∈ elim b [ true ↦ x ∷ y ∷ ys | false ↦ y ∷ place rank x ys ] → (z ∈ place rank x ys → (z ≡ x) ⊎ (z ∈ ys)) → (z ≡ x) ⊎ (z ∈ (y ∷ ys))
      go true k r = Memᴰ.cases_cons k
      go false k r = ⊎_elim (λ e. inr (Memᴰ.head e)) (λ n. ⊎_elim (λ e. inl e) (λ n. inr (Memᴰ.tail n)) (r n)) (Memᴰ.cases_cons k)

  place_in : {z : ℕ} (x : ℕ) (ys : List ℕ) → (z ≡ x) ⊎ (z ∈ ys) → z ∈ place rank x ys
  place_in x [] (inl e) = Memᴰ.head e
  place_in x [] (inr m) = Memᴰ.tail m
  place_in {z} x (y ∷ ys) m = go (leb (rank x) (rank y)) m (place_in x ys)
    where
      go : (b : Bool) → (z ≡ x) ⊎ (z ∈ (y ∷ ys)) → ((z ≡ x) ⊎ (z ∈ ys) → z ∈ place rank x ys) → z ∈ elim b [ true ↦ x ∷ y ∷ ys | false ↦ y ∷ place rank x ys ]
      go true (inl e) r = Memᴰ.head e
      go true (inr n) r = Memᴰ.tail n
      go false (inl e) r = Memᴰ.tail (r (inl e))
      go false (inr n) r = ⊎_elim (λ e. Memᴰ.head e) (λ k. Memᴰ.tail (r (inr k))) (Memᴰ.cases_cons n)

  place_ordered : (x : ℕ) (ys : List ℕ) → ((y : ℕ) → y ∈ ys → x ≡ y → ⊥) → pairs (is_ordered rank) ys ≡ true → pairs (is_ordered rank) (place rank x ys) ≡ true
  place_ordered x [] f h = refl
  place_ordered x (y ∷ ys) f h = go (leb (rank x) (rank y)) refl (place_ordered x ys (λ z m. f z (Memᴰ.tail m)) (and_right (all (is_ordered rank y) ys) _ h))
    where
      differ : (z : ℕ) → z ∈ (y ∷ ys) → not (eqb x z) ≡ true
      differ z m = ap not (ne_eqb x z (f z m))

      behind : (z : ℕ) → z ∈ ys → is_ordered rank y z ≡ true
      behind z m = all_out (is_ordered rank y) m (and_left _ _ h)

      go : (b : Bool) → leb (rank x) (rank y) ≡ b → pairs (is_ordered rank) (place rank x ys) ≡ true
          → pairs (is_ordered rank) (elim b [ true ↦ x ∷ y ∷ ys | false ↦ y ∷ place rank x ys ]) ≡ true
      go true e r = and_both _ _ (and_both _ _ (and_both _ _ e (differ y (Memᴰ.head refl))) (all_in (is_ordered rank x) ys (λ z m. and_both _ _
          (le-leb (rank x) (rank z) (omega (arith, leb-true (rank x) (rank y) e, leb-true (rank y) (rank z) (and_left _ _ (behind z m))))) (differ z (Memᴰ.tail m))))) h
      go false e r = and_both _ _ (all_in (is_ordered rank y) (place rank x ys) (λ z m. pick z (place_out x ys m))) r
        where
          pick : (z : ℕ) → (z ≡ x) ⊎ (z ∈ ys) → is_ordered rank y z ≡ true
          pick z (inl q) = rw q (and_both _ _ (le-leb (rank y) (rank x) (omega (arith, leb-false (rank x) (rank y) e))) (ap not (ne_eqb y x (λ p. f y (Memᴰ.head refl) (sym p)))))
          pick z (inr m) = behind z m

  pub sort_out : {z : ℕ} (xs : List ℕ) → z ∈ sort rank xs → z ∈ xs
  sort_out [] m = m
  sort_out (x ∷ xs) m = ⊎_elim (λ e. Memᴰ.head e) (λ n. Memᴰ.tail (sort_out xs n)) (place_out x (sort rank xs) m)

  pub sort_in : {z : ℕ} (xs : List ℕ) → z ∈ xs → z ∈ sort rank xs
  sort_in (x ∷ xs) m = place_in x (sort rank xs) (⊎_elim (λ e. inl e) (λ n. inr (sort_in xs n)) (Memᴰ.cases_cons m))
  sort_in {z = z} [] m = elim m [ ]

  pub sort_ordered : (xs : List ℕ) → pairs ltb xs ≡ true → pairs (is_ordered rank) (sort rank xs) ≡ true
  sort_ordered [] h = refl
  sort_ordered (x ∷ xs) h =
      place_ordered x (sort rank xs) (λ y m e. omega (arith, ltb-true x y (all_out (ltb x) (sort_out xs m) (and_left _ _ h)))) (sort_ordered xs (and_right (all (ltb x) xs) _ h))

pub once_of : (rank : ℕ → ℕ) (xs : List ℕ) → pairs (is_ordered rank) xs ≡ true → pairs (λ a b. not (eqb a b)) xs ≡ true
once_of rank xs h = pairs_weaken (is_ordered rank) (λ a b. not (eqb a b)) xs (λ x y mx my t. and_right (leb (rank x) (rank y)) _ t) h

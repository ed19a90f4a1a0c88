-- Packed records: a record put in at its place, put over the one with its key, or taken out, is that in the list of records. Assumes nothing.
use Prim.Native.Nat.{ℕ, zero, suc, ◌^◌, ◌≤◌, ◌<◌}
use mathlib.Core.Bool.{Bool, true, false, ◌||◌, cond}
use mathlib.Core.List.Memᴰ
use mathlib.Core.List.{List, [], ◌∷◌, map}
use mathlib.Core.Logic.{◌⊎◌, inl, inr}
use mathlib.Core.Path.{◌∙◌, ◌≡◌, ap, refl, sym}
use native.Mathlib.Omega.{arith}
use lib.Dec.{eqb, leb, ltb}
use lib.ListN.{length, set}
use borrow.Author.Tests.{eqb-false, eqb-true, le-leb, lt-leb, ltb-false, ltb-true, ne_eqb}
use Rattle.terms.specs.declared.Rec.{Rec}
use Rattle.terms.specs.Words.{key}
use Rattle.rules.specs.Lists.{all, keep}
use Rattle.rules.specs.State.{insert}
use Rattle.rules.specs.Raw.{pack, unpack}
use Rattle.lists.specs.Tables.{first_index, insert_at}
use Rattle.lists.proofs.Keeps.{map-keep}
use Rattle.laws.proofs.Lists.{◌∈◌, all_out, and_left, and_right, keep_same, or_right}
use Rattle.laws.proofs.Raw.{Packs, unpack-pack}
use Rattle.laws.proofs.Records.{is_below, Sorted}
use Rattle.bridge.specs.Whole.{key_of, place_of, stops_at}

-- a packed record says its key
pub key_of_lem : (x : Rec) → x.word < 2 ^ 32 → key_of (pack x) ≡ key x
key_of_lem x a = omega arith

pub pack_used : (x : Rec) → 1 ≤ x.kind → eqb (pack x) 0 ≡ false
pack_used x k = ne_eqb (pack x) 0 (λ e. omega arith)

-- every record of a list has room for its word, and a kind, so that it is not 0
abbrev pub Filed : List Rec → Type 0
Filed ys = (y : Rec) → y ∈ ys → (y.word < 2 ^ 32) × (1 ≤ y.kind)

module _ (k : ℕ) (y : Rec) (f : (y.word < 2 ^ 32) × (1 ≤ y.kind)) where
  passes_by : key y < k → stops_at k (pack y) ≡ false
  unfolding stops_at
  passes_by l = ap {A = Bool} (λ b. b || leb k (key_of (pack y))) (pack_used y f.1) ∙ lt-leb k (key_of (pack y)) (omega (arith, key_of_lem y f.0))

  stops_here : k ≤ key y → stops_at k (pack y) ≡ true
  unfolding stops_at
  stops_here l = or_right (eqb (pack y) 0) _ (le-leb k (key_of (pack y)) (omega (arith, key_of_lem y f.0)))

-- x, whose key no other has, goes in at its place
pub insert_packed : (x : Rec) (ys : List Rec) → Filed ys → ((y : Rec) → y ∈ ys → key x ≡ key y → ⊥)
    → insert_at (place_of (key x) (map pack ys)) (pack x) (map pack ys) ≡ map pack (insert x ys)
unfolding insert insert_at first_index
insert_packed x [] f n = refl
insert_packed x (y ∷ ys) f n = go (ltb (key x) (key y)) refl (insert_packed x ys (λ z m. f z (Memᴰ.tail m)) (λ z m. n z (Memᴰ.tail m)))
  where
    first : (y.word < 2 ^ 32) × (1 ≤ y.kind)
    first = f y (Memᴰ.head refl)

    go : (b : Bool) → ltb (key x) (key y) ≡ b → insert_at (place_of (key x) (map pack ys)) (pack x) (map pack ys) ≡ map pack (insert x ys)
        → insert_at (cond (stops_at (key x) (pack y)) zero (suc (place_of (key x) (map pack ys)))) (pack x) (pack y ∷ map pack ys)
        ≡ map pack (elim b [ true ↦ x ∷ y ∷ ys | false ↦ elim (eqb (key x) (key y)) [ true ↦ x ∷ ys | false ↦ y ∷ insert x ys ] ])
    go true e r = rw (stops_here (key x) y first (omega (arith, ltb-true (key x) (key y) e))) refl
    go false e r =
        let ne : key x ≡ key y → ⊥ = n y (Memᴰ.head refl) in
        rw (passes_by (key x) y first (omega (arith, ltb-false (key x) (key y) e)), ne_eqb (key x) (key y) ne) (ap (λ (ps : List ℕ). pack y ∷ ps) r)

-- x goes over the record with its key
module _ (x : Rec) where
  pub record Over (ys : List Rec) : Type 0 where
    pub same : set (map pack ys) (place_of (key x) (map pack ys)) (pack x) ≡ map pack (insert x ys)
    pub inside : place_of (key x) (map pack ys) < length ys

  pub change_packed : (ys : List Rec) → Filed ys → Sorted ys → (y : Rec) → y ∈ ys → key y ≡ key x → Over ys
  unfolding insert first_index
  change_packed [] f o y m k = elim m [ ]
  change_packed (y ∷ ys) f o v m k =
      go (ltb (key x) (key y)) (eqb (key x) (key y)) refl refl
      (split m (λ n. change_packed ys (λ u mu. f u (Memᴰ.tail mu)) (and_right (all (is_below y) ys) _ o) v n k))
    where
      first : (y.word < 2 ^ 32) × (1 ≤ y.kind)
      first = f y (Memᴰ.head refl)

      split : v ∈ (y ∷ ys) → (v ∈ ys → Over ys) → (key y ≡ key x) ⊎ (key y < key x) × Over ys
      split (Memᴰ.head p) again = inl (ap (λ (u : Rec). key u) (sym p) ∙ k)
      split (Memᴰ.tail n) again = inr (omega (arith, ltb-true (key y) (key v) (all_out (is_below y) n (and_left _ _ o))), again n)

      go : (b c : Bool) → ltb (key x) (key y) ≡ b → eqb (key x) (key y) ≡ c → (key y ≡ key x) ⊎ (key y < key x) × Over ys → Over (y ∷ ys)
      go true c eb ec (inl p) = absurd (omega (arith, ltb-true (key x) (key y) eb))
      go true c eb ec (inr (l, s)) = absurd (omega (arith, ltb-true (key x) (key y) eb))
      go false true eb ec s =
          let st : stops_at (key x) (pack y) ≡ true = stops_here (key x) y first (omega (arith, eqb-true (key x) (key y) ec)) in
          record { same = rw (st, eb, ec, first_index, insert) refl; inside = rw (st, first_index) (omega arith) }
      go false false eb ec (inl p) = absurd (eqb-false (key x) (key y) ec (sym p))
      go false false eb ec (inr (l, s)) =
          let st : stops_at (key x) (pack y) ≡ false = passes_by (key x) y first l in
          record {
            same = rw (st, eb, ec, first_index, insert) (ap (λ (ps : List ℕ). pack y ∷ ps) s.same);
            inside = rw (st, first_index) (omega (arith, s.inside));
          }

-- what stays stays packed
pub keep_packed : (g : Rec → Bool) (ys : List Rec) → ((y : Rec) → y ∈ ys → Packs y) → keep (λ p. g (unpack p)) (map pack ys) ≡ map pack (keep g ys)
keep_packed g ys f =
    sym (map-keep pack (λ p. g (unpack p)) ys) ∙ ap (map pack) (keep_same (λ y. g (unpack (pack y))) g ys (λ y m. ap g (unpack-pack y (f y m))))

-- Padding: its length, what does not see it, and what a change of the whole table does to the used part. Assumes nothing.
use Prim.Native.Nat.{ℕ, zero, suc, ◌+◌, ◌-◌, ◌≤◌, ◌<◌}
use native.Mathlib.Omega.{arith}
use mathlib.Core.Bool.{Bool, true, false, cond, ◌||◌}
use mathlib.Core.Path.{◌≡◌, refl, sym, ap, ap₂, ◌∙◌}
use mathlib.Core.Logic.{◌⊎◌, inl, inr}
use mathlib.Core.List.Memᴰ
use mathlib.Core.List.{List, [], ◌∷◌, ◌++◌, map, map-append, append-nil, append_assoc, Memᴰ}
use lib.ListN.{length, get_or, take, set, replicate, length-append, length-replicate, length-set, length-map, replicate-append-replicate}
use lib.Seq.{take-append_seam, take-append-add, set-append_left}
use Rattle.rules.specs.Lists.{any, keep, until, padded}
use Rattle.lists.specs.Tables.{insert_at, insert_in, first_index}
use Rattle.lists.proofs.Inserts.{length-insert, insert-append}
use Rattle.lists.proofs.Keeps.{put, keep_append, length-keep}
use Rattle.lists.proofs.Untils.{stop, until-all}

module _ {A : Type 0} where
  pub length-padded : (n : ℕ) (z : A) (xs : List A) → length xs ≤ n → length (padded n z xs) ≡ n
  length-padded n z xs h = simp (length-append, length-replicate) (omega arith)

  pub padded_full : (n : ℕ) (z : A) (xs : List A) → n ≤ length xs → padded n z xs ≡ xs
  padded_full n z xs h = let none : n - length xs ≡ 0 = omega arith in ap (λ (k : ℕ). xs ++ replicate k z) none ∙ append-nil xs

  -- what is padded already, so far as it is
  pub padded-end : (n k : ℕ) (z : A) (xs : List A) → length xs + k ≤ n → padded n z (xs ++ replicate k z) ≡ padded n z xs
  padded-end n k z xs h =
      let more : k + (n - (length xs + k)) ≡ n - length xs = omega arith in
      append_assoc xs (replicate k z) (replicate (n - length (xs ++ replicate k z)) z)
      ∙ ap (λ (j : ℕ). xs ++ (replicate k z ++ replicate (n - j) z)) (length-append xs (replicate k z) ∙ ap (λ (j : ℕ). length xs + j) (length-replicate k z))
      ∙ ap (λ (l : List A). xs ++ l) (replicate-append-replicate k (n - (length xs + k)) z)
      ∙ ap (λ (j : ℕ). xs ++ replicate j z) more

  pub take-padded : (n : ℕ) (z : A) (xs : List A) → take (length xs) (padded n z xs) ≡ xs
  take-padded n z xs = take-append_seam xs (replicate (n - length xs) z)

  get_or_filled : (k i : ℕ) (z : A) → get_or (replicate k z) i z ≡ z
  get_or_filled zero i z = refl
  get_or_filled (suc k) zero z = refl
  get_or_filled (suc k) (suc i) z = get_or_filled k i z

  get_or-end : (k i : ℕ) (z : A) (xs : List A) → get_or (xs ++ replicate k z) i z ≡ get_or xs i z
  get_or-end k i z [] = get_or_filled k i z
  get_or-end k zero z (x ∷ xs) = refl
  get_or-end k (suc i) z (x ∷ xs) = get_or-end k i z xs

  pub get_or-padded : (n i : ℕ) (z : A) (xs : List A) → get_or (padded n z xs) i z ≡ get_or xs i z
  get_or-padded n i z xs = get_or-end (n - length xs) i z xs

  mem_filled : (k : ℕ) {z x : A} → Memᴰ x (replicate k z) → x ≡ z
  mem_filled zero m = elim m [ ]
  mem_filled (suc k) m = elim (Memᴰ.cases_cons m) [ inl e ↦ e | inr r ↦ mem_filled k r ]

  -- what stands behind the used part is the filler
  pub mem-padded : (n : ℕ) (z : A) (xs : List A) {x : A} → Memᴰ x (padded n z xs) → Memᴰ x xs ⊎ (x ≡ z)
  mem-padded n z xs m = elim (Memᴰ.append_cases xs m) [ inl u ↦ inl u | inr r ↦ inr (mem_filled (n - length xs) r) ]

  -- ---- what goes through the elements from the end, and passes over the filler, does not see the padding
  module _ {B : Type 0} (g : List A → B) (step : A → B → B) (cons : (x : A) (ys : List A) → g (x ∷ ys) ≡ step x (g ys)) (z : A) (blind : step z (g []) ≡ g []) where
    fold_filled : (k : ℕ) → g (replicate k z) ≡ g []
    fold_filled zero = refl
    fold_filled (suc k) = cons z (replicate k z) ∙ ap (step z) (fold_filled k) ∙ blind

    fold_end : (k : ℕ) (xs : List A) → g (xs ++ replicate k z) ≡ g xs
    fold_end k [] = fold_filled k
    fold_end k (x ∷ xs) = cons x (xs ++ replicate k z) ∙ ap (step x) (fold_end k xs) ∙ sym (cons x xs)

    pub fold-padded : (n : ℕ) (xs : List A) → g (padded n z xs) ≡ g xs
    fold-padded n xs = fold_end (n - length xs) xs

  module _ (p : A → Bool) (n : ℕ) (z : A) (xs : List A) where
    pub any-padded : p z ≡ false → any p (padded n z xs) ≡ any p xs
    any-padded e = fold-padded (any p) (λ x b. p x || b) (λ x ys. refl) z (ap (λ (b : Bool). b || false) e) n xs

    pub keep-padded : p z ≡ false → keep p (padded n z xs) ≡ keep p xs
    keep-padded e = fold-padded (keep p) (λ x l. put (p x) x l) (λ x ys. refl) z (ap (λ (b : Bool). put b z []) e) n xs

    -- a scan that stops at the filler
    pub first_padded : p z ≡ true → first_index p (padded n z xs) ≡ first_index p xs
    unfolding first_index
    first_padded e = fold-padded (first_index p) (λ x i. cond (p x) zero (suc i)) (λ x ys. refl) z (ap (λ (b : Bool). cond b zero 1) e) n xs

    until_filler : p z ≡ true → until p (padded n z xs) ≡ until p xs
    until_filler e = fold-padded (until p) (λ x l. stop (p x) x l) (λ x ys. refl) z (ap (λ (b : Bool). stop b z []) e) n xs

    -- the used part is what stands before the first filler
    pub until-padded : p z ≡ true → any p xs ≡ false → until p (padded n z xs) ≡ xs
    until-padded e h = until_filler e ∙ until-all p xs h

  -- ---- what a change of the whole table does to the used part

  take_filled : (k : ℕ) (z : A) → take k (replicate (suc k) z) ≡ replicate k z
  take_filled zero z = refl
  take_filled (suc k) z = ap (λ (l : List A). z ∷ l) (take_filled k z)

  pub padded-insert : (n at : ℕ) (z r : A) (xs : List A) → at ≤ length xs → length xs < n → insert_in at r (padded n z xs) ≡ padded n z (insert_at at r xs)
  unfolding insert_in
  padded-insert n at z r xs h l =
      let k = n - suc (length xs) in
      let ys = insert_at at r xs in
      let all : n ≡ length ys + k = omega (arith, length-insert at r xs) in
      let rest : n - length xs ≡ suc k = omega arith in
      let left : n - length ys ≡ k = omega (arith, length-insert at r xs) in
      rw (length-padded n z xs (omega arith))
      (ap (take n) (insert-append at r xs (replicate (n - length xs) z) h)
      ∙ ap₂ (λ (a b : ℕ). take a (ys ++ replicate b z)) all rest
      ∙ take-append-add ys (replicate (suc k) z) k
      ∙ ap (λ (l : List A). ys ++ l) (take_filled k z)
      ∙ ap (λ (j : ℕ). ys ++ replicate j z) (sym left))

  pub padded-set : (n i : ℕ) (z a : A) (xs : List A) → i < length xs → set (padded n z xs) i a ≡ padded n z (set xs i a)
  padded-set n i z a xs h = set-append_left xs (replicate (n - length xs) z) i a h ∙ ap (λ (j : ℕ). set xs i a ++ replicate (n - j) z) (sym (length-set xs i a))

  pub padded-kept : (p : A → Bool) (n : ℕ) (z : A) (xs : List A) → length xs ≤ n → padded n z (keep p (padded n z xs)) ≡ padded n z (keep p xs)
  padded-kept p n z xs h = go (p z) refl
    where
      keep_filled : (k : ℕ) → p z ≡ true → keep p (replicate k z) ≡ replicate k z
      keep_filled zero e = refl
      keep_filled (suc k) e = rw e (ap (λ (l : List A). z ∷ l) (keep_filled k e))

      go : (b : Bool) → p z ≡ b → padded n z (keep p (padded n z xs)) ≡ padded n z (keep p xs)
      go true e =
          ap (padded n z) (keep_append p xs (replicate (n - length xs) z) ∙ ap (λ (l : List A). keep p xs ++ l) (keep_filled (n - length xs) e))
          ∙ padded-end n (n - length xs) z (keep p xs) (omega (arith, length-keep p xs))
      go false e = ap (padded n z) (keep-padded p n z xs e)

module _ {A B : Type 0} (f : A → B) where
  map_filled : (k : ℕ) (z : A) → map f (replicate k z) ≡ replicate k (f z)
  map_filled zero z = refl
  map_filled (suc k) z = ap (λ (l : List B). f z ∷ l) (map_filled k z)

  pub map-padded : (n : ℕ) (z : A) (xs : List A) → map f (padded n z xs) ≡ padded n (f z) (map f xs)
  map-padded n z xs =
      map-append f xs (replicate (n - length xs) z)
      ∙ ap (λ (l : List B). map f xs ++ l) (map_filled (n - length xs) z)
      ∙ ap (λ (j : ℕ). map f xs ++ replicate (n - j) (f z)) (sym (length-map xs f))

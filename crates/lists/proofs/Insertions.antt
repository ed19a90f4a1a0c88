-- The loop that puts an element in: one record, its invariant, with its start, its turn and its end. Assumes nothing.
use Prim.Native.Nat.{ℕ, zero, suc, ◌+◌, ◌≤◌, ◌<◌}
use native.Mathlib.Nat.{le_of_suc-le-suc, not-suc-le-zero}
use native.Mathlib.Numerals.{add-one}
use mathlib.Core.Path.{◌≡◌, refl, sym, ap, ap₂, ◌∙◌}
use mathlib.Core.List.{List, [], ◌∷◌}
use lib.ListN.{length, get_or, set, take, length-set}
use Rattle.lists.specs.Tables.{insert_at, insert_in}
use Rattle.lists.proofs.Inserts.{insert_in_past}

module _ {A : Type 0} where
  -- r goes in at index at of xs₀: so far the table is xs, and h is held for index i
  pub record Inserting (xs₀ : List A) (at : ℕ) (r : A) (xs : List A) (h : A) (i : ℕ) : Type 0 where
    pub len : length xs ≡ length xs₀
    pub same : insert_at i h xs ≡ insert_at at r xs₀

  pub insert_start : {xs : List A} {at : ℕ} {r : A} → Inserting xs at r xs r at
  insert_start = record { len = refl; same = refl }

  -- what is held goes in, and what stood there is held
  insert_turn : (i : ℕ) (h d : A) (xs : List A) → i < length xs → insert_at (suc i) (get_or xs i d) (set xs i h) ≡ insert_at i h xs
  unfolding insert_at
  insert_turn i h d [] l = absurd (not-suc-le-zero l)
  insert_turn zero h d (x ∷ xs) l = refl
  insert_turn (suc i) h d (x ∷ xs) l = ap (λ (r : List A). x ∷ r) (insert_turn i h d xs (le_of_suc-le-suc l))

  module _ {xs₀ : List A} {at : ℕ} {r : A} {xs : List A} {h : A} {i : ℕ} (s : Inserting xs₀ at r xs h i) where
    pub insert_next : (d : A) {x : A} → i < length xs → x ≡ get_or xs i d → Inserting xs₀ at r (set xs i h) x (i + 1)
    insert_next d l e = record { len = length-set xs i h ∙ s.len; same = rw (add-one i) (ap (λ (y : A). insert_at (suc i) y (set xs i h)) e ∙ insert_turn i h d xs l ∙ s.same) }

    pub insert_done : length xs ≤ i → xs ≡ insert_in at r xs₀
    unfolding insert_in
    insert_done l = sym (insert_in_past i h xs l) ∙ ap₂ take s.len s.same

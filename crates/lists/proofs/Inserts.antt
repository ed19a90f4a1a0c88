-- Putting an element in: lengths, parts, and what a map makes of it. Assumes nothing.
use Prim.Native.Nat.{ℕ, zero, suc, ◌≤◌}
use native.Mathlib.Nat.{le_of_suc-le-suc, not-suc-le-zero}
use mathlib.Core.Path.{◌≡◌, refl, ap}
use mathlib.Core.List.{List, [], ◌∷◌, ◌++◌, map}
use lib.ListN.{length, take, drop}
use lib.Seq.{take-append_seam}
use Rattle.lists.specs.Tables.{insert_at, insert_in}

module _ {A : Type 0} where
  pub length-insert : (n : ℕ) (r : A) (xs : List A) → length (insert_at n r xs) ≡ suc (length xs)
  unfolding insert_at
  length-insert zero r xs = refl
  length-insert (suc n) r [] = refl
  length-insert (suc n) r (x ∷ xs) = ap suc (length-insert n r xs)

  pub insert_split : (n : ℕ) (r : A) (xs : List A) → n ≤ length xs → insert_at n r xs ≡ take n xs ++ r ∷ drop n xs
  unfolding insert_at
  insert_split zero r xs h = refl
  insert_split (suc n) r [] h = absurd (not-suc-le-zero h)
  insert_split (suc n) r (x ∷ xs) h = ap (λ (l : List A). x ∷ l) (insert_split n r xs (le_of_suc-le-suc h))

  -- past the end it is the last, which a table drops
  pub insert_past : (n : ℕ) (r : A) (xs : List A) → length xs ≤ n → insert_at n r xs ≡ xs ++ r ∷ []
  unfolding insert_at
  insert_past zero r [] h = refl
  insert_past (suc n) r [] h = refl
  insert_past zero r (x ∷ xs) h = absurd (not-suc-le-zero h)
  insert_past (suc n) r (x ∷ xs) h = ap (λ (l : List A). x ∷ l) (insert_past n r xs (le_of_suc-le-suc h))

  pub insert_in_past : (n : ℕ) (r : A) (xs : List A) → length xs ≤ n → insert_in n r xs ≡ xs
  unfolding insert_in
  insert_in_past n r xs h = rw (insert_past n r xs h) (take-append_seam xs (r ∷ []))

  pub insert-append : (n : ℕ) (r : A) (xs ys : List A) → n ≤ length xs → insert_at n r (xs ++ ys) ≡ insert_at n r xs ++ ys
  unfolding insert_at
  insert-append zero r xs ys h = refl
  insert-append (suc n) r [] ys h = absurd (not-suc-le-zero h)
  insert-append (suc n) r (x ∷ xs) ys h = ap (λ (l : List A). x ∷ l) (insert-append n r xs ys (le_of_suc-le-suc h))

  pub map-insert : {B : Type 0} (f : A → B) (n : ℕ) (r : A) (xs : List A) → map f (insert_at n r xs) ≡ insert_at n (f r) (map f xs)
  unfolding insert_at
  map-insert f zero r xs = refl
  map-insert f (suc n) r [] = refl
  map-insert {B} f (suc n) r (x ∷ xs) = ap (λ (l : List B). f x ∷ l) (map-insert f n r xs)

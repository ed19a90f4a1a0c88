-- Keeping what passes a test: of a joined list, of a mapped one, and how much there is. Assumes nothing.
use Prim.Native.Nat.{◌≤◌}
use native.Mathlib.Omega.{arith}
use mathlib.Core.Bool.{Bool, true, false}
use mathlib.Core.Path.{◌≡◌, refl, ap}
use mathlib.Core.List.{List, [], ◌∷◌, ◌++◌, map}
use lib.ListN.{length}
use Rattle.rules.specs.Lists.{keep}

module _ {A : Type 0} where
  -- one element in front
  abbrev pub put : Bool → A → List A → List A
  put b x l = elim b [ true ↦ x ∷ l | false ↦ l ]

  module _ (p : A → Bool) where
    pub keep_append : (xs ys : List A) → keep p (xs ++ ys) ≡ keep p xs ++ keep p ys
    keep_append [] ys = refl
    keep_append (x ∷ xs) ys = go (p x) (keep_append xs ys)
      where
        go : (b : Bool) → keep p (xs ++ ys) ≡ keep p xs ++ keep p ys → put b x (keep p (xs ++ ys)) ≡ put b x (keep p xs) ++ keep p ys
        go true e = ap (λ (l : List A). x ∷ l) e
        go false e = e

    pub length-keep : (xs : List A) → length (keep p xs) ≤ length xs
    length-keep [] = omega arith
    length-keep (x ∷ xs) = go (p x) (length-keep xs)
      where
        go : (b : Bool) → length (keep p xs) ≤ length xs → length (put b x (keep p xs)) ≤ length (x ∷ xs)
        go true h = omega arith
        go false h = omega arith

pub map-keep : {A B : Type 0} (f : A → B) (p : B → Bool) (xs : List A) → map f (keep (λ x. p (f x)) xs) ≡ keep p (map f xs)
map-keep f p [] = refl
map-keep {A} {B} f p (x ∷ xs) = go (p (f x)) (map-keep f p xs)
  where
    go : (b : Bool) → map f (keep (λ x. p (f x)) xs) ≡ keep p (map f xs)
        → map f (put b x (keep (λ x. p (f x)) xs)) ≡ put b (f x) (keep p (map f xs))
    go true e = ap (λ (l : List B). f x ∷ l) e
    go false e = e

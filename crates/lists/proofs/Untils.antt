-- The elements before the first that passes a test: how many, what they are, and what a map makes of them. Assumes nothing.
use Prim.Native.Nat.{zero, suc}
use mathlib.Core.Bool.{Bool, true, false, cond, ◌||◌, true≢false}
use mathlib.Core.Path.{◌≡◌, refl, ap, ◌∙◌}
use mathlib.Core.List.{List, [], ◌∷◌, map, Memᴰ}
use lib.ListN.{length, take}
use Rattle.rules.specs.Lists.{any, until}
use Rattle.lists.specs.Tables.{first_index}

module _ {A : Type 0} where
  -- the end, or one element in front
  abbrev pub stop : Bool → A → List A → List A
  stop b x l = elim b [ true ↦ [] | false ↦ x ∷ l ]

  module _ (p : A → Bool) where
    pub until_first : (xs : List A) → until p xs ≡ take (first_index p xs) xs
    unfolding first_index
    until_first [] = refl
    until_first (x ∷ xs) = go (p x) (until_first xs)
      where
        go : (b : Bool) → until p xs ≡ take (first_index p xs) xs → stop b x (until p xs) ≡ take (cond b zero (suc (first_index p xs))) (x ∷ xs)
        go true e = refl
        go false e = ap (λ (l : List A). x ∷ l) e

    pub length-until : (xs : List A) → length (until p xs) ≡ first_index p xs
    unfolding first_index
    length-until [] = refl
    length-until (x ∷ xs) = go (p x) (length-until xs)
      where
        go : (b : Bool) → length (until p xs) ≡ first_index p xs → length (stop b x (until p xs)) ≡ cond b zero (suc (first_index p xs))
        go true e = refl
        go false e = ap suc e

    -- none of them passes
    pub any-until : (xs : List A) → any p (until p xs) ≡ false
    any-until [] = refl
    any-until (x ∷ xs) = go (p x) refl (any-until xs)
      where
        go : (b : Bool) → p x ≡ b → any p (until p xs) ≡ false → any p (stop b x (until p xs)) ≡ false
        go true q e = refl
        go false q e = rw (q, e)

    pub until-not : (xs : List A) {x : A} → Memᴰ x (until p xs) → p x ≡ false
    until-not [] m = elim m [ ]
    until-not (y ∷ ys) {x} m = go (p y) refl m (λ k. until-not ys k)
      where
        go : (b : Bool) → p y ≡ b → Memᴰ x (stop b y (until p ys)) → (Memᴰ x (until p ys) → p x ≡ false) → p x ≡ false
        go true e m f = elim m [ ]
        go false e (Memᴰ.head q) f = ap p q ∙ e
        go false e (Memᴰ.tail k) f = f k

    -- where none passes, they are all
    pub until-all : (xs : List A) → any p xs ≡ false → until p xs ≡ xs
    until-all [] h = refl
    until-all (x ∷ xs) h = go (p x) h (until-all xs)
      where
        go : (b : Bool) → (b || any p xs) ≡ false → (any p xs ≡ false → until p xs ≡ xs) → stop b x (until p xs) ≡ x ∷ xs
        go true h f = absurd (true≢false h)
        go false h f = ap (λ (l : List A). x ∷ l) (f h)

pub map-until : {A B : Type 0} (f : A → B) (p : B → Bool) (xs : List A) → map f (until (λ x. p (f x)) xs) ≡ until p (map f xs)
map-until f p [] = refl
map-until {A} {B} f p (x ∷ xs) = go (p (f x)) (map-until f p xs)
  where
    go : (b : Bool) → map f (until (λ x. p (f x)) xs) ≡ until p (map f xs)
        → map f (stop b x (until (λ x. p (f x)) xs)) ≡ stop b (f x) (until p (map f xs))
    go true e = refl
    go false e = ap (λ (l : List B). f x ∷ l) e

-- Lists that pass the same tests are the same, and a map that is undone. Assumes nothing.
use mathlib.Core.Bool.{Bool, false≢true, true}
use mathlib.Core.List.Memᴰ
use mathlib.Core.List.{List, [], ◌∷◌, map}
use mathlib.Core.Path.{◌≡◌, refl}
use Rattle.rules.specs.Lists.{sames}
use Rattle.laws.proofs.Lists.{◌∈◌, and_both, and_left, and_right}

module _ {A : Type 0} where
  -- equal at every place is equal
  pub sames_out : (e : A → A → Bool) → ((x y : A) → e x y ≡ true → x ≡ y) → (xs ys : List A) → sames e xs ys ≡ true → xs ≡ ys
  sames_out e f [] [] h = refl
  sames_out e f [] (y ∷ ys) h = absurd (false≢true h)
  sames_out e f (x ∷ xs) [] h = absurd (false≢true h)
  sames_out e f (x ∷ xs) (y ∷ ys) h = λ j. f x y (and_left _ _ h) j ∷ sames_out e f xs ys (and_right (e x y) _ h) j

  pub sames_in : (e : A → A → Bool) → ((x : A) → e x x ≡ true) → (xs : List A) → sames e xs xs ≡ true
  sames_in e f [] = refl
  sames_in e f (x ∷ xs) = and_both _ _ (f x) (sames_in e f xs)

pub map_back : {A B : Type 0} (f : A → B) (g : B → A) (xs : List A) → ((x : A) → x ∈ xs → g (f x) ≡ x) → map g (map f xs) ≡ xs
map_back f g [] h = refl
map_back f g (x ∷ xs) h = λ j. h x (Memᴰ.head refl) j ∷ map_back f g xs (λ y m. h y (Memᴰ.tail m)) j

-- Tables as lists: an element put in at a place, the first place that passes, a closure that is a test. Assumes nothing.
use denote.Param.Members.{Shared}
use denote.Ref.{Bor}
use Rattle.std.specs.Prelude.{ℕ, zero, suc, ◌≡◌, Bool, cond, List, [], ◌∷◌, length, take}
use Rattle.std.specs.Fn.{FnReturnsAt}

module _ {A : Type 0} where
  -- xs with r put in at index n, or at the end where n is past it
  unfoldable pub insert_at : ℕ → A → List A → List A
  insert_at zero r xs = r ∷ xs
  insert_at (suc n) r [] = r ∷ []
  insert_at (suc n) r (x ∷ xs) = x ∷ insert_at n r xs

  -- the same in a table, whose length stays: the last element is dropped
  unfoldable pub insert_in : ℕ → A → List A → List A
  insert_in n r xs = take (length xs) (insert_at n r xs)

  -- the index of the first element that passes the test, or the length
  unfoldable pub first_index : (A → Bool) → List A → ℕ
  first_index p [] = zero
  first_index p (x ∷ xs) = cond (p x) zero (suc (first_index p xs))

  -- whatever f, of the bound g, answers at an element, the test p answers too
  abbrev pub AnswersAs : {F : Type 0} → Shared F (Bor A × Unit {0}) Bool → F → (A → Bool) → Type 0
  AnswersAs g f p = (x : A) (b : Bool) → FnReturnsAt g f x b → b ≡ p x

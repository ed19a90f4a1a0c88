-- The first index that passes a test, or else the length: std's word for it, and the search for it. Assumes nothing.
use Prim.Native.Nat.{ℕ, suc, ◌+◌, ◌≤◌, ◌<◌}
use native.Mathlib.Numerals.{add-one}
use native.Mathlib.Omega.{arith}
use mathlib.Core.Bool.{Bool, true, false, cond}
use mathlib.Core.List.{List}
use mathlib.Core.Path.{◌∙◌, ◌≡◌, ap, refl, sym}
use lib.ListN.{length, get_or, drop, drop_of_length-le}
use lib.Seq.{drop-cons}
use denote.Param.Members.{Shared}
use denote.Ref.{Bor}
use Rattle.std.specs.Fn.{FnReturnsAt}
use Rattle.std.specs.List.{position_or_len}
use Rattle.std.proofs.lemmas.List.Recursion.{is_position_or_len}
use Rattle.lists.specs.Tables.{AnswersAs, first_index}

pub first_listed : {A : Type 0} (p : A → Bool) (xs : List A) → first_index p xs ≡ position_or_len p xs
unfolding first_index
first_listed p xs = is_position_or_len (first_index p) p refl (λ x ys. ap (λ (n : ℕ). cond (p x) 0 n) (omega arith)) xs

-- ---- none of the elements below j stops the search
module _ {A F : Type 0} (g : Shared F (Bor A × Unit {0}) Bool) (f : F) (xs : List A) where
  pub record Seeking (j : ℕ) : Type 0 where
    pub at_most : j ≤ length xs
    pub same : (p : A → Bool) → AnswersAs g f p → j + first_index p (drop j xs) ≡ first_index p xs

module _ {A F : Type 0} {g : Shared F (Bor A × Unit {0}) Bool} {f : F} {xs : List A} where
  module _ {j : ℕ} (s : Seeking g f xs j) where
    module _ (x : A) (l : j < length xs) (e : x ≡ get_or xs j x) where
      opened : (p : A → Bool) {b : Bool} → b ≡ p x → first_index p (drop j xs) ≡ cond b 0 (suc (first_index p (drop (suc j) xs)))
      unfolding first_index
      opened p q = ap (first_index p) (drop-cons xs j x l)
          ∙ ap (λ (y : A). cond (p y) 0 (suc (first_index p (drop (suc j) xs)))) (sym e) ∙ ap (λ (b : Bool). cond b 0 (suc (first_index p (drop (suc j) xs)))) (sym q)

      pub seek_next : FnReturnsAt g f x false → Seeking g f xs (j + 1)
      seek_next r = record { at_most = omega arith; same = λ p h. rw (add-one j) (omega (arith, opened p (h x false r), s.same p h)) }

      pub seek_here : FnReturnsAt g f x true → (p : A → Bool) → AnswersAs g f p → j ≡ first_index p xs
      seek_here r p h = omega (arith, opened p (h x true r), s.same p h)

    pub seek_done : length xs ≤ j → (p : A → Bool) → AnswersAs g f p → length xs ≡ first_index p xs
    unfolding first_index
    seek_done l p h = let e : first_index p (drop j xs) ≡ 0 = ap (first_index p) (drop_of_length-le xs l) in omega (arith, e, s.same p h, s.at_most)

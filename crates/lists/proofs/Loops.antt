-- What fills the rest of a table, and the loop that keeps some elements in place: one record, its invariant, with its start, its turns and its
-- end. Assumes nothing.
use Prim.Native.Nat.{ℕ, suc, ◌+◌, ◌-◌, ◌≤◌, ◌<◌}
use native.Mathlib.Numerals.{add-one}
use native.Mathlib.Omega.{arith}
use mathlib.Core.Bool.{Bool, true, false}
use mathlib.Core.Path.{◌≡◌, refl, subst, sym, ap, ap₂, ◌∙◌}
use mathlib.Core.List.{List, [], ◌∷◌, ◌++◌, append-nil}
use lib.ListN.{length, get_or, set, take, drop, replicate, length-drop, length-set, length-take, drop_of_length-le}
use lib.Seq.{take-suc-set, take_all, drop-cons, append_snoc, drop-set-lt}
use borrow.Rule.Slice.PartMut.{put_mid}
use denote.Param.Members.{Shared}
use denote.Ref.{Bor}
use Rattle.std.specs.Fn.{FnReturnsAt}
use Rattle.std.specs.List.{FoldsTo}
use Rattle.std.proofs.lemmas.List.{take_rest}
use Rattle.rules.specs.Lists.{padded, keep}
use Rattle.lists.specs.Tables.{AnswersAs}
use Rattle.lists.proofs.Keeps.{put}
use Rattle.lists.proofs.Pads.{padded_full}

module _ {A : Type 0} where
  -- ---- the part of xs from index n on is filled with z, call after call
  filled : {P : Type 0} (R : P → A → P → Type 0) (z : A) {f : P} (g : P) (ys : List A) → ((x : A) (h : P) → R f x h → (x ≡ z) × (h ≡ f)) → FoldsTo R f ys g → ys ≡ replicate (length ys) z
  filled R z g [] h c = refl
  filled {P} R z g (y ∷ ys) h c = let r = h y c.0 c.1 in ap₂ ◌∷◌ r.0 (filled R z g ys h (subst (λ (p : P). FoldsTo R p ys g) r.1 c.2))

  pub clear_filled : {P : Type 0} (R : P → A → P → Type 0) (z : A) {f : P} (g : P) (n : ℕ) (xs ys : List A) → n < length xs → length ys ≡ length (take (length xs - n) (drop n xs))
      → ((x : A) (h : P) → R f x h → (x ≡ z) × (h ≡ f)) → FoldsTo R f ys g → put_mid n (length xs - n) xs ys ≡ padded (length xs) z (take n xs)
  clear_filled R z g n xs ys l e h c =
      let k : length ys ≡ length xs - length (take n xs) = omega (arith, simp take_rest at e, length-drop n xs, length-take n xs) in
      let all : length (drop n xs) ≤ length xs - n = omega (arith, length-drop n xs) in
      rw (drop_of_length-le (drop n xs) all) (ap (λ (l : List A). take n xs ++ l) (append-nil ys ∙ filled R z g ys h c ∙ ap (λ (j : ℕ). replicate j z) k))

  pub clear_past : (z : A) (n : ℕ) (xs : List A) → length xs ≤ n → xs ≡ padded (length xs) z (take n xs)
  clear_past z n xs h = sym (ap (padded (length xs) z) (take_all n xs h) ∙ padded_full (length xs) z xs (omega arith))

  -- ---- the elements of xs₀ at which f answers true stay: so far those below i are written, and those from j on are unread
  pub record Keeping {F : Type 0} (g : Shared F (Bor A × Unit {0}) Bool) (f : F) (xs₀ xs : List A) (i j : ℕ) : Type 0 where
    pub len : length xs ≡ length xs₀
    pub order : i ≤ j
    pub same : (p : A → Bool) → AnswersAs g f p → take i xs ++ keep p (drop j xs) ≡ keep p xs₀

  module _ {F : Type 0} {g : Shared F (Bor A × Unit {0}) Bool} {f : F} where
    module _ {xs₀ xs : List A} {i j : ℕ} (s : Keeping g f xs₀ xs i j) where
      opened : (p : A → Bool) (x : A) {b : Bool} → j < length xs → x ≡ get_or xs j x → b ≡ p x → keep p (drop j xs) ≡ put b x (keep p (drop (suc j) xs))
      opened p x l e h = ap (keep p) (drop-cons xs j x l)
          ∙ ap (λ (y : A). put (p y) y (keep p (drop (suc j) xs))) (sym e) ∙ ap (λ (c : Bool). put c x (keep p (drop (suc j) xs))) (sym h)

      pub keep_yes : (x : A) → j < length xs → x ≡ get_or xs j x → FnReturnsAt g f x true → Keeping g f xs₀ (set xs i x) (i + 1) (j + 1)
      keep_yes x l e r =
          record {
            len = length-set xs i x ∙ s.len;
            order = omega (arith, s.order);
            same = λ p h.
                let w : i < length xs = omega (arith, s.order) in
                rw (add-one i, add-one j, take-suc-set xs i x w, drop-set-lt (suc j) xs i x (omega (arith, s.order)))
                (append_snoc (take i xs) x (keep p (drop (suc j) xs)) ∙ ap (λ (ys : List A). take i xs ++ ys) (sym (opened p x l e (h x true r))) ∙ s.same p h);
          }

      pub keep_no : (x : A) → j < length xs → x ≡ get_or xs j x → FnReturnsAt g f x false → Keeping g f xs₀ xs i (j + 1)
      keep_no x l e r =
          record {
            len = s.len;
            order = omega (arith, s.order);
            same = λ p h. rw (add-one j) (ap (λ (ys : List A). take i xs ++ ys) (sym (opened p x l e (h x false r))) ∙ s.same p h);
          }

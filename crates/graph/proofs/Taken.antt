-- A row that is taken out of a set leaves the others, and a smaller number. Assumes nothing.
use mathlib.Core.Path.{◌≡◌, refl, sym, ap, subst, ◌∙◌}
use mathlib.Core.Bool.{Bool, not, ◌&&◌, ◌||◌, false≢true}
use Prim.Native.Nat.{ℕ, ◌^◌, ◌≤◌, ◌<◌}
use native.Mathlib.Decide.{ℕ_discrete}
use native.Mathlib.Omega.{arith}
use lib.Bits.{bit_or, and_le_l}
use lib.Dec.{T, eqb}
use borrow.Author.Tests.{eq-eqb}
use Rattle.graph.specs.Sets.{member, outside}
use Rattle.graph.proofs.Sets.{member-outside, member_with, member-zero}
use Rattle.laws.proofs.Lists.{T_out}

-- a set without one row
module _ (w s i one : ℕ) {r : ℕ} (hs : s < 2 ^ w) (ho : one < 2 ^ w) (is_one : one ≡ bit_or 0 (2 ^ i)) (is : r ≡ outside w s one) where
  pub without_one : (j : ℕ) → member r j ≡ (member s j && not (eqb i j))
  without_one j =
      ap (λ (m : ℕ). member m j) is ∙ member-outside w s one j hs ho
      ∙ ap (λ (b : Bool). member s j && not b) (ap (λ (m : ℕ). member m j) is_one ∙ member_with 0 i j ∙ ap (λ (b : Bool). b || eqb i j) (member-zero j))

  pub without_falls : T (member s i) → r < s
  unfolding outside
  without_falls t = go (ℕ_discrete r s)
    where
      most : r ≤ s
      most = subst (λ (x : ℕ). x ≤ s) (sym is) (and_le_l s _)

      go : Dec (r ≡ s) → r < s
      go (yes e) = absurd (false≢true (sym (ap (λ (m : ℕ). member m i) (sym e) ∙ without_one i ∙ rw (T_out (member s i) t, eq-eqb i i refl) refl) ∙ T_out (member s i) t))
      go (no d) = omega (arith, most)

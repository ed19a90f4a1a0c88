-- `sound::items::is_unmixed` meets its contract: nothing is outside, or the lowest is. Assumes nothing.
use Rattle.std.proofs.Common.{rules, arith, ℕ, zero, suc, ◌-◌, ◌^◌, ◌≤◌, ◌<◌, ◌≡◌, true, false, refl, sym, ap, ◌∙◌, eqb, eqb-true}
use Rattle.std.proofs.lemmas.Bool.{eqb-false, not-true}
use lib.Bits.{and_le_l}
use lib.Count.{count_trailing_zeros}
use Rattle.laws.proofs.Lists.{T_in, T_out}
use Rattle.graph.specs.Sets.{member, outside}
use Rattle.graph.proofs.Sets.{member-lowest, outside_in, outside-none}
use Rattle.sound.proofs.items.is_unmixed.Goals as goal

-- one of a that is not in b
one-late : (w a b : ℕ) → a < 2 ^ w → b < 2 ^ w → eqb (outside w a b) 0 ≡ false → (j : ℕ) × (member a j ≡ true) × (member b j ≡ false)
unfolding outside
one-late w a b ha hb f =
    let m = outside w a b in
    let low : m ≤ a = and_le_l a (2 ^ w - 1 - b) in
    let positive : 0 < m = pos m (eqb-false m 0 f) in
    let u = outside_in w a b (count_trailing_zeros w m) ha hb (member-lowest w m positive (omega (arith, low, ha))) in
    (count_trailing_zeros w m, T_out _ u.0, not-true (member b (count_trailing_zeros w m)) (T_out _ u.1))
  where
    pos : (m : ℕ) → (m ≡ 0 → ⊥) → 0 < m
    pos zero h = absurd (h refl)
    pos (suc m) h = omega arith

pub returns : goal.returns
returns c =
    let a = c.args in
    let is : c.without.result ≡ outside 32 a.others a.before = c.without.ensures in (
      λ e j h. T_out _ (outside-none 32 a.others a.before j (search rules) (search rules) (sym is ∙ eqb-true _ _ e) (T_in h)),
      λ e. one-late 32 a.others a.before (search rules) (search rules) (ap (λ (n : ℕ). eqb n 0) (sym is) ∙ e),
    )

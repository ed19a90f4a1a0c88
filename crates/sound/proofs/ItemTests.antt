-- The highest of a set that is not empty. Assumes nothing.
use Prim.Native.Nat.{ℕ, suc, ◌*◌, ◌/◌, ◌%◌, ◌^◌, ◌≤◌, ◌<◌}
use native.Mathlib.Omega.{arith}
use native.Mathlib.Nat.{div-lt_iff_lt-mul, pow-suc}
use mathlib.Core.Bool.{true, false}
use mathlib.Core.Path.{◌≡◌, ap, subst, ◌∙◌}
use lib.Count.{leading_top}
use lib.Dec.{eqb}
use lib.Pow.{pow_pos}
use Rattle.graph.specs.Sets.{digit, member}
use Rattle.graph.proofs.Sets.{member_past}
use Rattle.sound.specs.Items.{top}

-- it is in the set, and none above it is
module _ (w m : ℕ) (p : 0 < m) (h : m < 2 ^ w) where
  pub top_in : member m (top w m) ≡ true
  unfolding member digit
  top_in =
      let u = leading_top w m p h in
      let j = u.0 in
      let same : top w m ≡ j = omega (arith, u.1) in
      let one : m / 2 ^ j ≡ 1 = between (2 ^ j) m (pow_pos j) u.2 (subst (λ (k : ℕ). m < k) (pow-suc 2 j) u.3) in
      ap (λ (i : ℕ). eqb (m / 2 ^ i % 2) 1) same ∙ ap (λ (q : ℕ). eqb (q % 2) 1) one
    where
      between : (q m : ℕ) → 0 < q → q ≤ m → m < q * 2 → m / q ≡ 1
      between q m z a b =
          let low : ¬ (m / q < 1) = λ l. let k = (div-lt_iff_lt-mul z).0 l in omega arith in
          let two : 2 * q ≡ q * 2 = omega arith in
          let high : m / q < 2 = (div-lt_iff_lt-mul z).1 (omega arith) in
          omega arith

  pub top-last : (i : ℕ) → top w m < i → member m i ≡ false
  top-last i l =
      let u = leading_top w m p h in
      member_past (suc u.0) m i u.3 (omega (arith, u.1))

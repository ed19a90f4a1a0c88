-- The fewest digits of a number are its decimal text. Assumes nothing.
use Prim.Native.Nat.{ℕ, zero, suc, ◌+◌, ◌-◌, ◌/◌, ◌%◌, ◌^◌, ◌<◌, ◌≤◌}
use native.Mathlib.Nat.{pow-succ'}
use native.Mathlib.Omega.{arith}
use mathlib.Core.Bool.{Bool, cond}
use mathlib.Core.List.{[], ◌∷◌, ◌++◌}
use mathlib.Core.Path.{◌≡◌, ◌∙◌, ap, subst, sym}
use borrow.Author.Tests.{le-ltb, lt-ltb}
use Rattle.io.specs.Digits.{IsDigitCount, last_digits, hex_digit_ascii}
use Rattle.parlour.specs.Text.{decimal_in}

glyph_digit : (d : ℕ) → d < 10 → hex_digit_ascii d ≡ 48 + d
glyph_digit d l = ap (λ (b : Bool). cond b (48 + d) (87 + d)) (lt-ltb d 10 l)

some_power : (k : ℕ) → 1 ≤ 10 ^ k
some_power zero = omega arith
some_power (suc k) = omega (arith, some_power k, pow-succ' 10 k)

pub fewest_decimal : (f k n : ℕ) → k ≤ f → IsDigitCount 10 1 n k → last_digits 10 k n ≡ decimal_in f n
unfolding decimal_in
fewest_decimal f zero n l h = absurd (omega (arith, h.0))
fewest_decimal zero (suc k) n l h = absurd (omega arith)
fewest_decimal (suc f) (suc zero) n l h =
    let few : n < 10 = omega (arith, h.1) in
    let last : n % 10 ≡ n = omega arith in
    ap (λ (d : ℕ). d ∷ []) (glyph_digit (n % 10) (omega arith) ∙ ap (λ (d : ℕ). 48 + d) last)
    ∙ sym (ap (λ (b : Bool). cond b ((48 + n) ∷ []) (decimal_in f (n / 10) ++ (48 + n % 10) ∷ [])) (lt-ltb n 10 few))
fewest_decimal (suc f) (suc (suc k)) n l h =
    let less : suc (suc k) - 1 ≡ suc k = omega arith in
    let low : 10 ^ suc k ≤ n = subst (λ (e : ℕ). 10 ^ e ≤ n) less (h.2 (omega arith)) in
    let one = pow-succ' 10 k in
    let two = pow-succ' 10 (suc k) in
    let many : 10 ≤ n = omega (arith, low, one, some_power k) in
    let again : suc k - 1 ≡ k = omega arith in
    let rest = fewest_decimal f (suc k) (n / 10) (omega arith)
    (omega arith, omega (arith, h.1, two), λ u. subst (λ (e : ℕ). 10 ^ e ≤ n / 10) (sym again) (omega (arith, low, one))) in
    (λ j. rest j ++ glyph_digit (n % 10) (omega arith) j ∷ [])
    ∙ sym (ap (λ (b : Bool). cond b ((48 + n) ∷ []) (decimal_in f (n / 10) ++ (48 + n % 10) ∷ [])) (le-ltb n 10 many))

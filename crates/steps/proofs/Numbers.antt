-- Numbers in bytes: what is written is read back, and what is read is written back. Assumes nothing.
use Prim.Native.Nat.{ℕ, zero, suc, ◌+◌, ◌*◌, ◌/◌, ◌%◌, ◌<◌, ◌≤◌, ◌^◌}
use native.Mathlib.Nat.{pow-succ'}
use native.Mathlib.Numerals.{add-one}
use native.Mathlib.Omega.{arith}
use mathlib.Core.Bool.{true, and-eq-true_iff}
use mathlib.Core.List.{List, [], ◌∷◌, ◌++◌}
use mathlib.Core.Path.{◌≡◌, ◌∙◌, ap, ap₂, refl, sym}
use lib.ListN.{drop, get_or, length, length-drop, length-take, take, take-append-drop}
use lib.Seq.{drop-cons, drop-drop}
use borrow.Author.Tests.{ltb-true}
use Rattle.rules.specs.Lists.{all}
use Rattle.steps.specs.Format.{byte, le}
use Rattle.steps.specs.Decoding.{field, number}

pub length-le : (k v : ℕ) → length (le k v) ≡ k
unfolding le
length-le zero v = refl
length-le (suc k) v = ap suc (length-le k (v / 256))

pub number-le : (k v : ℕ) → v < 256 ^ k → number (le k v) ≡ v
unfolding le number
number-le zero v l = omega (arith, l)
number-le (suc k) v l =
    let rest : v / 256 < 256 ^ k = omega (arith, pow-succ' 256 k) in
    ap (λ (n : ℕ). v % 256 + 256 * n) (number-le k (v / 256) rest) ∙ omega arith

bytes : (b : ℕ) (l : List ℕ) → all byte (b ∷ l) ≡ true → (b < 256) × (all byte l ≡ true)
bytes b l h = let v = simp and-eq-true_iff at h in (ltb-true b 256 v.0, v.1)

pub le-number : (k : ℕ) (l : List ℕ) → length l ≡ k → all byte l ≡ true → le k (number l) ≡ l
unfolding le number
le-number zero [] e h = refl
le-number zero (b ∷ l) e h = absurd (omega arith)
le-number (suc k) [] e h = absurd (omega arith)
le-number (suc k) (b ∷ l) e h =
    let v = bytes b l h in
    let low : (b + 256 * number l) % 256 ≡ b = omega (arith, v.0) in
    let high : (b + 256 * number l) / 256 ≡ number l = omega (arith, v.0) in
    ap₂ (λ (x : ℕ) (r : List ℕ). x ∷ r) low (ap (le k) high ∙ le-number k l (omega arith) v.1)

pub number_small : (k : ℕ) (l : List ℕ) → length l ≤ k → all byte l ≡ true → number l < 256 ^ k
unfolding number
number_small zero [] e h = omega arith
number_small zero (b ∷ l) e h = absurd (omega arith)
number_small (suc k) [] e h = omega (arith, number_small k [] (omega arith) refl, pow-succ' 256 k)
number_small (suc k) (b ∷ l) e h = let v = bytes b l h in omega (arith, v.0, number_small k l (omega arith) v.1, pow-succ' 256 k)

-- a part of some bytes is bytes
pub byte-take : (k : ℕ) (l : List ℕ) → all byte l ≡ true → all byte (take k l) ≡ true
byte-take zero l h = refl
byte-take (suc k) [] h = refl
byte-take (suc k) (b ∷ l) h = let v = simp and-eq-true_iff at h in rw v.0 (byte-take k l v.1)

pub byte-drop : (k : ℕ) (l : List ℕ) → all byte l ≡ true → all byte (drop k l) ≡ true
byte-drop zero l h = h
byte-drop (suc k) [] h = refl
byte-drop (suc k) (b ∷ l) h = let v = simp and-eq-true_iff at h in byte-drop k l v.1

module _ (p : List ℕ) (h : all byte p ≡ true) (at k : ℕ) where
  -- a field, written back, and what follows it
  pub field_back : at + k ≤ length p → le k (field at k p) ++ drop (at + k) p ≡ drop at p
  unfolding field
  field_back l =
      let long : length (take k (drop at p)) ≡ k = simp (length-take, length-drop) (omega arith) in
      ap₂ (λ (x y : List ℕ). x ++ y) (le-number k (take k (drop at p)) long (byte-take k (drop at p) (byte-drop at p h))) (sym (drop-drop k at p))
      ∙ take-append-drop k (drop at p)

  pub field_small : field at k p < 256 ^ k
  unfolding field
  field_small = number_small k (take k (drop at p)) (simp length-take (omega arith)) (byte-take k (drop at p) (byte-drop at p h))

-- a field by its bytes
module _ (p : List ℕ) where
  field_next : (at k : ℕ) → at < length p → field at (suc k) p ≡ get_or p at 0 + 256 * field (at + 1) k p
  unfolding field number
  field_next at k l = rw add-one (ap (λ (q : List ℕ). number (take (suc k) q)) (drop-cons p at 0 l))

  -- two bytes, and what is read in the bytes after them
  field_two : (at k : ℕ) → at + 1 < length p → field at (suc (suc k)) p ≡ get_or p at 0 + 256 * (get_or p (at + 1) 0 + 256 * field (at + 2) k p)
  field_two at k l =
      let two : at + 1 + 1 ≡ at + 2 = omega arith in
      field_next at (suc k) (omega arith)
      ∙ ap (λ (n : ℕ). get_or p at 0 + 256 * n) (field_next (at + 1) k l ∙ ap (λ (a : ℕ). get_or p (at + 1) 0 + 256 * field a k p) two)

  field-none : (at : ℕ) → field at 0 p ≡ 0
  unfolding field number
  field-none at = refl

  pub two_bytes : (at : ℕ) → at + 2 ≤ length p → field at 2 p ≡ get_or p at 0 + 256 * get_or p (at + 1) 0
  two_bytes at l = omega (arith, field_two at 0 (omega arith), field-none (at + 2))

  pub four_bytes : (at : ℕ) → at + 4 ≤ length p → field at 4 p ≡ get_or p at 0 + 256 * get_or p (at + 1) 0 + 65536 * get_or p (at + 2) 0 + 16777216 * get_or p (at + 3) 0
  four_bytes at l =
      let three : at + 2 + 1 ≡ at + 3 = omega arith in
      let two : field (at + 2) 2 p ≡ get_or p (at + 2) 0 + 256 * (get_or p (at + 3) 0 + 256 * 0) =
      field_two (at + 2) 0 (omega arith) ∙ (λ j. get_or p (at + 2) 0 + 256 * (get_or p (three j) 0 + 256 * field-none (at + 2 + 2) j)) in
      omega (arith, field_two at 2 (omega arith), two)

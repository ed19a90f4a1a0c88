-- Answers written into a buffer, one after the other, and read back. Assumes nothing.
use Prim.Native.Nat.{ℕ, suc, ◌+◌, ◌-◌, ◌*◌, ◌/◌, ◌%◌, ◌<◌, ◌≤◌}
use native.Mathlib.Nat.{div-div-eq-div-mul}
use native.Mathlib.Omega.{arith}
use mathlib.Core.List.{List, [], ◌∷◌, ◌++◌, append_assoc, append-nil}
use mathlib.Core.Path.{◌≡◌, ◌∙◌, ap, refl, sym}
use lib.ListN.{drop, length, length-append, length-drop, set, take}
use lib.Seq.{drop_at, drop-drop, take_at}
use borrow.Rule.Slice.PartMut.{put_mid}
use Rattle.std.proofs.lemmas.List.{drop-set-lt, take_more_set}
use Rattle.terms.specs.declared.Given.{Given}
use Rattle.steps.specs.Format.{le}
use Rattle.steps.specs.Answers.{answer_at, answer_bytes, encoded, with_answers}
use Rattle.steps.specs.Decoding.{number}
use Rattle.steps.proofs.Numbers.{length-le, number-le}

le_four : (v : ℕ) → (v % 256) ∷ (v / 256 % 256) ∷ (v / 65536 % 256) ∷ (v / 16777216 % 256) ∷ [] ≡ le 4 v
unfolding le
le_four v =
    let third : v / 65536 ≡ v / 256 / 256 = sym (div-div-eq-div-mul v 256 256) in
    let fourth : v / 16777216 ≡ v / 256 / 256 / 256 = sym (ap (λ (n : ℕ). n / 256) (div-div-eq-div-mul v 256 256) ∙ div-div-eq-div-mul v 65536 256) in
    λ j. (v % 256) ∷ (v / 256 % 256) ∷ (third j % 256) ∷ (fourth j % 256) ∷ []

-- the number is stored, and the value's bytes are copied behind it
pub number_and_value : (out : List ℕ) (at : ℕ) (g : Given) {bytes : List ℕ} → at + 5 ≤ length out
    → bytes ≡ (g.value % 256) ∷ (g.value / 256 % 256) ∷ (g.value / 65536 % 256) ∷ (g.value / 16777216 % 256) ∷ []
    → put_mid (at + 1) (at + 5 - (at + 1)) (set out at g.number) bytes ≡ answer_at at g out
unfolding answer_at answer_bytes
number_and_value out at g {bytes} l e =
    let v = e ∙ le_four g.value in
    let k = at + 5 - (at + 1) in
    let five : at + 1 + k ≡ at + 5 = omega arith in
    let front : take (at + 1) (set out at g.number) ≡ take at out ++ g.number ∷ [] = take_more_set out at g.number (omega arith) in
    let back : drop k (drop (at + 1) (set out at g.number)) ≡ drop (at + 5) out =
    drop-drop k (at + 1) (set out at g.number) ∙ ap (λ (n : ℕ). drop n (set out at g.number)) five ∙ drop-set-lt (at + 5) out at g.number (omega arith) in
    (λ j. front j ++ (v j ++ back j)) ∙ simp append_assoc

pub length_answer : (g : Given) → length (answer_bytes g) ≡ 5
unfolding answer_bytes
length_answer g = ap suc (length-le 4 g.value)

pub length-encoded : (gs : List Given) → length (encoded gs) ≡ 5 * length gs
unfolding encoded
length-encoded [] = refl
length-encoded (g ∷ gs) = length-append (answer_bytes g) (encoded gs) ∙ omega (arith, length_answer g, length-encoded gs)

pub encoded-append : (gs hs : List Given) → encoded (gs ++ hs) ≡ encoded gs ++ encoded hs
unfolding encoded
encoded-append [] hs = refl
encoded-append (g ∷ gs) hs = ap (λ (l : List ℕ). answer_bytes g ++ l) (encoded-append gs hs) ∙ sym (append_assoc (answer_bytes g) (encoded gs) (encoded hs))

-- ---- a buffer with answers from its start

pub put-start : (out : List ℕ) → with_answers [] out ≡ out
unfolding with_answers encoded
put-start out = refl

module _ (gs : List Given) (out : List ℕ) (l : 5 * length gs ≤ length out) where
  pub length_with : length (with_answers gs out) ≡ length out
  unfolding with_answers
  length_with = length-append (encoded gs) (drop (5 * length gs) out) ∙ omega (arith, l, length-encoded gs, length-drop (5 * length gs) out)

-- one more answer, behind the others
pub put_next : (gs : List Given) (g : Given) (out : List ℕ) → answer_at (5 * length gs) g (with_answers gs out) ≡ with_answers (gs ++ g ∷ []) out
unfolding answer_at with_answers encoded
put_next gs g out =
    let n = 5 * length gs in
    let front = take_at (encoded gs) (drop n out) n (length-encoded gs) in
    let more : n + 5 ≡ 5 * length (gs ++ g ∷ []) = omega (arith, length-append gs (g ∷ [])) in
    let back = sym (drop-drop 5 n (encoded gs ++ drop n out)) ∙ ap (drop 5) (drop_at (encoded gs) (drop n out) n (length-encoded gs)) ∙ drop-drop 5 n out ∙ ap (λ (k : ℕ). drop k out) more in
    let all : encoded (gs ++ g ∷ []) ≡ encoded gs ++ answer_bytes g = encoded-append gs (g ∷ []) ∙ ap (λ (l : List ℕ). encoded gs ++ l) (append-nil (answer_bytes g)) in
    (λ j. front j ++ answer_bytes g ++ back j) ∙ ap (λ (l : List ℕ). l ++ drop (5 * length (gs ++ g ∷ [])) out) (sym all)

-- ---- an answer is known by its bytes

value_back : (u v : ℕ) → u < 4294967296 → v < 4294967296 → le 4 u ≡ le 4 v → u ≡ v
value_back u v a b e = sym (number-le 4 u a) ∙ ap number e ∙ number-le 4 v b

pub answer_back : (g h : Given) → g.value < 4294967296 → h.value < 4294967296 → answer_bytes g ≡ answer_bytes h → g ≡ h
unfolding answer_bytes
answer_back g h a b e =
    let n : g.number ≡ h.number = cc in
    let v : le 4 g.value ≡ le 4 h.value = cc in
    let w = value_back g.value h.value a b v in
    λ j. record { number = n j; value = w j }

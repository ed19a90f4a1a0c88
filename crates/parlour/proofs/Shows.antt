-- What a run returns tells what is to be printed. Assumes nothing.
use Prim.Native.Nat.{ℕ, ◌+◌, ◌*◌, ◌/◌, ◌%◌, ◌<◌, ◌≤◌}
use native.Mathlib.Omega.{arith}
use mathlib.Core.Bool.{Bool, cond, false, true}
use mathlib.Core.List.{List, [], ◌∷◌, ◌++◌}
use mathlib.Core.Logic.{◌⊎◌, inl, inr, ⊎_elim}
use mathlib.Core.Path.{◌≡◌, ◌∙◌, ap, refl, sym}
use lib.Dec.{ltb}
use lib.ListN.{drop, length, take}
use lib.Seq.{take_at}
use borrow.Author.Tests.{ltb-false, ltb-true}
use Rattle.std.specs.Prelude.{Err, IsOk, Ok, Result}
use Rattle.terms.specs.declared.Given.{Given}
use Rattle.rules.specs.Lists.{all}
use Rattle.laws.proofs.Lists.{and_left, and_right, passed}
use Rattle.steps.specs.Answers.{answer_bytes, encoded, with_answers}
use Rattle.steps.specs.Decoding.{BadAt, Done, End, field, steps_of}
use Rattle.steps.specs.Format.{le}
use Rattle.steps.proofs.Counts.{answers_few}
use Rattle.steps.proofs.Numbers.{number-le}
use Rattle.steps.proofs.Puts.{length-encoded}
use Rattle.runner.specs.declared.Outcome.{Outcome}
use Rattle.runner.specs.declared.Outcome.TheVariants.{BadStep, Complete}
use Rattle.runner.specs.declared.RunError.{RunError}
use Rattle.runner.specs.declared.RunError.TheVariants.{NoRoom, TooLong}
use Rattle.runner.specs.Run.{answers_in, answers_to, code, narrow, number_of, run_on, written}
use Rattle.runner.proofs.Ranges.{answers_many}
use Rattle.runner.proofs.Returns.{all-written, too_long}
use Rattle.parlour.specs.Text.{line, lines_in, lines_of, shown, text_of}

lines-encoded : (gs : List Given) → all narrow gs ≡ true → lines_in (length gs) (encoded gs) ≡ text_of gs
unfolding lines_in encoded text_of answer_bytes le field
lines-encoded [] h = refl
lines-encoded (g ∷ gs) h =
    let v = number-le 4 g.value (ltb-true g.value 4294967296 (and_left (narrow g) _ h)) in
    λ j. line g.number (v j) ++ lines-encoded gs (and_right (narrow g) _ h) j

-- the lines of answers that stand in a buffer
pub lines-written : (gs : List Given) (out : List ℕ) → all narrow gs ≡ true → lines_of (take (5 * length gs) (with_answers gs out)) ≡ text_of gs
unfolding with_answers
lines-written gs out h =
    let long = length-encoded gs in
    let many : length (encoded gs) / 5 ≡ length gs = omega (arith, long) in
    ap lines_of (take_at (encoded gs) (drop (5 * length gs) out) (5 * length gs) long) ∙ ap (λ (n : ℕ). lines_in n (encoded gs)) many ∙ lines-encoded gs h

-- the number of a result tells whether answers were written, and how many
pub small_ok : (q : Result Outcome RunError) → code q < 65536 * 11 → IsOk q
small_ok (Ok o) h = refl
small_ok (Err TooLong) h = absurd (omega (arith, h))
small_ok (Err NoRoom) h = absurd (omega (arith, h))

pub wrote : (q : Result Outcome RunError) (o : Outcome) → q ≡ Ok o → answers_in o < 65536 → (code q / 65536 < 11) × (code q % 65536 ≡ answers_in o)
wrote q (Complete n) e l = let k = ap code e in (omega (arith, k, l), omega (arith, k, l))
wrote q (BadStep n) e l = let k = ap code e in (omega (arith, k, l), omega (arith, k, l))

pub failed : (q : Result Outcome RunError) (x : RunError) → q ≡ Err x → ¬ (code q / 65536 < 11)
failed q TooLong e h = let k = ap code e in omega (arith, k, h)
failed q NoRoom e h = let k = ap code e in omega (arith, k, h)

number-cases : (e : End) → (number_of e ≡ 0) ⊎ (number_of e ≡ 10)
number-cases Done = inl refl
number-cases (BadAt at) = inr refl

module _ (file out : List ℕ) where
  shown_by : (b : Bool) → ltb 8192 (length file) ≡ b → shown file ≡ cond b (line 11 0) (text_of (answers_to 32 256 (steps_of file)))
  unfolding shown
  shown_by b e = ap (λ (x : Bool). cond x (line 11 0) (text_of (answers_to 32 256 (steps_of file)))) e

  -- what a run returns and leaves
  module _ {r : ℕ} {out' : List ℕ} (e : (r, out') ≡ run_on 32 256 file out) (s : r < 65536 * 11 → all narrow (answers_to 32 256 (steps_of file)) ≡ true) (l : length out ≡ 40960) where
    gs : List Given
    gs = answers_to 32 256 (steps_of file)

    record Fits : Type 0 where
      short : r / 65536 < 11
      few : r % 65536 ≤ 8192
      text : lines_of (take (5 * (r % 65536)) out') ≡ shown file

    by_number : ltb 8192 (length file) ≡ false → length gs ≤ 8192 → (k : ℕ) → (k ≡ 0) ⊎ (k ≡ 10) → r ≡ 65536 * k + length gs → out' ≡ with_answers gs out → Fits
    unfolding gs
    by_number f few k c n o =
        let count : (r / 65536 ≡ k) × (r % 65536 ≡ length gs) = ⊎_elim (λ u. (omega arith, omega arith)) (λ u. (omega arith, omega arith)) c in
        record {
          short = ⊎_elim (λ u. omega (arith, count.0)) (λ u. omega (arith, count.0)) c;
          few = omega (arith, count.1);
          text = (λ j. lines_of (take (5 * count.1 j) (o j))) ∙ lines-written gs out (s (⊎_elim (λ u. omega arith) (λ u. omega arith) c)) ∙ sym (shown_by false f);
        }

    fits : ltb 8192 (length file) ≡ false → Fits
    unfolding gs written
    fits f =
        let s = ltb-false 8192 (length file) f in
        let few : length gs ≤ 8192 = omega (arith, s, answers_many 32 256 (steps_of file), answers_few file) in
        let w = e ∙ all-written 32 256 file out s (omega (arith, few, l)) in
        by_number f few (number_of (steps_of file).end) (number-cases (steps_of file).end) (ap (λ (p : ℕ × List ℕ). p.0) w) (ap (λ (p : ℕ × List ℕ). p.1) w)

    -- nothing is written: the file is too long
    pub shows_11 : ¬ (r / 65536 < 11) → line 11 0 ≡ shown file
    shows_11 h = go (passed (ltb 8192 (length file)))
      where
        go : (ltb 8192 (length file) ≡ true) ⊎ (ltb 8192 (length file) ≡ false) → line 11 0 ≡ shown file
        go (inl t) = sym (shown_by true t)
        go (inr f) = absurd (h (fits f).short)

    fits_then : r / 65536 < 11 → Fits
    fits_then h = go (passed (ltb 8192 (length file)))
      where
        go : (ltb 8192 (length file) ≡ true) ⊎ (ltb 8192 (length file) ≡ false) → Fits
        go (inl t) = let n : r ≡ 65536 * 11 = ap (λ (p : ℕ × List ℕ). p.0) (e ∙ too_long 32 256 file out (ltb-true 8192 (length file) t)) in absurd (omega (arith, n, h))
        go (inr f) = fits f

    pub shows_few : r / 65536 < 11 → r % 65536 ≤ 8192
    shows_few h = (fits_then h).few

    pub shows_lines : r / 65536 < 11 → lines_of (take (5 * (r % 65536)) out') ≡ shown file
    shows_lines h = (fits_then h).text

-- `parlour::report` meets its contract: how the run ended says what is to be printed. Assumes nothing.
use Rattle.std.proofs.Common.{arith, ℕ, ◌*◌, ◌<◌, ◌∙◌, ap, sym, take, subst}
use Rattle.std.proofs.lemmas.List.{length-replicate}
use lib.Seq.{length-take-le}
use Rattle.parlour.specs.Text.{lines_of}
use Rattle.parlour.proofs.Shows.{failed, shows_11, shows_few, shows_lines, small_ok, wrote}
use Rattle.parlour.proofs.report.Goals as goal

pub returns-in_default-clause-text_after : goal.returns-in_default-clause-text_after
returns-in_default-clause-text_after c =
    c.put_line.ensures.text_after
    ∙ shows_11 _ _ c.run.ensures.out_after (λ h. c.run.ensures.room_in_bytes (small_ok _ h)) (length-replicate {A = ℕ} 40960 0) (failed _ _ c.in_default.is)

pub slice_bounds-answers-end : goal.slice_bounds-answers-end
slice_bounds-answers-end c =
    let w = wrote _ _ c.in-Ok.is (subst (λ (n : ℕ). n < 65536) c.answers.ensures.count c.answers.ensures.few) in
    omega (arith, w.1, c.answers.ensures.count, shows_few _ _ c.run.ensures.out_after (λ h. c.run.ensures.room_in_bytes (small_ok _ h)) (length-replicate {A = ℕ} 40960 0) w.0)

pub slice_bounds-put_lines-end : goal.slice_bounds-put_lines-end
slice_bounds-put_lines-end c =
    let w = wrote _ _ c.in-Ok.is (subst (λ (n : ℕ). n < 65536) c.answers.ensures.count c.answers.ensures.few) in
    sym (length-take-le (5 * c.answers.result) c.run.new.out
    (omega (arith, w.1, c.answers.ensures.count, shows_few _ _ c.run.ensures.out_after (λ h. c.run.ensures.room_in_bytes (small_ok _ h)) (length-replicate {A = ℕ} 40960 0) w.0)))

pub returns-clause-text_after : goal.returns-clause-text_after
returns-clause-text_after c =
    let w = wrote _ _ c.in-Ok.is (subst (λ (n : ℕ). n < 65536) c.answers.ensures.count c.answers.ensures.few) in
    c.put_lines.ensures.text_after ∙ ap (λ (n : ℕ). lines_of (take (5 * n) c.run.new.out)) (c.answers.ensures.count ∙ sym w.1)
    ∙ shows_lines _ _ c.run.ensures.out_after (λ h. c.run.ensures.room_in_bytes (small_ok _ h)) (length-replicate {A = ℕ} 40960 0) w.0

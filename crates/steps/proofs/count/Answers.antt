-- `steps::count` meets its contract: a step is counted, and so is a bad one, which is the last. Assumes nothing.
use Rattle.std.proofs.Common.{arith, ◌+◌, ◌∙◌, ℕ, List, length, subst, sym}
use Rattle.std.proofs.lemmas.Slice.{between_to_end}
use borrow.Author.Tests.{eqb-false, eqb-true}
use Rattle.steps.proofs.Counts.{Counting, count_bad, count_done, count_next}
use Rattle.steps.proofs.count.Goals as goal

pub loop-k-preserved : goal.loop-k-preserved
loop-k-preserved c =
    let rest = c.loop-k.rest.now in
    subst (λ (r : List ℕ). Counting c.args.file.now r (c.loop-k.n + 1)) (sym (between_to_end rest c.in-Some.k (length rest) (omega arith))) (count_next c.loop-k.invariant c.in-Some.k c.in-Some.ensures.0 c.in-Some.ensures.1)

pub returns-then-is_empty : goal.returns-then-is_empty
returns-then-is_empty c = count_done c.loop-k.invariant (eqb-true _ 0 (sym c.is_empty.ensures ∙ c.if-is_empty.true))

pub returns-else-is_empty : goal.returns-else-is_empty
returns-else-is_empty c = count_bad c.loop-k.invariant (eqb-false _ 0 (sym c.is_empty.ensures ∙ c.if-is_empty.false)) c.in_default.ensures

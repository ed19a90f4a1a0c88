-- So far the lines of the first answers are put: `Listing`. Assumes nothing.
use Rattle.std.proofs.Common.{◌≡◌}
use Rattle.std.specs.Slice.Iter.{chunks_exact_rest, chunks_exact_size}
use Rattle.parlour.proofs.Texts.{Listing}
use Rattle.parlour.proofs.put_lines.Given as goal

abbrev pub invariant-loop-answer : goal.invariant-loop-answer
invariant-loop-answer l = record {
  can_next : (goal.iterator-loop-answer).can_next l.answer-iterator;
  is_finite : (goal.iterator-loop-answer).is_finite l.answer-iterator;
  by_five : chunks_exact_size l.answer-iterator ≡ 5;
  listing : Listing l.answers l.at (chunks_exact_rest l.answer-iterator) l.text;
}

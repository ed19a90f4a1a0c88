-- `reader::next_at` meets its contract: a step ends inside the file. Assumes nothing.
use Rattle.std.proofs.Common.{arith, sym}
use Rattle.steps.proofs.Unfold.{next-inside}
use Rattle.reader.proofs.next_at.Goals as goal

pub overflow_add-at : goal.overflow_add-at
overflow_add-at c = omega (arith, next-inside c.args.file.now c.args.at (sym c.in-Some.ensures) c.requires)

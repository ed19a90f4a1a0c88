-- The answers before what is left are counted: `Counting`. What is left of the file falls. Assumes nothing.
use Rattle.std.proofs.Common.{length}
use Rattle.steps.proofs.Counts.{Counting}
use Rattle.steps.proofs.count.Given as goal

abbrev pub invariant-loop-k : goal.invariant-loop-k
invariant-loop-k l = Counting l.file l.rest l.n

abbrev pub decreases-loop-k : goal.decreases-loop-k
decreases-loop-k l = length l.rest

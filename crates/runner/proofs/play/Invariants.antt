-- So far the answers to the steps before an offset are written: `Going`. What is left of the file falls. Assumes nothing.
use Rattle.std.proofs.Common.{length, ◌-◌}
use Rattle.calls.specs.Lent.{raw_on}
use Rattle.runner.proofs.Turns.{Going}
use Rattle.runner.proofs.play.Given as goal

abbrev pub invariant-loop-at : goal.invariant-loop-at
invariant-loop-at l = Going l.file l.initial.out l.out (raw_on l.board) l.at l.n

abbrev pub decreases-loop-at : goal.decreases-loop-at
decreases-loop-at l = length l.file - l.at

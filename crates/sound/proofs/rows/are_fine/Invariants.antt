-- What is left to look at, after the row before. Assumes nothing.
use Rattle.terms.specs.Words.{num, start}
use Rattle.lists.proofs.Scans.{Going}
use Rattle.sound.specs.Rows.{fine_from}
use Rattle.sound.proofs.rows.are_fine.Given as goal

abbrev pub invariant-loop-row : goal.invariant-loop-row
invariant-loop-row l = Going l.used (fine_from l.next l.moment (num l.before) (start l.before)) (fine_from l.next l.moment 0 0 l.used) l.row-index

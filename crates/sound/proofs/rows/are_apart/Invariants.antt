-- What is left to look at: each with every later one. Assumes nothing.
use Rattle.rules.specs.Lists.{pairs}
use Rattle.lists.proofs.Scans.{Going}
use Rattle.sound.specs.Rows.{apart_from}
use Rattle.sound.proofs.rows.are_apart.Given as goal

abbrev pub invariant-loop-i : goal.invariant-loop-i
invariant-loop-i l = Going l.used (pairs apart_from) (pairs apart_from l.used) l.i

-- What is left to look at. Assumes nothing.
use Rattle.rules.specs.Lists.{all}
use Rattle.lists.proofs.Scans.{Going}
use Rattle.sound.specs.Rows.{apart_from}
use Rattle.sound.proofs.rows.is_apart_from.Given as goal

abbrev pub invariant-loop-b : goal.invariant-loop-b
invariant-loop-b l = Going l.later (all (apart_from l.a)) (all (apart_from l.a) l.later) l.b-index

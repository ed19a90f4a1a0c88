-- The limit of the rows that are left is that of all. Assumes nothing.
use Rattle.lists.proofs.Scans.{Going}
use Rattle.edges.specs.Spent.{limit_of}
use Rattle.edges.proofs.limit.Given as goal

abbrev pub invariant-loop-r : goal.invariant-loop-r
invariant-loop-r l = Going l.rows (limit_of 4294967295) (limit_of 4294967295 l.rows) l.r-index

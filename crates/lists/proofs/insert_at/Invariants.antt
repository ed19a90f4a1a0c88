-- What is put in so far: `Inserting`. Assumes nothing.
use Rattle.lists.proofs.Insertions.{Inserting}
use Rattle.lists.proofs.insert_at.Given as goal

abbrev pub invariant-loop-i : goal.invariant-loop-i
invariant-loop-i g l = Inserting l.initial.table l.at l.fn.x l.table l.held l.i

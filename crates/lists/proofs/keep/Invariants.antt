-- What stays so far: `Keeping`. Assumes nothing.
use Rattle.lists.proofs.Loops.{Keeping}
use Rattle.lists.proofs.keep.Given as goal

abbrev pub invariant-loop-j : goal.invariant-loop-j
invariant-loop-j g l = Keeping g.F.Fn l.keeps l.initial.table l.table l.kept l.j

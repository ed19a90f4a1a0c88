-- No element so far stops: `Seeking`. Assumes nothing.
use Rattle.lists.proofs.Firsts.{Seeking}
use Rattle.lists.proofs.first_index.Given as goal

abbrev pub invariant-loop-i : goal.invariant-loop-i
invariant-loop-i g l = Seeking g.F.Fn l.stops l.table l.i

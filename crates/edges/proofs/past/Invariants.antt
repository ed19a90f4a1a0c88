-- What is joined so far, and what is left to look at: `Passing`. Assumes nothing.
use Rattle.std.proofs.Common.{ltb, get_or}
use Rattle.edges.proofs.Draws.{Passing}
use Rattle.edges.proofs.past.Given as goal

abbrev pub invariant-loop-j : goal.invariant-loop-j
invariant-loop-j l = Passing (λ j. ltb (get_or l.ends j 0) l.m) l.touched l.before l.all l.j-iterator.0

-- What is linked so far, and what is left to link: `Linking`. Assumes nothing.
use Rattle.edges.proofs.Draws.{Linking}
use Rattle.edges.proofs.link.Given as goal

abbrev pub invariant-loop-j : goal.invariant-loop-j
invariant-loop-j l = Linking l.from l.i l.initial.g l.g l.j-iterator.0

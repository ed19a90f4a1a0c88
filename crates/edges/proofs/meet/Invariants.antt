-- What is met so far: `Meeting`. Assumes nothing.
use Rattle.edges.proofs.Meeting.{Meeting}
use Rattle.edges.proofs.meet.Given as goal

abbrev pub invariant-loop-k : goal.invariant-loop-k
invariant-loop-k l = Meeting 256 l.at l.t.0 l.part l.initial.tab l.tab l.read l.by l.wrote l.k

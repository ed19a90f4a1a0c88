-- What is left, and which rows are to be looked at: `Peeling`. Assumes nothing.
use Rattle.std.proofs.Common.{◌≤◌, ◌<◌, ◌^◌}
use Rattle.graph.specs.Sets.{edges, member}
use Rattle.sound.proofs.Peeling.{Peeling}
use Rattle.sound.proofs.rings.peeled.Given as goal

abbrev pub invariant-loop-i : goal.invariant-loop-i
invariant-loop-i l = Peeling (edges l.g) (member l.from) (member l.left) l.i × (l.left ≤ l.from) × (l.left < 2 ^ 32)

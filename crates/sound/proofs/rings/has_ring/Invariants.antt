-- Every ring is in what is left: `Shed`. Assumes nothing.
use Rattle.std.proofs.Common.{◌<◌, ◌^◌}
use Rattle.graph.specs.Sets.{edges, member}
use Rattle.sound.specs.Rings.{Shed}
use Rattle.sound.proofs.rings.has_ring.Given as goal

abbrev pub invariant-loop-left : goal.invariant-loop-left
invariant-loop-left l = Shed (edges l.g) (member l.left) × (l.left < 2 ^ 32)

abbrev pub decreases-loop-left : goal.decreases-loop-left
decreases-loop-left l = l.left

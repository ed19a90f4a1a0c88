-- The sets so far, and those that ended: `Tabling` and `Ended`. Assumes nothing.
use Rattle.std.proofs.Common.{length, ◌≡◌}
use Rattle.graph.proofs.Fills.{Tabling}
use Rattle.sound.specs.Items.{earlier_than}
use Rattle.sound.proofs.Earlier.{Ended}
use Rattle.sound.proofs.items.earlier.Given as goal

abbrev pub invariant-loop-k : goal.invariant-loop-k
invariant-loop-k l = Tabling (length l.used) l.early (earlier_than l.used) l.k × Ended l.used l.k l.kept l.done l.ends × (length l.early ≡ 32)

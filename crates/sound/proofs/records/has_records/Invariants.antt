-- How far both tables ascend, and the owners so far: `Merging`. Assumes nothing.
use Rattle.std.proofs.Common.{length, ◌-◌, ◌≤◌}
use Rattle.sound.specs.Records.{Owners}
use Rattle.sound.proofs.Merging.{Merging}
use Rattle.sound.proofs.records.has_records.Given as goal

abbrev pub invariant-loop-i : goal.invariant-loop-i
invariant-loop-i l = Merging l.count l.used l.filed l.last l.i l.j × Owners l.j l.used l.filed l.owners × (l.j ≤ length l.filed)

abbrev pub invariant-loop-j : goal.invariant-loop-j
invariant-loop-j l = Merging l.count l.used l.filed l.last l.i l.j × Owners l.j l.used l.filed l.owners × (l.j ≤ length l.filed)

abbrev pub decreases-loop-j : goal.decreases-loop-j
decreases-loop-j l = length l.filed - l.j

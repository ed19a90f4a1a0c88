-- The rows that stay so far, moved up. Assumes nothing.
use Rattle.std.proofs.Common.{◌≡◌, ◌≤◌, ◌++◌, drop, length, take}
use Rattle.graph.specs.Sets.{member}
use Rattle.taking.specs.Leaving.{leaving}
use Rattle.taking.proofs.rows_without.Given as goal

abbrev pub invariant-loop-at : goal.invariant-loop-at
invariant-loop-at l = (l.kept ≤ l.at) × (length l.rows ≡ length l.initial.rows) × (take l.kept l.rows ++ leaving (member l.gone) l.at (drop l.at l.rows) ≡ leaving (member l.gone) 0 l.initial.rows)

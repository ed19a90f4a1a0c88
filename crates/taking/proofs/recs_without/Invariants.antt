-- The records that stay so far, moved up. Assumes nothing.
use Rattle.std.proofs.Common.{◌≡◌, ◌≤◌, ◌++◌, drop, take}
use Rattle.rules.specs.Lists.{keep}
use Rattle.rules.specs.Raw.{used_recs}
use Rattle.taking.specs.Leaving.{stays}
use Rattle.taking.proofs.recs_without.Given as goal

abbrev pub invariant-loop-at : goal.invariant-loop-at
invariant-loop-at l =
    (l.kept ≤ l.at) × (take l.kept l.recs ++ keep (stays l.gone l.rows) (used_recs (drop l.at l.recs)) ≡ keep (stays l.gone l.rows) (used_recs l.initial.recs))
    × (l.leaving.rows.now ≡ l.rows) × (l.leaving.gone ≡ l.gone)

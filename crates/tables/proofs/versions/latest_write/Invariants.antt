-- The version so far, and what the used records that are left make of it: `Finding`. Assumes nothing.
use Rattle.rules.specs.Raw.{used_rows}
use Rattle.tables.proofs.Turns.{Finding}
use Rattle.tables.proofs.versions.latest_write.Given as goal

abbrev pub invariant-loop-p : goal.invariant-loop-p
invariant-loop-p l = Finding (used_rows l.rows) l.i.0 l.before.0 l.recs l.latest.0 l.found l.p-index

-- The marks so far, and what the used records that are left say of them: `Marking`. Assumes nothing.
use Rattle.tables.proofs.Marks.{Marking}
use Rattle.tables.proofs.versions.wrote_items.Given as goal

abbrev pub invariant-loop-p : goal.invariant-loop-p
invariant-loop-p l = Marking l.recs l.t.0 l.marks l.p-index

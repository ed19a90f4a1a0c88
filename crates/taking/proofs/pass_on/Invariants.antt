-- What has passed into the value tables so far: `PassingTo`. Assumes nothing.
use Rattle.std.proofs.Common.{◌≡◌, ◌++◌, drop, take}
use Rattle.rules.specs.Raw.{used_recs}
use Rattle.taking.proofs.Passes.{PassingTo}
use Rattle.taking.proofs.pass_on.Given as goal

abbrev pub invariant-loop-p : goal.invariant-loop-p
invariant-loop-p l =
    PassingTo 256 l.gone l.rows l.recs l.initial.values l.initial.writers l.values l.writers l.best l.p-index
    × (used_recs l.recs ≡ take l.p-index l.recs ++ used_recs (drop l.p-index l.recs)) × (l.leaving.rows.now ≡ l.rows) × (l.leaving.gone ≡ l.gone)

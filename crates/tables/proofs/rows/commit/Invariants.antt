-- The rows so far are stamped. Assumes nothing.
use Rattle.std.proofs.Common.{◌≡◌, ◌++◌, map, take, drop}
use Rattle.terms.specs.Words.{stamp}
use Rattle.tables.proofs.rows.commit.Given as goal

abbrev pub invariant-loop-row : goal.invariant-loop-row
invariant-loop-row l = l.rows ≡ map (stamp l.t.0 l.m.0) (take l.row-index l.initial.rows) ++ drop l.row-index l.initial.rows

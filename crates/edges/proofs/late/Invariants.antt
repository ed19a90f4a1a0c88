-- The set has those of the rows so far that pass, and the used rows are counted. Assumes nothing.
use Rattle.std.proofs.Common.{ℕ, ◌≡◌, eqb}
use Rattle.terms.specs.Words.{num}
use Rattle.lists.proofs.Scans.{Going, onwards}
use Rattle.graph.specs.Sets.{member}
use Rattle.edges.specs.Blocks.{used_count}
use Rattle.edges.specs.Times.{placed, since}
use Rattle.edges.proofs.late.Given as goal

abbrev pub invariant-loop-i : goal.invariant-loop-i
invariant-loop-i l =
    record {
      has : (j : ℕ) → member l.s j ≡ placed (since l.m.0) l.rows l.i j;
      used : Going l.rows (onwards (λ r. eqb (num r) 0) l.i) (used_count l.rows) l.i;
    }

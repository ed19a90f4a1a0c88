-- What is drawn so far: `Drawing`; and the used rows are counted. Assumes nothing.
use Rattle.std.proofs.Common.{eqb}
use Rattle.terms.specs.Words.{num}
use Rattle.lists.proofs.Scans.{Going, onwards}
use Rattle.edges.specs.Blocks.{used_count}
use Rattle.edges.proofs.Drawing.{Drawing}
use Rattle.edges.proofs.edges.Given as goal

abbrev pub invariant-loop-i : goal.invariant-loop-i
invariant-loop-i l =
    record {
      drawing : Drawing 256 32 l.rows l.recs l.tab l.ends l.g l.rest l.before l.i;
      used : Going l.rows (onwards (λ r. eqb (num r) 0) l.i) (used_count l.rows) l.i;
    }

-- `edges::late` meets its contract: the used rows are counted, and those that pass are put into the set. Assumes nothing.
use Rattle.std.proofs.Common.{rules, ℕ, ◌≡◌, ◌∙◌, sym, subst, eqb}
use Rattle.rules.specs.Raw.{zero_row}
use Rattle.terms.specs.Words.{num}
use Rattle.lists.proofs.Scans.{first_start, first_next, first_here, first_done}
use Rattle.graph.specs.Sets.{member}
use Rattle.edges.specs.Times.{placed, since}
use Rattle.edges.proofs.Timings.{set-start, set_next, placed_skip}
use Rattle.edges.proofs.late.Goals.{then-le, else-le}
use Rattle.edges.proofs.late.Goals as goal

pub loop-i-init : goal.loop-i-init
loop-i-init c = record { has = set-start (since c.args.m.0) c.args.rows.now; used = first_start (λ r. eqb (num r) 0) }

pub returns-then-eq : goal.returns-then-eq
returns-then-eq c =
    let e = first_here (λ r. eqb (num r) 0) c.loop-i.invariant.used zero_row (search rules) (search rules) in
    subst (λ (k : ℕ). (j : ℕ) → member c.loop-i.s j ≡ placed (since c.args.m.0) c.args.rows.now k j) e c.loop-i.invariant.has

pub loop-i-preserved : goal.loop-i-preserved
loop-i-preserved c =
    record {
      has = elim c.if-le.branch [
        | then-le w ↦ set_next (since c.args.m.0) c.args.rows.now c.loop-i.i c.loop-i.s c.loop-i.invariant.has (w.s-is ∙ w.with-s.ensures) (search rules)
        | else-le w ↦ λ j. rw w.s-is (c.loop-i.invariant.has j ∙ sym (placed_skip (since c.args.m.0) c.args.rows.now c.loop-i.i (search rules) j))
      ];
      used = first_next (λ r. eqb (num r) 0) c.loop-i.invariant.used zero_row (search rules) (search rules);
    }

pub returns : goal.returns
returns c =
    let e = first_done (λ r. eqb (num r) 0) c.loop-i.invariant.used (search rules) in
    subst (λ (k : ℕ). (j : ℕ) → member c.loop-i.s j ≡ placed (since c.args.m.0) c.args.rows.now k j) e c.loop-i.invariant.has

-- `edges::edges` meets its contract: `Drawing`. Assumes nothing.
use Rattle.std.proofs.Common.{rules, arith, refl, eqb}
use Rattle.rules.specs.Raw.{zero_row}
use Rattle.terms.specs.Words.{num}
use Rattle.lists.proofs.Scans.{first_start, first_next, first_here, first_done}
use Rattle.edges.proofs.Drawing.{draw_none, draw_skip, draw_next}
use Rattle.edges.proofs.Telling.{edges-told}
use Rattle.edges.proofs.edges.Goals.{then-active, else-active}
use Rattle.edges.proofs.edges.Goals as goal

pub loop-i-init : goal.loop-i-init
loop-i-init c = record { drawing = draw_none 256 32 _ _ refl refl refl; used = first_start (λ r. eqb (num r) 0) }

pub returns-then-eq : goal.returns-then-eq
returns-then-eq c =
    edges-told 256 32 (omega arith) _ _ (first_here (λ r. eqb (num r) 0) c.loop-i.invariant.used zero_row (search rules) (search rules)) c.loop-i.invariant.drawing

pub loop-i-preserved : goal.loop-i-preserved
loop-i-preserved c =
    let used = first_next (λ r. eqb (num r) 0) c.loop-i.invariant.used zero_row (search rules) (search rules) in
    record {
      drawing = elim c.if-active.branch [
        | then-active w ↦ rw (w.tab-is, w.ends-is, w.g-is, w.before-is, w.rest-is) (draw_skip c.loop-i.invariant.drawing refl w.count.ensures.is refl (search rules))
        | else-active w ↦ rw (w.tab-is, w.ends-is, w.g-is, w.before-is, w.rest-is)
            (draw_next c.loop-i.invariant.drawing refl w.meet-m.ensures.met.count refl w.meet-m.result.touched w.meet-m.result.by w.past-before.result (search rules) (search rules)
            (omega (arith, used.same)) refl refl w.meet-m.ensures.met w.past-before.ensures w.draw.ensures)
      ];
      used = used;
    }

pub returns : goal.returns
returns c = edges-told 256 32 (omega arith) _ _ (first_done (λ r. eqb (num r) 0) c.loop-i.invariant.used (search rules)) c.loop-i.invariant.drawing

-- `edges::meet` meets its contract: `Meeting`. Assumes nothing.
use Rattle.std.proofs.Common.{rules, arith, refl}
use Rattle.edges.proofs.Meeting.{meet_start, meet_read, meet_write, meet_stop, meet_done}
use Rattle.edges.proofs.meet.Goals.{then-is_write, else-is_write}
use Rattle.edges.proofs.meet.Goals as goal

pub loop-k-init : goal.loop-k-init
loop-k-init c = meet_start

pub returns-then-ne-clause-met : goal.returns-then-ne-clause-met
returns-then-ne-clause-met c =
    meet_stop c.loop-k.invariant (search rules) (search rules) c.met.result.touched c.met.result.by c.met.ensures.count c.met.ensures.touched c.met.ensures.by

pub loop-k-preserved : goal.loop-k-preserved
loop-k-preserved c =
    elim c.if-is_write.branch [
      | then-is_write w ↦ rw (w.tab-is, w.read-is, w.by-is, w.wrote-is) (meet_write c.loop-k.invariant (search rules) (search rules) c.item_of-i.ensures.item refl (search rules) (search rules) w.with.ensures)
      | else-is_write w ↦ rw (w.tab-is, w.read-is, w.by-is, w.wrote-is) (meet_read c.loop-k.invariant (search rules) (search rules) c.item_of-i.ensures.item refl (search rules) (search rules) w.with-else-is_write.ensures)
    ]

pub returns-clause-met : goal.returns-clause-met
returns-clause-met c = meet_done c.loop-k.invariant (search rules) c.met-2.result.touched c.met-2.result.by (omega arith) c.met-2.ensures.touched c.met-2.ensures.by

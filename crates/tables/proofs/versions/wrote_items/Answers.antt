-- `tables::versions::wrote_items` meets its contract: `Marking`. Assumes nothing.
use Rattle.std.proofs.Common.{rules, tests}
use borrow.Author.Tests.{eq-eqb, ne_eqb}
use Rattle.tables.proofs.Marks.{mark-done, mark_hit, mark_skip, mark-start, mark_stop}
use Rattle.tables.proofs.versions.wrote_items.Goals.{then-eq+then-is_write, else-eq, else-eq-via-then-eq+else-is_write, else-eq-via-else-eq}
use Rattle.tables.proofs.versions.wrote_items.Goals as goal

pub loop-p-init : goal.loop-p-init
loop-p-init c = mark-start

pub returns-then-p-eq0 : goal.returns-then-p-eq0
returns-then-p-eq0 c = mark_stop c.loop-p.invariant c.loop-p-test.true (eq-eqb _ _ c.if-p-eq0.true)

pub loop-p-preserved : goal.loop-p-preserved
loop-p-preserved c =
    let s = c.loop-p.invariant in
    let l = c.loop-p-test.true in
    let u = ne_eqb _ _ c.if-p-eq0.false in
    elim c.if-eq.branch [
      | then-eq+then-is_write w ↦ rw w.marks-is (mark_hit s l u (search (rules, tests)) _ w.item_of.ensures.item)
      | else-eq w ↦ rw w.marks-is
          (elim w.else-eq.branch [
            | else-eq-via-then-eq+else-is_write w' ↦ mark_skip s l u (search (rules, tests))
            | else-eq-via-else-eq w' ↦ mark_skip s l u (search (rules, tests))
          ])
    ]

pub returns : goal.returns
returns c = mark-done c.loop-p.invariant c.loop-p-test.false

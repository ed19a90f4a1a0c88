-- `tables::versions::latest_write` meets its contract: `Finding`. Assumes nothing.
use Rattle.std.proofs.Common.{rules, tests}
use borrow.Author.Tests.{eq-eqb, ne_eqb}
use Rattle.tables.proofs.Turns.{find_done, find_no, find_other, find_start, find_stop, find_yes}
use Rattle.tables.proofs.versions.latest_write.Goals.{then-is_write+then-eq+then-lt+then-lt-2, then-is_write+then-eq+else-lt, else-lt-via-then-lt+else-lt-2, else-lt-via-else-lt, else-is_write, else-is_write-via-then-is_write+else-eq, else-is_write-via-else-is_write}
use Rattle.tables.proofs.versions.latest_write.Goals as goal

pub loop-p-init : goal.loop-p-init
loop-p-init c = find_start _ _ _ _

pub returns-then-p-eq0 : goal.returns-then-p-eq0
returns-then-p-eq0 c = find_stop c.loop-p.invariant c.loop-p-test.true (eq-eqb _ _ c.if-p-eq0.true)

pub loop-p-preserved : goal.loop-p-preserved
loop-p-preserved c =
    let s = c.loop-p.invariant in
    let l = c.loop-p-test.true in
    let u = ne_eqb _ _ c.if-p-eq0.false in
    elim c.if-is_write.branch [
      | then-is_write+then-eq+then-lt+then-lt-2 w ↦ rw (w.latest-is, w.found-is)
          (find_yes s l u (search (rules, tests)) _ w.txn_of-writer.ensures _ w.row_of.ensures (search (rules, tests)) (search (rules, tests)) _ w.word_of.ensures)
      | then-is_write+then-eq+else-lt w ↦ rw (w.latest-is, w.found-is)
          (elim w.else-lt.branch [
            | else-lt-via-then-lt+else-lt-2 w' ↦ find_no s l u (search (rules, tests)) _ w.txn_of-writer.ensures _ w.row_of.ensures (search (rules, tests))
            | else-lt-via-else-lt w' ↦ find_no s l u (search (rules, tests)) _ w.txn_of-writer.ensures _ w.row_of.ensures (search (rules, tests))
          ])
      | else-is_write w ↦ rw (w.latest-is, w.found-is)
          (elim w.else-is_write.branch [
            | else-is_write-via-then-is_write+else-eq w' ↦ find_other s l u (search (rules, tests))
            | else-is_write-via-else-is_write w' ↦ find_other s l u (search (rules, tests))
          ])
    ]

pub returns : goal.returns
returns c = find_done c.loop-p.invariant c.loop-p-test.false

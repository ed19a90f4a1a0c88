-- `runner::play` meets its contract: so far the answers to the steps before an offset are written. What is left of the file falls. Assumes nothing.
use Rattle.std.proofs.Common.{arith}
use Rattle.reader.proofs.Places.{next-decoded, next_place}
use Rattle.runner.proofs.Ranges.{file_ranged}
use Rattle.runner.proofs.Turns.{bad_room, go_bad, go_done, go_inside, go_next, go_start, good_room, number_small}
use Rattle.runner.proofs.play.Goals as goal

pub loop-at-init : goal.loop-at-init
loop-at-init c = go_start _ _ _ (file_ranged _ (λ i. omega (arith, c.type_inv.file i))) c.closed-board.ensures

pub put_answer-requires : goal.put_answer-requires
put_answer-requires c = (bad_room c.loop-at.invariant c.loop-at-test.true (next-decoded _ _ c.step_at-found.ensures c.in_default.is) c.requires.1, omega arith)

pub returns-in_default-clause-out_after : goal.returns-in_default-clause-out_after
returns-in_default-clause-out_after c = (go_bad c.loop-at.invariant c.loop-at-test.true (next-decoded _ _ c.step_at-found.ensures c.in_default.is) (omega (arith, c.loop-at.invariant.at_most, c.requires.0)) _ c.put_answer.ensures).0

pub returns-in_default-clause-room_in_bytes : goal.returns-in_default-clause-room_in_bytes
returns-in_default-clause-room_in_bytes c = (go_bad c.loop-at.invariant c.loop-at-test.true (next-decoded _ _ c.step_at-found.ensures c.in_default.is) (omega (arith, c.loop-at.invariant.at_most, c.requires.0)) _ c.put_answer.ensures).1

pub put_answer-requires-in-loop-at : goal.put_answer-requires-in-loop-at
put_answer-requires-in-loop-at c = (good_room c.loop-at.invariant (next-decoded _ _ c.step_at-found.ensures c.in-Some.is) c.requires.1, number_small c.advance-answer.result c.from.ensures)

pub loop-at-smaller : goal.loop-at-smaller
loop-at-smaller c = omega (arith, (go_inside c.loop-at.invariant (next-decoded _ _ c.step_at-found.ensures c.in-Some.is)).0, (go_inside c.loop-at.invariant (next-decoded _ _ c.step_at-found.ensures c.in-Some.is)).1, next_place _ _ c.step_at-found.ensures c.in-Some.is)

pub loop-at-preserved : goal.loop-at-preserved
loop-at-preserved c = go_next c.loop-at.invariant (next-decoded _ _ c.step_at-found.ensures c.in-Some.is) _ _ _ c.advance-answer.ensures c.from.ensures (omega arith) c.put_answer-in-loop-at.ensures (next_place _ _ c.step_at-found.ensures c.in-Some.is)

pub returns-clause-out_after : goal.returns-clause-out_after
returns-clause-out_after c = (go_done c.loop-at.invariant c.loop-at-test.false).0

pub returns-clause-room_in_bytes : goal.returns-clause-room_in_bytes
returns-clause-room_in_bytes c = (go_done c.loop-at.invariant c.loop-at-test.false).1

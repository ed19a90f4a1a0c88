-- `runner::advance` meets its contract: a count of 0 tells the closed tables from sound ones. Assumes nothing.
use Rattle.std.proofs.Common.{arith}
use Rattle.runner.proofs.Closed.{ready_closed, ready_long, ready_sound}
use Rattle.runner.proofs.advance.Goals as goal

pub bounds-board-0 : goal.bounds-board-0
bounds-board-0 c = omega (arith, (ready_long _ c.requires).head)

pub on_closed-requires : goal.on_closed-requires
on_closed-requires c = ready_closed _ c.requires c.if-board-eq0.true

pub on_sound-requires : goal.on_sound-requires
on_sound-requires c = ready_sound _ c.requires c.if-board-eq0.false

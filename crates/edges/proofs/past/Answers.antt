-- `edges::past` meets its contract: `Passing`. Assumes nothing.
use Rattle.std.proofs.Common.{rules, lt-ltb, le-ltb}
use Rattle.edges.proofs.Draws.{pass_start, pass_next, pass_more, pass_done}
use Rattle.edges.proofs.past.Goals as goal

pub loop-j-init : goal.loop-j-init
loop-j-init c = pass_start 32 _ c.args.touched c.args.before (search rules) (search rules) (search rules)

pub loop-j-preserved-then-ends-j : goal.loop-j-preserved-then-ends-j
loop-j-preserved-then-ends-j c = pass_more c.loop-j.invariant 32 c.in-Some.j c.next.new.self.0 c.in-Some.ensures.steps (lt-ltb _ _ c.if-ends-j.true) c.with-all.ensures

pub loop-j-preserved : goal.loop-j-preserved
loop-j-preserved c = pass_next c.loop-j.invariant 32 c.in-Some.j c.next.new.self.0 c.in-Some.ensures.steps (le-ltb _ _ c.if-ends-j.false)

pub returns : goal.returns
returns c = pass_done c.loop-j.invariant c.in-None.ensures.steps

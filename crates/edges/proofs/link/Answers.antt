-- `edges::link` meets its contract: `Linking`. Assumes nothing.
use Rattle.std.proofs.Common.{rules}
use Rattle.edges.proofs.Draws.{link_next, link_done}
use Rattle.edges.proofs.link.Goals as goal

pub loop-j-preserved : goal.loop-j-preserved
loop-j-preserved c = link_next c.loop-j.invariant 32 c.in-Some.j c.next.new.self.0 c.in-Some.ensures.steps (search rules) c.with.ensures

pub returns : goal.returns
returns c = link_done c.loop-j.invariant c.in-None.ensures.steps

-- `edges::limit` meets its contract. Assumes nothing.
use Rattle.std.proofs.Common.{rules}
use Rattle.edges.proofs.Limits.{limit_unused, limit_active, limit_next, limit_done}
use Rattle.edges.proofs.limit.Goals as goal

pub returns-then-active : goal.returns-then-active
returns-then-active c = limit_active 4294967295 c.loop-r.invariant (search rules) (search rules) (search rules)

pub loop-r-preserved : goal.loop-r-preserved
loop-r-preserved c = limit_next 4294967295 c.loop-r.invariant (search rules) (search rules) (search rules)

pub returns-after-loop-r : goal.returns-after-loop-r
returns-after-loop-r c = limit_done 4294967295 c.loop-r.invariant (search rules)

pub returns-then-eq : goal.returns-then-eq
returns-then-eq c = limit_unused 4294967295 c.loop-r.invariant (search rules) (search rules)

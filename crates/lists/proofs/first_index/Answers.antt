-- `lists::first_index` meets its contract: `Seeking`. Assumes nothing.
use Rattle.std.proofs.Common.{rules}
use Rattle.std.proofs.lemmas.Fn.{says_at}
use Rattle.lists.proofs.Firsts.{seek_done, seek_here, seek_next}
use Rattle.lists.proofs.first_index.Goals as goal

pub returns-then-stops-clause-is : goal.returns-then-stops-clause-is
returns-then-stops-clause-is g c = seek_here c.loop-i.invariant _ (search rules) c.index-table-i.is (says_at g.F.Fn c.stops.ensures c.if-stops.true)

pub loop-i-preserved : goal.loop-i-preserved
loop-i-preserved g c = seek_next c.loop-i.invariant _ (search rules) c.index-table-i.is (says_at g.F.Fn c.stops.ensures c.if-stops.false)

pub returns-clause-is : goal.returns-clause-is
returns-clause-is g c = seek_done c.loop-i.invariant (search rules)

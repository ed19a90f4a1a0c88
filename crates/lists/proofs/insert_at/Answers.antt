-- `lists::insert_at` meets its contract: `Inserting`. Assumes nothing.
use Rattle.std.proofs.Common.{rules}
use Rattle.lists.proofs.Insertions.{insert_done, insert_next}
use Rattle.lists.proofs.insert_at.Goals as goal

pub loop-i-preserved : goal.loop-i-preserved
loop-i-preserved g c = insert_next c.loop-i.invariant c.index-table-i.result (search rules) (search rules)

pub returns : goal.returns
returns g c = insert_done c.loop-i.invariant (search rules)

-- `ending::end` meets its contract: the transaction is taken out, and then what is spent. Assumes nothing.
use Rattle.ending.proofs.Dropping.{ended_by}
use Rattle.ending.proofs.end.Goals as goal

pub returns : goal.returns
returns c = ended_by _ _ c.told-rows c.tidy.ensures c.remove.ensures c.remove_of.ensures

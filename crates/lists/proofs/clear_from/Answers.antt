-- `lists::clear_from` meets its contract. Assumes nothing.
use Rattle.std.proofs.Common.{rules}
use Rattle.lists.proofs.Loops.{clear_filled, clear_past}
use Rattle.lists.proofs.clear_from.Goals as goal

pub returns-then-from-table : goal.returns-then-from-table
returns-then-from-table g c = clear_filled _ _ _ _ _ _ c.if-from-table.true c.fill_with.ensures.len (λ x f r. search rules) c.fill_with.ensures.ran.1

pub returns-else-from-table : goal.returns-else-from-table
returns-else-from-table g c = clear_past _ _ _ c.if-from-table.false

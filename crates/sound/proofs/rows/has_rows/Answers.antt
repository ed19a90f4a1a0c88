-- `sound::rows::has_rows` meets its contract: the pass, and the pairs. Assumes nothing.
use Rattle.std.proofs.Common.{sym, ◌∙◌}
use Rattle.sound.proofs.Chains.{on, off}
use Rattle.sound.proofs.RowSentences.{rows_is}
use Rattle.sound.proofs.rows.has_rows.Goals as goal

pub returns-then-are_fine : goal.returns-then-are_fine
returns-then-are_fine c = on (sym c.are_fine.ensures ∙ c.if-are_fine.true) c.are_apart.ensures ∙ rows_is _

pub returns-else-are_fine : goal.returns-else-are_fine
returns-else-are_fine c = c.if-are_fine.false ∙ off _ (sym c.are_fine.ensures ∙ c.if-are_fine.false) ∙ rows_is _

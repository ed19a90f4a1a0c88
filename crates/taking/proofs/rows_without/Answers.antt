-- `taking::rows_without` meets its contract: the row at the next place stays or goes. Assumes nothing.
use Rattle.std.proofs.Common.{arith, rules}
use Rattle.std.proofs.lemmas.Grind.{common_steps}
use Rattle.std.proofs.Math.Seq.{drop-cons}
use Rattle.rules.specs.Raw.{zero_row}
use Rattle.taking.proofs.rows_without.Goals as goal

pub loop-at-preserved : goal.loop-at-preserved
loop-at-preserved c = let next = drop-cons c.loop-at.rows c.loop-at.at zero_row (search rules) in grind (arith, common_steps)

-- `runner::open_zeros` meets its contract. Assumes nothing.
use Rattle.std.proofs.Common.{arith, ◌∙◌, sym}
use Rattle.runner.proofs.Openings.{open_few, open_many}
use Rattle.runner.proofs.open_zeros.Goals as goal

pub returns-then-items-gt256 : goal.returns-then-items-gt256
returns-then-items-gt256 c = sym (open_many 32 256 _ _ (omega arith))

pub returns : goal.returns
returns c = c.open.ensures ∙ open_few 32 256 _ _ (omega arith)

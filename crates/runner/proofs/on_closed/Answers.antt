-- `runner::on_closed` meets its contract: on closed tables every step but an opening is answered 1. Assumes nothing.
use Rattle.std.proofs.Common.{sym}
use Rattle.laws.proofs.Refusals.{unsound-raw}
use Rattle.runner.proofs.Closed.{closed-unsound}
use Rattle.runner.proofs.Openings.{other_step}
use Rattle.runner.proofs.on_closed.Goals as goal

pub returns-in_default : goal.returns-in_default
returns-in_default c = sym (unsound-raw 32 256 _ _ (other_step _ c.in_default.not-Open) (closed-unsound _ c.requires))

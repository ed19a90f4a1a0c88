-- `scheduler::commit` meets its contract where the tables are refused. Assumes nothing.
use Rattle.scheduler.proofs.Exits.{refused}
use Rattle.scheduler.proofs.commit.Goals as goal

pub returns-in_err-check : goal.returns-in_err-check
returns-in_err-check c = refused _ _ c.from_residual.ensures c.in_err-check.ensures

-- `runner::on_sound` meets its contract: each step is its call. Assumes nothing.
use Rattle.rules.specs.Machine.{call_of}
use Rattle.rules.specs.Public.{call_on}
use Rattle.runner.proofs.Openings.{of_step}
use Rattle.runner.proofs.on_sound.Goals as goal

pub returns-in-Begin : goal.returns-in-Begin
unfolding call_on call_of
returns-in-Begin c = of_step _ c.in-Begin.is c.begin.ensures

pub returns-in-Read : goal.returns-in-Read
unfolding call_on call_of
returns-in-Read c = of_step _ c.in-Read.is c.read.ensures

pub returns-in-Write : goal.returns-in-Write
unfolding call_on call_of
returns-in-Write c = of_step _ c.in-Write.is c.write.ensures

pub returns-in-Commit : goal.returns-in-Commit
unfolding call_on call_of
returns-in-Commit c = of_step _ c.in-Commit.is c.commit.ensures

pub returns-in-Abort : goal.returns-in-Abort
unfolding call_on call_of
returns-in-Abort c = of_step _ c.in-Abort.is c.abort.ensures

pub returns-in-Latest : goal.returns-in-Latest
unfolding call_on call_of
returns-in-Latest c = of_step _ c.in-Latest.is c.latest.ensures

-- `ending::tidy` meets its contract: nothing is spent, or the spent ones are taken out. Assumes nothing.
use Rattle.ending.proofs.Tidying.{tidy-none, tidy_some}
use Rattle.ending.proofs.tidy.Goals as goal

pub returns-then-gone-eq0 : goal.returns-then-gone-eq0
returns-then-gone-eq0 c = λ s k u st. tidy-none _ _ s k st c.requires c.spent-gone.ensures c.if-gone-eq0.true

pub returns : goal.returns
returns c = λ s k u st. tidy_some _ _ s k st c.requires c.spent-gone.ensures c.pass_on.ensures c.recs_without.ensures c.rows_without.ensures

-- `tables::versions::visible` meets its contract: the version of the pass, or the one in the value tables. Assumes nothing.
use Rattle.std.proofs.Common.{◌∙◌}
use Rattle.tables.proofs.Best.{best-found}
use Rattle.tables.proofs.versions.visible.Goals as goal

pub returns : goal.returns
returns c = c.unwrap_or.ensures ∙ best-found _ c.requires.0 _ _ _ c.latest_write.ensures

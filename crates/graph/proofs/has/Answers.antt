-- `graph::has` meets its contract. Assumes nothing.
use Rattle.std.proofs.Common.{rules}
use Rattle.graph.specs.Sets.{member}
use Rattle.graph.proofs.has.Goals as goal

pub returns : goal.returns
unfolding member
returns c = search rules

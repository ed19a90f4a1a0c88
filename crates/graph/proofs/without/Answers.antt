-- `graph::without` meets its contract. Assumes nothing.
use Rattle.std.proofs.Common.{refl}
use Rattle.graph.specs.Sets.{outside}
use Rattle.graph.proofs.without.Goals as goal

pub returns : goal.returns
unfolding outside
returns c = refl

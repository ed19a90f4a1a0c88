-- `graph::ring` meets its contract. Assumes nothing.
use Rattle.std.proofs.Common.{ap, ◌∙◌}
use Rattle.rules.specs.Graph.{Nodes}
use Rattle.graph.specs.Sets.{edges}
use Rattle.graph.specs.Reach.{ringed}
use Rattle.graph.proofs.ring.Goals as goal

pub returns : goal.returns
unfolding ringed edges
returns c = c.has.ensures ∙ ap (λ (s : Nodes). s c.args.t) c.reach.ensures

-- `graph::reach` meets its contract: a visit that begins with nothing marked gives what is reached. Assumes nothing.
use Rattle.std.proofs.Common.{rules}
use Rattle.graph.specs.Sets.{member, edges}
use Rattle.graph.proofs.Tests.{failed}
use Rattle.graph.proofs.Below.{free-le}
use Rattle.graph.proofs.Sets.{member-zero, member_lt, edges_bound}
use Rattle.graph.proofs.Visits.{visited_reached}
use Rattle.graph.proofs.Reachable.{reached-is}
use Rattle.graph.proofs.reach.Goals as goal

pub visit-requires : goal.visit-requires
visit-requires c = free-le _ (member _)

pub returns : goal.returns
returns c =
    let g = c.args.g.now in
    let seeds = c.args.seeds in
    reached-is 32 (edges g) (edges_bound 32 g (search rules) (search rules))
    (member seeds) (member c.visit.result) (λ i. member_lt 32 seeds i c.ranges.seeds.fits)
    (visited_reached (edges g) (member seeds) (member 0) (member c.visit.result) (λ i. failed (member-zero i)) c.visit.ensures)

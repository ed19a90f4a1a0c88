-- `graph::first` meets its contract. Assumes nothing.
use Rattle.std.proofs.Common.{arith}
use Rattle.graph.proofs.Sets.{member_lt, member-lowest}
use Rattle.graph.proofs.first.Goals as goal

pub returns : goal.returns
returns c =
    let in_set = member-lowest 32 c.args.s (omega arith) c.ranges.s.fits in
    (member_lt 32 c.args.s _ c.ranges.s.fits in_set, in_set)

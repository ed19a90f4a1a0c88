-- `graph::are_apart` meets its contract. Assumes nothing.
use Rattle.graph.proofs.Sets.{apart-is}
use Rattle.graph.proofs.are_apart.Goals as goal

pub returns : goal.returns
returns c = apart-is _ c.args.a c.args.b c.ranges.a.fits c.ranges.b.fits

-- `edges::draw` meets its contract. Assumes nothing.
use Rattle.std.proofs.Common.{rules}
use Rattle.edges.proofs.Draws.{drawn}
use Rattle.edges.proofs.draw.Goals as goal

pub returns : goal.returns
returns c =
    drawn 32 c.args.touched c.args.by c.args.before c.args.i c.args.g.now (search rules) (search rules) (search rules) c.without.ensures c.link.ensures

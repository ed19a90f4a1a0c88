-- `edges::met` meets its contract. Assumes nothing.
use Rattle.std.proofs.Common.{arith}
use Rattle.graph.proofs.Taken.{without_one}
use Rattle.edges.proofs.met.Goals as goal

pub returns-clause-touched : goal.returns-clause-touched
returns-clause-touched c = without_one 32 c.args.touched c.args.at c.with-own.result (omega arith) (omega arith) c.with-own.ensures c.without.ensures

pub returns-clause-by : goal.returns-clause-by
returns-clause-by c = without_one 32 c.args.by c.args.at c.with-own.result (omega arith) (omega arith) c.with-own.ensures c.without-2.ensures

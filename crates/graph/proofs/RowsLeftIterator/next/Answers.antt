-- `next` of `graph::RowsLeft` meets its contract. Assumes nothing.
use Rattle.std.proofs.Common.{rules, arith}
use Rattle.graph.proofs.Taken.{without_one, without_falls}
use Rattle.graph.proofs.RowsLeftIterator.next.Goals as goal

pub returns-clause-steps : goal.returns-clause-steps
returns-clause-steps c =
    let in_set = c.in_ok-i.ensures in
    (in_set.0, in_set.1, without_one 32 c.args.self.now.0 c.in_ok-i.i c.with.result (omega arith) (omega arith) c.with.ensures c.without-self.ensures)

pub returns-clause-goes : goal.returns-clause-goes
returns-clause-goes c =
    let falls = without_falls 32 c.args.self.now.0 c.in_ok-i.i c.with.result (omega arith) (omega arith) c.with.ensures c.without-self.ensures c.in_ok-i.ensures.1 in
    search rules

-- `tables::records::place` meets its contract. Assumes nothing.
use Rattle.std.proofs.Common.{rules, tests}
use Rattle.bridge.specs.Whole.{stops_at}
use Rattle.tables.proofs.records.place.Goals as goal

pub returns : goal.returns
unfolding stops_at
returns c = c.first_index.ensures.is (stops_at c.args.key) (λ x b k. search (rules, tests))

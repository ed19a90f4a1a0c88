-- `edges::spent` meets its contract: the committed rows that no young one reaches. Assumes nothing.
use Rattle.std.proofs.Common.{rules, arith, ℕ, ◌∙◌, ap}
use Rattle.edges.specs.Blocks.{used_count}
use Rattle.edges.specs.Times.{placed, since}
use Rattle.edges.proofs.Spending.{spent_told}
use Rattle.edges.proofs.spent.Goals as goal

pub returns : goal.returns
returns c =
    spent_told 32 4294967295 (omega arith) c.args.rows.now c.args.g.now (search rules) c.late-young.result c.late.result c.reach.result (search rules) (search rules)
    (λ j. c.late-young.ensures j ∙ ap (λ (m : ℕ). placed (since m) c.args.rows.now (used_count c.args.rows.now) j) c.limit-m.ensures) c.late.ensures c.reach.ensures c.without.ensures

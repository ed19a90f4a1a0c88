-- `sound::rows::is_apart_from` meets its contract: all are apart from the first on that started later. Assumes nothing.
use Rattle.std.proofs.Common.{rules, sym, ◌∙◌}
use Rattle.sound.proofs.RowTests.{rest-after}
use Rattle.sound.proofs.rows.is_apart_from.Goals as goal

pub returns-then-lt : goal.returns-then-lt
returns-then-lt c =
    let f = c.requires in
    sym (rest-after f.0 f.1 c.args.a f.2 f.3 c.args.later.now c.loop-b.b-index f.4 (search rules) (search rules)) ∙ c.loop-b.invariant.same

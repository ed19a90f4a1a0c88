-- `sound::sound` meets its contract: the tests, no ring, none spent. Assumes nothing.
use Rattle.std.proofs.Common.{rules, not, ◌≡◌, sym, ap, ◌∙◌}
use Rattle.sound.specs.Shape.{raw}
use Rattle.sound.proofs.Sounding.{ringed-tables, sound-tables, untested}
use Rattle.sound.proofs.sound.Goals as goal

pub returns-then-not-is_tested : goal.returns-then-not-is_tested
returns-then-not-is_tested c =
    let a = c.args in
    untested 32 256 (raw a.head.now a.values.now a.writers.now a.rows.now a.recs.now) (sym c.is_tested.ensures.is ∙ c.if-not-is_tested.true)

pub returns-then-not-has_ring : goal.returns-then-not-has_ring
returns-then-not-has_ring c =
    let a = c.args in
    let same : c.unwrap-rows.result.now ≡ a.rows.now = search rules in
    sound-tables 32 256 (raw a.head.now a.values.now a.writers.now a.rows.now a.recs.now) (sym c.is_tested.ensures.is ∙ c.if-not-is_tested.false) (search rules)
    c.edges-g.result (rw (← same) c.edges-g.ensures) (sym c.has_ring.ensures ∙ c.if-not-has_ring.true) c.spent.result (rw (← same) c.spent.ensures)

pub returns-else-not-has_ring : goal.returns-else-not-has_ring
returns-else-not-has_ring c =
    let a = c.args in
    let same : c.unwrap-rows.result.now ≡ a.rows.now = search rules in
    ap not c.if-not-has_ring.false
    ∙ ringed-tables 32 256 (raw a.head.now a.values.now a.writers.now a.rows.now a.recs.now) (sym c.is_tested.ensures.is ∙ c.if-not-is_tested.false) (search rules)
    c.edges-g.result (rw (← same) c.edges-g.ensures) (sym c.has_ring.ensures ∙ c.if-not-has_ring.false)

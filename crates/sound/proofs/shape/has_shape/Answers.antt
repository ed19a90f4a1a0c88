-- `sound::shape::has_shape` meets its contract: what stands behind the used rows are free rows. Assumes nothing.
use Rattle.std.proofs.Common.{rules, arith, drop, ◌≡◌, ◌∙◌, ap}
use Rattle.std.proofs.lemmas.List.{take_rest}
use Rattle.rules.specs.Lists.{all}
use Rattle.sound.specs.Shape.{shaped, zeroed}
use Rattle.sound.proofs.Shapes.{rows-clear}
use Rattle.sound.proofs.shape.has_shape.Goals as goal

pub returns-then-is_clear-clause-is : goal.returns-then-is_clear-clause-is
unfolding shaped
returns-then-is_clear-clause-is c =
    let a = c.args in
    let rows : c.is_clear-2.result ≡ all zeroed (drop a.used a.rows.now) = c.is_clear-2.ensures ∙ rows-clear c.default.result (search rules) _ ∙ ap (all zeroed) (take_rest a.rows.now a.used) in
    grind (arith, take_rest, rows)

pub returns-else-is_clear-clause-is : goal.returns-else-is_clear-clause-is
unfolding shaped
returns-else-is_clear-clause-is c =
    let a = c.args in
    let rows : c.is_clear-2.result ≡ all zeroed (drop a.used a.rows.now) = c.is_clear-2.ensures ∙ rows-clear c.default.result (search rules) _ ∙ ap (all zeroed) (take_rest a.rows.now a.used) in
    grind (arith, take_rest, rows)

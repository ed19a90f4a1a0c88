-- `tables::rows::is_active` meets its contract. Assumes nothing.
use Rattle.std.proofs.Common.{rules, tests, eqb, ◌&&◌, ◌∙◌}
use Rattle.std.proofs.lemmas.Iterator.Search.{any_from_yields_List}
use Rattle.terms.specs.Words.{active, num}
use Rattle.tables.proofs.Chains.{active_listed, used_road}
use Rattle.tables.proofs.rows.is_active.Goals as goal

pub returns : goal.returns
returns c =
    any_from_yields_List (λ r. eqb (num r) c.args.t.0 && active r) _ _ _ c.any.ensures.ran
    (used_road (λ r. eqb (num r) 0) _ c.args.rows.now c.iter.ensures.rest c.take_while.ensures.source c.take_while.ensures.closure c.take_while.ensures.done (λ x b q k. search (rules, tests)))
    (λ x b q k. search (rules, tests))
    ∙ active_listed _ _

-- `tables::versions::beaten` meets its contract, by the marks of the items that t wrote. Assumes nothing.
use Rattle.std.proofs.Common.{rules, tests, eqb, ◌∙◌}
use Rattle.std.proofs.lemmas.Iterator.Search.{any_from_yields_List}
use Rattle.tables.proofs.Beats.{hits, hits-beaten}
use Rattle.tables.proofs.Chains.{used_road}
use Rattle.tables.proofs.versions.beaten.Goals as goal

pub returns : goal.returns
returns c =
    any_from_yields_List (hits c.args.rows.now c.wrote_items-mine.result c.row_of.result.start.0) _ _ _ c.any.ensures.ran
    (used_road (λ p. eqb p 0) _ c.args.recs.now c.iter.ensures.rest c.take_while.ensures.source c.take_while.ensures.closure c.take_while.ensures.done (λ x b q k. search (rules, tests)))
    (λ x b q k. search (rules, tests))
    ∙ hits-beaten c.args.rows.now _ _ _ c.wrote_items-mine.ensures _ c.row_of.ensures

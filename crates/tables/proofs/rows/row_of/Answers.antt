-- `tables::rows::row_of` meets its contract. Assumes nothing.
use Rattle.std.proofs.Common.{rules, tests, eqb, ap, ◌≡◌, ◌∙◌}
use Rattle.std.specs.Prelude.{option_map, unwrap_or}
use Rattle.std.proofs.lemmas.Iterator.Search.{find_from_yields_List}
use Rattle.terms.specs.Words.{num}
use Rattle.rules.specs.Raw.{zero_row}
use Rattle.tables.proofs.Chains.{used_road, row_found}
use Rattle.tables.proofs.rows.row_of.Goals as goal

pub returns : goal.returns
returns c =
    let h = find_from_yields_List (λ r. eqb (num r) c.args.t.0) _ _ c.find.result c.find.ensures.ran
    (used_road (λ r. eqb (num r) 0) _ c.args.rows.now c.iter.ensures.rest c.take_while.ensures.source c.take_while.ensures.closure c.take_while.ensures.done (λ x b q k. search (rules, tests)))
    (λ x b q k. search (rules, tests)) in
    let m : c.unwrap_or_default.result ≡ unwrap_or (option_map (λ y. y.now) c.find.result) zero_row = search rules in
    m ∙ ap (λ o. unwrap_or o zero_row) h ∙ row_found _ _

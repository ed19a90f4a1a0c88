-- `tables::records::word_in` meets its contract. Assumes nothing.
use Rattle.std.proofs.Common.{rules, tests, eqb, ap, ◌≡◌, ◌∙◌}
use Rattle.std.specs.Prelude.{option_map, unwrap_or}
use Rattle.std.proofs.lemmas.Iterator.Search.{find_from_yields_List}
use Rattle.rules.specs.Raw.{unpack}
use Rattle.rules.specs.State.{is_rec}
use Rattle.tables.proofs.Chains.{used_road, word_found}
use Rattle.tables.proofs.records.word_in.Goals as goal

pub returns : goal.returns
returns c =
    let h = find_from_yields_List (λ p. is_rec c.args.t.0 c.args.i.0 c.args.k (unpack p)) _ _ c.find.result c.find.ensures.ran
    (used_road (λ p. eqb p 0) _ c.args.recs.now c.iter.ensures.rest c.take_while.ensures.source c.take_while.ensures.closure c.take_while.ensures.done (λ x b q k. search (rules, tests)))
    (λ x b q k. search (rules, tests)) in
    let m : c.map_or.result ≡ unwrap_or (option_map (λ p. (unpack p).word) (option_map (λ y. y.now) c.find.result)) 0 = search rules in
    m ∙ ap (λ o. unwrap_or (option_map (λ p. (unpack p).word) o) 0) h ∙ word_found _ _ _ _

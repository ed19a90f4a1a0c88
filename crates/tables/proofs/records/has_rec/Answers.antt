-- `tables::records::has_rec` meets its contract. Assumes nothing.
use Rattle.std.proofs.Common.{rules, tests, eqb, ◌∙◌}
use Rattle.std.proofs.lemmas.Iterator.Search.{any_from_yields_List}
use Rattle.rules.specs.Raw.{unpack}
use Rattle.rules.specs.State.{is_rec}
use Rattle.tables.proofs.Chains.{recorded_listed, used_road}
use Rattle.tables.proofs.records.has_rec.Goals as goal

pub returns : goal.returns
returns c =
    any_from_yields_List (λ p. is_rec c.args.t.0 c.args.i.0 c.args.k (unpack p)) _ _ _ c.any.ensures.ran
    (used_road (λ p. eqb p 0) _ c.args.recs.now c.iter.ensures.rest c.take_while.ensures.source c.take_while.ensures.closure c.take_while.ensures.done (λ x b q k. search (rules, tests)))
    (λ x b q k. search (rules, tests))
    ∙ recorded_listed _ _ _ _

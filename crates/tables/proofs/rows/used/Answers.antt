-- `tables::rows::used` meets its contract. Assumes nothing.
use Rattle.std.proofs.Common.{rules, tests, eqb, sym, ◌∙◌}
use Rattle.terms.specs.Words.{num}
use Rattle.lists.proofs.Untils.{length-until}
use Rattle.tables.proofs.rows.used.Goals as goal

pub returns : goal.returns
returns c = c.first_index.ensures.is (λ r. eqb (num r) 0) (λ x b k. search (rules, tests)) ∙ sym (length-until _ _)

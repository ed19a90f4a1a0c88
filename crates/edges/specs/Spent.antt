-- The moment before which a commit is old: the start of the first active row. Assumes nothing.
use Rattle.std.specs.Prelude.{ℕ, true, false, List, [], ◌∷◌, eqb}
use Rattle.terms.specs.Words.{num, start, active}
use Rattle.terms.specs.declared.Row.{Row}

-- the start of the first active one of the used rows, or else a moment past all
unfoldable pub limit_of : ℕ → List Row → ℕ
limit_of top [] = top
limit_of top (r ∷ rs) = elim (eqb (num r) 0) [ true ↦ top | false ↦ elim (active r) [ true ↦ start r | false ↦ limit_of top rs ] ]

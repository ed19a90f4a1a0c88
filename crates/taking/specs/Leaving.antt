-- What is left of the rows and the records when the rows at some places go. Assumes nothing.
use Rattle.std.specs.List.{position_or_len}
use Rattle.std.specs.Prelude.{ℕ, ◌+◌, Bool, true, false, not, cond, List, [], ◌∷◌, eqb, Option, Some, None}
use Rattle.rules.specs.Raw.{unpack}
use Rattle.terms.specs.declared.Row.{Row}
use Rattle.terms.specs.Words.{num, txn}
use Rattle.graph.specs.Sets.{member}

-- the elements whose place does not pass the test, where the first has the place k
abbrev pub leaving : {A : Type 0} → (ℕ → Bool) → ℕ → List A → List A
leaving g k [] = []
leaving g k (x ∷ xs) = elim (g k) [ true ↦ leaving g (k + 1) xs | false ↦ x ∷ leaving g (k + 1) xs ]

-- the place of the row with a number, or past all
abbrev pub place_of : List Row → ℕ → ℕ
place_of rows t = position_or_len (λ r. eqb (num r) t) rows

-- the record's row does not go
abbrev pub stays : ℕ → List Row → ℕ → Bool
stays gone rows p = not (member gone (place_of rows (txn (unpack p))))

-- the place of the row with a number, if the row goes
abbrev pub gone_at : ℕ → List Row → ℕ → Option ℕ
gone_at gone rows t = cond (member gone (place_of rows t)) (Some (place_of rows t)) None

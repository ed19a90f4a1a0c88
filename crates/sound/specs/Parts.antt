-- The state that the used parts of lent tables make. Assumes nothing.
use Rattle.std.specs.Prelude.{ℕ, List, map}
use Rattle.terms.specs.declared.Row.{Row}
use Rattle.rules.specs.State.{State}
use Rattle.rules.specs.Raw.{unpack}

-- of a count, a next number and a next moment, the values and writers of the items, the used rows and the used records
abbrev pub held : (count next moment : ℕ) (values writers : List ℕ) (rows : List Row) (recs : List ℕ) → State
held count next moment values writers rows recs = record { count = count; next = next; moment = moment; values = values; writers = writers; rows = rows; recs = map unpack recs }

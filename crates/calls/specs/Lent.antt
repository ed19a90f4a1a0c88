-- The five lent tables as one record, and what an inner call is asked for. Assumes nothing.
use Rattle.std.specs.Prelude.{ℕ, ◌≡◌, true, List}
use Rattle.terms.specs.declared.Row.{Row}
use Rattle.calls.specs.declared.board.Board.{Board}
use Rattle.rules.specs.Raw.{Raw, sound_raw}

abbrev pub raw : List ℕ → List ℕ → List ℕ → List Row → List ℕ → Raw
raw head values writers rows recs = record { head = head; values = values; writers = writers; rows = rows; recs = recs }

-- the same of tables that are owned together
abbrev pub raw_on : Board → Raw
raw_on b = raw b.head b.values b.writers b.rows b.recs

-- the tables of the board of 32 rows and 256 records are sound
abbrev pub Sound : Raw → Type 0
Sound w = sound_raw 32 256 w ≡ true

-- The lengths and the zeros of lent tables, as a test of the raw lists. Assumes nothing.
use Rattle.std.specs.Prelude.{ℕ, Bool, ◌&&◌, List, eqb, leb, drop, get_or, length}
use Rattle.terms.specs.declared.Row.{Row}
use Rattle.terms.specs.Words.{done, num, start}
use Rattle.rules.specs.Lists.{all}
use Rattle.rules.specs.Raw.{Raw}

-- the entry, the record is unused; the row is unused, and all zero
abbrev pub is_zero : ℕ → Bool
is_zero v = eqb v 0

abbrev pub no_row : Row → Bool
no_row r = eqb (num r) 0

unfoldable pub zeroed : Row → Bool
zeroed r = eqb (num r) 0 && (eqb (start r) 0 && eqb (done r) 0)

-- five lists as tables
abbrev pub raw : List ℕ → List ℕ → List ℕ → List Row → List ℕ → Raw
raw head values writers rows recs = record { head = head; values = values; writers = writers; rows = rows; recs = recs }

-- the lengths, c for the values and writers, n for the rows, m for the records; the count at most c; and zeros behind the count, behind
-- the used rows and behind the used records
unfoldable pub shaped : (c n m used filed : ℕ) → Raw → Bool
shaped c n m used filed w =
    eqb (length w.head) 3
    && (eqb (length w.values) c
    && (eqb (length w.writers) c
    && (eqb (length w.rows) n
    && (eqb (length w.recs) m
    && (leb (get_or w.head 0 0) c
    && (all is_zero (drop (get_or w.head 0 0) w.values)
    && (all is_zero (drop (get_or w.head 0 0) w.writers)
    && (all zeroed (drop used w.rows)
    && all is_zero (drop filed w.recs)))))))))

-- Tables read as a state, the place of a record's key, and which rows and records are another's. Assumes nothing.
use Rattle.std.specs.Prelude.{ℕ, ◌/◌, ◌^◌, Bool, not, ◌||◌, List, map, eqb, leb, set}
use Rattle.terms.specs.declared.Row.{Row}
use Rattle.terms.specs.Words.{num, txn}
use Rattle.rules.specs.State.{State}
use Rattle.rules.specs.Raw.{Raw, unpack, used_rows, used_recs}
use Rattle.lists.specs.Tables.{first_index, insert_in}

-- some whole tables as a state: what scans rows and records does not see the padding
abbrev pub whole_of : List Row → List ℕ → List ℕ → List ℕ → State
whole_of rows recs values writers = record { count = 0; next = 0; moment = 0; values = values; writers = writers; rows = rows; recs = map unpack recs }

-- the same of the used rows and records alone, which are what `state_of` reads
abbrev pub used_of : List Row → List ℕ → List ℕ → List ℕ → State
used_of rows recs values writers = whole_of (used_rows rows) (used_recs recs) values writers

-- the tables with other rows, with other records
abbrev pub rows_in : Raw → List Row → Raw
rows_in w rs = record { head = w.head; values = w.values; writers = w.writers; rows = rs; recs = w.recs }

abbrev pub recs_in : Raw → List ℕ → Raw
recs_in w ps = record { head = w.head; values = w.values; writers = w.writers; rows = w.rows; recs = ps }

-- what stands above the word of a packed record: its key
abbrev pub key_of : ℕ → ℕ
key_of p = p / 2 ^ 32

-- where the record of a key stands or would stand: at the first that is unused or whose key is not below it
unfoldable pub stops_at : ℕ → ℕ → Bool
stops_at k p = eqb p 0 || leb k (key_of p)

abbrev pub place_of : ℕ → List ℕ → ℕ
place_of k ps = first_index (stops_at k) ps

-- a packed record put in at its place; put over the record at its place
abbrev pub put_in : ℕ → List ℕ → List ℕ
put_in p ps = insert_in (place_of (key_of p) ps) p ps

abbrev pub put_over : ℕ → List ℕ → List ℕ
put_over p ps = set ps (place_of (key_of p) ps) p

-- the row, the packed record is not t's
abbrev pub other_row : ℕ → Row → Bool
other_row t r = not (eqb (num r) t)

abbrev pub other_rec : ℕ → ℕ → Bool
other_rec t p = not (eqb (txn (unpack p)) t)

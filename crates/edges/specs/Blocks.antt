-- The records of each row stand together, row after row: a block for each row. What an index by item has of them. Assumes nothing.
use Rattle.std.specs.Prelude.{ℕ, zero, suc, ◌+◌, Bool, not, cond, List, eqb, get_or, drop}
use Rattle.rules.specs.Lists.{any, until}
use Rattle.rules.specs.Raw.{unpack, zero_row}
use Rattle.terms.specs.Words.{num, txn, item, is_write}
use Rattle.terms.specs.declared.Row.{Row}
use Rattle.lists.specs.Tables.{first_index}
use Rattle.graph.specs.Sets.{member}

-- the row at a place
abbrev pub at : List Row → ℕ → Row
at rs i = get_or rs i zero_row

-- how many rows are used: those before the first with number 0
abbrev pub used_count : List Row → ℕ
used_count rs = first_index (λ r. eqb (num r) 0) rs

-- the record is not t's
abbrev pub foreign : ℕ → ℕ → Bool
foreign t p = not (eqb (txn (unpack p)) t)

-- the records of t at the front
abbrev pub front : ℕ → List ℕ → List ℕ
front t ps = until (foreign t) ps

-- where the records of the row at a place begin, where they are those of the rows before it, row after row
unfoldable pub begin : List Row → List ℕ → ℕ → ℕ
begin rs ps zero = 0
begin rs ps (suc a) = begin rs ps a + first_index (foreign (num (at rs a))) (drop (begin rs ps a) ps)

-- the records of the row at a place
abbrev pub block : List Row → List ℕ → ℕ → List ℕ
block rs ps a = front (num (at rs a)) (drop (begin rs ps a) ps)

-- the set at e of a table has j
abbrev pub has : List ℕ → ℕ → ℕ → Bool
has tab e j = member (get_or tab e 0) j

-- an index by item has two sets for each of w items: at i the rows that read item i, and at w + i those that wrote it. A record puts its row into
-- one of them
abbrev pub slot : ℕ → ℕ → ℕ
slot w p = cond (is_write (unpack p)) (w + item (unpack p)) (item (unpack p))

-- it is the set at e
abbrev pub hits : ℕ → ℕ → ℕ → Bool
hits w e p = eqb (slot w p) e

-- a record of the row at j is one of those
abbrev pub marked : ℕ → List Row → List ℕ → ℕ → ℕ → Bool
marked w rs ps e j = any (hits w e) (block rs ps j)

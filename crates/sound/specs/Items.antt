-- Sets of rows by row and by item, as words, and the sentences on items as tests of one record. Assumes nothing.
use Rattle.std.specs.Prelude.{ℕ, suc, ◌-◌, Bool, ◌&&◌, cond, List, eqb, ltb, get_or, length}
use Rattle.std.specs.Int.Count.{count_leading_zeros}
use Rattle.terms.specs.declared.Row.{Row}
use Rattle.terms.specs.Words.{committed, done, is_write, item, num, start, txn}
use Rattle.rules.specs.Raw.{unpack, zero_row}

-- the row at an index
abbrev pub at : List Row → ℕ → Row
at rs i = get_or rs i zero_row

-- j stands before i, is committed, and ended before i's start
unfoldable pub earlier_than : List Row → ℕ → ℕ → Bool
earlier_than rs i j = ltb j i && (committed (at rs j) && ltb (done (at rs j)) (start (at rs i)))

-- the record is a write of item e by the committed row at j
unfoldable pub installs : List Row → ℕ → ℕ → ℕ → Bool
installs rs e j p = (ltb j (length rs) && committed (at rs j)) && (eqb (num (at rs j)) (txn (unpack p)) && (eqb (item (unpack p)) e && is_write (unpack p)))

-- the record is a write, and its row is committed
abbrev pub is_install : ℕ → Row → Bool
is_install p r = is_write (unpack p) && committed r

-- the highest of a set of w digits
abbrev pub top : ℕ → ℕ → ℕ
top w m = w - suc (count_leading_zeros w m)

-- the number of the highest row of the set, or, of the empty set, the writer in the value tables
unfoldable pub newest_of : ℕ → List ℕ → ℕ → ℕ → ℕ
newest_of w ns m base = cond (eqb m 0) base (get_or ns (top w m) 0)

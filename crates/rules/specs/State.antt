-- The state of the scheduler: of a whole history since the opening, or of what the tables hold. Assumes nothing.
use Rattle.std.specs.Prelude.{ℕ, ◌+◌, Bool, true, false, not, ◌&&◌, List, [], ◌∷◌, ◌++◌, map, replicate, length, eqb, ltb}
use Rattle.terms.specs.declared.Row.{Row}
use Rattle.terms.specs.declared.Rec.{Rec}
use Rattle.rules.specs.Lists.{any, keep}
use Rattle.terms.specs.Words.{num, start, done, row, active, committed, stamp, txn, item, key}

-- The count of items, the next number and the next moment; for each item the value and the writer that stand below all kept versions;
-- the rows by ascending number; the access records by transaction, item and kind.
pub record State : Type 0 where
  pub count : ℕ
  pub next : ℕ
  pub moment : ℕ
  pub values : List ℕ
  pub writers : List ℕ
  pub rows : List Row
  pub recs : List Rec

-- "Number 0 is the opening itself." "Moments: one counter, 1 at opening."
unfoldable pub opened : List ℕ → State
opened vs = record { count = length vs; next = 1; moment = 1; values = vs; writers = replicate (length vs) 0; rows = []; recs = [] }

-- "The closed state, in which a run of a step file begins, has everything 0."
unfoldable pub closed : State
closed = record { count = 0; next = 0; moment = 0; values = []; writers = []; rows = []; recs = [] }

-- the state with other rows, with other records
abbrev pub with_rows : State → List Row → State
with_rows s rs = record { count = s.count; next = s.next; moment = s.moment; values = s.values; writers = s.writers; rows = rs; recs = s.recs }

abbrev pub with_recs : State → List Rec → State
with_recs s xs = record { count = s.count; next = s.next; moment = s.moment; values = s.values; writers = s.writers; rows = s.rows; recs = xs }

-- the row with the number t, or the empty row
unfoldable pub row_of : List Row → ℕ → Row
row_of [] t = row 0 0 0
row_of (r ∷ rs) t = elim (eqb (num r) t) [ true ↦ r | false ↦ row_of rs t ]

-- when t started and when it committed
abbrev pub start_of : State → ℕ → ℕ
start_of s t = start (row_of s.rows t)

abbrev pub commit_of : State → ℕ → ℕ
commit_of s t = done (row_of s.rows t)

-- t is the number of an active transaction
unfoldable pub is_active : State → ℕ → Bool
is_active s t = any (λ r. eqb (num r) t && active r) s.rows

-- the numbers of the committed transactions
unfoldable pub commits : State → List ℕ
commits s = map num (keep committed s.rows)

-- the record is t's of item i and kind k
abbrev pub is_rec : ℕ → ℕ → ℕ → Rec → Bool
is_rec t i k x = eqb (txn x) t && eqb (item x) i && eqb x.kind k

-- t has a record of item i and kind k, and its word
unfoldable pub recorded : State → ℕ → ℕ → ℕ → Bool
recorded s t i k = any (is_rec t i k) s.recs

unfoldable pub word_in : ℕ → ℕ → ℕ → List Rec → ℕ
word_in t i k [] = 0
word_in t i k (x ∷ xs) = elim (is_rec t i k x) [ true ↦ x.word | false ↦ word_in t i k xs ]

-- t has a read record of item i; t has written item i, and the value that it wrote last
abbrev pub has_read : State → ℕ → ℕ → Bool
has_read s t i = recorded s t i 1

abbrev pub wrote : State → ℕ → ℕ → Bool
wrote s t i = recorded s t i 2

abbrev pub written : State → ℕ → ℕ → ℕ
written s t i = word_in t i 2 s.recs

-- the record goes to its place by key; one of the same key it replaces
unfoldable pub insert : Rec → List Rec → List Rec
insert x [] = x ∷ []
insert x (y ∷ ys) =
    elim (ltb (key x) (key y)) [
      | true ↦ x ∷ y ∷ ys
      | false ↦ elim (eqb (key x) (key y)) [ true ↦ x ∷ ys | false ↦ y ∷ insert x ys ]
    ]

-- "Each accepted begin and each accepted commit takes the next moment." Numbers are "given in order".
unfoldable pub begun : State → State
begun s =
    record {
      count = s.count;
      next = s.next + 1;
      moment = s.moment + 1;
      values = s.values;
      writers = s.writers;
      rows = s.rows ++ (row s.next s.moment 0 ∷ []);
      recs = s.recs;
    }

-- t is committed at the next moment
unfoldable pub committing : State → ℕ → State
committing s t =
    record {
      count = s.count;
      next = s.next;
      moment = s.moment + 1;
      values = s.values;
      writers = s.writers;
      rows = map (stamp t s.moment) s.rows;
      recs = s.recs;
    }

-- "Aborted transactions leave nothing."
unfoldable pub dropped : State → ℕ → State
dropped s t = with_recs (with_rows s (keep (λ r. not (eqb (num r) t)) s.rows)) (keep (λ x. not (eqb (txn x) t)) s.recs)

-- The table of answer numbers by propositions: when each answer is given, on any machine and state. Assumes nothing.
use Rattle.std.specs.Prelude.{ℕ, ◌≤◌, ◌≡◌, true, false, ◌⊎◌, length, Err, Ok}
use mathlib.Core.List.{Memᴰ}
use Rattle.terms.specs.declared.Refusal.{Refusal}
use Rattle.terms.specs.declared.Refusal.TheVariants.{UnsoundTables, UnknownItem, NotActive, NumbersUsedUp, RowsFull, RecordsFull, BadOpening, ClosesRing}
use Rattle.terms.specs.declared.Row.{Row}
use Rattle.terms.specs.Words.{Answer, num, done}
use Rattle.rules.specs.State.{State, has_read, wrote, committing}
use Rattle.rules.specs.Deps.{Beaten, Ring}
use Rattle.rules.specs.Machine.{Call, Open, Begin, Read, Write, Commit, Abort, Latest, Machine, value}

-- t is an active transaction's number
pub record Active (s : State) (t : ℕ) : Type 0 where
  pub row : Row
  pub here : Memᴰ row s.rows
  pub named : num row ≡ t
  pub open_ended : done row ≡ 0

-- the answers of a table's lines, each with its condition, and the answer where no condition holds
pub data Table : Type 1 where
  otherwise : Answer → Table
  line : Answer → Type 0 → Table → Table

-- "Given exactly when": the answer is that of the first line whose condition holds
abbrev pub Gives : Table → Answer → Type 0
Gives (otherwise a) b = b ≡ a
Gives (line a P t) b = (P × (b ≡ a)) ⊎ ((¬ P) × Gives t b)

module _ (m : Machine) (s : State) where
  abbrev pub Unsound : Type 0
  Unsound = m.unsound s ≡ true

  -- "a new record is needed and 256 are used"
  abbrev pub NoRecord : Type 0
  NoRecord = m.max_recs ≤ length (m.counted s).recs

  -- "count outside 1 to 256, starting values not count long"
  abbrev pub Opens : ℕ → ℕ → Type 0
  Opens c l = (1 ≤ c) × (c ≤ 256) × (l ≡ c)

  abbrev pub table : Call → Table
  table (Open c vs) = line (Err BadOpening) (¬ Opens c (length vs)) (otherwise (Ok 0))
  table Begin =
      line (Err UnsoundTables) Unsound (line (Err NumbersUsedUp) (s.next ≡ 65536) (line (Err RowsFull) (m.max_rows ≤ length (m.counted s).rows) (otherwise (Ok s.next))))
  table (Read t i) =
      line (Err UnsoundTables) Unsound (line (Err UnknownItem) (s.count ≤ i.0) (line (Err NotActive) (¬ Active s t.0)
      (line (Err RecordsFull) ((has_read s t.0 i.0 ≡ false) × (wrote s t.0 i.0 ≡ false) × NoRecord) (otherwise (Ok (value m s (Read t i)))))))
  table (Write t i v) =
      line (Err UnsoundTables) Unsound (line (Err UnknownItem) (s.count ≤ i.0) (line (Err NotActive) (¬ Active s t.0)
      (line (Err RecordsFull) ((wrote s t.0 i.0 ≡ false) × NoRecord) (otherwise (Ok 0)))))
  table (Commit t) =
      line (Err UnsoundTables) Unsound (line (Err NotActive) (¬ Active s t.0) (line (Err Refusal.Beaten) (Beaten s t.0)
      (line (Err ClosesRing) (Ring (committing s t.0)) (otherwise (Ok s.moment)))))
  table (Abort t) = line (Err UnsoundTables) Unsound (line (Err NotActive) (¬ Active s t.0) (otherwise (Ok 0)))
  table (Latest i) = line (Err UnsoundTables) Unsound (line (Err UnknownItem) (s.count ≤ i.0) (otherwise (Ok (value m s (Latest i)))))

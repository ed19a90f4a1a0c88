-- The machines: when each answer is given, with what value, and the state after it. Assumes nothing.
use Rattle.std.specs.Prelude.{ℕ, Bool, true, false, not, ◌&&◌, ◌||◌, cond, List, [], ◌∷◌, map, length, replicate, eqb, leb, Err, Ok}
use Rattle.terms.specs.declared.Refusal.TheVariants.{UnsoundTables, UnknownItem, NotActive, NumbersUsedUp, RowsFull, RecordsFull, Beaten, ClosesRing, BadOpening}
use Rattle.terms.specs.declared.TxnNo.{TxnNo}
use Rattle.terms.specs.declared.ItemNo.{ItemNo}
use Rattle.terms.specs.declared.Step.{Step}
use Rattle.terms.specs.declared.Given.{Given}
use Rattle.rules.specs.Lists.{last_or}
use Rattle.terms.specs.Words.{Answer, paper, accepted}
use Rattle.rules.specs.State.{State, opened, is_active, has_read, wrote, begun, committing, dropped}
use Rattle.rules.specs.Versions.{read_value, after_read, after_write, latest}
use Rattle.rules.specs.Deps.{beaten, ring}
use Rattle.rules.specs.Spent.{prune}
use Rattle.rules.specs.Sound.{sound}

-- A call: one of the seven. An opening has its count and its starting values.
pub data Call : Type 0 where
  Open : ℕ → List ℕ → Call
  Begin : Call
  Read : TxnNo → ItemNo → Call
  Write : TxnNo → ItemNo → ℕ → Call
  Commit : TxnNo → Call
  Abort : TxnNo → Call
  Latest : ItemNo → Call

-- the call that a step makes: "0 open (count; all values start at 0)"
unfoldable pub call_of : Step → Call
call_of (Step.Open c) = Open c (replicate c 0)
call_of Step.Begin = Begin
call_of (Step.Read t i) = Read t i
call_of (Step.Write t i v) = Write t i v
call_of (Step.Commit t) = Commit t
call_of (Step.Abort t) = Abort t
call_of (Step.Latest i) = Latest i

-- A machine: its sizes, the states that it refuses, where it counts its used rows and records, and what it forgets when a transaction ends.
pub record Machine : Type 0 where
  pub max_rows : ℕ
  pub max_recs : ℕ
  pub unsound : State → Bool
  pub counted : State → State
  pub tidy : State → State

-- the machine that never forgets a committed transaction, and refuses the closed state alone: its state is the whole history
unfoldable pub history : ℕ → ℕ → Machine
history n m = record { max_rows = n; max_recs = m; unsound = λ s. eqb s.count 0; counted = prune; tidy = λ s. s }

-- the machine that keeps only what the tables hold
unfoldable pub tables : ℕ → ℕ → Machine
tables n m = record { max_rows = n; max_recs = m; unsound = λ s. not (sound n m s); counted = λ s. s; tidy = prune }

-- "count outside 1 to 256, starting values not count long"
unfoldable pub openable : ℕ → List ℕ → Bool
openable c vs = leb 1 c && leb c 256 && eqb (length vs) c

module _ (m : Machine) (s : State) where
  -- no row is free; no record is free
  unfoldable pub no_row : Bool
  no_row = leb m.max_rows (length (m.counted s).rows)

  unfoldable pub no_rec : Bool
  no_rec = leb m.max_recs (length (m.counted s).recs)

  -- the refusals of a read or a write of item i by t, which needs a new record or not
  abbrev pub access : TxnNo → ItemNo → Bool → List (Answer × Bool)
  access t i new =
      (Err UnsoundTables, m.unsound s) ∷ (Err UnknownItem, leb s.count i.0) ∷ (Err NotActive, not (is_active s t.0)) ∷ (Err RecordsFull, new && no_rec) ∷ []

  -- the refusals of a call, each with the test of its line in the table of answer numbers, by ascending number
  unfoldable pub tests : Call → List (Answer × Bool)
  tests (Open c vs) = (Err BadOpening, not (openable c vs)) ∷ []
  tests Begin = (Err UnsoundTables, m.unsound s) ∷ (Err NumbersUsedUp, eqb s.next 65536) ∷ (Err RowsFull, no_row) ∷ []
  tests (Read t i) = access t i (not (has_read s t.0 i.0 || wrote s t.0 i.0))
  tests (Write t i v) = access t i (not (wrote s t.0 i.0))
  tests (Commit t) =
      (Err UnsoundTables, m.unsound s) ∷ (Err NotActive, not (is_active s t.0)) ∷ (Err Beaten, beaten s t.0) ∷ (Err ClosesRing, ring (committing s t.0)) ∷ []
  tests (Abort t) = (Err UnsoundTables, m.unsound s) ∷ (Err NotActive, not (is_active s t.0)) ∷ []
  tests (Latest i) = (Err UnsoundTables, m.unsound s) ∷ (Err UnknownItem, leb s.count i.0) ∷ []

  -- "Accepted values: begin the number, read and latest the value, commit the moment, others 0."
  unfoldable pub value : Call → ℕ
  value (Open c vs) = 0
  value Begin = s.next
  value (Read t i) = read_value s t.0 i.0
  value (Write t i v) = 0
  value (Commit t) = s.moment
  value (Abort t) = 0
  value (Latest i) = latest s i.0

  -- the state after an accepted call. "Open replaces everything in the tables."
  unfoldable pub after : Call → State
  after (Open c vs) = opened vs
  after Begin = begun s
  after (Read t i) = after_read s t.0 i.0
  after (Write t i v) = after_write s t.0 i.0 v
  after (Commit t) = m.tidy (committing s t.0)
  after (Abort t) = m.tidy (dropped s t.0)
  after (Latest i) = s

  -- "Refusals 1 to 6 and 9 leave the tables unchanged; 7 and 8 end the transaction as abort does."
  unfoldable pub refused : Answer → Call → State
  refused a (Open c vs) = s
  refused a Begin = s
  refused a (Read t i) = s
  refused a (Write t i v) = s
  refused a (Commit t) = cond (leb 7 (paper a).number) (after (Abort t)) s
  refused a (Abort t) = s
  refused a (Latest i) = s

-- the first refusal whose test is passed, the lowest; the answer a where none is
unfoldable pub lowest : Answer → List (Answer × Bool) → Answer
lowest a [] = a
lowest a (t ∷ ts) = elim t.1 [ true ↦ t.0 | false ↦ lowest a ts ]

-- the state after a call by its answer
unfoldable pub outcome : Machine → State → Call → Answer → Answer × State
outcome m s x a = (a, elim (accepted a) [ true ↦ after m s x | false ↦ refused m s a x ])

-- "Several at once: the lowest number"
unfoldable pub step : Machine → State → Call → Answer × State
step m s x = outcome m s x (lowest (Ok (value m s x)) (tests m s x))

-- a call with its answer, and the lines of some calls, one after the other
abbrev pub Line : Type 0
Line = Call × Answer

unfoldable pub lines : Machine → State → List Call → List Line
lines m s [] = []
lines m s (x ∷ xs) = (x, (step m s x).0) ∷ lines m (step m s x).1 xs

-- the answers to them, as document 01 gives them
unfoldable pub run : Machine → State → List Call → List Given
run m s xs = map (λ l. paper l.1) (lines m s xs)

-- the states after each of them, and after the last
unfoldable pub states : Machine → State → List Call → List State
states m s [] = []
states m s (x ∷ xs) = (step m s x).1 ∷ states m (step m s x).1 xs

unfoldable pub final : Machine → State → List Call → State
final m s xs = last_or s (states m s xs)

-- What each public call does to lent tables: its answer, and all tables afterwards, whatever the tables hold. Assumes nothing.
use Rattle.std.specs.Prelude.{ℕ, ◌^◌, Bool, true, false, ◌&&◌, List, [], ◌∷◌, length, eqb, ltb, Err, Ok}
use Rattle.terms.specs.Words.{Answer}
use Rattle.terms.specs.declared.Refusal.TheVariants.{UnsoundTables, BadOpening}
use Rattle.terms.specs.declared.TxnNo.{TxnNo}
use Rattle.terms.specs.declared.ItemNo.{ItemNo}
use Rattle.rules.specs.State.{State, opened}
use Rattle.rules.specs.Machine.{Call, Open, Begin, Read, Write, Commit, Abort, Latest, tables, step, openable, Line}
use Rattle.rules.specs.Raw.{Raw, state_of, raw_of, sound_raw}

-- the five tables have the lengths of a board of n rows and m records
unfoldable pub fitting : ℕ → ℕ → Raw → Bool
fitting n m w =
    eqb (length w.head) 3 && eqb (length w.values) 256 && eqb (length w.writers) 256
    && eqb (length w.rows) n && eqb (length w.recs) m

module _ (n m : ℕ) where
  -- a state, as the tables that hold it
  abbrev pub lent : Answer × State → Answer × Raw
  lent a = (a.0, raw_of n m a.1)

  -- a call that asks for sound tables: 1 and nothing changed where they are not, else what the table machine does
  unfoldable pub on_sound : Call → Raw → Answer × Raw
  on_sound x w = elim (sound_raw n m w) [ true ↦ lent (step (tables n m) (state_of w) x) | false ↦ (Err UnsoundTables, w) ]

  -- "Open replaces everything in the tables. Open doesn't test what stood there." 9: "or a table of wrong length"
  unfoldable pub open_on : ℕ → List ℕ → Raw → Answer × Raw
  open_on c vs w = elim (openable c vs && fitting n m w) [ true ↦ (Ok 0, raw_of n m (opened vs)) | false ↦ (Err BadOpening, w) ]

  abbrev pub begin_on : Raw → Answer × Raw
  begin_on w = on_sound Begin w

  abbrev pub read_on : TxnNo → ItemNo → Raw → Answer × Raw
  read_on t i w = on_sound (Read t i) w

  abbrev pub write_on : TxnNo → ItemNo → ℕ → Raw → Answer × Raw
  write_on t i v w = on_sound (Write t i v) w

  abbrev pub commit_on : TxnNo → Raw → Answer × Raw
  commit_on t w = on_sound (Commit t) w

  abbrev pub abort_on : TxnNo → Raw → Answer × Raw
  abort_on t w = on_sound (Abort t) w

  abbrev pub latest_on : ItemNo → Raw → Answer × Raw
  latest_on i w = on_sound (Latest i) w

  -- any of the seven; and some of them, one after the other
  unfoldable pub call_on : Call → Raw → Answer × Raw
  call_on (Open c vs) w = open_on c vs w
  call_on Begin w = begin_on w
  call_on (Read t i) w = read_on t i w
  call_on (Write t i v) w = write_on t i v w
  call_on (Commit t) w = commit_on t w
  call_on (Abort t) w = abort_on t w
  call_on (Latest i) w = latest_on i w

  unfoldable pub lines_on : Raw → List Call → List Line
  lines_on w [] = []
  lines_on w (x ∷ xs) = (x, (call_on x w).0) ∷ lines_on (call_on x w).1 xs

  unfoldable pub raws_on : Raw → List Call → List Raw
  raws_on w [] = []
  raws_on w (x ∷ xs) = (call_on x w).1 ∷ raws_on (call_on x w).1 xs

-- "Values 0 to 4,294,967,295": the call writes no larger one
unfoldable pub in_range : Call → Bool
in_range (Open c vs) = true
in_range Begin = true
in_range (Read t i) = true
in_range (Write t i v) = ltb v (2 ^ 32)
in_range (Commit t) = true
in_range (Abort t) = true
in_range (Latest i) = true

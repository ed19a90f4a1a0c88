-- The words: what a row, a record and a version say, and the number and value that document 01 gives to an answer. Assumes nothing.
use Rattle.std.specs.Prelude.{ℕ, ◌+◌, ◌*◌, Bool, not, ◌&&◌, ◌||◌, cond, eqb, ltb, Result, Ok, Err}
use Rattle.terms.specs.declared.Row.{Row}
use Rattle.terms.specs.declared.Rec.{Rec}
use Rattle.terms.specs.declared.Version.{Version}
use Rattle.terms.specs.declared.Given.{Given}
use Rattle.terms.specs.declared.Refusal.{Refusal}
use Rattle.terms.specs.declared.Refusal.TheVariants.{UnsoundTables, UnknownItem, NotActive, NumbersUsedUp, RowsFull, RecordsFull, Beaten, ClosesRing, BadOpening}

-- "A row: number, start moment, commit moment (0 while active)."
abbrev pub num : Row → ℕ
num r = r.number.0

abbrev pub start : Row → ℕ
start r = r.start.0

abbrev pub done : Row → ℕ
done r = r.commit.0

abbrev pub row : ℕ → ℕ → ℕ → Row
row n b e = record { number = record { 0 = n }; start = record { 0 = b }; commit = record { 0 = e } }

abbrev pub active : Row → Bool
active r = eqb (done r) 0

abbrev pub committed : Row → Bool
committed r = not (active r)

-- "A row's change from active to committed takes the row and hands the new row back."
abbrev pub commit_at : ℕ → Row → Row
commit_at m r = row (num r) (start r) m

-- the row, committed at a moment if it is t's
abbrev pub stamp : ℕ → ℕ → Row → Row
stamp t m r = cond (eqb (num r) t) (commit_at m r) r

-- the transaction goes on after the moment: it commits later, or is active still
abbrev pub goes_on : Row → ℕ → Bool
goes_on r m = active r || ltb m (done r)

-- two transactions are concurrent if each goes on after the other's start
abbrev pub concurrent : Row → Row → Bool
concurrent a b = goes_on b (start a) && goes_on a (start b)

-- "Access records: transaction, item, kind (1 read, 2 write), word."
abbrev pub txn : Rec → ℕ
txn x = x.txn.0

abbrev pub item : Rec → ℕ
item x = x.item.0

abbrev pub rec : ℕ → ℕ → ℕ → ℕ → Rec
rec t i k w = record { txn = record { 0 = t }; item = record { 0 = i }; kind = k; word = w }

abbrev pub is_read : Rec → Bool
is_read x = eqb x.kind 1

abbrev pub is_write : Rec → Bool
is_write x = eqb x.kind 2

-- "by transaction, then item, then kind": items and kinds are below 256
abbrev pub key : Rec → ℕ
key x = (txn x * 256 + item x) * 256 + x.kind

-- a version's writer
abbrev pub writer : Version → ℕ
writer v = v.writer.0

abbrev pub version : ℕ → ℕ → Version
version w v = record { writer = record { 0 = w }; value = v }

-- what a call answers: accepted with its value, or refused
abbrev pub Answer : Type 0
Answer = Result ℕ Refusal

-- the table of section "Answer numbers"; "Refused value: 0"
abbrev pub given : ℕ → ℕ → Given
given n v = record { number = n; value = v }

abbrev pub number_of : Refusal → ℕ
number_of UnsoundTables = 1
number_of UnknownItem = 2
number_of NotActive = 3
number_of NumbersUsedUp = 4
number_of RowsFull = 5
number_of RecordsFull = 6
number_of Beaten = 7
number_of ClosesRing = 8
number_of BadOpening = 9

abbrev pub paper : Answer → Given
paper (Ok v) = given 0 v
paper (Err r) = given (number_of r) 0

abbrev pub accepted : Answer → Bool
accepted a = eqb (paper a).number 0

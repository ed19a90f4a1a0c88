-- Lent tables: what they hold, which are sound, and what calls leave in them, written out, on a board of 2 rows and 2 records. Assumes nothing.
use Prim.Native.Nat.{ℕ}
use mathlib.Core.Path.{◌≡◌, refl}
use mathlib.Core.Bool.{true, false}
use mathlib.Core.List.{List, [], ◌∷◌, ◌++◌, map}
use lib.ListN.{replicate}
use Rattle.std.specs.Prelude.{Err, Ok}
use Rattle.terms.specs.declared.Refusal.TheVariants.{UnsoundTables, RowsFull, RecordsFull, BadOpening}
use Rattle.terms.specs.declared.Row.{Row}
use Rattle.terms.specs.Words.{Answer, row, rec}
use Rattle.rules.specs.Machine.{Call, Open}
use Rattle.rules.specs.Raw.{Raw, pack, unpack, state_of, raw_of, sound_raw}
use Rattle.rules.specs.Public.{call_on}
use Rattle.rules.specs.Book.{book}
use Rattle.rules.specs.Parlour.{opens, begin, read, write, commit, abort, latest, state}

-- 16 bits for the transaction, 8 for the item, 8 for the kind, 32 for the word
pub packed : (pack (rec 1 0 1 0) ≡ 0x0001_0001_0000_0000) × (pack (rec 0xabcd 0xef 2 0x12345678) ≡ 0xabcd_ef02_1234_5678)
    × (unpack 0xabcd_ef02_1234_5678 ≡ rec 0xabcd 0xef 2 0x12345678)
packed = (refl, refl, refl)

-- the tables with two items: next number and next moment, writers, rows, records
abbrev raw : List ℕ → List ℕ → List ℕ → List Row → List ℕ → Raw
raw h vs ws rs ps = record { head = h; values = vs; writers = ws; rows = rs; recs = ps }

abbrev values : List ℕ
values = 5 ∷ 6 ∷ replicate 254 0

abbrev no_writers : List ℕ
no_writers = replicate 256 0

abbrev free : Row
free = row 0 0 0

-- 1 is active and has written 7 to item 1
abbrev head : List ℕ
head = 2 ∷ 2 ∷ 2 ∷ []

abbrev rows : List Row
rows = row 1 1 0 ∷ free ∷ []

abbrev recs : List ℕ
recs = 0x0001_0102_0000_0007 ∷ 0 ∷ []

abbrev good : Raw
good = raw head values no_writers rows recs

-- the state that they hold, and the tables that hold it
pub held : (state_of good ≡ state 2 2 2 (5 ∷ 6 ∷ []) (0 ∷ 0 ∷ []) (row 1 1 0 ∷ []) (rec 1 1 2 7 ∷ []))
    × (raw_of 2 2 (state 2 2 2 (5 ∷ 6 ∷ []) (0 ∷ 0 ∷ []) (row 1 1 0 ∷ []) (rec 1 1 2 7 ∷ [])) ≡ good) × (sound_raw 2 2 good ≡ true)
unfolding book
held = (refl, refl, refl)

-- a table too short or too long
abbrev misfits : List Raw
misfits =
    raw (2 ∷ 2 ∷ []) values no_writers rows recs
    ∷ raw (2 ∷ 2 ∷ 2 ∷ 0 ∷ []) values no_writers rows recs
    ∷ raw head (5 ∷ 6 ∷ replicate 253 0) no_writers rows recs
    ∷ raw head (5 ∷ 6 ∷ replicate 255 0) no_writers rows recs
    ∷ raw head values (replicate 255 0) rows recs
    ∷ raw head values (replicate 257 0) rows recs
    ∷ raw head values no_writers (row 1 1 0 ∷ []) recs
    ∷ raw head values no_writers (row 1 1 0 ∷ free ∷ free ∷ []) recs
    ∷ raw head values no_writers rows (0x0001_0102_0000_0007 ∷ [])
    ∷ raw head values no_writers rows (0x0001_0102_0000_0007 ∷ 0 ∷ 0 ∷ [])
    ∷ []

-- or an entry past the count, a row or a record after a free one, a free row that is not all zero, a state that is not sound, the closed state
abbrev unsound : List Raw
unsound =
    misfits
    ++ raw head (5 ∷ 6 ∷ 1 ∷ replicate 253 0) no_writers rows recs
    ∷ raw head values (0 ∷ 0 ∷ 1 ∷ replicate 253 0) rows recs
    ∷ raw head values no_writers (free ∷ row 1 1 0 ∷ []) recs
    ∷ raw head values no_writers rows (0 ∷ 0x0001_0102_0000_0007 ∷ [])
    ∷ raw head values no_writers (row 1 1 0 ∷ row 0 2 0 ∷ []) recs
    ∷ raw head values no_writers (row 1 1 0 ∷ row 0 0 2 ∷ []) recs
    ∷ raw (2 ∷ 2 ∷ 3 ∷ []) values no_writers rows recs
    ∷ raw (0 ∷ 0 ∷ 0 ∷ []) (replicate 256 0) no_writers (free ∷ free ∷ []) (0 ∷ 0 ∷ [])
    ∷ []

-- none of them is sound: every call but an opening answers 1 and leaves them
abbrev Refuse : Call → Type 0
Refuse x = map (call_on 2 2 x) unsound ≡ map (λ w. (Err UnsoundTables, w)) unsound

pub unsound-tables : (map (sound_raw 2 2) unsound ≡ map (λ w. false) unsound)
    × Refuse begin × Refuse (read 1 0) × Refuse (write 1 0 3) × Refuse (commit 1) × Refuse (abort 1) × Refuse (latest 0)
unfolding book
unsound-tables = (refl, refl, refl, refl, refl, refl, refl)

-- a call on tables, its answer, and all tables after it
abbrev Does : List (Call × Raw × Answer × Raw) → Type 0
Does cs = map (λ c. call_on 2 2 c.0 c.1) cs ≡ map (λ c. (c.2, c.3)) cs

-- each of the seven on sound tables; an opening on tables of the right lengths that hold anything, and on one of a wrong length
pub calls :
    Does (
    (begin, good, Ok 2, raw (2 ∷ 3 ∷ 3 ∷ []) values no_writers (row 1 1 0 ∷ row 2 2 0 ∷ []) recs)
    ∷ (begin, raw (2 ∷ 3 ∷ 3 ∷ []) values no_writers (row 1 1 0 ∷ row 2 2 0 ∷ []) recs, (Err RowsFull), raw (2 ∷ 3 ∷ 3 ∷ []) values no_writers (row 1 1 0 ∷ row 2 2 0 ∷ []) recs)
    ∷ (read 1 0, good, Ok 5, raw head values no_writers rows (0x0001_0001_0000_0000 ∷ 0x0001_0102_0000_0007 ∷ []))
    ∷ (read 1 1, good, Ok 7, good)
    ∷ (write 1 1 9, good, Ok 0, raw head values no_writers rows (0x0001_0102_0000_0009 ∷ 0 ∷ []))
    ∷ (
      write 1 0 9,
      raw head values no_writers rows (0x0001_0001_0000_0000 ∷ 0x0001_0102_0000_0007 ∷ []),
      (Err RecordsFull),
      raw head values no_writers rows (0x0001_0001_0000_0000 ∷ 0x0001_0102_0000_0007 ∷ []),
    )
    ∷ (commit 1, good, Ok 2, raw (2 ∷ 2 ∷ 3 ∷ []) (5 ∷ 7 ∷ replicate 254 0) (0 ∷ 1 ∷ replicate 254 0) (free ∷ free ∷ []) (0 ∷ 0 ∷ []))
    ∷ (abort 1, good, Ok 0, raw head values no_writers (free ∷ free ∷ []) (0 ∷ 0 ∷ []))
    ∷ (latest 1, good, Ok 6, good)
    ∷ (Open 1 (4 ∷ []), good, Ok 0, raw (1 ∷ 1 ∷ 1 ∷ []) (4 ∷ replicate 255 0) no_writers (free ∷ free ∷ []) (0 ∷ 0 ∷ []))
    ∷ (
      Open 1 (4 ∷ []),
      raw (9 ∷ 8 ∷ 7 ∷ []) (replicate 256 3) (replicate 256 4) (row 6 6 6 ∷ row 5 5 5 ∷ []) (2 ∷ 1 ∷ []),
      Ok 0,
      raw (1 ∷ 1 ∷ 1 ∷ []) (4 ∷ replicate 255 0) no_writers (free ∷ free ∷ []) (0 ∷ 0 ∷ []),
    )
    ∷ (Open 1 (4 ∷ 4 ∷ []), good, (Err BadOpening), good)
    ∷ (opens 0, good, (Err BadOpening), good)
    ∷ (opens 257, good, (Err BadOpening), good)
    ∷ []
    )
unfolding book
calls = refl

-- where a table has a wrong length, an opening is refused and leaves all of them
pub bad_lengths : map (call_on 2 2 (opens 1)) misfits ≡ map (λ w. (Err BadOpening, w)) misfits
unfolding book
bad_lengths = refl

-- the sizes of the small board: 256 items, 32 rows, 256 records
pub small_board : sound_raw 32 256 (raw_of 32 256 (state 1 1 1 (4 ∷ []) (0 ∷ []) [] [])) ≡ true
unfolding book
small_board = refl

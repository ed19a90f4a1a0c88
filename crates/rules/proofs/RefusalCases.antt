-- Several refusals at once: for each two that can meet, a call that meets both and gets the lower number. Refusals 1 to 6 change nothing; 7 and 8
-- leave what an abort leaves. On a board of 2 rows and 2 records, or of 3 and 4. Assumes nothing.
use Prim.Native.Nat.{ℕ}
use mathlib.Core.Path.{◌≡◌, refl}
use mathlib.Core.Bool.{true}
use mathlib.Core.List.{List, [], ◌∷◌, map}
use lib.Dec.{ltb}
use Rattle.std.specs.Prelude.{Err, Ok}
use Rattle.terms.specs.declared.Refusal.TheVariants.{UnsoundTables, UnknownItem, NotActive, NumbersUsedUp, RowsFull, RecordsFull, Beaten, ClosesRing}
use Rattle.terms.specs.declared.Row.{Row}
use Rattle.terms.specs.declared.Rec.{Rec}
use Rattle.rules.specs.Lists.{keep, pairs}
use Rattle.terms.specs.Words.{Answer, row, rec, paper}
use Rattle.rules.specs.State.{State}
use Rattle.rules.specs.Machine.{Call, Open, Begin, Read, Write, Commit, Abort, Latest, Machine, tables, tests, step}
use Rattle.rules.specs.Book.{book}
use Rattle.rules.specs.Parlour.{begin, read, write, commit, abort, latest, state}

-- the refusals of every call are listed by ascending number
pub tests_ascend : (m : Machine) (s : State) (x : Call) → pairs (λ a b. ltb (paper a.0).number (paper b.0).number) (tests m s x) ≡ true
unfolding tests
tests_ascend m s (Open c vs) = refl
tests_ascend m s Begin = refl
tests_ascend m s (Read t i) = refl
tests_ascend m s (Write t i v) = refl
tests_ascend m s (Commit t) = refl
tests_ascend m s (Abort t) = refl
tests_ascend m s (Latest i) = refl

-- a call on a state, the refusals whose tests it passes, the answer that it gets, and the state that this leaves
abbrev Case : Type 0
Case = Call × State × List Answer × Answer × State

abbrev Refuses : ℕ → ℕ → List Case → Type 0
Refuses n m cs =
    (map (λ c. map (λ t. t.0) (keep (λ t. t.1) (tests (tables n m) c.1 c.0))) cs ≡ map (λ c. c.2) cs)
    × (map (λ c. step (tables n m) c.1 c.0) cs ≡ map (λ c. (c.3, c.4)) cs)

-- two items, opened with 5 and 6: next number and next moment, rows, records
abbrev two : ℕ → ℕ → List Row → List Rec → State
two n m rs xs = state 2 n m (5 ∷ 6 ∷ []) (0 ∷ 0 ∷ []) rs xs

-- 1 and 2 are active, and 1 has read both items: rows and records are full
abbrev full : ℕ → ℕ → State
full n m = two n m (row 1 1 0 ∷ row 2 2 0 ∷ []) (rec 1 0 1 0 ∷ rec 1 1 1 0 ∷ [])

-- 4 alone, 5 alone, 4 before 5, and 1 before each: the next moment is out of range
pub begins :
    Refuses 2 2 (
    (begin, two 65536 65536 [] [], (Err NumbersUsedUp) ∷ [], (Err NumbersUsedUp), two 65536 65536 [] [])
    ∷ (begin, full 3 3, (Err RowsFull) ∷ [], (Err RowsFull), full 3 3)
    ∷ (begin, full 65536 65536, (Err NumbersUsedUp) ∷ (Err RowsFull) ∷ [], (Err NumbersUsedUp), full 65536 65536)
    ∷ (begin, two 65536 1 [] [], (Err UnsoundTables) ∷ (Err NumbersUsedUp) ∷ [], (Err UnsoundTables), two 65536 1 [] [])
    ∷ (begin, full 3 9, (Err UnsoundTables) ∷ (Err RowsFull) ∷ [], (Err UnsoundTables), full 3 9)
    ∷ []
    )
unfolding book
begins = (refl, refl)

-- item 2 is unknown, number 3 was never given, and 2 has no record: 2, 3 and 6 alone and each two of them; and 1 before each
pub reads :
    Refuses 2 2 (
    (read 1 2, two 3 3 (row 1 1 0 ∷ []) [], (Err UnknownItem) ∷ [], (Err UnknownItem), two 3 3 (row 1 1 0 ∷ []) [])
    ∷ (read 3 1, two 3 3 (row 1 1 0 ∷ []) [], (Err NotActive) ∷ [], (Err NotActive), two 3 3 (row 1 1 0 ∷ []) [])
    ∷ (read 2 0, full 3 3, (Err RecordsFull) ∷ [], (Err RecordsFull), full 3 3)
    ∷ (read 3 2, two 3 3 (row 1 1 0 ∷ []) [], (Err UnknownItem) ∷ (Err NotActive) ∷ [], (Err UnknownItem), two 3 3 (row 1 1 0 ∷ []) [])
    ∷ (read 2 2, full 3 3, (Err UnknownItem) ∷ (Err RecordsFull) ∷ [], (Err UnknownItem), full 3 3)
    ∷ (read 3 0, full 3 3, (Err NotActive) ∷ (Err RecordsFull) ∷ [], (Err NotActive), full 3 3)
    ∷ (read 3 2, full 3 3, (Err UnknownItem) ∷ (Err NotActive) ∷ (Err RecordsFull) ∷ [], (Err UnknownItem), full 3 3)
    ∷ (read 1 2, two 3 9 (row 1 1 0 ∷ []) [], (Err UnsoundTables) ∷ (Err UnknownItem) ∷ [], (Err UnsoundTables), two 3 9 (row 1 1 0 ∷ []) [])
    ∷ (read 3 1, two 3 9 (row 1 1 0 ∷ []) [], (Err UnsoundTables) ∷ (Err NotActive) ∷ [], (Err UnsoundTables), two 3 9 (row 1 1 0 ∷ []) [])
    ∷ (read 2 0, full 3 9, (Err UnsoundTables) ∷ (Err RecordsFull) ∷ [], (Err UnsoundTables), full 3 9)
    ∷ []
    )
unfolding book
reads = (refl, refl)

-- the same of writes; 1 has read the items and not written them, so that a write of it needs a record too
pub writes :
    Refuses 2 2 (
    (write 1 2 7, two 3 3 (row 1 1 0 ∷ []) [], (Err UnknownItem) ∷ [], (Err UnknownItem), two 3 3 (row 1 1 0 ∷ []) [])
    ∷ (write 3 1 7, two 3 3 (row 1 1 0 ∷ []) [], (Err NotActive) ∷ [], (Err NotActive), two 3 3 (row 1 1 0 ∷ []) [])
    ∷ (write 1 0 7, full 3 3, (Err RecordsFull) ∷ [], (Err RecordsFull), full 3 3)
    ∷ (write 3 2 7, two 3 3 (row 1 1 0 ∷ []) [], (Err UnknownItem) ∷ (Err NotActive) ∷ [], (Err UnknownItem), two 3 3 (row 1 1 0 ∷ []) [])
    ∷ (write 2 2 7, full 3 3, (Err UnknownItem) ∷ (Err RecordsFull) ∷ [], (Err UnknownItem), full 3 3)
    ∷ (write 3 0 7, full 3 3, (Err NotActive) ∷ (Err RecordsFull) ∷ [], (Err NotActive), full 3 3)
    ∷ (write 1 2 7, two 3 9 (row 1 1 0 ∷ []) [], (Err UnsoundTables) ∷ (Err UnknownItem) ∷ [], (Err UnsoundTables), two 3 9 (row 1 1 0 ∷ []) [])
    ∷ (write 3 1 7, two 3 9 (row 1 1 0 ∷ []) [], (Err UnsoundTables) ∷ (Err NotActive) ∷ [], (Err UnsoundTables), two 3 9 (row 1 1 0 ∷ []) [])
    ∷ (write 2 0 7, full 3 9, (Err UnsoundTables) ∷ (Err RecordsFull) ∷ [], (Err UnsoundTables), full 3 9)
    ∷ []
    )
unfolding book
writes = (refl, refl)

-- 1 is active and has written item 0; 2 has written item 0 and committed at 3
abbrev raced : ℕ → ℕ → State
raced n m = two n m (row 1 1 0 ∷ row 2 2 3 ∷ []) (rec 1 0 2 7 ∷ rec 2 0 2 8 ∷ [])

-- 1 is active, has read item 0 and written item 1; 2 has read item 1, written item 0, and committed at 3
abbrev skewed : ℕ → ℕ → State
skewed n m = two n m (row 1 1 0 ∷ row 2 2 3 ∷ []) (rec 1 0 1 0 ∷ rec 1 1 2 7 ∷ rec 2 0 2 8 ∷ rec 2 1 1 0 ∷ [])

-- P8: 1 and 2 have read and written item 0, and 2 has committed at 3
abbrev both : ℕ → ℕ → State
both n m = two n m (row 1 1 0 ∷ row 2 2 3 ∷ []) (rec 1 0 1 0 ∷ rec 1 0 2 7 ∷ rec 2 0 1 0 ∷ rec 2 0 2 8 ∷ [])

-- 2 has written item 0 and committed at 3; 3 has read that version, written item 0 and committed at 5: were 2 committed once more, it would be beaten,
-- by itself too, and close a ring
abbrev kept : State
kept = two 4 6 (row 1 1 0 ∷ row 2 2 3 ∷ row 3 4 5 ∷ []) (rec 2 0 2 8 ∷ rec 3 0 1 2 ∷ rec 3 0 2 9 ∷ [])

-- what is left of each of the first three when 1 is ended
abbrev ended : State
ended = state 2 3 4 (8 ∷ 6 ∷ []) (2 ∷ 0 ∷ []) [] []

-- 3, 7 and 8 alone and each two of them; and 1 before each
pub commits :
    Refuses 3 4 (
    (commit 3, raced 3 4, (Err NotActive) ∷ [], (Err NotActive), raced 3 4)
    ∷ (commit 1, raced 3 4, (Err Beaten) ∷ [], (Err Beaten), ended)
    ∷ (commit 1, skewed 3 4, (Err ClosesRing) ∷ [], (Err ClosesRing), ended)
    ∷ (commit 2, raced 3 4, (Err NotActive) ∷ (Err Beaten) ∷ [], (Err NotActive), raced 3 4)
    ∷ (commit 2, kept, (Err NotActive) ∷ (Err Beaten) ∷ (Err ClosesRing) ∷ [], (Err NotActive), kept)
    ∷ (commit 1, both 3 4, (Err Beaten) ∷ (Err ClosesRing) ∷ [], (Err Beaten), ended)
    ∷ (commit 3, raced 3 9, (Err UnsoundTables) ∷ (Err NotActive) ∷ [], (Err UnsoundTables), raced 3 9)
    ∷ (commit 1, raced 3 9, (Err UnsoundTables) ∷ (Err Beaten) ∷ [], (Err UnsoundTables), raced 3 9)
    ∷ (commit 1, skewed 3 9, (Err UnsoundTables) ∷ (Err ClosesRing) ∷ [], (Err UnsoundTables), skewed 3 9)
    ∷ []
    )
unfolding book
commits = (refl, refl)

-- what an abort of 1 leaves is what 7 and 8 left; 3, and 1 before 3
pub aborts :
    Refuses 3 4 (
    (abort 1, raced 3 4, [], Ok 0, ended)
    ∷ (abort 1, skewed 3 4, [], Ok 0, ended)
    ∷ (abort 1, both 3 4, [], Ok 0, ended)
    ∷ (abort 2, raced 3 4, (Err NotActive) ∷ [], (Err NotActive), raced 3 4)
    ∷ (abort 2, raced 3 9, (Err UnsoundTables) ∷ (Err NotActive) ∷ [], (Err UnsoundTables), raced 3 9)
    ∷ []
    )
unfolding book
aborts = (refl, refl)

-- 2, and 1 before 2
pub latests :
    Refuses 3 4 (
    (latest 2, raced 3 4, (Err UnknownItem) ∷ [], (Err UnknownItem), raced 3 4)
    ∷ (latest 2, raced 3 9, (Err UnsoundTables) ∷ (Err UnknownItem) ∷ [], (Err UnsoundTables), raced 3 9)
    ∷ []
    )
unfolding book
latests = (refl, refl)

-- "number is not an active transaction's": 0, one never given, one that has ended, and one that is committed and kept
pub no_actives :
    Refuses 3 4 (
    (read 0 0, raced 4 5, (Err NotActive) ∷ [], (Err NotActive), raced 4 5)
    ∷ (read 9 0, raced 4 5, (Err NotActive) ∷ [], (Err NotActive), raced 4 5)
    ∷ (read 3 0, raced 4 5, (Err NotActive) ∷ [], (Err NotActive), raced 4 5)
    ∷ (read 2 0, raced 4 5, (Err NotActive) ∷ [], (Err NotActive), raced 4 5)
    ∷ (write 2 0 1, raced 4 5, (Err NotActive) ∷ [], (Err NotActive), raced 4 5)
    ∷ (abort 0, raced 4 5, (Err NotActive) ∷ [], (Err NotActive), raced 4 5)
    ∷ []
    )
unfolding book
no_actives = (refl, refl)

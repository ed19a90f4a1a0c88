-- Accepted calls, each with the state that it leaves written out: own writes, records, numbers, moments, spending. Assumes nothing.
use Prim.Native.Nat.{ℕ}
use mathlib.Core.Path.{◌≡◌, refl}
use mathlib.Core.List.{List, [], ◌∷◌, map}
use Rattle.std.specs.Prelude.{Err, Ok}
use Rattle.terms.specs.declared.Refusal.TheVariants.{NumbersUsedUp, RowsFull, Beaten, BadOpening}
use Rattle.terms.specs.declared.Row.{Row}
use Rattle.terms.specs.declared.Rec.{Rec}
use Rattle.terms.specs.Words.{Answer, row, rec}
use Rattle.rules.specs.State.{State, closed}
use Rattle.rules.specs.Machine.{Call, Open, tables, step}
use Rattle.rules.specs.Book.{book}
use Rattle.rules.specs.Parlour.{begin, read, write, commit, abort, latest, state}

-- a call on a state, its answer, and the state after it, on a board of n rows and m records
abbrev Does : ℕ → ℕ → List (Call × State × Answer × State) → Type 0
Does n m cs = map (λ c. step (tables n m) c.1 c.0) cs ≡ map (λ c. (c.2, c.3)) cs

-- two items, opened with 5 and 6: next number and next moment, rows, records
abbrev two : ℕ → ℕ → List Row → List Rec → State
two n m rs xs = state 2 n m (5 ∷ 6 ∷ []) (0 ∷ 0 ∷ []) rs xs

abbrev one : List Rec → State
one xs = two 2 2 (row 1 1 0 ∷ []) xs

-- a read makes a record where there is none, and none where it was read or written before; a read before one's own write stays a record;
-- a second write changes the word; with full records what needs none is accepted
pub accesses :
    Does 2 2 (
    (read 1 1, one [], Ok 6, one (rec 1 1 1 0 ∷ []))
    ∷ (read 1 0, one (rec 1 1 1 0 ∷ []), Ok 5, one (rec 1 0 1 0 ∷ rec 1 1 1 0 ∷ []))
    ∷ (read 1 1, one (rec 1 1 1 0 ∷ []), Ok 6, one (rec 1 1 1 0 ∷ []))
    ∷ (write 1 1 9, one [], Ok 0, one (rec 1 1 2 9 ∷ []))
    ∷ (read 1 1, one (rec 1 1 2 9 ∷ []), Ok 9, one (rec 1 1 2 9 ∷ []))
    ∷ (write 1 1 9, one (rec 1 1 1 0 ∷ []), Ok 0, one (rec 1 1 1 0 ∷ rec 1 1 2 9 ∷ []))
    ∷ (write 1 1 4, one (rec 1 1 1 0 ∷ rec 1 1 2 9 ∷ []), Ok 0, one (rec 1 1 1 0 ∷ rec 1 1 2 4 ∷ []))
    ∷ (read 1 1, one (rec 1 1 1 0 ∷ rec 1 1 2 9 ∷ []), Ok 9, one (rec 1 1 1 0 ∷ rec 1 1 2 9 ∷ []))
    ∷ (read 1 0, one (rec 1 0 1 0 ∷ rec 1 1 1 0 ∷ []), Ok 5, one (rec 1 0 1 0 ∷ rec 1 1 1 0 ∷ []))
    ∷ []
    )
unfolding book
accesses = refl

-- a read sees the latest commit before its start, and not one after it; the latest value is that of the latest commit, and no active one's
pub versions :
    Does 3 4 (
    (read 1 0, two 3 4 (row 1 1 0 ∷ row 2 2 3 ∷ []) (rec 2 0 2 8 ∷ []), Ok 5, two 3 4 (row 1 1 0 ∷ row 2 2 3 ∷ []) (rec 1 0 1 0 ∷ rec 2 0 2 8 ∷ []))
    ∷ (read 3 0, two 4 5 (row 1 1 0 ∷ row 2 2 3 ∷ row 3 4 0 ∷ []) (rec 2 0 2 8 ∷ []), Ok 8, two 4 5 (row 1 1 0 ∷ row 2 2 3 ∷ row 3 4 0 ∷ []) (rec 2 0 2 8 ∷ rec 3 0 1 2 ∷ []))
    ∷ (latest 0, two 4 5 (row 1 1 0 ∷ row 2 2 3 ∷ row 3 4 0 ∷ []) (rec 2 0 2 8 ∷ rec 3 0 2 9 ∷ []), Ok 8, two 4 5 (row 1 1 0 ∷ row 2 2 3 ∷ row 3 4 0 ∷ []) (rec 2 0 2 8 ∷ rec 3 0 2 9 ∷ []))
    ∷ (latest 0, two 4 6 (row 1 1 0 ∷ row 2 2 3 ∷ row 3 4 5 ∷ []) (rec 2 0 2 8 ∷ rec 3 0 2 9 ∷ []), Ok 9, two 4 6 (row 1 1 0 ∷ row 2 2 3 ∷ row 3 4 5 ∷ []) (rec 2 0 2 8 ∷ rec 3 0 2 9 ∷ []))
    ∷ (latest 1, two 3 4 (row 1 1 0 ∷ row 2 2 3 ∷ []) (rec 2 0 2 8 ∷ []), Ok 6, two 3 4 (row 1 1 0 ∷ row 2 2 3 ∷ []) (rec 2 0 2 8 ∷ []))
    ∷ []
    )
unfolding book
versions = refl

-- the first begin takes number 1 and moment 1; the last number is 65,535, and there is none after it; the last moment is 131,070, and a commit takes it
pub numbers :
    Does 2 2 (
    (begin, two 1 1 [] [], Ok 1, two 2 2 (row 1 1 0 ∷ []) [])
    ∷ (begin, two 65535 65535 [] [], Ok 65535, two 65536 65536 (row 65535 65535 0 ∷ []) [])
    ∷ (begin, two 65536 65536 (row 65535 65535 0 ∷ []) [], (Err NumbersUsedUp), two 65536 65536 (row 65535 65535 0 ∷ []) [])
    ∷ (begin, two 65535 131069 [] [], Ok 65535, two 65536 131070 (row 65535 131069 0 ∷ []) [])
    ∷ (commit 65535, two 65536 131070 (row 65535 131069 0 ∷ []) (rec 65535 1 2 7 ∷ []), Ok 131070, state 2 65536 131071 (5 ∷ 7 ∷ []) (0 ∷ 65535 ∷ []) [] [])
    ∷ []
    )
unfolding book
numbers = refl

-- kept committed rows count as used, and so do their records; a begin spends nothing
pub counted :
    Does 2 2 (
    (begin, two 3 4 (row 1 1 0 ∷ row 2 2 3 ∷ []) [], (Err RowsFull), two 3 4 (row 1 1 0 ∷ row 2 2 3 ∷ []) [])
    ∷ (begin, two 2 2 (row 1 1 0 ∷ []) (rec 1 0 1 0 ∷ []), Ok 2, two 3 3 (row 1 1 0 ∷ row 2 2 0 ∷ []) (rec 1 0 1 0 ∷ []))
    ∷ []
    )
unfolding book
counted = refl

-- a commit with an older one active keeps its row, though it has no record; with none active all are spent, and the latest commits' versions pass into
-- the value tables; an old one stays while an unspent one points to it, and both go when the last active one ends; an equal value is a write
pub spending :
    Does 3 4 (
    (commit 2, two 3 3 (row 1 1 0 ∷ row 2 2 0 ∷ []) [], Ok 3, two 3 4 (row 1 1 0 ∷ row 2 2 3 ∷ []) [])
    ∷ (
      commit 1,
      two 4 6 (row 1 1 0 ∷ row 2 2 3 ∷ row 3 4 5 ∷ []) (rec 2 0 2 8 ∷ rec 3 0 2 9 ∷ rec 3 1 2 4 ∷ []),
      Ok 6,
      state 2 4 7 (9 ∷ 4 ∷ []) (3 ∷ 3 ∷ []) [] [],
    )
    ∷ (
      commit 1,
      two 4 5 (row 1 1 0 ∷ row 2 2 3 ∷ row 3 4 0 ∷ []) (rec 1 0 1 0 ∷ rec 2 0 2 8 ∷ []),
      Ok 5,
      two 4 6 (row 1 1 5 ∷ row 2 2 3 ∷ row 3 4 0 ∷ []) (rec 1 0 1 0 ∷ rec 2 0 2 8 ∷ []),
    )
    ∷ (
      commit 1,
      two 4 5 (row 1 1 0 ∷ row 2 2 3 ∷ row 3 4 0 ∷ []) (rec 1 1 1 0 ∷ rec 2 0 2 8 ∷ []),
      Ok 5,
      state 2 4 6 (8 ∷ 6 ∷ []) (2 ∷ 0 ∷ []) (row 1 1 5 ∷ row 3 4 0 ∷ []) (rec 1 1 1 0 ∷ []),
    )
    ∷ (abort 3, two 4 6 (row 1 1 5 ∷ row 2 2 3 ∷ row 3 4 0 ∷ []) (rec 1 0 1 0 ∷ rec 2 0 2 8 ∷ rec 3 1 2 7 ∷ []), Ok 0, state 2 4 6 (8 ∷ 6 ∷ []) (2 ∷ 0 ∷ []) [] [])
    ∷ (commit 1, two 3 4 (row 1 1 0 ∷ row 2 2 3 ∷ []) (rec 1 0 2 5 ∷ rec 2 0 2 5 ∷ []), (Err Beaten), state 2 3 4 (5 ∷ 6 ∷ []) (2 ∷ 0 ∷ []) [] [])
    ∷ []
    )
unfolding book
spending = refl

-- an opening takes its values, whatever stood there; a refused one leaves what stood there
pub openings :
    Does 3 4 (
    (Open 2 (5 ∷ 6 ∷ []), closed, Ok 0, two 1 1 [] [])
    ∷ (Open 1 (7 ∷ []), two 3 4 (row 1 1 0 ∷ row 2 2 3 ∷ []) (rec 2 0 2 8 ∷ []), Ok 0, state 1 1 1 (7 ∷ []) (0 ∷ []) [] [])
    ∷ (Open 1 (7 ∷ 8 ∷ []), one [], (Err BadOpening), one [])
    ∷ (Open 2 (7 ∷ []), one [], (Err BadOpening), one [])
    ∷ (Open 0 [], one [], (Err BadOpening), one [])
    ∷ []
    )
unfolding book
openings = refl

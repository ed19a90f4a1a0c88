-- Every sentence of "Sound tables", each with states that break it and no other, and with their nearest sound neighbours. Assumes nothing.
use Prim.Native.Nat.{ℕ, zero, suc}
use mathlib.Core.Path.{◌≡◌, refl}
use mathlib.Core.Bool.{Bool, true, false, not}
use mathlib.Core.List.{List, [], ◌∷◌, map}
use lib.ListN.{replicate}
use Rattle.terms.specs.declared.Row.{Row}
use Rattle.terms.specs.declared.Rec.{Rec}
use Rattle.terms.specs.Words.{row, rec}
use Rattle.rules.specs.State.{State}
use Rattle.rules.specs.Deps.{ring}
use Rattle.rules.specs.Sound.{sized, ordered, headed, numbered, timed, owned, based, seen, unmixed, lean, sound}
use Rattle.rules.specs.Book.{book}
use Rattle.rules.specs.Parlour.{state}

-- the sentences one by one, on a board of 3 rows and 4 records: 0 lengths, 1 order, 2 head, 3 numbers, 4 moments, 5 records, 6 writers,
-- 7 read words, 8 concurrent writers, 9 ring, 10 spent
abbrev sentences : State → List Bool
sentences s =
    sized 3 4 s ∷ ordered s ∷ headed s ∷ numbered s ∷ timed s ∷ owned s ∷ based s ∷ seen s ∷ unmixed s ∷ not (ring s) ∷ lean s ∷ []

-- all hold but the one at a place
abbrev all_but : ℕ → List Bool
all_but k = go k 11
  where
    go : ℕ → ℕ → List Bool
    go k zero = []
    go zero (suc n) = false ∷ replicate n true
    go (suc k) (suc n) = true ∷ go k n

-- a state that breaks the sentence at place k alone, so that it is not sound; and a neighbour that is sound
abbrev Breaks : ℕ → List (State × State) → Type 0
Breaks k cs =
    (map (λ c. sentences c.0) cs ≡ map (λ c. all_but k) cs)
    × (map (λ c. sound 3 4 c.0) cs ≡ map (λ c. false) cs)
    × (map (λ c. sound 3 4 c.1) cs ≡ map (λ c. true) cs)

abbrev zeros : List ℕ
zeros = 0 ∷ 0 ∷ []

-- two items; next number and next moment, rows, records
abbrev two : ℕ → ℕ → List Row → List Rec → State
two n m rs xs = state 2 n m (5 ∷ 6 ∷ []) zeros rs xs

-- 1 is active and has read item 0; 2 has written item 1 and committed at 3
abbrev rows : List Row
rows = row 1 1 0 ∷ row 2 2 3 ∷ []

abbrev recs : List Rec
recs = rec 1 0 1 0 ∷ rec 2 1 2 7 ∷ []

abbrev good : State
good = two 3 4 rows recs

-- one item, and neither record nor row
abbrev bare : ℕ → ℕ → State
bare n m = state 1 n m (5 ∷ []) (0 ∷ []) [] []

-- four rows where three fit, five records where four fit
pub lengths :
    Breaks 0 (
    (two 5 5 (row 1 1 0 ∷ row 2 2 0 ∷ row 3 3 0 ∷ row 4 4 0 ∷ []) [], two 4 4 (row 1 1 0 ∷ row 2 2 0 ∷ row 3 3 0 ∷ []) [])
    ∷ (
      two 4 4 (row 1 1 0 ∷ row 2 2 0 ∷ row 3 3 0 ∷ []) (rec 1 0 1 0 ∷ rec 1 1 1 0 ∷ rec 2 0 1 0 ∷ rec 2 1 1 0 ∷ rec 3 0 1 0 ∷ []),
      two 4 4 (row 1 1 0 ∷ row 2 2 0 ∷ row 3 3 0 ∷ []) (rec 1 0 1 0 ∷ rec 1 1 1 0 ∷ rec 2 0 1 0 ∷ rec 2 1 1 0 ∷ []),
    )
    ∷ []
    )
unfolding book
lengths = (refl, refl, refl)

-- a value too few, a writer too few, rows out of order, records out of order, two reads of one item by one transaction
pub order :
    Breaks 1 (
    (state 2 3 4 (5 ∷ []) zeros rows recs, good)
    ∷ (state 2 3 4 (5 ∷ 6 ∷ []) (0 ∷ []) rows recs, good)
    ∷ (two 3 4 (row 2 1 0 ∷ row 1 2 3 ∷ []) (rec 1 1 2 7 ∷ rec 2 0 1 0 ∷ []), two 3 4 (row 1 1 0 ∷ row 2 2 3 ∷ []) (rec 1 0 1 0 ∷ rec 2 1 2 7 ∷ []))
    ∷ (two 3 4 rows (rec 2 1 2 7 ∷ rec 1 0 1 0 ∷ []), good)
    ∷ (two 3 4 rows (rec 1 1 1 0 ∷ rec 1 0 1 0 ∷ []), two 3 4 rows (rec 1 0 1 0 ∷ rec 1 1 1 0 ∷ []))
    ∷ (two 3 4 rows (rec 1 0 2 7 ∷ rec 1 0 1 0 ∷ []), two 3 4 rows (rec 1 0 1 0 ∷ rec 1 0 2 7 ∷ []))
    ∷ (two 3 4 rows (rec 1 0 1 0 ∷ rec 1 0 1 0 ∷ []), two 3 4 rows (rec 1 0 1 0 ∷ []))
    ∷ []
    )
unfolding book
order = (refl, refl, refl)

-- count 0 and 257; next number 65,537; next moment below N + kept committed rows, and above 2 × N − 1 − active rows
pub head :
    Breaks 2 (
    (state 0 3 4 [] [] rows [], state 1 3 4 (5 ∷ []) (0 ∷ []) rows [])
    ∷ (state 257 1 1 (replicate 257 0) (replicate 257 0) [] [], state 256 1 1 (replicate 256 0) (replicate 256 0) [] [])
    ∷ (bare 65537 65537, bare 65536 65536)
    ∷ (two 4 4 rows recs, two 4 5 rows recs)
    ∷ (two 3 5 rows recs, good)
    ∷ (bare 65536 65535, bare 65536 65536)
    ∷ (bare 65536 131072, bare 65536 131071)
    ∷ []
    )
unfolding book
head = (refl, refl, refl)

-- number 0, number N, starts that fall
pub numbers :
    Breaks 3 (
    (state 2 3 4 (5 ∷ 6 ∷ []) (1 ∷ 1 ∷ []) (row 0 1 0 ∷ row 2 2 3 ∷ []) (rec 0 0 1 1 ∷ rec 2 1 2 7 ∷ []), good)
    ∷ (two 3 4 (row 1 1 0 ∷ row 3 2 3 ∷ []) (rec 1 0 1 0 ∷ rec 3 1 2 7 ∷ []), good)
    ∷ (two 3 4 (row 1 2 0 ∷ row 2 1 3 ∷ []) recs, good)
    ∷ []
    )
unfolding book
numbers = (refl, refl, refl)

-- start 0, a start not below next moment, a commit before its own start, a commit not below next moment, two equal commits, a commit equal to
-- another one's start, and a commit equal to its own start
pub moments :
    Breaks 4 (
    (two 3 4 (row 1 0 0 ∷ row 2 2 3 ∷ []) recs, good)
    ∷ (two 4 5 (row 1 1 0 ∷ row 2 2 3 ∷ row 3 5 0 ∷ []) recs, two 4 5 (row 1 1 0 ∷ row 2 2 3 ∷ row 3 4 0 ∷ []) recs)
    ∷ (two 3 4 (row 1 1 0 ∷ row 2 3 2 ∷ []) recs, good)
    ∷ (two 3 4 (row 1 1 0 ∷ row 2 2 4 ∷ []) recs, good)
    ∷ (two 4 6 (row 1 1 0 ∷ row 2 2 4 ∷ row 3 3 4 ∷ []) recs, two 4 6 (row 1 1 0 ∷ row 2 2 4 ∷ row 3 3 5 ∷ []) recs)
    ∷ (two 4 5 (row 1 1 0 ∷ row 2 2 3 ∷ row 3 3 0 ∷ []) recs, two 4 5 (row 1 1 0 ∷ row 2 2 3 ∷ row 3 4 0 ∷ []) recs)
    ∷ (two 3 4 (row 1 1 0 ∷ row 2 3 3 ∷ []) recs, good)
    ∷ []
    )
unfolding book
moments = (refl, refl, refl)

-- kind 3, kind 0, a record of no row, an item not below count
pub records :
    Breaks 5 (
    (two 3 4 rows (rec 1 0 3 0 ∷ rec 2 1 2 7 ∷ []), good)
    ∷ (two 3 4 rows (rec 1 0 0 0 ∷ rec 2 1 2 7 ∷ []), good)
    ∷ (two 3 4 rows (rec 1 0 1 0 ∷ rec 2 1 2 7 ∷ rec 5 0 2 1 ∷ []), good)
    ∷ (two 3 4 rows (rec 1 0 1 0 ∷ rec 2 2 2 7 ∷ []), good)
    ∷ []
    )
unfolding book
records = (refl, refl, refl)

-- a writer that is N, a writer that has a row
pub writers :
    Breaks 6 (
    (state 2 3 4 (5 ∷ 6 ∷ []) (0 ∷ 3 ∷ []) rows recs, good)
    ∷ (state 2 3 4 (5 ∷ 6 ∷ []) (0 ∷ 2 ∷ []) rows recs, state 2 4 5 (5 ∷ 6 ∷ []) (0 ∷ 2 ∷ []) (row 1 1 0 ∷ row 3 2 3 ∷ []) (rec 1 0 1 0 ∷ rec 3 1 2 7 ∷ []))
    ∷ []
    )
unfolding book
writers = (refl, refl, refl)

-- a read word that names neither the value table's writer nor the kept write that is visible; and one that names a commit after the start
pub words :
    Breaks 7 (
    (two 3 4 rows (rec 1 0 1 2 ∷ rec 2 1 2 7 ∷ []), good)
    ∷ (
      two 4 5 (row 1 1 0 ∷ row 2 2 3 ∷ row 3 4 0 ∷ []) (rec 2 1 2 7 ∷ rec 3 1 1 0 ∷ []),
      two 4 5 (row 1 1 0 ∷ row 2 2 3 ∷ row 3 4 0 ∷ []) (rec 2 1 2 7 ∷ rec 3 1 1 2 ∷ []),
    )
    ∷ (two 3 4 rows (rec 1 1 1 2 ∷ rec 2 1 2 7 ∷ []), two 3 4 rows (rec 1 1 1 0 ∷ rec 2 1 2 7 ∷ []))
    ∷ []
    )
unfolding book
words = (refl, refl, refl)

-- two committed writers of item 1, concurrent, and one after the other
pub concurrent-writers :
    Breaks 8 ((
      two 4 6 (row 1 1 0 ∷ row 2 2 4 ∷ row 3 3 5 ∷ []) (rec 2 1 2 7 ∷ rec 3 1 2 8 ∷ []),
      two 4 6 (row 1 1 0 ∷ row 2 2 3 ∷ row 3 4 5 ∷ []) (rec 2 1 2 7 ∷ rec 3 1 2 8 ∷ []),
    )
    ∷ []
    )
unfolding book
concurrent-writers = (refl, refl, refl)

-- each of two committed ones has read what the other wrote; without one of the reads
pub no_ring :
    Breaks 9 ((
      two 4 6 (row 1 1 0 ∷ row 2 2 4 ∷ row 3 3 5 ∷ []) (rec 2 0 1 0 ∷ rec 2 1 2 7 ∷ rec 3 0 2 8 ∷ rec 3 1 1 0 ∷ []),
      two 4 6 (row 1 1 0 ∷ row 2 2 4 ∷ row 3 3 5 ∷ []) (rec 2 0 1 0 ∷ rec 2 1 2 7 ∷ rec 3 0 2 8 ∷ []),
    )
    ∷ []
    )
unfolding book
no_ring = (refl, refl, refl)

-- a commit before the one active start, and after it; two old ones with a dependency between them; an old one to which an unspent one points,
-- without and with the read that makes it point there; a committed row with none active
pub none_spent :
    Breaks 10 (
    (two 3 4 (row 1 1 2 ∷ row 2 3 0 ∷ []) [], two 3 4 (row 1 1 3 ∷ row 2 2 0 ∷ []) [])
    ∷ (two 4 6 (row 1 1 3 ∷ row 2 2 4 ∷ row 3 5 0 ∷ []) (rec 1 0 1 0 ∷ rec 2 0 2 7 ∷ []), two 4 6 (row 1 1 3 ∷ row 2 2 5 ∷ row 3 4 0 ∷ []) (rec 1 0 2 7 ∷ rec 2 0 1 0 ∷ []))
    ∷ (two 4 6 (row 1 1 5 ∷ row 2 2 3 ∷ row 3 4 0 ∷ []) (rec 2 0 2 7 ∷ []), two 4 6 (row 1 1 5 ∷ row 2 2 3 ∷ row 3 4 0 ∷ []) (rec 1 0 1 0 ∷ rec 2 0 2 7 ∷ []))
    ∷ (two 2 3 (row 1 1 2 ∷ []) [], two 2 3 [] [])
    ∷ []
    )
unfolding book
none_spent = (refl, refl, refl)

-- What the four tables are after an end or a commit, by the state that they hold. Assumes nothing.
use Rattle.std.specs.Prelude.{ℕ, ◌≤◌, ◌≡◌, Bool, true, ◌&&◌, List, ltb, length}
use Rattle.terms.specs.declared.Row.{Row}
use Rattle.rules.specs.Raw.{raw_of}
use Rattle.rules.specs.Sound.{lawful}
use Rattle.rules.specs.Spent.{prune}
use Rattle.rules.specs.State.{State, dropped, is_active}
use Rattle.laws.proofs.Raw.{Fits}
use Rattle.graph.specs.Reach.{ringed}
use Rattle.graph.specs.Sets.{edges as in_table}
use Rattle.taking.specs.Leaving.{place_of}

-- the values, writers, rows and records are those of a state, on a board of n rows and m records
pub record Stand (n m : ℕ) (s : State) (values writers : List ℕ) (rows : List Row) (recs : List ℕ) : Type 0 where
  pub values_are : values ≡ (raw_of n m s).values
  pub writers_are : writers ≡ (raw_of n m s).writers
  pub rows_are : rows ≡ (raw_of n m s).rows
  pub recs_are : recs ≡ (raw_of n m s).recs

-- the state is lawful, and has room in the tables
pub record Roomy (n m : ℕ) (s : State) : Type 0 where
  pub lawful-is : lawful s ≡ true
  pub fits : Fits s
  pub rows_few : length s.rows ≤ n
  pub recs_few : length s.recs ≤ m

-- the tables of a state become those of another, for each state that they may hold
abbrev pub Becomes : ℕ → ℕ → (State → State) → (State → Type 0) → List ℕ → List ℕ → List Row → List ℕ → List ℕ → List ℕ → List Row → List ℕ → Type 0
Becomes n m f asked values₀ writers₀ rows₀ recs₀ values writers rows recs =
    (s : State) → Roomy n m s → asked s → Stand n m s values₀ writers₀ rows₀ recs₀ → Stand n m (f s) values writers rows recs

-- "the spent ones lose rows and records, and their versions pass into the value tables"
abbrev pub Tidied : ℕ → ℕ → List ℕ → List ℕ → List Row → List ℕ → List ℕ → List ℕ → List Row → List ℕ → Type 0
Tidied n m = Becomes n m prune (λ s. Unit)

-- the same after all of an active transaction is taken out
abbrev pub Ended : ℕ → ℕ → ℕ → List ℕ → List ℕ → List Row → List ℕ → List ℕ → List ℕ → List Row → List ℕ → Type 0
Ended n m t = Becomes n m (λ s. prune (dropped s t)) (λ s. is_active s t ≡ true)

-- a ring passes through the row with the number t
unfoldable pub ring_at : ℕ → List ℕ → List Row → ℕ → Bool
ring_at n g rs t = ltb (place_of rs t) n && ringed n (in_table g) (place_of rs t)

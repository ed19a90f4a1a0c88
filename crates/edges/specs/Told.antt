-- What the masks of edges say: the edges of the state that the tables hold, where that state passes the tests. Assumes nothing.
use Rattle.std.specs.Prelude.{ℕ, ◌≡◌, true, List, map, length}
use Rattle.rules.specs.Raw.{unpack, used_rows, used_recs}
use Rattle.rules.specs.Sound.{lawful, tested}
use Rattle.rules.specs.Spent.{is_spent}
use Rattle.rules.specs.State.{State}
use Rattle.terms.specs.Words.{num}
use Rattle.terms.specs.declared.Row.{Row}
use Rattle.theory.specs.Edges.{edges}
use Rattle.graph.specs.Sets.{edges as in_table, member}
use Rattle.edges.specs.Blocks.{at}

-- the state has the used rows and the used records
pub record Holds (rs : List Row) (ps : List ℕ) (s : State) : Type 0 where
  pub rows : s.rows ≡ used_rows rs
  pub recs : s.recs ≡ map unpack (used_recs ps)

-- the table of n sets has the edges between the rows at their places, for each state that the tables hold and that passes the tests
pub record EdgesTold (n : ℕ) (rs : List Row) (ps g : List ℕ) : Type 0 where
  pub len : length g ≡ n
  pub is : (s : State) → tested s ≡ true → Holds rs ps s → (i j : ℕ) → in_table g i j ≡ edges s (num (at s.rows i)) (num (at s.rows j))

-- the set has the spent rows, for each lawful state whose rows are the used ones and whose edges are those of the table
pub record SpentTold (rs : List Row) (g : List ℕ) (r : ℕ) : Type 0 where
  pub is : (s : State) → lawful s ≡ true → s.rows ≡ used_rows rs → ((i j : ℕ) → in_table g i j ≡ edges s (num (at s.rows i)) (num (at s.rows j)))
      → (i : ℕ) → member r i ≡ is_spent s (num (at s.rows i))

-- A set that is made test by test, and a table of such sets. Assumes nothing.
use Rattle.std.specs.Prelude.{◌≡◌, false, List, ℕ, ◌≤◌, ◌<◌}
use Rattle.rules.specs.Graph.{Nodes, Edges}
use Rattle.graph.specs.Sets.{member, edges}

-- the set m has those below n that pass the test, and no other
pub record Filled (m n : ℕ) (f : Nodes) : Type 0 where
  pub low : (j : ℕ) → j < n → member m j ≡ f j
  pub high : (j : ℕ) → n ≤ j → member m j ≡ false

-- the first n sets of the table g have the edges of the test below n
pub record Tabled (n : ℕ) (g : List ℕ) (e : Edges) : Type 0 where
  pub is : (a b : ℕ) → a < n → b < n → edges g a b ≡ e a b

-- Sets of nodes that hold every ring, and how they shrink. Assumes nothing.
use Rattle.std.specs.Prelude.{ℕ, T}
use Rattle.rules.specs.Graph.{Edges, Nodes, Reaches}

-- the set has each node of a ring, and the start of each edge that leads into it
pub record Shed (e : Edges) (s : Nodes) : Type 0 where
  pub into : (i j : ℕ) → T (e i j) → T (s j) → T (s i)
  pub rings : (i : ℕ) → Reaches e i i → T (s i)

-- r is s without some nodes that are on no ring; from each node of r an edge leads into s
pub record Peeled (e : Edges) (s r : Nodes) : Type 0 where
  pub shed : Shed e s → Shed e r
  pub held : (i : ℕ) → T (r i) → (j : ℕ) × T (e i j) × T (s j)

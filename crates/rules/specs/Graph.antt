-- Graphs on numbers, over any edges: ways, rings, and the least set of nodes that are old with all that leads to them. Assumes nothing.
use Rattle.std.specs.Prelude.{ℕ, Bool, T}

-- a set of nodes and the edges between nodes are tests; `T b` says that the test b is passed
abbrev pub Nodes : Type 0
Nodes = ℕ → Bool

abbrev pub Edges : Type 0
Edges = ℕ → ℕ → Bool

-- from a node to itself, or along an edge and on from there
pub data Way (e : Edges) : ℕ → ℕ → Type 0 where
  end : {a : ℕ} → Way e a a
  step : {a b c : ℕ} → T (e a b) → Way e b c → Way e a c

-- by one edge or more
abbrev pub Reaches : Edges → ℕ → ℕ → Type 0
Reaches e a c = (b : ℕ) × T (e a b) × Way e b c

-- some node reaches itself
abbrev pub Cycle : Edges → Type 0
Cycle e = (a : ℕ) × Reaches e a a

-- the least set that has each old node all of whose incoming edges come from the set
pub data Least (e : Edges) (old : Nodes) : ℕ → Type 0 where
  least : {b : ℕ} → T (old b) → ((a : ℕ) → T (e a b) → Least e old a) → Least e old b

-- A visit: what it adds to a set, and how many nodes are left to it. Assumes nothing.
use Rattle.std.specs.Prelude.{Bool, true, false, ◌⊎◌, ℕ, zero, suc, T}
use Rattle.rules.specs.Graph.{Nodes, Edges, Way}

abbrev pub unless : Bool → ℕ → ℕ
unless true n = n
unless false n = suc n

-- how many of the nodes below n are not in s
unfoldable pub free : ℕ → Nodes → ℕ
free zero s = zero
free (suc n) s = unless (s n) (free n s)

-- r is s, and what is reached from some nodes of `from`; all that leads on from what is new is followed
pub record Visiting (e : Edges) (from s r : Nodes) : Type 0 where
  pub grows : (i : ℕ) → T (s i) → T (r i)
  pub only : (i : ℕ) → T (r i) → T (s i) ⊎ ((a : ℕ) × T (from a) × Way e a i)
  pub followed : (i : ℕ) → T (r i) → T (s i) ⊎ ((j : ℕ) → T (e i j) → T (r j))

-- and from all of them
pub record Visited (e : Edges) (from s r : Nodes) : Type 0 where
  pub visiting : Visiting e from s r
  pub all : (i : ℕ) → T (from i) → T (r i)

-- What is reached from some nodes, as a set that has it and no more, and as a definition that computes. Assumes nothing.
use Rattle.std.specs.Prelude.{Bool, false, ◌||◌, ◌&&◌, List, map, ℕ, T, get_or}
use Rattle.rules.specs.Lists.{any, times, upfrom}
use Rattle.rules.specs.Graph.{Nodes, Edges, Way}

-- no edge leads out of the set
abbrev pub Closed : Edges → Nodes → Type 0
Closed e s = (i j : ℕ) → T (s i) → T (e i j) → T (s j)

-- s is what is reached from the seeds: it has them, no edge leads out of it, and a way leads from a seed to each of it
pub record Reached (e : Edges) (seeds s : Nodes) : Type 0 where
  pub has : (i : ℕ) → T (seeds i) → T (s i)
  pub closed : Closed e s
  pub only : (i : ℕ) → T (s i) → (a : ℕ) × T (seeds a) × Way e a i

-- the values of a test at 0 to n − 1, and the test again
abbrev pub tab : ℕ → Nodes → List Bool
tab n s = map s (upfrom 0 n)

abbrev pub on : List Bool → Nodes
on l i = get_or l i false

-- one pass: the set, with those to which an edge leads from one of it
unfoldable pub spread : ℕ → Edges → List Bool → List Bool
spread n e l = tab n (λ j. on l j || any (λ i. on l i && e i j) (upfrom 0 n))

-- what is reached from the seeds, of the nodes below n: as many passes as there are nodes
unfoldable pub reachable : ℕ → Edges → Nodes → Nodes
reachable n e seeds = on (times n (spread n e) (tab n seeds))

-- a ring passes through t: it is reached from the ends of its own edges
unfoldable pub ringed : ℕ → Edges → ℕ → Bool
ringed n e t = reachable n e (e t) t

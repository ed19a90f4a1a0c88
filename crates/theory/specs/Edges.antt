-- Edges between committed transactions that need no read words and no immediate successors, and lead where dependencies lead. Assumes nothing.
use Rattle.std.specs.Prelude.{ℕ, ◌&&◌, ◌||◌, false, not, true, ◌↔◌, ◌≡◌, eqb, ltb}
use mathlib.Core.List.{Memᴰ}
use Rattle.rules.specs.Deps.{Ring, among, beaten, depends}
use Rattle.rules.specs.Graph.{Cycle, Edges, Least, Reaches, Way}
use Rattle.rules.specs.Lists.{any, mem}
use Rattle.rules.specs.Sound.{lawful, tested}
use Rattle.rules.specs.Spent.{Spent, old}
use Rattle.rules.specs.State.{State, commit_of, commits, committing, is_active, start_of, wrote}
use Rattle.terms.specs.Words.{item, txn}

-- a has read or written an item that b wrote
unfoldable pub touches : State → Edges
touches s a b = any (λ x. eqb (txn x) a && wrote s b (item x)) s.recs

-- a to b, a and b different: b wrote what a touched, and committed after a's start; or a wrote what b touched, and committed before b's start
unfoldable pub edge : State → Edges
edge s a b = not (eqb a b) && ((touches s a b && ltb (start_of s a) (commit_of s b)) || (touches s b a && ltb (commit_of s a) (start_of s b)))

-- the edges between committed transactions
unfoldable pub edges : State → Edges
edges s = among s (edge s)

-- ---- what is proved of them: on states that pass the tests there are the same ways, the same rings and the same spent ones
abbrev pub WaysSame : Type 0
WaysSame = (s : State) → tested s ≡ true → (a b : ℕ) → Way (depends s) a b ↔ Way (edges s) a b

abbrev pub ReachesSame : Type 0
ReachesSame = (s : State) → tested s ≡ true → (a b : ℕ) → Reaches (depends s) a b ↔ Reaches (edges s) a b

abbrev pub RingsSame : Type 0
RingsSame = (s : State) → tested s ≡ true → Ring s ↔ Cycle (edges s)

abbrev pub SpentSame : Type 0
SpentSame = (s : State) → tested s ≡ true → (t : ℕ) → Spent s t ↔ Least (edges s) (λ b. mem b (commits s) && old s b) t

-- With no ring before, a ring after a commit passes through the committed one.
abbrev pub RingThrough : Type 0
RingThrough =
    (s : State) → lawful s ≡ true → (t : ℕ) → is_active s t ≡ true → beaten s t ≡ false → Ring (committing s t) ↔ Reaches (edges (committing s t)) t t

-- With no ring, a committed one is spent exactly if no way leads to it from a committed one that is not old.
abbrev pub SpentReached : Type 0
SpentReached =
    (s : State) → lawful s ≡ true → (t : ℕ)
    → Spent s t ↔ (Memᴰ t (commits s) × ((a : ℕ) → Memᴰ a (commits s) → old s a ≡ false → ¬ Way (edges s) a t))

-- By the edges without immediate successors there are the same ways, rings and spent ones as by dependencies. Assumes nothing.
use Prim.Native.Nat.{ℕ}
use mathlib.Core.Bool.{◌&&◌, false, false≢true, true}
use mathlib.Core.Logic.{◌↔◌, ◌⊎◌, inl, inr, ⊎_elim}
use mathlib.Core.Path.{◌∙◌, ◌≡◌, subst, sym}
use lib.Dec.{T}
use Rattle.laws.proofs.Graph.{cycle_map, founded_by, join, last-edge, least_back, least_founded, least-old, least_there, reach_map, way_map}
use Rattle.laws.proofs.Lists.{T_in, T_out, ◌∈◌, and_both, and_left, and_right, mem_in, passed}
use Rattle.laws.proofs.Rings.{depends_in, depends_out, rank}
use Rattle.laws.proofs.Spending.{spent_commits}
use Rattle.rules.specs.Deps.{Ring, depends}
use Rattle.rules.specs.Graph.{Edges, Least, Nodes, Reaches, Way}
use Rattle.rules.specs.Lists.{mem}
use Rattle.rules.specs.Sound.{lawful}
use Rattle.rules.specs.Spent.{Spent, old}
use Rattle.rules.specs.State.{State, commits, committing}
use Rattle.theory.proofs.Actives.{Active, active_out}
use Rattle.theory.proofs.EdgesSame.{dep-edge, edge_reaches, edges_out}
use Rattle.theory.proofs.Facts.{Facts, facts_of, lawful_facts, lawful-free, tested_from}
use Rattle.theory.proofs.FactsCommit.{facts_commit}
use Rattle.theory.proofs.PrunedCommit.{commits-commit_out, dep-commit}
use Rattle.theory.proofs.Ways.{climbs}
use Rattle.theory.specs.Edges.{ReachesSame, RingThrough, RingsSame, SpentReached, SpentSame, WaysSame, edges}

-- where each edge of one kind is one of another, and each of the other is a way of the one, the least set of the one is in that of the other
least_in : {d e : Edges} {old : Nodes} → ((a b : ℕ) → T (d a b) → T (e a b)) → ((a b : ℕ) → T (e a b) → Reaches d a b) → {b : ℕ} → Least d old b → Least e old b
least_in direct winding {b} (Least.least o f) =
    Least.least o (λ a h.
    let r = winding a b h in
    let u = last-edge a r.0 r.1 r.2 in
    least_back (way_map (λ a b k. (b, direct a b k, Way.end)) u.1) (least_in direct winding (f u.0 u.2)))

pub ways_same : WaysSame
ways_same s h a b = let v = facts_of s h in (way_map (λ a b t. (b, dep-edge s v a b t, Way.end)), way_map (edge_reaches s v))

pub reaches_same : ReachesSame
reaches_same s h a b = let v = facts_of s h in (reach_map (λ a b t. (b, dep-edge s v a b t, Way.end)) a, reach_map (edge_reaches s v) a)

pub rings-same : RingsSame
rings-same s h = let v = facts_of s h in (cycle_map (λ a b t. (b, dep-edge s v a b t, Way.end)), cycle_map (edge_reaches s v))

pub spent_same : SpentSame
spent_same s h t = let v = facts_of s h in (least_in (dep-edge s v) (edge_reaches s v), least_there (λ b p. least-old p) (λ a b p h. dep-edge s v a b h))

-- ---- a ring that a commit closes
turn : {e : Edges} (a b : ℕ) {c : ℕ} → T (e a b) → Way e b c → Way e c a → Reaches e c c
turn a b h p Way.end = (b, h, p)
turn a b h p (Way.step {b = d} k q) = (d, k, join q (Way.step h p))

module _ (s : State) (v : Facts s) (free : ¬ Ring s) (t : ℕ) (on : Active s t) where
  abbrev z : State
  z = committing s t

  -- a committed one after the commit
  there_z : (a b : ℕ) → T (depends z a b) → ((a ∈ commits s) ⊎ (a ≡ t)) × ((b ∈ commits s) ⊎ (b ≡ t))
  there_z a b h = let u = depends_out z a b h in (commits-commit_out s v t on u.0, commits-commit_out s v t on u.1)

  before : (a b : ℕ) → a ∈ commits s → b ∈ commits s → T (depends z a b) → T (depends s a b)
  before a b ma mb h = depends_in s ma mb (sym (dep-commit s v t on a mb) ∙ (depends_out z a b h).2)

  -- a way from one that was committed before avoids t or passes through it
  through : {b c : ℕ} → b ∈ commits s → Way (depends z) b c → Way (depends s) b c ⊎ (Way (depends z) b t × Way (depends z) t c)
  through m Way.end = inl Way.end
  through {c = c} m (Way.step {a = b} {b = d} h w) = go (there_z b d h).1 (λ n. through n w)
    where
      go : (d ∈ commits s) ⊎ (d ≡ t) → (d ∈ commits s → Way (depends s) d c ⊎ (Way (depends z) d t × Way (depends z) t c)) → Way (depends s) b c ⊎ (Way (depends z) b t × Way (depends z) t c)
      go (inr e) r = inr (subst (Way (depends z) b) e (Way.step h Way.end), subst (λ (k : ℕ). Way (depends z) k c) e w)
      go (inl n) r = ⊎_elim (λ u. inl (Way.step (before b d m n h) u)) (λ u. inr (Way.step h u.0, u.1)) (r n)

  pub ring_through : Ring (committing s t) → Reaches (depends (committing s t)) t t
  ring_through (x, (y, h, w)) = go (there_z x y h).0 (there_z x y h).1
    where
      pick : x ∈ commits s → y ∈ commits s → Way (depends s) y x ⊎ (Way (depends z) y t × Way (depends z) t x) → Reaches (depends z) t t
      pick m n (inl u) = absurd (free (x, (y, before x y m n h, u)))
      pick m n (inr u) = turn x y h u.0 u.1

      go : (x ∈ commits s) ⊎ (x ≡ t) → (y ∈ commits s) ⊎ (y ≡ t) → Reaches (depends z) t t
      go (inr e) n = subst (λ (k : ℕ). Reaches (depends z) k k) e (y, h, w)
      go (inl m) (inr e) = subst (λ (k : ℕ). Reaches (depends z) k k) e (turn x y h Way.end w)
      go (inl m) (inl n) = pick m n (through n w)

pub rings_through : RingThrough
rings_through s h t on fine =
    let v = lawful_facts s h in
    let a = active_out s t on in
    let k = tested_from (committing s t) (facts_commit s v t a fine) in
    (λ r. (reaches_same (committing s t) k t t).0 (ring_through s v (lawful-free s h) t a r), λ r. (t, (reaches_same (committing s t) k t t).1 r))

-- ---- what is not reached is spent
pub spent_reached : SpentReached
unfolding lawful
spent_reached s h t = (
  λ p. (spent_commits s p, λ a m o w. false≢true (sym o ∙ old_of a (least-old (least_back w (same.0 p))))),
  λ p. same.1 ((least_founded (founded_by (rank s free) (λ a b k. climbs s free a (edge_reaches s v a b k)) t)).1 (all_old p.0 p.1)),
)
  where
    v : Facts s
    v = lawful_facts s h

    free : ¬ Ring s
    free = lawful-free s h

    same : Spent s t ↔ Least (edges s) (λ b. mem b (commits s) && old s b) t
    same = spent_same s (and_left _ _ h) t

    old_of : (a : ℕ) → T (mem a (commits s) && old s a) → old s a ≡ true
    old_of a k = and_right (mem a (commits s)) _ (T_out _ k)

    start_of : (a : ℕ) {b : ℕ} → b ∈ commits s → Way (edges s) a b → a ∈ commits s
    start_of a m Way.end = m
    start_of a m (Way.step {b = c} k w) = (edges_out s a c k).0

    all_old : t ∈ commits s → ((a : ℕ) → a ∈ commits s → old s a ≡ false → ¬ Way (edges s) a t) → (a : ℕ) → Way (edges s) a t → T (mem a (commits s) && old s a)
    all_old m n a w = let k = start_of a m w in T_in (and_both _ _ (mem_in _ _ k) (pick (passed (old s a)) k))
      where
        pick : (old s a ≡ true) ⊎ (old s a ≡ false) → a ∈ commits s → old s a ≡ true
        pick (inl o) k = o
        pick (inr f) k = absurd (n a k f w)

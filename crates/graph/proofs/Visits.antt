-- A visit, turn by turn: one node more is marked, and all that leads on from it is visited. Assumes nothing.
use mathlib.Core.Path.{◌≡◌, sym, subst}
use mathlib.Core.Logic.{◌⊎◌, inl, inr, ⊎_elim}
use mathlib.Core.Bool.{not, ◌||◌}
use Prim.Native.Nat.{ℕ, ◌<◌}
use lib.Dec.{T, eqb, eqb→eq, eqb_refl}
use mir.Facts.{or_yes}
use Rattle.rules.specs.Graph.{Nodes, Edges, Way}
use Rattle.graph.specs.Reach.{Reached}
use Rattle.graph.specs.Visit.{free, Visiting, Visited}
use Rattle.graph.proofs.Tests.{or_left, or_right}
use Rattle.graph.proofs.Below.{free_falls}

-- m is s with `at` marked
abbrev pub Marked : ℕ → Nodes → Nodes → Type 0
Marked at s m = (i : ℕ) → m i ≡ (s i || eqb at i)

module _ (at : ℕ) (s m : Nodes) (is : Marked at s m) where
  marked-grows : (i : ℕ) → T (s i) → T (m i)
  marked-grows i t = rw (is i) (or_left (s i) (eqb at i) t)

  marked-here : T (m at)
  marked-here = rw (is at) (or_right (s at) (eqb at at) (eqb_refl at))

  marked-only : (i : ℕ) → T (m i) → T (s i) ⊎ (at ≡ i)
  marked-only i t = ⊎_elim (λ q. inl q) (λ q. inr (eqb→eq at i q)) (or_yes (s i) (eqb at i) (rw (is i) at t))

  -- marking leaves one less
  pub marked-free : (n : ℕ) → at < n → T (not (s at)) → free n m < free n s
  marked-free n l h = free_falls n s m at l marked-grows h marked-here

module _ (e : Edges) (from s : Nodes) where
  -- a node of `from` that is not in r is marked, and what leads on from it is visited
  module _ (r : Nodes) (v : Visiting e from s r) (at : ℕ) (h : T (from at)) (m : Nodes) (is : Marked at r m) (q : Nodes) (w : Visited e (e at) m q) where
    kept : (i : ℕ) → T (r i) → T (q i)
    kept i t = w.visiting.grows i (marked-grows at r m is i t)

    old : (i : ℕ) → T (r i) → T (s i) ⊎ ((j : ℕ) → T (e i j) → T (q j))
    old i t = ⊎_elim (λ x. inl x) (λ f. inr (λ j k. kept j (f j k))) (v.followed i t)

    pub visiting_more : Visiting e from s q
    visiting_more =
        record {
          grows = λ i t. kept i (v.grows i t);
          only = λ i t. ⊎_elim (λ t. ⊎_elim (v.only i) (λ a. inr (at, h, subst (Way e at) a Way.end)) (marked-only at r m is i t))
              (λ u. inr (at, h, Way.step u.1 u.2)) (w.visiting.only i t);
          followed = λ i t. ⊎_elim (λ t. ⊎_elim (old i) (λ a. inr (λ j k. w.all j (subst (λ (z : ℕ). T (e z j)) (sym a) k))) (marked-only at r m is i t))
              (λ f. inr f) (w.visiting.followed i t);
        }

-- a visit of the seeds that begins with nothing marked
pub visited_reached : (e : Edges) (seeds s r : Nodes) → ((i : ℕ) → T (s i) → ⊥) → Visited e seeds s r → Reached e seeds r
visited_reached e seeds s r none v =
    record {
      has = v.all;
      closed = λ i j t k. ⊎_elim (λ x. absurd (none i x)) (λ f. f j k) (v.visiting.followed i t);
      only = λ i t. ⊎_elim (λ x. absurd (none i x)) (λ u. u) (v.visiting.only i t);
    }

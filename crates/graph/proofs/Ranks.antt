-- With no ring, every edge goes forward by rank, the number of nodes that a node does not reach. Assumes nothing.
use Prim.Native.Nat.{ℕ, ◌<◌}
use lib.Dec.{T, not_T}
use Rattle.rules.specs.Graph.{Edges, Reaches}
use Rattle.graph.specs.Reach.{reachable, ringed}
use Rattle.graph.specs.Visit.{free}
use Rattle.graph.proofs.Below.{free_falls}
use Rattle.graph.proofs.Ways.{closed_way}
use Rattle.graph.proofs.Reachable.{reachable-reached, ringed-is}

-- how many of the nodes below n are not reached from t by an edge or more
unfoldable pub rank : ℕ → Edges → ℕ → ℕ
rank n e t = free n (reachable n e (e t))

module _ (n : ℕ) (e : Edges) (bound : (i j : ℕ) → T (e i j) → (i < n) × (j < n)) where
  pub rank_forward : (a b : ℕ) → T (e a b) → (Reaches e b b → ⊥) → rank n e a < rank n e b
  unfolding rank ringed
  rank_forward a b h none =
      let from-a = reachable-reached n e bound (e a) (λ i k. (bound a i k).1) in
      let from-b = reachable-reached n e bound (e b) (λ i k. (bound b i k).1) in
      free_falls n (reachable n e (e b)) (reachable n e (e a)) b (bound a b h).1
      (λ i t. let w = from-b.only i t in closed_way (reachable n e (e a)) from-a.closed (from-a.closed b w.0 (from-a.has b h) w.1) w.2)
      (not_T (reachable n e (e b) b) (λ t. none ((ringed-is n e bound b).0 t)))
      (from-a.has b h)

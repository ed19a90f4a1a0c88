-- The least set of old nodes that only its own lead to is what the nodes that are not old do not reach. Assumes nothing.
use mathlib.Core.Logic.{◌⊎◌, ◌↔◌, ⊎_elim}
use mathlib.Core.Bool.{not}
use Prim.Native.Nat.{ℕ}
use lib.Dec.{T, T_not, not_T}
use Rattle.rules.specs.Graph.{Nodes, Edges, Least}
use Rattle.laws.proofs.Graph.{Founded, least_back, least-old}
use Rattle.graph.specs.Reach.{Reached}

-- r is what is reached from the seeds, none of which is old; each node is a seed or old, and an edge starts at a node
module _ (e : Edges) (old seeds r : Nodes) (is : Reached e seeds r) (apart : (i : ℕ) → T (seeds i) → T (old i) → ⊥)
    (Node : ℕ → Type 0) (starts : (a b : ℕ) → T (e a b) → Node a) (split : (i : ℕ) → Node i → T (seeds i) ⊎ T (old i)) where
  not-reached : (b : ℕ) → Least e old b → T (not (r b))
  not-reached b p = not_T (r b) (λ h. let w = is.only b h in apart w.0 w.1 (least-old (least_back w.2 p)))

  in_least : (b : ℕ) → Node b → Founded e b → T (not (r b)) → Least e old b
  in_least b m (Least.least o f) n =
      Least.least (⊎_elim (λ h. absurd (T_not (r b) n (is.has b h))) (λ o. o) (split b m))
      (λ a k. in_least a (starts a b k) (f a k) (not_T (r a) (λ h. T_not (r b) n (is.closed a b h k))))

  pub least-is : (b : ℕ) → Node b → Founded e b → Least e old b ↔ T (not (r b))
  least-is b m f = (not-reached b, in_least b m f)

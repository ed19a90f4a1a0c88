-- Laws of graphs, over any edges: ways, rings, and least sets. Assumes nothing.
use Prim.Native.Nat.{◌<◌, suc, zero, ℕ}
use mathlib.Core.Bool.{true}
use mathlib.Core.Logic.{◌↔◌}
use native.Mathlib.Omega.{arith}
use lib.Dec.{T}
use Rattle.rules.specs.Graph.{Cycle, Edges, Least, Nodes, Reaches, Way}

-- ---- ways
pub join : {e : Edges} {a b c : ℕ} → Way e a b → Way e b c → Way e a c
join Way.end v = v
join (Way.step h w) v = Way.step h (join w v)

-- one edge more
pub more : {e : Edges} {a b c : ℕ} → Way e a b → T (e b c) → Way e a c
more w h = join w (Way.step h Way.end)

-- the last edge of a way
pub last-edge : {e : Edges} (a b : ℕ) {c : ℕ} → T (e a b) → Way e b c → (d : ℕ) × Way e a d × T (e d c)
last-edge a b h Way.end = (a, Way.end, h)
last-edge a b h (Way.step {b = d} k w) = let v = last-edge b d k w in (v.0, Way.step h v.1, v.2)

-- where each edge is a way of other edges, so is each way
pub way_map : {e f : Edges} → ((a b : ℕ) → T (e a b) → Reaches f a b) → {a b : ℕ} → Way e a b → Way f a b
way_map h Way.end = Way.end
way_map h (Way.step {a} {b} x w) = let u = h a b x in Way.step u.1 (join u.2 (way_map h w))

pub reach_map : {e f : Edges} → ((a b : ℕ) → T (e a b) → Reaches f a b) → (a : ℕ) {b : ℕ} → Reaches e a b → Reaches f a b
reach_map h a r = let u = h a r.0 r.1 in (u.0, u.1, join u.2 (way_map h r.2))

pub cycle_map : {e f : Edges} → ((a b : ℕ) → T (e a b) → Reaches f a b) → Cycle e → Cycle f
cycle_map h r = (r.0, reach_map h r.0 r.1)

-- ---- least sets
module _ {e : Edges} {old : Nodes} where
  pub least-old : {b : ℕ} → Least e old b → T (old b)
  least-old (Least.least o f) = o

  pub least_from : {a b : ℕ} → Least e old b → T (e a b) → Least e old a
  least_from {a} (Least.least o f) h = f a h

  pub least_back : {a b : ℕ} → Way e a b → Least e old b → Least e old a
  least_back Way.end p = p
  least_back (Way.step h w) p = least_from (least_back w p) h

  -- no way leads from one of them back to it
  pub least_no_cycle : {b : ℕ} → Least e old b → Reaches e b b → ⊥
  least_no_cycle {b} (Least.least o f) r = let u = last-edge b r.0 r.1 r.2 in least_no_cycle (f u.0 u.2) (b, u.2, u.1)

-- they are in another such set, where they are old and no edge is new
pub least_there : {e f : Edges} {old new : Nodes} → ((b : ℕ) → Least e old b → T (new b)) → ((a b : ℕ) → Least e old b → T (f a b) → T (e a b))
    → {b : ℕ} → Least e old b → Least f new b
least_there o d {b} (Least.least p g) = Least.least (o b (Least.least p g)) (λ a h. least_there o d (g a (d a b (Least.least p g) h)))

-- ---- edges along which a number rises

-- all that leads to the node ends
abbrev pub Founded : Edges → ℕ → Type 0
Founded e = Least e (λ b. true)

pub founded_by : {e : Edges} (rank : ℕ → ℕ) → ((a b : ℕ) → T (e a b) → rank a < rank b) → (b : ℕ) → Founded e b
founded_by {e} rank rises b = go (suc (rank b)) b (omega arith)
  where
    go : (n b : ℕ) → rank b < n → Founded e b
    go zero b l = absurd (omega arith)
    go (suc n) b l = Least.least tt (λ a h. go n a (omega (arith, rises a b h)))

-- the least set has a node exactly if no way leads to it from a node that is not old
pub least_founded : {e : Edges} {old : Nodes} {b : ℕ} → Founded e b → Least e old b ↔ ((a : ℕ) → Way e a b → T (old a))
least_founded {e} {old} k = (λ p a w. least-old (least_back w p), go k)
  where
    go : {b : ℕ} → Founded e b → ((a : ℕ) → Way e a b → T (old a)) → Least e old b
    go {b} (Least.least o f) p = Least.least (p b Way.end) (λ a h. go (f a h) (λ c w. p c (more w h)))

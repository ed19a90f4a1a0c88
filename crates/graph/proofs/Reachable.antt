-- The computed set is what is reached, and the computed ring test finds the rings. For any number n of nodes. Assumes nothing.
use mathlib.Core.Path.{◌≡◌, refl, ap}
use mathlib.Core.Logic.{◌⊎◌, inl, inr, ◌↔◌, ⊎_elim}
use mathlib.Core.Bool.{Bool, true, false, not, ◌||◌, ◌&&◌}
use mathlib.Core.List.{List}
use Prim.Native.Nat.{ℕ, zero, suc, ◌≤◌, ◌<◌}
use native.Mathlib.Omega.{arith}
use lib.Dec.{T}
use mir.Facts.{and_yes, yes_and, or_yes}
use Rattle.rules.specs.Lists.{any, times, upfrom}
use Rattle.rules.specs.Graph.{Nodes, Edges, Way, Reaches}
use Rattle.graph.specs.Reach.{Closed, Reached, tab, on, spread, reachable, ringed}
use Rattle.graph.specs.Visit.{free}
use Rattle.graph.proofs.Tests.{failed, same, or_left, or_right}
use Rattle.laws.proofs.Lists.{T_in}
use Rattle.graph.proofs.Below.{any_below, below_any, any_same, tab-same, on_tab, on_lt, free-le, free_falls, free-none}
use Rattle.graph.proofs.Ways.{closed_way}
use Rattle.laws.proofs.Graph.{more}

-- ---- there is one set that is reached

within : {e : Edges} {seeds s r : Nodes} → Reached e seeds s → Reached e seeds r → (i : ℕ) → T (s i) → T (r i)
within {r = r} p q i t = let w = p.only i t in closed_way r q.closed (q.has w.0 w.1) w.2

pub reached_unique : {e : Edges} {seeds s r : Nodes} → Reached e seeds s → Reached e seeds r → s ≡ r
reached_unique {s = s} {r = r} p q = λ j i. same (s i) (r i) (within p q i) (within q p i) j

-- ---- some node is new, or none is

module _ (n : ℕ) (s q : Nodes) where
  abbrev New : Type 0
  New = (i : ℕ) × (i < n) × T (not (s i)) × T (q i)

  abbrev Old : Type 0
  Old = (i : ℕ) → i < n → T (q i) → T (s i)

  abbrev new : Nodes
  new i = not (s i) && q i

  new_or_old : New ⊎ Old
  new_or_old = go (any new (upfrom 0 n)) refl
    where
      has : (i : ℕ) (b : Bool) → s i ≡ b → (T (not (s i)) → ⊥) → T b
      has i true e f = tt
      has i false e f = f (T_in (ap not e))

      go : (b : Bool) → any new (upfrom 0 n) ≡ b → New ⊎ Old
      go true e = let u = below_any n new (T_in e) in let v = and_yes (not (s u.0)) (q u.0) u.2 in inl (u.0, u.1, v.0, v.1)
      go false e = inr (λ i l t. has i (s i) refl (λ k. failed e (any_below n new i l (yes_and (not (s i)) (q i) k t))))

-- ---- pass after pass

module _ (n : ℕ) (e : Edges) (bound : (i j : ℕ) → T (e i j) → (i < n) × (j < n)) where
  leads : List Bool → ℕ → ℕ → Bool
  leads l j i = on l i && e i j

  abbrev Below : List Bool → Type 0
  Below l = (i : ℕ) → T (on l i) → i < n

  module _ (l : List Bool) where
    spread-is : (j : ℕ) → j < n → on (spread n e l) j ≡ (on l j || any (leads l j) (upfrom 0 n))
    unfolding spread leads
    spread-is j h = on_tab n (λ j. on l j || any (leads l j) (upfrom 0 n)) j h

    spread_below : Below (spread n e l)
    unfolding spread leads
    spread_below i t = on_lt n (λ j. on l j || any (leads l j) (upfrom 0 n)) i t

    module _ (b : Below l) where
      spread-grows : (i : ℕ) → T (on l i) → T (on (spread n e l) i)
      spread-grows i t = rw (spread-is i (b i t)) (or_left (on l i) _ t)

      spread-next : (i j : ℕ) → T (on l i) → T (e i j) → T (on (spread n e l) j)
      unfolding leads
      spread-next i j t k = rw (spread-is j (bound i j k).1) (or_right (on l j) _ (any_below n (leads l j) i (b i t) (yes_and (on l i) (e i j) t k)))

      spread-only : (j : ℕ) → T (on (spread n e l) j) → T (on l j) ⊎ ((i : ℕ) × T (on l i) × T (e i j))
      unfolding leads
      spread-only j t =
          ⊎_elim (λ h. inl h) (λ h. let u = below_any n (leads l j) h in let v = and_yes (on l u.0) (e u.0 j) u.2 in inr (u.0, v.0, v.1))
          (or_yes (on l j) _ (rw (spread-is j (spread_below j t)) at t))

      spread-closed : Closed e (on l) → Closed e (on (spread n e l))
      spread-closed c i j t k = spread-grows j (c i j (⊎_elim (λ h. h) (λ u. c u.0 i u.1 u.2) (spread-only i t)) k)

  -- what the seeds lead to, and no more
  Only : Nodes → List Bool → Type 0
  Only seeds l = (i : ℕ) → T (on l i) → (a : ℕ) × T (seeds a) × Way e a i

  times-has : (f : ℕ) (l : List Bool) → Below l → (i : ℕ) → T (on l i) → T (on (times f (spread n e) l) i)
  times-has zero l b i t = t
  times-has (suc f) l b i t = times-has f (spread n e l) (spread_below l) i (spread-grows l b i t)

  times-only : (seeds : Nodes) (f : ℕ) (l : List Bool) → Below l → Only seeds l → Only seeds (times f (spread n e) l)
  unfolding Only
  times-only seeds zero l b o = o
  times-only seeds (suc f) l b o =
      times-only seeds f (spread n e l) (spread_below l)
      (λ i t. ⊎_elim (o i) (λ u. let w = o u.0 u.1 in (w.0, w.1, more w.2 u.2)) (spread-only l b i t))

  times-stays : (f : ℕ) (l : List Bool) → Below l → Closed e (on l) → Closed e (on (times f (spread n e) l))
  times-stays zero l b c = c
  times-stays (suc f) l b c = times-stays f (spread n e l) (spread_below l) (spread-closed l b c)

  -- a pass adds a node, or the set is closed already
  times-closed : (f : ℕ) (l : List Bool) → Below l → free n (on l) ≤ f → Closed e (on (times f (spread n e) l))
  times-closed zero l b h = λ i j t k. free-none n (on l) h j (bound i j k).1
  times-closed (suc f) l b h =
      ⊎_elim
      (λ x. times-closed f (spread n e l) (spread_below l) (omega (arith, free_falls n (on l) (on (spread n e l)) x.0 x.1 (spread-grows l b) x.2 x.3)))
      (λ g. times-stays f (spread n e l) (spread_below l) (spread-closed l b (λ i j t k. g j (bound i j k).1 (spread-next l b i j t k))))
      (new_or_old n (on l) (on (spread n e l)))

  pub reachable-reached : (seeds : Nodes) → ((i : ℕ) → T (seeds i) → i < n) → Reached e seeds (reachable n e seeds)
  unfolding reachable Only
  reachable-reached seeds b =
      let l = tab n seeds in
      let below : Below l = on_lt n seeds in
      record {
        has = λ i t. times-has n l below i (rw (on_tab n seeds i (b i t)) t);
        closed = times-closed n l below (free-le n (on l));
        only = times-only seeds n l below (λ i t. (i, rw (on_tab n seeds i (below i t)) at t, Way.end));
      }

  -- a set that is reached is the computed one
  pub reached-is : (seeds r : Nodes) → ((i : ℕ) → T (seeds i) → i < n) → Reached e seeds r → r ≡ reachable n e seeds
  reached-is seeds r b h = reached_unique h (reachable-reached seeds b)

  -- the ring test
  pub ringed-is : (t : ℕ) → T (ringed n e t) ↔ Reaches e t t
  unfolding ringed
  ringed-is t =
      let is = reachable-reached (e t) (λ i k. (bound t i k).1) in
      (λ h. is.only t h, λ u. closed_way (reachable n e (e t)) is.closed (is.has u.0 u.1) u.2)

  -- where no node below n is on a ring, there is none
  pub acyclic : ((t : ℕ) → t < n → ringed n e t ≡ false) → (t : ℕ) → Reaches e t t → ⊥
  acyclic none t r = failed (none t (bound t r.0 r.1).0) ((ringed-is t).1 r)

-- ---- edges and seeds count below n alone

module _ (n : ℕ) (e f : Edges) (is : (i j : ℕ) → i < n → j < n → e i j ≡ f i j) where
  spread_same : spread n e ≡ spread n f
  unfolding spread
  spread_same = λ k l. tab-same n _ _ (λ j h. ap (λ (b : Bool). on l j || b) (any_same n _ _ (λ i g. ap (λ (b : Bool). on l i && b) (is i j g h)))) k

  pub reachable-same : (s r : Nodes) → ((i : ℕ) → i < n → s i ≡ r i) → reachable n e s ≡ reachable n f r
  unfolding reachable
  reachable-same s r h = λ k. on (times n (spread_same k) (tab-same n s r h k))

  pub ringed-same : (t : ℕ) → t < n → ringed n e t ≡ ringed n f t
  unfolding ringed
  ringed-same t h = λ k. reachable-same (e t) (f t) (λ i g. is t i h g) k t

-- Nodes with no edge into a set are taken from it, one by one; a ring is there where something stays. Assumes nothing.
use Prim.Native.Nat.{ℕ, zero, suc, ◌+◌, ◌^◌, ◌≤◌, ◌<◌}
use native.Mathlib.Omega.{arith}
use native.Mathlib.Decide.{ℕ_discrete}
use mathlib.Core.Bool.{Bool, true, false, not, ◌&&◌, false≢true}
use mathlib.Core.Logic.{◌⊎◌, inl, inr}
use mathlib.Core.Path.{◌≡◌, sym, ap, subst, ◌∙◌}
use mathlib.Core.List.{List}
use lib.Dec.{T, eqb}
use lib.ListN.{get_or}
use borrow.Author.Tests.{eq-eqb, ne_eqb, not-false, not-true}
use Rattle.rules.specs.Graph.{Edges, Nodes, Reaches, Way}
use Rattle.rules.specs.Lists.{any, upfrom}
use Rattle.laws.proofs.Lists.{T_in, T_out, and_both, and_left, and_right, any_in, any_out, passed}
use Rattle.graph.specs.Reach.{reachable, ringed}
use Rattle.graph.specs.Sets.{apart, edges, member}
use Rattle.graph.proofs.Below.{free-le}
use Rattle.graph.proofs.Ranks.{rank, rank_forward}
use Rattle.graph.proofs.Reachable.{acyclic, ringed-is}
use Rattle.graph.proofs.Sets.{apart_out, member_lt, member-zero}
use Rattle.graph.proofs.Tests.{failed, fails}
use Rattle.sound.specs.Rings.{Shed}
use Rattle.sound.proofs.Standing.{in_upfrom}

module _ (e : Edges) where
  -- the nodes from index i on are done with
  pub record Peeling (s₀ s : Nodes) (i : ℕ) : Type 0 where
    pub shed : Shed e s₀ → Shed e s
    pub less : (k : ℕ) → T (s k) → T (s₀ k)
    pub held : (k : ℕ) → i ≤ k → T (s k) → (j : ℕ) × T (e k j) × T (s₀ j)

  pub peel_start : {s : Nodes} {i : ℕ} → ((k : ℕ) → T (s k) → k < i) → Peeling s s i
  peel_start h = record { shed = λ d. d; less = λ k t. t; held = λ k l t. absurd (omega (arith, h k t)) }

  along : {s : Nodes} {a b : ℕ} → Shed e s → Way e a b → T (s b) → T (s a)
  along d Way.end t = t
  along d (Way.step {a} {b} x w) t = d.into a b x (along d w t)

  module _ {s₀ s : Nodes} {k : ℕ} (p : Peeling s₀ s k) (i : ℕ) (l : k ≤ i + 1) where
    -- i has no edge into the set
    pub peel_off : (r : Nodes) → ((j : ℕ) → r j ≡ (s j && not (eqb i j))) → ((j : ℕ) → T (e i j) → T (s j) → ⊥) → Peeling s₀ r i
    peel_off r is none = record {
      shed = λ d. let q = p.shed d in record {
        into = λ a b x t. stays a (q.into a b x (was b t)) (λ z. none b (subst (λ (y : ℕ). T (e y b)) (sym z) x) (was b t));
        rings = λ a c. stays a (q.rings a c) (λ z. none c.0 (subst (λ (y : ℕ). T (e y c.0)) (sym z) c.1) (along q c.2 (q.rings a c)));
      };
      less = λ a t. p.less a (was a t);
      held = λ a m t. p.held a (above a m t (ℕ_discrete i a)) (was a t);
    }
      where
        was : (j : ℕ) → T (r j) → T (s j)
        was j t = T_in (and_left (s j) (not (eqb i j)) (sym (is j) ∙ T_out (r j) t))

        stays : (j : ℕ) → T (s j) → (i ≡ j → ⊥) → T (r j)
        stays j t n = T_in (is j ∙ and_both (s j) (not (eqb i j)) (T_out (s j) t) (ap not (ne_eqb i j n)))

        above : (a : ℕ) → i ≤ a → T (r a) → Dec (i ≡ a) → k ≤ a
        above a m t (yes z) = absurd (false≢true (sym (not-true (eqb i a) (and_right (s a) (not (eqb i a)) (sym (is a) ∙ T_out (r a) t))) ∙ eq-eqb i a z))
        above a m t (no z) = omega arith

    -- it has one
    pub peel_keep : (j : ℕ) → T (e i j) → T (s j) → Peeling s₀ s i
    peel_keep j x t = record { shed = p.shed; less = p.less; held = λ a m h. at a h m (ℕ_discrete i a) }
      where
        at : (a : ℕ) → T (s a) → i ≤ a → Dec (i ≡ a) → (j : ℕ) × T (e a j) × T (s₀ j)
        at a h m (yes z) = (j, subst (λ (y : ℕ). T (e y j)) z x, p.less j t)
        at a h m (no z) = p.held a (omega arith) h

  -- ---- what is left

  module _ (n : ℕ) (bound : (i j : ℕ) → T (e i j) → (i < n) × (j < n)) where
    pub shed-all : {s : Nodes} → ((i : ℕ) → i < n → T (s i)) → Shed e s
    shed-all h = record { into = λ i j x t. h i (bound i j x).0; rings = λ i c. h i (bound i c.0 c.1).0 }

    abbrev any_ring : Bool
    any_ring = any (ringed n e) (upfrom 0 n)

    pub none_left : {s : Nodes} → Shed e s → ((i : ℕ) → T (s i) → ⊥) → false ≡ any (ringed n e) (upfrom 0 n)
    none_left d none = sym (fails any_ring (λ t. let u = any_out (ringed n e) (upfrom 0 n) (T_out any_ring t) in none u.0 (d.rings u.0 ((ringed-is n e bound u.0).0 (T_in u.2)))))

    -- with no ring, the rank rises along the edges that stay
    climb : (s : Nodes) → ((i : ℕ) → T (s i) → (j : ℕ) × T (e i j) × T (s j)) → ((t : ℕ) → Reaches e t t → ⊥) → (d i : ℕ) → T (s i) → n < d + rank n e i → ⊥
    unfolding rank
    climb s h fr zero i t l = omega (arith, free-le n (reachable n e (e i)))
    climb s h fr (suc d) i t l = let u = h i t in climb s h fr d u.0 u.2 (omega (arith, rank_forward n e bound i u.0 u.1 (fr u.0)))

    pub some_left : (s : Nodes) → ((i : ℕ) → T (s i) → (j : ℕ) × T (e i j) × T (s j)) → (i : ℕ) → T (s i) → true ≡ any (ringed n e) (upfrom 0 n)
    some_left s h i t = go (passed any_ring)
      where
        go : (any_ring ≡ true) ⊎ (any_ring ≡ false) → true ≡ any_ring
        go (inl y) = sym y
        go (inr y) = absurd (climb s h (acyclic n e bound (λ k l. fails (ringed n e k) (λ r. false≢true (sym y ∙ any_in (ringed n e) (in_upfrom 0 n k (omega arith) (omega arith)) (T_out (ringed n e k) r))))) (suc n) i t (omega arith))

-- ---- sets as words, of w digits

module _ (w : ℕ) (g : List ℕ) where
  -- no edge leads from i into the set, or one does
  pub none-into : (i m : ℕ) → m < 2 ^ w → true ≡ apart w (get_or g i 0) m → (j : ℕ) → T (edges g i j) → T (member m j) → ⊥
  unfolding edges
  none-into i m h p j x t = false≢true (sym (apart_out w (get_or g i 0) m (sym p) j (member_lt w m j h t)) ∙ and_both (member (get_or g i 0) j) (member m j) (T_out (member (get_or g i 0) j) x) (T_out (member m j) t))

  pub one_into : (i m : ℕ) → false ≡ apart w (get_or g i 0) m → (j : ℕ) × T (edges g i j) × T (member m j)
  unfolding edges apart
  one_into i m p =
      let u = any_out (λ j. member (get_or g i 0) j && member m j) (upfrom 0 w) (not-false (any (λ j. member (get_or g i 0) j && member m j) (upfrom 0 w)) (sym p)) in
      (u.0, T_in {b = member (get_or g i 0) u.0} (and_left (member (get_or g i 0) u.0) (member m u.0) u.2), T_in {b = member m u.0} (and_right (member (get_or g i 0) u.0) (member m u.0) u.2))

  -- of the empty set
  pub none_in : (m : ℕ) → m ≡ 0 → (i : ℕ) → T (member m i) → ⊥
  none_in m z i t = failed (ap (λ (k : ℕ). member k i) z ∙ member-zero i) t

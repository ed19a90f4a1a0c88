-- Rings and spent rows in a table of edges between rows are those of the state that the tables hold. Assumes nothing.
use Prim.Native.Nat.{ℕ, ◌^◌, ◌≤◌, ◌<◌}
use native.Mathlib.Omega.{arith}
use mathlib.Core.Bool.{true, not, false≢true}
use mathlib.Core.Path.{◌≡◌, sym, ap, subst, ◌∙◌}
use mathlib.Core.List.{List}
use lib.Dec.{eqb}
use lib.ListN.{length}
use borrow.Author.Tests.{eq-eqb, eqb-true, not-true}
use Rattle.terms.specs.Words.{num}
use Rattle.rules.specs.Graph.{Reaches}
use Rattle.rules.specs.Lists.{any, upfrom}
use Rattle.rules.specs.State.{State, commits}
use Rattle.rules.specs.Deps.{ring}
use Rattle.rules.specs.Sound.{lean, tested}
use Rattle.rules.specs.Spent.{is_spent}
use Rattle.laws.proofs.Lists.{T_in, T_out, ◌∈◌, all_in, all_out, and_left, any_in, any_out, both_ways, mem_out}
use Rattle.laws.proofs.Rings.{ring_decides}
use Rattle.theory.specs.Edges.{edges}
use Rattle.theory.proofs.EdgesRings.{rings-same}
use Rattle.theory.proofs.EdgesSame.{edges_out}
use Rattle.theory.proofs.Facts.{Facts, facts_of}
use Rattle.graph.specs.Reach.{ringed}
use Rattle.graph.specs.Sets.{edges as in_table, member}
use Rattle.graph.proofs.Reachable.{ringed-is}
use Rattle.graph.proofs.Sets.{member-zero}
use Rattle.edges.proofs.Rowed.{place_of_lem}
use Rattle.edges.proofs.Ways.{bound, ends, ringed-at}
use Rattle.sound.specs.Items.{at}
use Rattle.sound.proofs.Seeing.{set_small}
use Rattle.sound.proofs.Standing.{in_upfrom}

module _ (s : State) (h : tested s ≡ true) where
  abbrev nth_num : ℕ → ℕ
  nth_num i = num (at s.rows i)

  facts : Facts s
  facts = facts_of s h

  module _ (g : List ℕ) (e : (i j : ℕ) → in_table g i j ≡ edges s (num (at s.rows i)) (num (at s.rows j))) (w : ℕ) (room : length s.rows ≤ w) where
    pub ring-is : any (ringed w (in_table g)) (upfrom 0 w) ≡ ring s
    ring-is = both_ways _ _ there back
      where
        there : any (ringed w (in_table g)) (upfrom 0 w) ≡ true → ring s ≡ true
        there t =
            let u = any_out (ringed w (in_table g)) (upfrom 0 w) t in
            let r = (ringed-is w (in_table g) (bound s facts g e w room) u.0).0 (T_in u.2) in
            (ring_decides s).1 ((rings-same s h).1 (nth_num u.0, (ringed-at s facts g e w room u.0 (ends s facts g e u.0 r.0 r.1).0).0 (T_in u.2)))

        back : ring s ≡ true → any (ringed w (in_table g)) (upfrom 0 w) ≡ true
        back t =
            let c = (rings-same s h).0 ((ring_decides s).0 t) in
            let i = place_of_lem s facts (edges_out s c.0 c.1.0 c.1.1).0 in
            any_in (ringed w (in_table g)) (in_upfrom 0 w i.0 (omega arith) (omega (arith, i.1)))
            (T_out _ ((ringed-at s facts g e w room i.0 i.1).1 (subst (λ (k : ℕ). Reaches (edges s) k k) (sym i.2) c.1)))

  spent_commit : (t : ℕ) → is_spent s t ≡ true → t ∈ commits s
  unfolding is_spent
  spent_commit t z = mem_out t (commits s) (and_left _ _ z)

  -- the set of the spent rows is empty
  pub lean-is : (r : ℕ) → ((i : ℕ) → member r i ≡ is_spent s (num (at s.rows i))) → eqb r 0 ≡ lean s
  unfolding lean
  lean-is r is =
      both_ways _ _
      (λ z. all_in (λ t. not (is_spent s t)) (commits s) (λ t m.
      let i = place_of_lem s facts m in
      ap not (ap (is_spent s) (sym i.2) ∙ sym (is i.0) ∙ ap (λ (k : ℕ). member k i.0) (eqb-true r 0 z) ∙ member-zero i.0)))
      (λ z.
      let small : r < 2 ^ 0 = set_small 0 r (λ j m. absurd (false≢true (sym (not-true (is_spent s (nth_num j)) (all_out (λ t. not (is_spent s t)) (spent_commit (nth_num j) (sym (is j) ∙ m)) z)) ∙ sym (is j) ∙ m))) in
      eq-eqb r 0 (omega arith))

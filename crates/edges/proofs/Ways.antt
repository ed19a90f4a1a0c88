-- Ways and rings in a table of edges between rows are those of the state that has the rows. Assumes nothing.
use Prim.Native.Nat.{ℕ, ◌≤◌, ◌<◌}
use native.Mathlib.Omega.{arith}
use mathlib.Core.List.{List}
use mathlib.Core.Logic.{◌↔◌}
use mathlib.Core.Path.{◌≡◌, refl, sym, subst, ◌∙◌}
use lib.Dec.{T}
use lib.ListN.{length}
use Rattle.rules.specs.Graph.{Reaches, Way}
use Rattle.rules.specs.State.{State}
use Rattle.terms.specs.Words.{num}
use Rattle.graph.specs.Sets.{edges as in_table}
use Rattle.graph.specs.Reach.{ringed}
use Rattle.graph.proofs.Reachable.{ringed-is}
use Rattle.theory.specs.Edges.{edges}
use Rattle.theory.proofs.EdgesSame.{edges_out}
use Rattle.theory.proofs.Facts.{Facts}
use Rattle.edges.specs.Blocks.{at}
use Rattle.edges.proofs.Rowed.{committed-at, one_place, place_of_lem}

module _ (s : State) (v : Facts s) (g : List ℕ) (e : (i j : ℕ) → in_table g i j ≡ edges s (num (at s.rows i)) (num (at s.rows j))) where
  abbrev nth_num : ℕ → ℕ
  nth_num i = num (at s.rows i)

  abbrev len : ℕ
  len = length s.rows

  pub ends : (i j : ℕ) → T (in_table g i j) → (i < len) × (j < len)
  ends i j t = let u = edges_out s (nth_num i) (nth_num j) (subst T (e i j) t) in ((committed-at s v i u.0).0, (committed-at s v j u.1).0)

  pub way_out : {i j : ℕ} → Way (in_table g) i j → Way (edges s) (nth_num i) (nth_num j)
  way_out Way.end = Way.end
  way_out (Way.step {a} {b} t w) = Way.step (subst T (e a b) t) (way_out w)

  pub edge_in : (i j : ℕ) {a b : ℕ} → nth_num i ≡ a → nth_num j ≡ b → T (edges s a b) → T (in_table g i j)
  edge_in i j {a} {b} p q t = subst T (sym (e i j)) (subst (λ (x : ℕ). T (edges s x (nth_num j))) (sym p) (subst (λ (x : ℕ). T (edges s a x)) (sym q) t))

  pub way_in : {a b : ℕ} → Way (edges s) a b → (i : ℕ) → i < len → nth_num i ≡ a → (j : ℕ) → j < len → nth_num j ≡ b → Way (in_table g) i j
  way_in Way.end i li ei j lj ej = subst (λ (n : ℕ). Way (in_table g) i n) (one_place s v i j li lj (ei ∙ sym ej)) Way.end
  way_in (Way.step {a} {b} t w) i li ei j lj ej = let c = place_of_lem s v (edges_out s a b t).1 in Way.step (edge_in i c.0 ei c.2 t) (way_in w c.0 c.1 c.2 j lj ej)

  module _ (k : ℕ) (room : len ≤ k) where
    pub bound : (i j : ℕ) → T (in_table g i j) → (i < k) × (j < k)
    bound i j t = let u = ends i j t in (omega (arith, u.0), omega (arith, u.1))

    -- a ring passes through the row at a place
    pub ringed-at : (i : ℕ) → i < len → T (ringed k (in_table g) i) ↔ Reaches (edges s) (nth_num i) (nth_num i)
    ringed-at i l = (
      λ t. let r = (ringed-is k (in_table g) bound i).0 t in (nth_num r.0, subst T (e i r.0) r.1, way_out r.2),
      λ r.
          let c = place_of_lem s v (edges_out s (nth_num i) r.0 r.1).1 in
          (ringed-is k (in_table g) bound i).1 (c.0, edge_in i c.0 refl c.2 r.1, way_in r.2 c.0 c.1 c.2 i l refl),
    )

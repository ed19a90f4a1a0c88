-- Sets and tables of sets, test by test and row by row. Assumes nothing.
use mathlib.Core.Path.{◌≡◌, refl, sym, ◌∙◌}
use mathlib.Core.Logic.{◌≢◌}
use mathlib.Core.Bool.{true, false, or-false}
use mathlib.Core.List.{List}
use Prim.Native.Nat.{ℕ, ◌+◌, ◌^◌, ◌<◌}
use native.Mathlib.Omega.{arith}
use lib.Bits.{bit_or}
use lib.ListN.{length, get_or, set}
use lib.Seq.{get_or-set_same, get_or-set_other}
use borrow.Author.Count.{below_more}
use borrow.Author.Tests.{eq-eqb, ne_eqb}
use Rattle.rules.specs.Graph.{Nodes, Edges}
use Rattle.graph.specs.Sets.{member, edges}
use Rattle.graph.specs.Fill.{Filled, Tabled}
use Rattle.graph.proofs.Sets.{member_with, member-zero}

pub filled_none : (f : Nodes) → Filled 0 0 f
filled_none f = record { low = λ j l. absurd (omega arith); high = λ j l. member-zero j }

module _ (m k : ℕ) (f : Nodes) (h : Filled m k f) where
  pub filled_skip : f k ≡ false → Filled m (k + 1) f
  filled_skip n = record { low = below_more _ k h.low (h.high k (omega arith) ∙ sym n); high = λ j l. h.high j (omega arith) }

  other : (j : ℕ) → (k ≡ j → ⊥) → member (bit_or m (2 ^ k)) j ≡ member m j
  other j n = member_with m k j ∙ rw (ne_eqb k j n, or-false)

  pub filled_more : f k ≡ true → Filled (bit_or m (2 ^ k)) (k + 1) f
  filled_more n =
      record {
        low = below_more _ k (λ j l. other j (omega arith) ∙ h.low j l) (member_with m k k ∙ rw (h.high k (omega arith), eq-eqb k k refl) (sym n));
        high = λ j l. other j (omega arith) ∙ h.high j (omega arith);
      }

-- the sets below a are made
abbrev pub Tabling : ℕ → List ℕ → Edges → ℕ → Type 0
Tabling n g e a = (k : ℕ) → k < a → Filled (get_or g k 0) n (e k)

module _ (n : ℕ) (g : List ℕ) (e : Edges) where
  pub tabled_none : Tabling n g e 0
  tabled_none k l = absurd (omega arith)

  pub tabled_more : (a v : ℕ) → a < length g → Tabling n g e a → Filled v n (e a) → Tabling n (set g a v) e (a + 1)
  tabled_more a v l h p =
      below_more _ a (λ k q. let ne : k ≢ a = omega arith in rw (get_or-set_other g a k v 0 ne) (h k q)) (rw (get_or-set_same g a v 0 l) p)

  pub tabled_all : Tabling n g e n → Tabled n g e
  unfolding edges
  tabled_all h = record { is = λ a b p q. (h a p).low b q }

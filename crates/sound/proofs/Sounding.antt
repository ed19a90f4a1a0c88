-- All tests, those of dependencies with them, are the soundness of lent tables. Assumes nothing.
use Prim.Native.Nat.{ℕ}
use mathlib.Core.Bool.{Bool, true, false, not, ◌&&◌}
use mathlib.Core.Path.{◌≡◌, refl, sym, ap, ◌∙◌}
use mathlib.Core.List.{List}
use lib.Dec.{eqb}
use lib.ListN.{length}
use native.Mathlib.Omega.{arith}
use Rattle.rules.specs.Lists.{any, upfrom}
use Rattle.rules.specs.Deps.{ring}
use Rattle.rules.specs.Sound.{lawful, lean, sized, sound, tested}
use Rattle.rules.specs.Raw.{Raw, raw_of, same_raw, sound_raw, state_of}
use Rattle.laws.proofs.Lists.{and_both, and_right}
use Rattle.graph.specs.Reach.{ringed}
use Rattle.graph.specs.Sets.{edges as in_table}
use Rattle.edges.specs.Told.{EdgesTold, Holds, SpentTold}
use Rattle.sound.specs.Shape.{no_row}
use Rattle.sound.specs.Told.{tested_raw}
use Rattle.sound.proofs.Chains.{on, off}
use Rattle.sound.proofs.Ringing.{lean-is, ring-is}
use Rattle.sound.proofs.Shapes.{few_rows, first_most}

regroup : (a b c d e : Bool) → ((a && (b && c)) && (d && e)) ≡ (a && (b && (c && d) && e))
regroup true true true d e = refl
regroup true true false d e = refl
regroup true false c d e = refl
regroup false b c d e = refl

module _ (n m : ℕ) (w : Raw) where
  chain : (tested_raw n m w && (not (ring (state_of w)) && lean (state_of w))) ≡ sound_raw n m w
  unfolding tested_raw sound_raw sound lawful
  chain = regroup (same_raw (raw_of n m (state_of w)) w) (sized n m (state_of w)) (tested (state_of w)) (not (ring (state_of w))) (lean (state_of w))

  pub untested : tested_raw n m w ≡ false → false ≡ sound_raw n m w
  untested f = off _ f ∙ chain

  module _ (t : tested_raw n m w ≡ true) where
    passed-tests : tested (state_of w) ≡ true
    unfolding tested_raw
    passed-tests = and_right (sized n m (state_of w)) _ (and_right (same_raw (raw_of n m (state_of w)) w) _ t)

    holds : Holds w.rows w.recs (state_of w)
    unfolding state_of
    holds = record { rows = refl; recs = refl }

    module _ (l : length w.rows ≡ n) (g : List ℕ) (k : EdgesTold n w.rows w.recs g) where
      rings : any (ringed n (in_table g)) (upfrom 0 n) ≡ ring (state_of w)
      rings =
          ring-is (state_of w) passed-tests g (k.is (state_of w) passed-tests holds) n (omega (arith, few_rows n m w, first_most no_row w.rows))

      pub ringed-tables : any (ringed n (in_table g)) (upfrom 0 n) ≡ true → false ≡ sound_raw n m w
      ringed-tables f = on t (off _ (ap not (sym rings ∙ f))) ∙ chain

      pub sound-tables : any (ringed n (in_table g)) (upfrom 0 n) ≡ false → (r : ℕ) → SpentTold w.rows g r → eqb r 0 ≡ sound_raw n m w
      unfolding lawful
      sound-tables f r p =
          let free : ring (state_of w) ≡ false = sym rings ∙ f in
          on t (on (ap not free) (lean-is (state_of w) passed-tests r (p.is (state_of w) (and_both _ _ passed-tests (ap not free)) holds.rows (k.is (state_of w) passed-tests holds)))) ∙ chain

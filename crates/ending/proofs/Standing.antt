-- The tables of a state hold it, as the tests of edges ask. Assumes nothing.
use Prim.Native.Nat.{ℕ}
use mathlib.Core.Bool.{true}
use mathlib.Core.List.{List, map}
use mathlib.Core.Path.{◌∙◌, ◌≡◌, ap, sym}
use Rattle.terms.specs.declared.Row.{Row}
use Rattle.rules.specs.Raw.{state_of, unpack, used_recs, used_rows}
use Rattle.rules.specs.Sound.{lawful, tested}
use Rattle.rules.specs.State.{State}
use Rattle.laws.proofs.Lists.{and_left}
use Rattle.laws.proofs.Raw.{Fits, state-raw}
use Rattle.edges.specs.Told.{Holds}
use Rattle.ending.specs.Told.{Stand}

pub tested_in : (s : State) → lawful s ≡ true → tested s ≡ true
unfolding lawful
tested_in s h = and_left _ _ h

module _ (n m : ℕ) (s : State) (fits : Fits s) {values writers : List ℕ} {rows : List Row} {recs : List ℕ} (st : Stand n m s values writers rows recs) where
  pub holding : Holds rows recs s
  unfolding state_of
  holding = record {
    rows = sym (ap (λ (z : State). z.rows) (state-raw n m s fits)) ∙ ap (λ (rs : List Row). used_rows rs) (sym st.rows_are);
    recs = sym (ap (λ (z : State). z.recs) (state-raw n m s fits)) ∙ ap (λ (ps : List ℕ). map unpack (used_recs ps)) (sym st.recs_are);
  }

-- With the spent rows known, the tables that are left are those of the pruned state. Assumes nothing.
use Prim.Native.Nat.{ℕ}
use mathlib.Core.Bool.{false, false≢true, true}
use mathlib.Core.List.{List}
use mathlib.Core.Logic.{◌⊎◌, inl, inr}
use mathlib.Core.Path.{◌∙◌, ◌≡◌, ap, subst, sym}
use Rattle.terms.specs.declared.Row.{Row}
use Rattle.terms.specs.declared.Rec.{Rec}
use Rattle.terms.specs.Words.{num}
use Rattle.rules.specs.Lists.{keep, padded}
use Rattle.rules.specs.Raw.{raw_of, used_recs, zero_row}
use Rattle.rules.specs.Spent.{forget, is_spent, prune}
use Rattle.rules.specs.State.{State}
use Rattle.laws.proofs.Lists.{◌∈◌, passed}
use Rattle.laws.proofs.Raw.{Packs}
use Rattle.laws.proofs.Spending.{spent_commits, spent_decides}
use Rattle.theory.proofs.Bare.{forget-none}
use Rattle.theory.proofs.Facts.{Facts, lawful_facts}
use Rattle.graph.specs.Sets.{member}
use Rattle.graph.proofs.Sets.{member-zero}
use Rattle.edges.specs.Blocks.{at}
use Rattle.edges.specs.Told.{EdgesTold, SpentTold}
use Rattle.edges.proofs.Rowed.{place_of_lem}
use Rattle.taking.specs.Leaving.{leaving, stays}
use Rattle.taking.specs.Passing.{Passed}
use Rattle.taking.proofs.Pruned.{recs_pruned, rows_pruned, values_pruned, writers_pruned}
use Rattle.ending.specs.Told.{Roomy, Stand}
use Rattle.ending.proofs.Standing.{holding, tested_in}

module _ (n m : ℕ) (s : State) (k : Roomy n m s) {values writers : List ℕ} {rows : List Row} {recs : List ℕ} (st : Stand n m s values writers rows recs)
    {g : List ℕ} {gone : ℕ} (et : EdgesTold n rows recs g) (sp : SpentTold rows g gone) where
  v : Facts s
  v = lawful_facts s k.lawful-is

  is : (i : ℕ) → member gone i ≡ is_spent s (num (at s.rows i))
  is = sp.is s k.lawful-is (holding n m s k.fits st).rows (et.is s (tested_in s k.lawful-is) (holding n m s k.fits st))

  -- none is spent
  module _ (z : gone ≡ 0) where
    unspent : (t : ℕ) → is_spent s t ≡ false
    unspent t = go (passed (is_spent s t))
      where
        go : (is_spent s t ≡ true) ⊎ (is_spent s t ≡ false) → is_spent s t ≡ false
        go (inr f) = f
        go (inl h) =
            let i = place_of_lem s v (spent_commits s ((spent_decides s t).0 h)) in
            absurd (false≢true (sym (ap (λ (b : ℕ). member b i.0) z ∙ member-zero i.0) ∙ is i.0 ∙ ap (is_spent s) i.2 ∙ h))

    pub tidy-none : Stand n m (prune s) values writers rows recs
    unfolding prune
    tidy-none = subst (λ (u : State). Stand n m u values writers rows recs) (sym ((λ j. forget (λ t. unspent t j) s) ∙ forget-none s v.sizes)) st

  -- the spent ones are taken out
  module _ {values' writers' : List ℕ} {rows' : List Row} {recs' : List ℕ}
      (p : Passed gone rows recs values writers values' writers')
      (q : recs' ≡ padded m 0 (keep (stays gone rows) (used_recs recs)))
      (r : rows' ≡ padded n zero_row (leaving (member gone) 0 rows)) where
    packs : (x : Rec) → x ∈ s.recs → Packs x
    packs x h = k.fits.packs h

    passed_on : Passed gone (raw_of n m s).rows (raw_of n m s).recs (raw_of n m s).values (raw_of n m s).writers values' writers'
    passed_on = rw (← st.rows_are, ← st.recs_are, ← st.values_are, ← st.writers_are) p

    pub tidy_some : Stand n m (prune s) values' writers' rows' recs'
    unfolding raw_of
    tidy_some = record {
      values_are = values_pruned n m s (tested_in s k.lawful-is) packs k.rows_few gone is passed_on;
      writers_are = writers_pruned n m s (tested_in s k.lawful-is) packs k.rows_few gone is passed_on;
      rows_are = r ∙ ap (λ (rs : List Row). padded n zero_row (leaving (member gone) 0 rs)) st.rows_are ∙ rows_pruned n m s (tested_in s k.lawful-is) packs k.rows_few gone is;
      recs_are =
          q ∙ (λ j. padded m 0 (keep (stays gone (st.rows_are j)) (used_recs (st.recs_are j))))
          ∙ recs_pruned n m s (tested_in s k.lawful-is) packs k.rows_few gone is;
    }

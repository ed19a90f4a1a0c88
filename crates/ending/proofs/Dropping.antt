-- A transaction is taken out of the tables of a state: they are then those of the state without it. Assumes nothing.
use Prim.Native.Nat.{ℕ, ◌≤◌}
use native.Mathlib.Omega.{arith}
use mathlib.Core.Bool.{not, true}
use mathlib.Core.List.{List}
use mathlib.Core.Path.{◌∙◌, ◌≡◌, ap, subst, sym}
use lib.Dec.{eqb}
use lib.ListN.{length}
use Rattle.terms.specs.Words.{txn}
use Rattle.terms.specs.declared.Row.{Row}
use Rattle.terms.specs.declared.Rec.{Rec}
use Rattle.rules.specs.Lists.{keep, padded}
use Rattle.rules.specs.Raw.{Raw, zero_row}
use Rattle.rules.specs.State.{State, dropped, is_active}
use Rattle.lists.proofs.Keeps.{length-keep}
use Rattle.lists.proofs.Pads.{length-padded}
use Rattle.laws.proofs.Lists.{◌∈◌, keep_out}
use Rattle.laws.proofs.Raw.{Packs}
use Rattle.theory.proofs.Actives.{active_out}
use Rattle.theory.proofs.Facts.{lawful_facts}
use Rattle.theory.proofs.LawfulCalls.{last-drop}
use Rattle.bridge.specs.Whole.{other_rec, other_row}
use Rattle.bridge.proofs.Changed.{dropped-raw}
use Rattle.bridge.proofs.Holds.{fits_of}
use Rattle.ending.specs.Told.{Ended, Roomy, Stand, Tidied}

module _ (n m : ℕ) (s : State) (k : Roomy n m s) (t : ℕ) where
  packs : (x : Rec) → x ∈ (dropped s t).recs → Packs x
  unfolding dropped
  packs x h = k.fits.packs (keep_out _ s.recs h).0

  few_rows : length (dropped s t).rows ≤ n
  unfolding dropped
  few_rows = omega (arith, length-keep (other_row t) s.rows, k.rows_few)

  few_recs : length (dropped s t).recs ≤ m
  unfolding dropped
  few_recs = omega (arith, length-keep (λ x. not (eqb (txn x) t)) s.recs, k.recs_few)

  pub roomy_dropped : is_active s t ≡ true → Roomy n m (dropped s t)
  roomy_dropped a =
      let l = last-drop n m s k.lawful-is t (active_out s t a) in
      record { lawful-is = l; fits = fits_of (dropped s t) (lawful_facts (dropped s t) l) packs; rows_few = few_rows; recs_few = few_recs }

  pub stand_dropped : {values writers : List ℕ} {rows : List Row} {recs : List ℕ} → Stand n m s values writers rows recs → {rows' : List Row} {recs' : List ℕ}
      → rows' ≡ padded n zero_row (keep (other_row t) rows) → recs' ≡ padded m 0 (keep (other_rec t) recs) → Stand n m (dropped s t) values writers rows' recs'
  stand_dropped st r p =
      let e = sym (dropped-raw n m s k.fits t k.rows_few k.recs_few) in
      record {
        values_are = st.values_are ∙ ap (λ (w : Raw). w.values) e;
        writers_are = st.writers_are ∙ ap (λ (w : Raw). w.writers) e;
        rows_are = r ∙ ap (λ (rs : List Row). padded n zero_row (keep (other_row t) rs)) st.rows_are ∙ ap (λ (w : Raw). w.rows) e;
        recs_are = p ∙ ap (λ (ps : List ℕ). padded m 0 (keep (other_rec t) ps)) st.recs_are ∙ ap (λ (w : Raw). w.recs) e;
      }

-- so to take a transaction out and then to tidy is to end it
pub ended_by : (n t : ℕ) {values writers values'' writers'' : List ℕ} {rows rows' rows'' : List Row} {recs recs' recs'' : List ℕ}
    → length rows ≡ n → Tidied n (length recs') values writers rows' recs' values'' writers'' rows'' recs''
    → rows' ≡ padded (length rows) zero_row (keep (other_row t) rows) → recs' ≡ padded (length recs) 0 (keep (other_rec t) recs)
    → Ended n (length recs) t values writers rows recs values'' writers'' rows'' recs''
ended_by n t {values} {writers} {values''} {writers''} {rows} {rows'} {rows''} {recs} {recs'} {recs''} long tidied r p s k a st =
    subst (λ (m : ℕ). Tidied n m values writers rows' recs' values'' writers'' rows'' recs'')
    (ap length p ∙ length-padded (length recs) 0 (keep (other_rec t) recs) (length-keep (other_rec t) recs)) tidied
    (dropped s t) (roomy_dropped n (length recs) s k t a) tt (stand_dropped n (length recs) s k t st (r ∙ ap (λ (m : ℕ). padded m zero_row (keep (other_row t) rows)) long) p)

-- Where no forgotten transaction is committed, forgetting leaves the value tables as they are. Assumes nothing.
use Prim.Native.Nat.{ℕ}
use mathlib.Core.Bool.{Bool, false, false≢true, not, true}
use mathlib.Core.List.{List, [], map}
use mathlib.Core.Path.{◌∙◌, ◌≡◌, ap, refl, sym}
use native.Mathlib.Nat.{zero-add}
use lib.Dec.{eqb}
use lib.ListN.{length, length-replicate}
use borrow.Author.Tests.{eqb-true}
use Rattle.laws.proofs.Keeping.{keep_all, keep-none}
use Rattle.laws.proofs.Lists.{◌∈◌, keep_out}
use Rattle.laws.proofs.Tables.{length-table, table}
use Rattle.laws.proofs.Versions.{version-base}
use Rattle.rules.specs.Lists.{keep, upfrom}
use Rattle.rules.specs.Spent.{forget}
use Rattle.rules.specs.State.{State, dropped, opened, recorded, with_recs, with_rows}
use Rattle.rules.specs.Versions.{base_of, installers, newest, version_at}
use Rattle.terms.specs.Words.{committed, num, txn, writer}
use Rattle.terms.specs.declared.Row.{Row}
use Rattle.terms.specs.declared.Version.{Version}
use Rattle.theory.proofs.Forgetting.{gone_of}

-- as many values and writers as items
abbrev pub Sized : State → Type 0
Sized s = (length s.values ≡ s.count) × (length s.writers ≡ s.count)

module _ (g : ℕ → Bool) (s : State) (sizes : Sized s) (none : (r : Row) → r ∈ s.rows → g (num r) ≡ true → committed r ≡ false) where
  no_installers : (i : ℕ) → installers (gone_of g s) i s.moment ≡ []
  unfolding installers recorded
  no_installers i = keep-none _ _ (λ r m. let k = keep_out (λ r. g (num r)) s.rows m in let e = none r k.0 k.1 in rw e refl)

  bare : (i : ℕ) → version_at (gone_of g s) i s.moment ≡ base_of s i
  unfolding newest
  bare i = version-base (gone_of g s) i s.moment (ap {B = ℕ} (λ l. num (newest l)) (no_installers i))

  bare_values : map (λ i. (version_at (gone_of g s) i s.moment).value) (upfrom 0 s.count) ≡ s.values
  bare_values =
      ap {B = List ℕ} (λ n. map (λ i. (version_at (gone_of g s) i s.moment).value) (upfrom 0 n)) (sym sizes.0)
      ∙ table s.values 0 _ (λ i l. ap (λ (k : ℕ). (version_at (gone_of g s) k s.moment).value) (zero-add i) ∙ ap (λ (p : Version). p.value) (bare i))

  bare_writers : map (λ i. writer (version_at (gone_of g s) i s.moment)) (upfrom 0 s.count) ≡ s.writers
  bare_writers =
      ap {B = List ℕ} (λ n. map (λ i. writer (version_at (gone_of g s) i s.moment)) (upfrom 0 n)) (sym sizes.1)
      ∙ table s.writers 0 _ (λ i l. ap (λ (k : ℕ). writer (version_at (gone_of g s) k s.moment)) (zero-add i) ∙ ap writer (bare i))

  pub forget_bare : forget g s ≡ with_recs (with_rows s (keep (λ r. not (g (num r))) s.rows)) (keep (λ x. not (g (txn x))) s.recs)
  unfolding forget
  forget_bare =
      λ j. record {
        count = s.count;
        next = s.next;
        moment = s.moment;
        values = bare_values j;
        writers = bare_writers j;
        rows = keep (λ r. not (g (num r))) s.rows;
        recs = keep (λ x. not (g (txn x))) s.recs;
      }

pub sizes_forget : (g : ℕ → Bool) (s : State) → Sized (forget g s)
unfolding forget
sizes_forget g s = (length-table _ s.count, length-table _ s.count)

-- a transaction that is not committed leaves nothing: it is forgotten
pub dropped-is : (s : State) (t : ℕ) → Sized s → ((r : Row) → r ∈ s.rows → num r ≡ t → committed r ≡ false) → dropped s t ≡ forget (λ n. eqb n t) s
unfolding dropped
dropped-is s t sizes h = sym (forget_bare (λ n. eqb n t) s sizes (λ r m e. h r m (eqb-true _ _ e)))

-- none is forgotten
pub forget-none : (s : State) → Sized s → forget (λ t. false) s ≡ s
forget-none s sizes =
    forget_bare (λ t. false) s sizes (λ r m e. absurd (false≢true e))
    ∙ (λ j. with_recs (with_rows s (keep_all (λ r. true) s.rows (λ r m. refl) j)) (keep_all (λ x. true) s.recs (λ x m. refl) j))

-- nothing is there to be forgotten
pub forget_opened : (g : ℕ → Bool) (vs : List ℕ) → forget g (opened vs) ≡ opened vs
unfolding opened
forget_opened g vs = forget_bare g (opened vs) (refl, length-replicate (length vs) 0) (λ r m e. elim m [ ])

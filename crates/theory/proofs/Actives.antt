-- Spent and active transactions of a state that passes the tests: no dependency leads from an active one to a spent one. Assumes nothing.
use Prim.Native.Nat.{◌<◌, ℕ}
use mathlib.Core.Bool.{◌&&◌, ◌||◌, and-eq-true_iff, false, false≢true, not, true}
use mathlib.Core.Logic.{◌⊎◌, inl, inr}
use mathlib.Core.Path.{◌∙◌, ◌≡◌, ap, subst, sym}
use native.Mathlib.Omega.{arith}
use lib.Dec.{eqb, ltb}
use borrow.Author.Tests.{eqb-true, ltb-true}
use Rattle.laws.proofs.Lists.{◌∈◌, all_out, and_left, and_right, any_out, or_cases, passed}
use Rattle.laws.proofs.Spending.{spent_commits, spent_decides, spent_old}
use Rattle.laws.proofs.Versions.{Installed, Unwritten, Writer, commits_out, writer_in}
use Rattle.rules.specs.Deps.{dep, follows, overwrites, read_before, reads_from}
use Rattle.rules.specs.Spent.{Spent, is_spent, old}
use Rattle.rules.specs.State.{State, commit_of, is_active, row_of, start_of, wrote}
use Rattle.rules.specs.Versions.{installers, version_at, visible}
use Rattle.terms.specs.Words.{active, committed, done, is_read, is_write, item, num, start, txn, writer}
use Rattle.terms.specs.declared.Row.{Row}
use Rattle.theory.proofs.Consequences.{one_row, row_is, row_of_lem, rowless, standing}
use Rattle.theory.proofs.Facts.{Facts}
use Rattle.theory.proofs.Ways.{read_of}

-- t is active
abbrev pub Active : State → ℕ → Type 0
Active s t = (r : Row) × (r ∈ s.rows) × (num r ≡ t) × (active r ≡ true)

pub active_out : (s : State) (t : ℕ) → is_active s t ≡ true → Active s t
unfolding is_active
active_out s t h =
    let u = any_out (λ r. eqb (num r) t && active r) s.rows h in
    (u.0, u.1, eqb-true _ _ (and_left _ _ u.2), and_right (eqb (num u.0) t) _ u.2)

not_both : (r : Row) → active r ≡ true → committed r ≡ true → ⊥
not_both r a c = false≢true (sym (ap not a) ∙ c)

module _ (s : State) (v : Facts s) where
  -- a spent one's row
  pub spent_row : {b : ℕ} → Spent s b → (r : Row) × (r ∈ s.rows) × (committed r ≡ true) × (num r ≡ b)
  spent_row p = commits_out s (spent_commits s p)

  -- only a committed row's number is spent
  pub idle : (r : Row) → r ∈ s.rows → is_spent s (num r) ≡ true → committed r ≡ true
  idle r m t = let u = spent_row ((spent_decides s (num r)).0 t) in subst (λ (q : Row). committed q ≡ true) (one_row s v u.1 m u.3) u.2

  pub active-kept : {t : ℕ} → Active s t → is_spent s t ≡ false
  active-kept {t} a = pick (passed (is_spent s t))
    where
      pick : (is_spent s t ≡ true) ⊎ (is_spent s t ≡ false) → is_spent s t ≡ false
      pick (inr f) = f
      pick (inl h) = absurd (not_both a.0 a.3 (idle a.0 a.1 (ap (is_spent s) a.2 ∙ h)))

  -- a spent one's commit is before an active one's start
  pub past : {r : Row} {t : ℕ} → r ∈ s.rows → is_spent s (num r) ≡ true → (a : Active s t) → done r < start a.0
  unfolding old
  past {r} {t} m h a = pick (or_cases _ _ (all_out (λ q. committed q || ltb (commit_of s (num r)) (start q)) a.1 (spent_old s ((spent_decides s (num r)).0 h))))
    where
      pick : (committed a.0 ≡ true) ⊎ (ltb (commit_of s (num r)) (start a.0) ≡ true) → done r < start a.0
      pick (inl c) = absurd (not_both a.0 a.3 c)
      pick (inr l) = subst (λ (q : Row). done q < start a.0) (row_of_lem s v m) (ltb-true _ _ l)

  -- an active one wrote no version
  pub no_writer : {t : ℕ} → Active s t → (i m : ℕ) → i < s.count → writer (version_at s i m) ≡ t → ⊥
  no_writer {t} a i m l e = go (standing s v i m)
    where
      go : Unwritten s i m ⊎ ((c : Row) × Installed s i m c) → ⊥
      go (inl n) = (rowless s v i l).1 a.0 a.1 (a.2 ∙ sym e ∙ ap writer n.is)
      go (inr (c, n)) =
          not_both a.0 a.3 (subst (λ (q : Row). committed q ≡ true)
          (one_row s v n.by.here a.1 (sym (ap writer n.is) ∙ e ∙ sym a.2)) n.by.ended)

  -- the version before an installed one is another than any after it
  pub moved : (i m : ℕ) → i < s.count → {r : Row} → Writer s i r → done r < m → writer (version_at s i (done r)) ≡ writer (version_at s i m) → ⊥
  moved i m l {r} w d e = go (standing s v i m) (standing s v i (done r))
    where
      inside : r ∈ installers s i m
      inside = writer_in s i m w d

      go : Unwritten s i m ⊎ ((c : Row) × Installed s i m c) → Unwritten s i (done r) ⊎ ((c : Row) × Installed s i (done r) c) → ⊥
      go (inl n) z = n.none r inside
      go (inr (a, n)) (inr (b, k)) =
          let same = one_row s v n.by.here k.by.here (sym (ap writer n.is) ∙ sym e ∙ ap writer k.is) in
          omega (arith, n.last r inside, k.early, ap done same)
      go (inr (a, n)) (inl k) = (rowless s v i l).1 a n.by.here (sym (ap writer n.is) ∙ sym e ∙ ap writer k.is)

  -- no dependency leads from an active one to a spent one
  pub no_dep : {t b : ℕ} → Active s t → Spent s b → dep s t b ≡ true → ⊥
  unfolding dep reads_from overwrites read_before follows visible
  no_dep {t} {b} a p h = go (or_cases _ _ (and_right (not (eqb t b)) _ h))
    where
      u : (r : Row) × (r ∈ s.rows) × (committed r ≡ true) × (num r ≡ b)
      u = spent_row p

      go : ((reads_from s t b || overwrites s t b) ≡ true) ⊎ (read_before s t b ≡ true) → ⊥
      go (inr d) =
          let x = any_out (λ x. eqb (txn x) t && is_read x && follows s (item x) x.word b) s.recs d in
          let z = simp and-eq-true_iff at x.2 in
          let comm : row_of s.rows b ≡ u.0 = row_is s v u.1 u.3 in
          moved (item x.0) (start a.0) (v.within x.1) (record { here = u.1; ended = u.2; wrote = ap (λ (k : ℕ). wrote s k (item x.0)) u.3 ∙ z.1.0 })
          (past u.1 ((spent_decides s _).1 (subst (Spent s) (sym u.3) p)) a)
          (ap (λ (q : Row). writer (version_at s (item x.0) (done q))) (sym comm) ∙ eqb-true _ _ z.1.1 ∙ read_of s v a.1 x.1 (eqb-true _ _ z.0.0 ∙ sym a.2) (eqb-true _ _ z.0.1))
      go (inl d) = either (or_cases _ _ d)
        where
          either : (reads_from s t b ≡ true) ⊎ (overwrites s t b ≡ true) → ⊥
          either (inl d) =
              let x = any_out (λ x. eqb (txn x) b && is_read x && eqb x.word t) s.recs d in
              let z = simp and-eq-true_iff at x.2 in
              no_writer a (item x.0) (start_of s (txn x.0)) (v.within x.1) (sym (v.sees x.1 (eqb-true _ _ z.0.1)) ∙ eqb-true _ _ z.1)
          either (inr d) =
              let x = any_out (λ x. eqb (txn x) b && is_write x && follows s (item x) t b) s.recs d in
              let z = simp and-eq-true_iff at x.2 in
              no_writer a (item x.0) (commit_of s b) (v.within x.1) (eqb-true _ _ z.1.1)

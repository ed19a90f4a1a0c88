-- Each call of the history machine changes only what is its actor's. Assumes nothing.
use Prim.Native.Nat.{ℕ}
use mathlib.Core.Bool.{◌||◌, false, false≢true, not, true}
use mathlib.Core.List.Memᴰ
use mathlib.Core.Logic.{◌⊎◌, inl, inr, ⊎_elim}
use mathlib.Core.Path.{◌∙◌, ◌≡◌, ap, refl, subst, sym}
use native.Mathlib.Omega.{arith}
use lib.Dec.{ltb}
use borrow.Author.Tests.{eq-eqb, eqb-false, lt-ltb, ne_eqb, not-true}
use Rattle.laws.proofs.Keeping.{pairs_snoc}
use Rattle.laws.proofs.Lists.{◌∈◌, and_both, any_in, any_out, both_ways, keep_in, keep_out, or_cases, or_left, or_right, pairs-keep, passed}
use Rattle.laws.proofs.Records.{Keyed, insert-has, insert_out, insert-stays, is-rec_out, key_inj, word_in-insert, word_in-keep}
use Rattle.laws.proofs.Versions.{commits_in}
use Rattle.rules.specs.Lists.{any}
use Rattle.rules.specs.State.{State, begun, commits, committing, dropped, insert, is_active, is_rec, recorded, with_recs, word_in}
use Rattle.rules.specs.Versions.{visible}
use Rattle.terms.specs.Words.{committed, done, item, key, num, txn}
use Rattle.terms.specs.declared.Rec.{Rec}
use Rattle.terms.specs.declared.Row.{Row}
use Rattle.theory.proofs.Actives.{Active, active_out}
use Rattle.theory.proofs.Consequences.{keyed, known}
use Rattle.theory.proofs.Facts.{Facts}
use Rattle.theory.proofs.FactsKept.{begun-committed, begun-row}
use Rattle.theory.proofs.Frames.{Frame, same_or_not, visible_frame}
use Rattle.theory.proofs.PrunedBegin.{new}
use Rattle.theory.proofs.PrunedCommit.{mine-committed, mine_in, rowed_commit, rows-commit, rows-commit_in}
use Rattle.theory.proofs.PrunedDrop.{its_row}

module _ (s : State) (inv : Facts s) where
  -- an active transaction is not committed
  pub not-committed : (t : ℕ) → is_active s t ≡ true → (r : Row) → r ∈ s.rows → num r ≡ t → committed r ≡ true → ⊥
  not-committed t h r mr e c = false≢true (sym (its_row s inv t (active_out s t h) r mr e) ∙ c)

  -- a call that changes nothing
  pub stay_frame : (t : ℕ) → is_active s t ≡ true → Frame s s t
  stay_frame t on = record {
    nexts = omega arith;
    values = refl;
    writers = refl;
    known = known s inv;
    rows_out = λ r m e. m;
    rows_in = λ r m e. m;
    recs_out = λ x m e. m;
    recs_in = λ x m e. m;
    words = λ u i j e. refl;
    not_yet = not-committed t on;
    only_now = λ r m e c. absurd (not-committed t on r m e c);
  }

  -- ---- a record is put in
  module _ (x : Rec) (fit : Keyed x) (on : is_active s (txn x) ≡ true) where
    abbrev pub entered : State
    entered = with_recs s (insert x s.recs)

    pub enter_frame : Frame s entered (txn x)
    enter_frame = record {
      nexts = omega arith;
      values = refl;
      writers = refl;
      known = record { ascend = inv.ascend; positive = (known s inv).positive; distinct = inv.distinct };
      rows_out = λ r m n. m;
      rows_in = λ r m n. m;
      recs_out = λ y my ne. ⊎_elim (λ e. absurd (ne (ap txn e))) (λ m. m) (insert_out x s.recs my);
      recs_in = λ y my ne. insert-stays x s.recs my (λ e. ne (sym (key_inj x y fit (keyed s inv my) e).0));
      words = λ u i k ne. word_in-insert u i k x s.recs (other u i k x (λ e. ne (sym e)))
          (λ y my e. other u i k y (λ f. ne (sym f ∙ sym (key_inj x y fit (keyed s inv my) e).0)));
      not_yet = not-committed (txn x) on;
      only_now = λ r mr e c. absurd (not-committed (txn x) on r mr e c);
    }
      where
        other : (u i k : ℕ) (y : Rec) → (txn y ≡ u → ⊥) → is_rec u i k y ≡ false
        other u i k y ne = ⊎_elim (λ t. absurd (ne (is-rec_out u i k y t).0)) (λ f. f) (passed (is_rec u i k y))

    pub enter_recorded : (u i k : ℕ) → recorded entered u i k ≡ (recorded s u i k || is_rec u i k x)
    unfolding recorded
    enter_recorded u i k = both_ways _ _ (λ h. let y = any_out (is_rec u i k) _ h in there y.0 y.2 (insert_out x s.recs y.1)) (λ h. back (or_cases _ _ h))
      where
        there : (y : Rec) → is_rec u i k y ≡ true → (y ≡ x) ⊎ (y ∈ s.recs) → (any (is_rec u i k) s.recs || is_rec u i k x) ≡ true
        there y t (inl e) = or_right (any (is_rec u i k) s.recs) _ (ap (is_rec u i k) (sym e) ∙ t)
        there y t (inr m) = or_left _ _ (any_in (is_rec u i k) m t)

        there_still : (y : Rec) → y ∈ s.recs → is_rec u i k y ≡ true → (key x ≡ key y) ⊎ (key x ≡ key y → ⊥) → any (is_rec u i k) (insert x s.recs) ≡ true
        there_still y my t (inr n) = any_in (is_rec u i k) (insert-stays x s.recs my n) t
        there_still y my t (inl e) =
            let v = key_inj x y fit (keyed s inv my) e in
            let w = is-rec_out u i k y t in
            any_in (is_rec u i k) (insert-has x s.recs) (and_both _ _ (and_both _ _ (eq-eqb (txn x) u (v.0 ∙ w.0)) (eq-eqb (item x) i (v.1 ∙ w.1))) (eq-eqb x.kind k (v.2 ∙ w.2)))

        back : (any (is_rec u i k) s.recs ≡ true) ⊎ (is_rec u i k x ≡ true) → any (is_rec u i k) (insert x s.recs) ≡ true
        back (inl h) = let y = any_out (is_rec u i k) s.recs h in there_still y.0 y.1 y.2 (same_or_not (key x) (key y.0))
        back (inr t) = any_in (is_rec u i k) (insert-has x s.recs) t

    -- what is visible to t stays
    pub enter_visible : (i : ℕ) → visible entered (txn x) i ≡ visible s (txn x) i
    enter_visible i =
        let u = active_out s (txn x) on in
        subst (λ (k : ℕ). visible entered k i ≡ visible s k i) u.2 (visible_frame s entered (txn x) inv enter_frame i u.1 u.1 refl refl)

    pub enter_word : (u i k : ℕ) → is_rec u i k x ≡ false → word_in u i k entered.recs ≡ word_in u i k s.recs
    enter_word u i k f = word_in-insert u i k x s.recs f (λ y my e. ⊎_elim (λ t. absurd (no_such y my e t)) (λ g. g) (passed (is_rec u i k y)))
      where
        no_such : (y : Rec) → y ∈ s.recs → key x ≡ key y → is_rec u i k y ≡ true → ⊥
        no_such y my e t =
            let v = key_inj x y fit (keyed s inv my) e in
            let w = is-rec_out u i k y t in
            false≢true (sym f ∙ and_both _ _ (and_both _ _ (eq-eqb (txn x) u (v.0 ∙ w.0)) (eq-eqb (item x) i (v.1 ∙ w.1))) (eq-eqb x.kind k (v.2 ∙ w.2)))

  -- ---- a transaction begins
  not_new : (x : Rec) → x ∈ s.recs → txn x ≡ s.next → ⊥
  not_new x mx e = let u = inv.owner mx in omega (arith, (inv.numbers u.1).1, u.2)

  pub begin_never : (r : Row) → r ∈ (begun s).rows → num r ≡ s.next → committed r ≡ true → ⊥
  begin_never r mr e c = omega (arith, (inv.numbers (begun-committed s inv mr c)).1)

  pub begin_frame : Frame s (begun s) s.next
  unfolding begun
  begin_frame = record {
    nexts = omega arith;
    values = refl;
    writers = refl;
    known = record {
      ascend = pairs_snoc (λ a b. ltb (num a) (num b)) (new s inv) s.rows inv.ascend (λ r m. lt-ltb _ _ (inv.numbers m).1);
      positive = λ m. ⊎_elim (λ k. (inv.numbers k).0) (λ e. omega (arith, ap num e, inv.nexts.0)) (begun-row s inv m);
      distinct = λ mq cq mr cr e. inv.distinct (begun-committed s inv mq cq) cq (begun-committed s inv mr cr) cr e;
    };
    rows_out = λ r m n. ⊎_elim (λ k. k) (λ e. absurd (n (ap num e))) (begun-row s inv m);
    rows_in = λ r m n. Memᴰ.append_left _ m;
    recs_out = λ x m n. m;
    recs_in = λ x m n. m;
    words = λ u i k n. refl;
    not_yet = λ r mr e c. omega (arith, (inv.numbers mr).1);
    only_now = λ r mr e c. absurd (begin_never r mr e c);
  }

  pub begin_unrecorded : (i k : ℕ) → recorded (begun s) s.next i k ≡ true → ⊥
  unfolding begun recorded
  begin_unrecorded i k h = let x = any_out (is_rec s.next i k) s.recs h in not_new x.0 x.1 (is-rec_out s.next i k x.0 x.2).0

  module _ (t : ℕ) (on : is_active s t ≡ true) where
    -- ---- t leaves
    pub row_gone : (r : Row) → r ∈ (dropped s t).rows → (r ∈ s.rows) × (num r ≡ t → ⊥)
    unfolding dropped
    row_gone r m = let u = keep_out _ s.rows m in (u.0, eqb-false (num r) t (not-true _ u.1))

    pub drop_frame : Frame s (dropped s t) t
    unfolding dropped
    drop_frame = record {
      nexts = omega arith;
      values = refl;
      writers = refl;
      known = record {
        ascend = pairs-keep _ _ s.rows inv.ascend;
        positive = λ {r} m. (inv.numbers (row_gone r m).0).0;
        distinct = λ {q} {r} mq cq mr cr e. inv.distinct (row_gone q mq).0 cq (row_gone r mr).0 cr e;
      };
      rows_out = λ r m n. (row_gone r m).0;
      rows_in = λ r m n. keep_in _ m (ap not (ne_eqb (num r) t n));
      recs_out = λ x m n. (keep_out _ s.recs m).0;
      recs_in = λ x m n. keep_in _ m (ap not (ne_eqb (txn x) t n));
      words = λ u i k n. word_in-keep u i k _ s.recs (λ x m h. ap not (ne_eqb (txn x) t (λ e. n (sym (is-rec_out u i k x h).0 ∙ e))));
      not_yet = not-committed t on;
      only_now = λ r mr e c. absurd ((row_gone r mr).1 e);
    }

    -- ---- t is committed
    its : Active s t
    its = active_out s t on

    pub commit_frame : Frame s (committing s t) t
    unfolding committing
    commit_frame = record {
      nexts = omega arith;
      values = refl;
      writers = refl;
      known = (rowed_commit s inv t its).known;
      rows_out = λ r m n. ⊎_elim (λ k. k.0) (λ e. absurd (n (ap num e ∙ its.2))) (rows-commit s inv t its m);
      rows_in = λ r m n. rows-commit_in s inv t its m (ne_eqb (num r) t n);
      recs_out = λ x m n. m;
      recs_in = λ x m n. m;
      words = λ u i k n. refl;
      not_yet = not-committed t on;
      only_now = λ r mr e c. ⊎_elim (λ k. absurd (eqb-false _ _ k.1 e)) (λ q. ap done q) (rows-commit s inv t its mr);
    }

    pub commit-visible : (i : ℕ) → visible (committing s t) t i ≡ visible s t i
    commit-visible i =
        subst (λ (k : ℕ). visible (committing s t) k i ≡ visible s k i) its.2 (visible_frame s (committing s t) t inv commit_frame i its.1 (mine_in s inv t its) refl refl)

    -- t is among the committed
    pub commit-here : t ∈ commits (committing s t)
    commit-here = Memᴰ.cast (sym its.2) (commits_in (committing s t) (mine_in s inv t its) (mine-committed s inv t its))

-- A call that changes nothing but what is its actor's leaves what others see and did. Assumes nothing.
use Prim.Native.Nat.{◌<◌, ◌≤◌, ℕ}
use mathlib.Core.Bool.{true}
use mathlib.Core.List.Memᴰ
use mathlib.Core.List.{List}
use mathlib.Core.Logic.{◌⊎◌, inl, inr, ⊎_elim}
use mathlib.Core.Path.{◌∙◌, ◌≡◌, ap, refl, sym}
use native.Mathlib.Omega.{arith}
use lib.Dec.{eqb}
use lib.ListN.{get_or}
use borrow.Author.Tests.{eqb-false, eqb-true}
use Rattle.laws.proofs.Lists.{◌∈◌, and_left, any_in, any_out, both_ways, passed}
use Rattle.laws.proofs.Rows.{Known, row_at}
use Rattle.laws.proofs.Versions.{Installed, Unwritten, commits_in, commits_out, installers_in, installers_out, stands, writer_in}
use Rattle.rules.specs.Serial.{Act}
use Rattle.rules.specs.State.{State, commit_of, commits, is_rec, recorded, row_of, start_of, word_in, written}
use Rattle.rules.specs.Versions.{installers, version_at, visible}
use Rattle.terms.specs.Words.{committed, done, num, start, txn, version}
use Rattle.terms.specs.declared.Rec.{Rec}
use Rattle.terms.specs.declared.Row.{Row}
use Rattle.terms.specs.declared.Version.{Version}
use Rattle.theory.proofs.Acts.{Acts}
use Rattle.theory.proofs.Consequences.{row_is, row_of_lem, standing}
use Rattle.theory.proofs.Facts.{Facts}

-- z is s after a call that changes nothing but what is t's, which is not committed in s
pub record Frame (s z : State) (t : ℕ) : Type 0 where
  pub nexts : s.next ≤ z.next
  pub values : z.values ≡ s.values
  pub writers : z.writers ≡ s.writers
  pub known : Known z
  pub rows_out : (r : Row) → r ∈ z.rows → (num r ≡ t → ⊥) → r ∈ s.rows
  pub rows_in : (r : Row) → r ∈ s.rows → (num r ≡ t → ⊥) → r ∈ z.rows
  pub recs_out : (x : Rec) → x ∈ z.recs → (txn x ≡ t → ⊥) → x ∈ s.recs
  pub recs_in : (x : Rec) → x ∈ s.recs → (txn x ≡ t → ⊥) → x ∈ z.recs
  pub words : (u i k : ℕ) → (u ≡ t → ⊥) → word_in u i k z.recs ≡ word_in u i k s.recs
  pub not_yet : (r : Row) → r ∈ s.rows → num r ≡ t → committed r ≡ true → ⊥
  pub only_now : (r : Row) → r ∈ z.rows → num r ≡ t → committed r ≡ true → done r ≡ s.moment

-- a number is t or it is not
pub same_or_not : (a t : ℕ) → (a ≡ t) ⊎ (a ≡ t → ⊥)
same_or_not a t = ⊎_elim (λ e. inl (eqb-true a t e)) (λ e. inr (eqb-false a t e)) (passed (eqb a t))

module _ (s z : State) (t : ℕ) (inv : Facts s) (fr : Frame s z t) where
  pub recorded_frame : (u i k : ℕ) → (u ≡ t → ⊥) → recorded z u i k ≡ recorded s u i k
  unfolding recorded
  recorded_frame u i k ne =
      both_ways _ _ (λ h. let x = any_out (is_rec u i k) z.recs h in any_in (is_rec u i k) (fr.recs_out x.0 x.1 (mine x.0 x.2)) x.2)
      (λ h. let x = any_out (is_rec u i k) s.recs h in any_in (is_rec u i k) (fr.recs_in x.0 x.1 (mine x.0 x.2)) x.2)
    where
      mine : (x : Rec) → is_rec u i k x ≡ true → txn x ≡ t → ⊥
      mine x h e = ne (sym (eqb-true _ _ (and_left _ _ (and_left _ _ h))) ∙ e)

  installers_there : (i m : ℕ) → m ≤ s.moment → (r : Row) → r ∈ installers z i m → (r ∈ installers s i m) × (num r ≡ t → ⊥)
  installers_there i m h r mr =
      let u = installers_out z i m mr in
      let ne : num r ≡ t → ⊥ = λ e. omega (arith, fr.only_now r u.0 e u.1, u.2) in
      (installers_in s i m (fr.rows_out r u.0 ne) u.1 u.2 (sym (recorded_frame (num r) i 2 ne) ∙ u.3), ne)

  installers_back : (i m : ℕ) → (r : Row) → r ∈ installers s i m → r ∈ installers z i m
  installers_back i m r mr =
      let u = installers_out s i m mr in
      let ne : num r ≡ t → ⊥ = λ e. fr.not_yet r u.0 e u.1 in
      installers_in z i m (fr.rows_in r u.0 ne) u.1 u.2 (recorded_frame (num r) i 2 ne ∙ u.3)

  -- the versions before s's moment stay
  pub version_frame : (i m : ℕ) → m ≤ s.moment → version_at z i m ≡ version_at s i m
  version_frame i m h = go (stands z fr.known i m) (standing s inv i m)
    where
      go : Unwritten z i m ⊎ ((c : Row) × Installed z i m c) → Unwritten s i m ⊎ ((c : Row) × Installed s i m c) → version_at z i m ≡ version_at s i m
      go (inl e) (inl f) = e.is ∙ (λ j. version (get_or (fr.writers j) i 0) (get_or (fr.values j) i 0)) ∙ sym f.is
      go (inl e) (inr (b, f)) = absurd (e.none b (installers_back i m b (writer_in s i m f.by f.early)))
      go (inr (a, e)) (inl f) = absurd (f.none a (installers_there i m h a (writer_in z i m e.by e.early)).0)
      go (inr (a, e)) (inr (b, f)) =
          let p = installers_there i m h a (writer_in z i m e.by e.early) in
          let u = installers_out s i m p.0 in
          let same : a ≡ b = inv.distinct u.0 u.1 f.by.here f.by.ended
          (omega (arith, f.last a p.0, e.last b (installers_back i m b (writer_in s i m f.by f.early)))) in
          e.is ∙ ap (version (num a)) (fr.words (num a) i 2 p.1) ∙ ap (λ (r : Row). version (num r) (written s (num r) i)) same ∙ sym f.is

  -- what is visible stays, where the start stays
  pub visible_frame : {r q : Row} (i : ℕ) → r ∈ s.rows → q ∈ z.rows → num q ≡ num r → start q ≡ start r → visible z (num r) i ≡ visible s (num r) i
  unfolding visible
  visible_frame {r} {q} i mr mq e f =
      ap (λ (k : ℕ). version_at z i (start_of z k)) (sym e) ∙ ap (λ (p : Row). version_at z i (start p)) (row_at z fr.known mq)
      ∙ ap (version_at z i) f ∙ version_frame i (start r) (omega (arith, (inv.started mr).1)) ∙ ap (λ (p : Row). version_at s i (start p)) (sym (row_of_lem s inv mr))

  pub visible_other : {r : Row} (i : ℕ) → r ∈ s.rows → (num r ≡ t → ⊥) → visible z (num r) i ≡ visible s (num r) i
  visible_other {r} i mr ne = visible_frame i mr (fr.rows_in r mr ne) refl refl

  -- the acts of the others stay
  pub acts_frame : {r : Row} (ds : List Act) → r ∈ s.rows → (num r ≡ t → ⊥) → Acts s (num r) ds → Acts z (num r) ds
  acts_frame {r} ds mr ne a = record {
    fits = λ m h. a.fits m (λ i k. h i (recorded_frame (num r) i 1 ne ∙ k) ∙ ap (λ (p : Version). p.value) (visible_other i mr ne));
    puts = λ m i k. a.puts m i (sym (recorded_frame (num r) i 2 ne) ∙ k) ∙ sym (fr.words (num r) i 2 ne);
    other = λ m i k. a.other m i (sym (recorded_frame (num r) i 2 ne) ∙ k);
  }

  -- a committed transaction of z other than t is one of s
  pub commits_frame : {a : ℕ} → a ∈ commits z → (a ≡ t → ⊥) → a ∈ commits s
  commits_frame {a} m ne =
      let u = commits_out z m in
      Memᴰ.cast (sym u.3) (commits_in s (fr.rows_out u.0 u.1 (λ e. ne (sym u.3 ∙ e))) u.2)

  pub commits_stay : {a : ℕ} → a ∈ commits s → a ∈ commits z
  commits_stay {a} m =
      let u = commits_out s m in
      Memᴰ.cast (sym u.3) (commits_in z (fr.rows_in u.0 u.1 (λ e. fr.not_yet u.0 u.1 e u.2)) u.2)

  -- when the others committed stays, before s's moment
  pub commit-stays : {a : ℕ} → a ∈ commits s → (commit_of z a ≡ commit_of s a) × (commit_of s a < s.moment)
  commit-stays {a} m =
      let u = commits_out s m in
      let p : row_of s.rows a ≡ u.0 = row_is s inv u.1 u.3 in (
        ap done (ap (row_of z.rows) (sym u.3) ∙ row_at z fr.known (fr.rows_in u.0 u.1 (λ e. fr.not_yet u.0 u.1 e u.2)) ∙ sym p),
        omega (arith, ap done p, (inv.ends u.1 u.2).1),
      )

  -- and t's commit, if it is committed, is at s's moment
  pub commit_now : t ∈ commits z → commit_of z t ≡ s.moment
  commit_now m =
      let u = commits_out z m in
      ap (λ (k : ℕ). done (row_of z.rows k)) (sym u.3) ∙ ap done (row_at z fr.known u.1) ∙ fr.only_now u.0 u.1 u.3 u.2

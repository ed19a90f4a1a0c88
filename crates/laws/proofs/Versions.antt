-- Versions by commit order: where a version comes from, and what is visible. Assumes nothing.
use Prim.Native.Nat.{◌+◌, ◌<◌, ◌≤◌, suc, zero, ℕ}
use mathlib.Core.Bool.{Bool, ◌&&◌, and-eq-true_iff, cond, false, true}
use mathlib.Core.List.Memᴰ
use mathlib.Core.List.{List, [], ◌∷◌}
use mathlib.Core.Logic.{◌↔◌, ◌⊎◌, inl, inr}
use mathlib.Core.Path.{◌∙◌, ◌≡◌, ap, refl, sym}
use native.Mathlib.Omega.{arith}
use lib.Dec.{ltb}
use lib.ListN.{get_or}
use borrow.Author.Tests.{eq-eqb, eqb-false, eqb-true, lt-ltb, ltb-false, ltb-true, not-true}
use Rattle.laws.proofs.Lists.{◌∈◌, and_both, any_in, any_out, both_ways, keep_in, keep_out, keep_same}
use Rattle.laws.proofs.Rows.{Known, row_at}
use Rattle.rules.specs.Lists.{any, keep}
use Rattle.rules.specs.State.{State, commit_of, commits, is_rec, recorded, row_of, start_of, word_in, written, wrote}
use Rattle.rules.specs.Versions.{Installer, LatestBefore, Visible, base_of, installers, newest, version_at, visible}
use Rattle.terms.specs.Words.{committed, done, item, num, row, txn, version}
use Rattle.terms.specs.declared.Rec.{Rec}
use Rattle.terms.specs.declared.Row.{Row}
use Rattle.terms.specs.declared.Version.{Version}

-- the newest is one of the rows or the empty row, and none is newer
pub newest_in : (rs : List Row) → (newest rs ≡ row 0 0 0) ⊎ (newest rs ∈ rs)
unfolding newest
newest_in [] = inl refl
newest_in (r ∷ rs) = go (ltb (done (newest rs)) (done r)) (newest_in rs)
  where
    go : (b : Bool) → (newest rs ≡ row 0 0 0) ⊎ (newest rs ∈ rs) → (cond b r (newest rs) ≡ row 0 0 0) ⊎ (cond b r (newest rs) ∈ (r ∷ rs))
    go true h = inr (Memᴰ.head refl)
    go false (inl e) = inl e
    go false (inr m) = inr (Memᴰ.tail m)

pub newest-last : {r : Row} (rs : List Row) → r ∈ rs → done r ≤ done (newest rs)
unfolding newest
newest-last {r} (q ∷ rs) m = go (ltb (done (newest rs)) (done q)) refl m (newest-last rs)
  where
    go : (b : Bool) → ltb (done (newest rs)) (done q) ≡ b → r ∈ (q ∷ rs) → (r ∈ rs → done r ≤ done (newest rs))
        → done r ≤ done (cond b q (newest rs))
    go true t (Memᴰ.head e) h = omega (arith, ap done e)
    go true t (Memᴰ.tail k) h = omega (arith, h k, ltb-true)
    go false t (Memᴰ.head e) h = omega (arith, ap done e, ltb-false)
    go false t (Memᴰ.tail k) h = h k
newest-last {r = r} [] m = elim m [ ]

module _ (s : State) where
  -- a record of t, of item i and kind k
  pub recorded_out : (t i k : ℕ) → recorded s t i k ≡ true → (x : Rec) × (x ∈ s.recs) × (txn x ≡ t) × (item x ≡ i) × (x.kind ≡ k)
  unfolding recorded
  recorded_out t i k h =
      let u = any_out (is_rec t i k) s.recs h in
      let v = simp and-eq-true_iff at u.2 in
      (u.0, u.1, eqb-true _ _ v.0.0, eqb-true _ _ v.0.1, eqb-true _ _ v.1)

  pub recorded_in : {x : Rec} (t i k : ℕ) → x ∈ s.recs → txn x ≡ t → item x ≡ i → x.kind ≡ k → recorded s t i k ≡ true
  unfolding recorded
  recorded_in t i k m p q r = any_in (is_rec t i k) m (and_both _ _ (and_both _ _ (eq-eqb _ _ p) (eq-eqb _ _ q)) (eq-eqb _ _ r))

  pub installers_in : {r : Row} (i m : ℕ) → r ∈ s.rows → committed r ≡ true → done r < m → wrote s (num r) i ≡ true → r ∈ installers s i m
  unfolding installers
  installers_in i m mr c l w = keep_in _ mr (and_both _ _ (and_both _ _ c (lt-ltb _ _ l)) w)

  pub installers_out : {r : Row} (i m : ℕ) → r ∈ installers s i m → (r ∈ s.rows) × (committed r ≡ true) × (done r < m) × (wrote s (num r) i ≡ true)
  unfolding installers
  installers_out {r} i m mi =
      let u = keep_out _ s.rows mi in
      let v = simp and-eq-true_iff at u.1 in
      (u.0, v.0.0, ltb-true _ _ v.0.1, v.1)

  -- the version of an item among some installers
  abbrev pub version_of : ℕ → List Row → Version
  version_of i l = elim (num (newest l)) [ zero ↦ base_of s i | suc w ↦ version (suc w) (written s (suc w) i) ]

  pub version_of_lem : (i m : ℕ) → version_at s i m ≡ version_of i (installers s i m)
  unfolding version_at
  version_of_lem i m = refl

  -- it is the newest installer's, or the value tables'
  pub version-kept : (i m : ℕ) → 0 < num (newest (installers s i m))
      → version_at s i m ≡ version (num (newest (installers s i m))) (written s (num (newest (installers s i m))) i)
  unfolding version_at
  version-kept i m h = go (num (newest (installers s i m))) h
    where
      go : (n : ℕ) → 0 < n → ◌≡◌ {A = Version} (elim n [ zero ↦ base_of s i | suc w ↦ version (suc w) (written s (suc w) i) ]) (version n (written s n i))
      go zero l = absurd (omega arith)
      go (suc n) l = refl

  pub version-base : (i m : ℕ) → num (newest (installers s i m)) ≡ 0 → version_at s i m ≡ base_of s i
  unfolding version_at
  version-base i m h = rw (h, version_at) refl

  -- a committed transaction has a committed row
  pub commits_out : {t : ℕ} → t ∈ commits s → (r : Row) × (r ∈ s.rows) × (committed r ≡ true) × (num r ≡ t)
  unfolding commits
  commits_out m =
      let u = Memᴰ.of_map num (keep committed s.rows) m in
      let k = keep_out committed s.rows u.1 in
      (u.0, k.0, k.1, u.2)

  pub commits_in : {r : Row} → r ∈ s.rows → committed r ≡ true → num r ∈ commits s
  unfolding commits
  commits_in m c = Memᴰ.map num (keep_in committed m c)

-- versions go by the installers, the records and the value tables
pub version-by : (z s : State) → z.writers ≡ s.writers → z.values ≡ s.values → z.recs ≡ s.recs → (i m n : ℕ) → installers z i m ≡ installers s i n → version_at z i m ≡ version_at s i n
version-by z s p q r i m n e =
    version_of_lem z i m ∙ (λ j. elim (num (newest (e j))) [ zero ↦ version (get_or (p j) i 0) (get_or (q j) i 0) | suc w ↦ version (suc w) (word_in (suc w) i 2 (r j)) ]) ∙ sym (version_of_lem s i n)

-- with the same rows, none of which commits later than moment m, the installers are the same a moment later
pub gone_later : (z s : State) → z.rows ≡ s.rows → z.recs ≡ s.recs → (i m : ℕ) → ((r : Row) → r ∈ s.rows → committed r ≡ true → done r < m) → installers z i (m + 1) ≡ installers s i m
unfolding installers recorded
gone_later z s e f i m h =
    (λ j. keep (λ r. committed r && ltb (done r) (m + 1) && any (is_rec (num r) i 2) (f j)) (e j))
    ∙ keep_same _ _ s.rows (λ r mr. go r mr (committed r) refl)
  where
    go : (r : Row) → r ∈ s.rows → (b : Bool) → committed r ≡ b → (b && ltb (done r) (m + 1) && any (is_rec (num r) i 2) s.recs) ≡ (b && ltb (done r) m && any (is_rec (num r) i 2) s.recs)
    go r mr false c = refl
    go r mr true c = let l = h r mr c in λ j. (lt-ltb (done r) (m + 1) (omega arith) ∙ sym (lt-ltb (done r) m l)) j && any (is_rec (num r) i 2) s.recs

-- where none stands between two moments, the installers before both are the same, and so is the version
pub installers_between : (s : State) (i m n : ℕ) → m ≤ n → ((q : Row) → q ∈ installers s i n → done q < m) → installers s i n ≡ installers s i m
unfolding installers
installers_between s i m n l h =
    keep_same _ _ s.rows (λ r mr. both_ways _ _
    (λ t. let u = simp and-eq-true_iff at t in and_both _ _ (and_both _ _ u.0.0 (lt-ltb (done r) m (h r (keep_in _ mr t)))) u.1)
    (λ t. let u = simp and-eq-true_iff at t in let k = ltb-true (done r) m u.0.1 in and_both _ _ (and_both _ _ u.0.0 (lt-ltb (done r) n (omega arith))) u.1))

pub between : (s : State) (i m n : ℕ) → m ≤ n → ((q : Row) → q ∈ installers s i n → done q < m) → version_at s i n ≡ version_at s i m
between s i m n l h = version_of_lem s i n ∙ ap (version_of s i) (installers_between s i m n l h) ∙ sym (version_of_lem s i m)

-- ---- where a version comes from

-- a committed writer of item i
pub record Writer (s : State) (i : ℕ) (r : Row) : Type 0 where
  pub here : r ∈ s.rows
  pub ended : committed r ≡ true
  pub wrote : wrote s (num r) i ≡ true

-- c's version of item i is the one with the latest commit before moment m
pub record Installed (s : State) (i m : ℕ) (c : Row) : Type 0 where
  pub by : Writer s i c
  pub early : done c < m
  pub last : (r : Row) → r ∈ installers s i m → done r ≤ done c
  pub is : version_at s i m ≡ version (num c) (written s (num c) i)

-- no version was installed before moment m
pub record Unwritten (s : State) (i m : ℕ) : Type 0 where
  pub none : (r : Row) → r ∈ installers s i m → ⊥
  pub is : version_at s i m ≡ base_of s i

pub writer_in : (s : State) {r : Row} (i m : ℕ) → Writer s i r → done r < m → r ∈ installers s i m
writer_in s i m w l = installers_in s i m w.here w.ended l w.wrote

-- it comes from an installer, or from the value tables
pub stands : (s : State) → Known s → (i m : ℕ) → Unwritten s i m ⊎ ((c : Row) × Installed s i m c)
stands s k i m = go (newest_in (installers s i m))
  where
    c : Row
    c = newest (installers s i m)

    go : (c ≡ row 0 0 0) ⊎ (c ∈ installers s i m) → Unwritten s i m ⊎ ((c : Row) × Installed s i m c)
    go (inl e) = inl (record {
      none = λ r mr. eqb-false (done r) 0 (not-true _ (installers_out s i m mr).1) (omega (arith, newest-last _ mr, ap done e));
      is = version-base s i m (ap num e);
    })
    go (inr n) =
        let u = installers_out s i m n in
        inr (
          c,
          record {
            by = record { here = u.0; ended = u.1; wrote = u.3 };
            early = u.2;
            last = λ r mr. newest-last _ mr;
            is = version-kept s i m (k.positive u.0);
          },
        )

-- ---- the same by the words of the definitions
module _ (s : State) (k : Known s) where
  pub installer_in : (i m : ℕ) {r : Row} → Writer s i r → done r < m → Installer s i m (num r)
  installer_in i m w l = record { here = commits_in s w.here w.ended; wrote = w.wrote; before = omega (arith, ap done (row_at s k w.here)) }

  pub installer_out : (i m : ℕ) {c : ℕ} → Installer s i m c → (r : Row) × Writer s i r × (done r < m) × (num r ≡ c) × (commit_of s c ≡ done r)
  installer_out i m x =
      let u = commits_out s x.here in
      let e = ap done (ap (row_of s.rows) (sym u.3) ∙ row_at s k u.1) in
      (u.0, record { here = u.1; ended = u.2; wrote = ap (λ (c : ℕ). wrote s c i) u.3 ∙ x.wrote }, omega (arith, x.before, e), u.3, e)

  -- the version at a moment is the one with the latest commit before it
  pub latest_decides : (i m : ℕ) (v : Version) → (version_at s i m ≡ v) ↔ LatestBefore s i m v
  latest_decides i m v = (λ e. there e (stands s k i m), λ x. back x (stands s k i m))
    where
      inside : {c : ℕ} → Installer s i m c → (r : Row) × (r ∈ installers s i m) × Writer s i r × (num r ≡ c) × (commit_of s c ≡ done r)
      inside x = let u = installer_out i m x in (u.0, writer_in s i m u.1 u.2, u.1, u.3, u.4)

      there : version_at s i m ≡ v → Unwritten s i m ⊎ ((c : Row) × Installed s i m c) → LatestBefore s i m v
      there e (inl n) = LatestBefore.base (λ c x. let u = inside x in n.none u.0 u.1) (sym e ∙ n.is)
      there e (inr (r, n)) =
          LatestBefore.installed (num r) (installer_in i m n.by n.early)
          (λ c x. let u = inside x in omega (arith, u.4, n.last u.0 u.1, ap done (row_at s k n.by.here))) (sym e ∙ n.is)

      back : LatestBefore s i m v → Unwritten s i m ⊎ ((c : Row) × Installed s i m c) → version_at s i m ≡ v
      back (LatestBefore.base none e) (inl n) = n.is ∙ sym e
      back (LatestBefore.base none e) (inr (r, n)) = absurd (none (num r) (installer_in i m n.by n.early))
      back (LatestBefore.installed w x last e) (inl n) = let u = inside x in absurd (n.none u.0 u.1)
      back (LatestBefore.installed w x last e) (inr (r, n)) =
          let u = inside x in
          let late = last (num r) (installer_in i m n.by n.early) in
          let same : r ≡ u.0 = k.distinct n.by.here n.by.ended u.2.here u.2.ended
          (omega (arith, late, n.last u.0 u.1, u.4, ap done (row_at s k n.by.here))) in
          let num-same : num r ≡ w = ap num same ∙ u.3 in
          n.is ∙ ap (λ (c : ℕ). version c (written s c i)) num-same ∙ sym e

  pub visible_decides : (t i : ℕ) (v : Version) → (visible s t i ≡ v) ↔ Visible s t i v
  unfolding visible
  visible_decides t i v = latest_decides i (start_of s t) v

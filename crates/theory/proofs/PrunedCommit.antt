-- A commit: pruned before or after, the state is the same, and so is the ring test. Assumes nothing.
use Prim.Native.Nat.{◌+◌, ◌<◌, ◌≤◌, ℕ}
use mathlib.Core.Bool.{Bool, ◌&&◌, ◌||◌, false, false≢true, not, true}
use mathlib.Core.List.Memᴰ
use mathlib.Core.Logic.{◌⊎◌, inl, inr}
use mathlib.Core.Path.{◌∙◌, ◌≡◌, ap, refl, subst, sym}
use native.Mathlib.Omega.{arith}
use lib.Dec.{eqb, ltb}
use borrow.Author.Tests.{eq-eqb, eqb-true, le-ltb, ne_eqb}
use Rattle.laws.proofs.Keeping.{keep-map, keep-map-map, pairs-map}
use Rattle.laws.proofs.Lists.{◌∈◌, all_in, all_out, both_ways, keep_out, or_left, passed}
use Rattle.laws.proofs.Rings.{ring_decides}
use Rattle.laws.proofs.Rows.{Ascend, num-stamp, row_at}
use Rattle.laws.proofs.Spending.{spent_commits, spent_decides, spent_old, spent_there}
use Rattle.laws.proofs.Tables.{map-zero}
use Rattle.laws.proofs.Versions.{Writer, commits_in, commits_out, gone_later, version-by}
use Rattle.rules.specs.Deps.{dep, follows, overwrites, read_before, reads_from, ring}
use Rattle.rules.specs.Lists.{any, keep, pairs}
use Rattle.rules.specs.Spent.{Spent, forget, is_spent, old, prune}
use Rattle.rules.specs.State.{State, commit_of, commits, committing, is_rec, recorded, row_of, wrote}
use Rattle.rules.specs.Versions.{installers, version_at}
use Rattle.terms.specs.Words.{commit_at, committed, done, is_read, is_write, item, num, stamp, start, txn, writer}
use Rattle.terms.specs.declared.Row.{Row}
use Rattle.terms.specs.declared.Version.{Version}
use Rattle.theory.proofs.Actives.{Active, active-kept, idle, no_dep}
use Rattle.theory.proofs.Consequences.{behind, one_row, row_is}
use Rattle.theory.proofs.Facts.{Facts}
use Rattle.theory.proofs.Forgetting.{Behind, Rowed, gone_of}
use Rattle.theory.proofs.PrunedDrop.{its_row}
use Rattle.theory.proofs.Pruning.{prune-forget, prune-is, ring_in, ring_out}

module _ (s : State) (v : Facts s) (t : ℕ) (a : Active s t) where
  -- the row of t, committed
  abbrev pub mine : Row
  mine = commit_at s.moment a.0

  alter_other : (r : Row) → eqb (num r) t ≡ false → stamp t s.moment r ≡ r
  alter_other r f = rw f refl

  alter_mine : (r : Row) → r ∈ s.rows → eqb (num r) t ≡ true → stamp t s.moment r ≡ mine
  alter_mine r m h = rw h (ap (commit_at s.moment) (one_row s v m a.1 (eqb-true _ _ h ∙ sym a.2)))

  -- a row after the commit is another's, as it was, or t's
  abbrev pub Was : Row → Type 0
  Was q = ((q ∈ s.rows) × (eqb (num q) t ≡ false)) ⊎ (q ≡ mine)

  pub rows-commit : {q : Row} → q ∈ (committing s t).rows → Was q
  unfolding committing
  rows-commit {q} m = let u = Memᴰ.of_map _ s.rows m in go u.0 u.1 u.2 (passed (eqb (num u.0) t))
    where
      go : (r : Row) → r ∈ s.rows → stamp t s.moment r ≡ q → (eqb (num r) t ≡ true) ⊎ (eqb (num r) t ≡ false)
          → Was q
      go r m e (inl h) = inr (sym e ∙ alter_mine r m h)
      go r m e (inr f) = let k : r ≡ q = sym (alter_other r f) ∙ e in inl (Memᴰ.cast (sym k) m, ap (λ (z : Row). eqb (num z) t) (sym k) ∙ f)

  pub rows-commit_in : {q : Row} → q ∈ s.rows → eqb (num q) t ≡ false → q ∈ (committing s t).rows
  unfolding committing
  rows-commit_in {q} m f = Memᴰ.cast (sym (alter_other q f)) (Memᴰ.map (stamp t s.moment) m)

  pub begun-before : 0 < s.moment
  begun-before = omega (arith, (v.started a.1).1)

  pub mine-committed : committed mine ≡ true
  mine-committed = ap not (ne_eqb s.moment 0 (λ (e : s.moment ≡ 0). omega (arith, begun-before)))

  pub ascend_commit : Ascend (committing s t).rows
  unfolding committing
  ascend_commit =
      pairs-map (λ a b. ltb (num a) (num b)) (stamp t s.moment) s.rows
      ∙ (λ j. pairs (λ a b. ltb (num-stamp t s.moment a j) (num-stamp t s.moment b j)) s.rows) ∙ v.ascend

  pub rowed_commit : Rowed (committing s t)
  unfolding committing
  rowed_commit = record {
    known = record {
      ascend = ascend_commit;
      positive = λ m. pos (rows-commit m);
      distinct = λ mq cq mr cr e. dis (rows-commit mq) cq (rows-commit mr) cr e;
    };
    early = λ m c. ear (rows-commit m) c;
    within = λ m. v.within m;
  }
    where
      pos : {q : Row} → Was q → 1 ≤ num q
      pos (inl x) = (v.numbers x.0).0
      pos (inr x) = rw x (v.numbers a.1).0

      dis : {q r : Row} → Was q → committed q ≡ true → Was r → committed r ≡ true → done q ≡ done r → q ≡ r
      dis (inl x) cq (inl y) cr e = v.distinct x.0 cq y.0 cr e
      dis (inl x) cq (inr y) cr e = absurd (omega (arith, (v.ends x.0 cq).1, ap done y))
      dis (inr x) cq (inl y) cr e = absurd (omega (arith, (v.ends y.0 cr).1, ap done x))
      dis (inr x) cq (inr y) cr e = x ∙ sym y

      ear : {q : Row} → Was q → committed q ≡ true → done q < s.moment + 1
      ear (inl x) c = omega (arith, (v.ends x.0 c).1)
      ear (inr x) c = omega (arith, ap done x)

  pub same-recorded : (b i k : ℕ) → recorded (committing s t) b i k ≡ recorded s b i k
  unfolding recorded committing
  same-recorded b i k = refl

  installers-commit : (i m : ℕ) → m ≤ s.moment → installers (committing s t) i m ≡ installers s i m
  unfolding installers recorded committing
  installers-commit i m l = keep-map _ _ s.rows (λ r mr. go r mr (passed (eqb (num r) t)))
    where
      shut : (x z : Bool) → (x && ltb s.moment m && z) ≡ false
      shut true z = rw (le-ltb s.moment m l) refl
      shut false z = refl

      go : (r : Row) → r ∈ s.rows → (eqb (num r) t ≡ true) ⊎ (eqb (num r) t ≡ false)
          → (stamp t s.moment r ≡ r)
          ⊎ (((committed (stamp t s.moment r) && ltb (done (stamp t s.moment r)) m
          && any (is_rec (num (stamp t s.moment r)) i 2) s.recs) ≡ false)
          × ((committed r && ltb (done r) m && any (is_rec (num r) i 2) s.recs) ≡ false))
      go r mr (inr f) = inl (alter_other r f)
      go r mr (inl h) =
          let e = alter_mine r mr h in
          inr (rw e (shut (committed mine) _), rw (its_row s v t a r mr (eqb-true _ _ h)) refl)

  pub version-commit : (i m : ℕ) → m ≤ s.moment → version_at (committing s t) i m ≡ version_at s i m
  unfolding committing
  version-commit i m l = version-by (committing s t) s refl refl refl i m m (installers-commit i m l)

  pub not-mine : {r : Row} → r ∈ s.rows → committed r ≡ true → eqb (num r) t ≡ false
  not-mine {r} m c = ne_eqb _ _ (λ e. false≢true (sym (its_row s v t a r m e) ∙ c))

  commits-commit : {b : ℕ} → b ∈ commits s → b ∈ commits (committing s t)
  commits-commit m =
      let u = commits_out s m in
      Memᴰ.cast (sym u.3) (commits_in (committing s t) (rows-commit_in u.1 (not-mine u.1 u.2)) u.2)

  pub commits-commit_out : {b : ℕ} → b ∈ commits (committing s t) → (b ∈ commits s) ⊎ (b ≡ t)
  commits-commit_out {b} m = let u = commits_out (committing s t) m in go u.0 u.2 u.3 (rows-commit u.1)
    where
      go : (r : Row) → committed r ≡ true → num r ≡ b → Was r → (b ∈ commits s) ⊎ (b ≡ t)
      go r c e (inl x) = inl (Memᴰ.cast (sym e) (commits_in s x.0 c))
      go r c e (inr x) = inr (sym e ∙ ap num x ∙ a.2)

  row-commit : {b : ℕ} → b ∈ commits s → (row_of (committing s t).rows b ≡ row_of s.rows b) × (commit_of s b < s.moment)
  row-commit {b} m =
      let u = commits_out s m in
      let p : row_of s.rows b ≡ u.0 = row_is s v u.1 u.3 in (
        ap (row_of (committing s t).rows) (sym u.3) ∙ row_at (committing s t) rowed_commit.known (rows-commit_in u.1 (not-mine u.1 u.2)) ∙ sym p,
        omega (arith, ap done p, (v.ends u.1 u.2).1),
      )

  follows-commit : {b : ℕ} (i w : ℕ) → b ∈ commits s → follows (committing s t) i w b ≡ follows s i w b
  unfolding follows
  follows-commit {b} i w m =
      let u = row-commit m in
      let p = ap (λ (q : Row). version_at (committing s t) i (done q)) u.0 ∙ version-commit i (commit_of s b) (omega (arith, u.1)) in
      λ j. same-recorded b i 2 j && eqb (writer (p j)) w

  pub dep-commit : {b : ℕ} (c : ℕ) → b ∈ commits s → dep (committing s t) c b ≡ dep s c b
  unfolding dep reads_from overwrites read_before committing
  dep-commit {b} c m =
      λ j. not (eqb c b) && (any (λ x. eqb (txn x) b && is_read x && eqb x.word c) s.recs
      || any (λ x. eqb (txn x) b && is_write x && follows-commit (item x) c m j) s.recs
      || any (λ x. eqb (txn x) c && is_read x && follows-commit (item x) x.word m j) s.recs)

  old-commit : (b : ℕ) → Spent s b → old (committing s t) b ≡ true
  unfolding old
  old-commit b p = all_in _ (committing s t).rows (λ r m. go r (rows-commit m))
    where
      go : (r : Row) → Was r → (committed r || ltb (commit_of (committing s t) b) (start r)) ≡ true
      go r (inl x) = rw (row-commit (spent_commits s p)).0 (all_out (λ r. committed r || ltb (commit_of s b) (start r)) x.0 (spent_old s p))
      go r (inr x) = or_left (committed r) _ (ap (λ (q : Row). committed q) x ∙ mine-committed)

  pub spent_commit : {b : ℕ} → Spent s b → Spent (committing s t) b
  spent_commit =
      spent_there s (committing s t) (λ b p. commits-commit (spent_commits s p)) old-commit
      (λ c b p m d. let e = sym (dep-commit c (spent_commits s p)) ∙ d in (go c b p e (commits-commit_out m), e))
    where
      go : (c b : ℕ) → Spent s b → dep s c b ≡ true → (c ∈ commits s) ⊎ (c ≡ t) → c ∈ commits s
      go c b p e (inl m) = m
      go c b p e (inr q) = absurd (no_dep s v a p (subst (λ (k : ℕ). dep s k b ≡ true) q e))

  -- a committed writer of an item before the commit, or t
  pub writer-commit : (i : ℕ) {q : Row} → Writer (committing s t) i q → Writer s i q ⊎ ((q ≡ mine) × (wrote s t i ≡ true))
  writer-commit i {q} w = go (rows-commit w.here)
    where
      go : Was q → Writer s i q ⊎ ((q ≡ mine) × (wrote s t i ≡ true))
      go (inl x) = inl (record { here = x.0; ended = w.ended; wrote = sym (same-recorded (num q) i 2) ∙ w.wrote })
      go (inr x) = inr (x, ap (λ (k : ℕ). wrote s k i) (sym (ap num x ∙ a.2)) ∙ sym (same-recorded (num q) i 2) ∙ w.wrote)

  behind_commit : Behind (is_spent s) (committing s t)
  behind_commit i q r wq wr h l = go (writer-commit i wq) (writer-commit i wr)
    where
      go : Writer s i q ⊎ ((q ≡ mine) × (wrote s t i ≡ true)) → Writer s i r ⊎ ((r ≡ mine) × (wrote s t i ≡ true)) → is_spent s (num q) ≡ true
      go (inl x) (inl y) = behind s v i q r x y h l
      go (inr x) (inl y) = absurd (omega (arith, (v.ends y.here y.ended).1, ap done x.0))
      go x (inr y) = absurd (false≢true (sym (active-kept s v a) ∙ ap (is_spent s) (sym a.2 ∙ ap num (sym y.0)) ∙ h))

  idle_commit : (r : Row) → r ∈ (committing s t).rows → is_spent s (num r) ≡ true → committed r ≡ true
  idle_commit r m h = go (rows-commit m)
    where
      go : Was r → committed r ≡ true
      go (inl x) = idle s v r x.0 h
      go (inr x) = rw x mine-committed

  -- what is forgotten is as it was
  rows_gone : keep (λ r. is_spent s (num r)) (committing s t).rows ≡ keep (λ r. is_spent s (num r)) s.rows
  unfolding committing
  rows_gone = keep-map _ _ s.rows (λ r mr. go r mr (passed (eqb (num r) t)))
    where
      go : (r : Row) → r ∈ s.rows → (eqb (num r) t ≡ true) ⊎ (eqb (num r) t ≡ false)
          → (stamp t s.moment r ≡ r)
          ⊎ ((is_spent s (num (stamp t s.moment r)) ≡ false) × (is_spent s (num r) ≡ false))
      go r mr (inr f) = inl (alter_other r f)
      go r mr (inl h) =
          let k = active-kept s v a in
          inr (ap (λ (q : Row). is_spent s (num q)) (alter_mine r mr h) ∙ ap (is_spent s) a.2 ∙ k, ap (is_spent s) (eqb-true _ _ h) ∙ k)

  gone_commit : (i : ℕ) → version_at (gone_of (is_spent s) (committing s t)) i (s.moment + 1) ≡ version_at (gone_of (is_spent s) s) i s.moment
  unfolding committing
  gone_commit i =
      version-by (gone_of (is_spent s) (committing s t)) (gone_of (is_spent s) s) refl refl refl i (s.moment + 1) s.moment
      (gone_later (gone_of (is_spent s) (committing s t)) (gone_of (is_spent s) s) rows_gone refl i s.moment (λ r m c. (v.ends (keep_out _ s.rows m).0 c).1))

  commit-forget : committing (forget (is_spent s) s) t ≡ forget (is_spent s) (committing s t)
  unfolding committing forget
  commit-forget =
      let p = map-zero (λ i. (version_at (gone_of (is_spent s) (committing s t)) i (s.moment + 1)).value) (λ i. (version_at (gone_of (is_spent s) s) i s.moment).value) s.count (λ i l. ap (λ (k : Version). k.value) (gone_commit i)) in
      let q = map-zero (λ i. writer (version_at (gone_of (is_spent s) (committing s t)) i (s.moment + 1))) (λ i. writer (version_at (gone_of (is_spent s) s) i s.moment)) s.count (λ i l. ap writer (gone_commit i)) in
      let u = keep-map-map (stamp t s.moment) (λ r. not (is_spent s (num r))) s.rows (λ r. ap {B = Bool} (λ k. not (is_spent s k)) (num-stamp t s.moment r)) in
      λ j. record { count = s.count; next = s.next; moment = s.moment + 1; values = sym p j; writers = sym q j; rows = sym u j; recs = keep (λ x. not (is_spent s (txn x))) s.recs }

  pub commit_pruned : prune (committing (prune s) t) ≡ prune (committing s t)
  commit_pruned =
      ap (λ (z : State). prune (committing z t)) (prune-is s) ∙ ap prune commit-forget
      ∙ prune-forget (is_spent s) (committing s t) rowed_commit behind_commit idle_commit (λ n h. spent_commit ((spent_decides s n).0 h))

  pub ring_pruned : ring (committing (prune s) t) ≡ ring (committing s t)
  ring_pruned =
      ap (λ (z : State). ring (committing z t)) (prune-is s) ∙ ap ring commit-forget
      ∙ both_ways _ _
      (λ h. (ring_decides (committing s t)).1 (ring_out (is_spent s) (committing s t) rowed_commit behind_commit ((ring_decides (forget (is_spent s) (committing s t))).0 h)))
      (λ h. (ring_decides (forget (is_spent s) (committing s t))).1 (ring_in (is_spent s) (committing s t) rowed_commit behind_commit idle_commit (λ n h. spent_commit ((spent_decides s n).0 h)) ((ring_decides (committing s t)).0 h)))

  pub mine_in : mine ∈ (committing s t).rows
  unfolding committing
  mine_in = Memᴰ.cast (rw (eq-eqb (num a.0) t a.2) refl) (Memᴰ.map (stamp t s.moment) a.1)

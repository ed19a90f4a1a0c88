-- Forgetting transactions whose versions stand before the kept ones changes no version that can be asked for, and no dependency of kept ones. Assumes nothing.
use Prim.Native.Nat.{◌<◌, ◌≤◌, ℕ}
use mathlib.Core.Bool.{Bool, ◌&&◌, ◌||◌, and-eq-true_iff, false, false≢true, not, true}
use mathlib.Core.List.Memᴰ
use mathlib.Core.Logic.{◌⊎◌, inl, inr}
use mathlib.Core.Path.{◌∙◌, ◌≡◌, ap, refl, subst, sym}
use native.Mathlib.Omega.{arith}
use lib.Dec.{eqb, ltb}
use borrow.Author.Tests.{eqb-false, eqb-true, lt-ltb, ltb-false, ltb-true, not-true}
use Rattle.laws.proofs.Keeping.{any-kept}
use Rattle.laws.proofs.Lists.{◌∈◌, and_both, and_left, both_ways, keep_in, keep-keep, keep_out, keep_same, pairs-keep, passed}
use Rattle.laws.proofs.Records.{word_in-keep}
use Rattle.laws.proofs.Rows.{Ascend, Known, row_at, row_of-keep}
use Rattle.laws.proofs.Tables.{get_or-zero}
use Rattle.laws.proofs.Versions.{Installed, Unwritten, Writer, commits_in, commits_out, installers_in, installers_out, stands, version_of_lem, version_of, writer_in}
use Rattle.rules.specs.Deps.{dep, follows, overwrites, read_before, reads_from}
use Rattle.rules.specs.Lists.{any, keep}
use Rattle.rules.specs.Spent.{forget}
use Rattle.rules.specs.State.{State, commit_of, commits, is_rec, recorded, row_of, with_rows, word_in, written, wrote}
use Rattle.rules.specs.Versions.{base_of, installers, version_at}
use Rattle.terms.specs.Words.{committed, done, is_read, is_write, item, num, txn, version, writer}
use Rattle.terms.specs.declared.Rec.{Rec}
use Rattle.terms.specs.declared.Row.{Row}
use Rattle.terms.specs.declared.Version.{Version}

-- what is asked of a state's rows and records
pub record Rowed (s : State) : Type 0 where
  pub known : Known s
  pub early : {r : Row} → r ∈ s.rows → committed r ≡ true → done r < s.moment
  pub within : {x : Rec} → x ∈ s.recs → item x < s.count

-- a state with fewer rows and records
pub rowed_less : (s z : State) → Ascend z.rows → ((r : Row) → r ∈ z.rows → r ∈ s.rows) → ((x : Rec) → x ∈ z.recs → x ∈ s.recs)
    → z.moment ≡ s.moment → z.count ≡ s.count → Rowed s → Rowed z
rowed_less s z o f g m c w = record {
  known = record {
    ascend = o;
    positive = λ {r} k. w.known.positive (f r k);
    distinct = λ {q} {r} mq cq mr cr e. w.known.distinct (f q mq) cq (f r mr) cr e;
  };
  early = λ {r} k e. omega (arith, w.early (f r k) e);
  within = λ {x} k. omega (arith, w.within (g x k));
}

-- of each item, the forgotten versions stand before the kept ones
abbrev pub Behind : (ℕ → Bool) → State → Type 0
Behind g s = (i : ℕ) (q r : Row) → Writer s i q → Writer s i r → g (num r) ≡ true → done q < done r → g (num q) ≡ true

-- ---- what is kept
module _ (g : ℕ → Bool) (s : State) where
  pub recorded-forget : (t i k : ℕ) → g t ≡ false → recorded (forget g s) t i k ≡ recorded s t i k
  unfolding forget recorded
  recorded-forget t i k f =
      any-kept (is_rec t i k) (is_rec t i k) _ s.recs (λ x mx h. refl) (λ x mx h. ap not (ap g (eqb-true _ _ (and_left _ _ (and_left _ _ h))) ∙ f))

  pub word_forget : (t i k : ℕ) → g t ≡ false → word_in t i k (forget g s).recs ≡ word_in t i k s.recs
  unfolding forget
  word_forget t i k f = word_in-keep t i k _ s.recs (λ x mx h. ap not (ap g (eqb-true _ _ (and_left _ _ (and_left _ _ h))) ∙ f))

  pub row-forget : (t : ℕ) → g t ≡ false → row_of (forget g s).rows t ≡ row_of s.rows t
  unfolding forget
  row-forget t f = row_of-keep _ t s.rows (λ r m e. ap not (ap g e ∙ f))

  pub rows_in : {r : Row} → r ∈ s.rows → g (num r) ≡ false → r ∈ (forget g s).rows
  unfolding forget
  rows_in m f = keep_in _ m (ap not f)

  pub rows_out : {r : Row} → r ∈ (forget g s).rows → (r ∈ s.rows) × (g (num r) ≡ false)
  unfolding forget
  rows_out m = let u = keep_out _ s.rows m in (u.0, not-true _ u.1)

  pub recs_out : {x : Rec} → x ∈ (forget g s).recs → (x ∈ s.recs) × (g (txn x) ≡ false)
  unfolding forget
  recs_out m = let u = keep_out _ s.recs m in (u.0, not-true _ u.1)

  pub commits-forget_in : {b : ℕ} → b ∈ commits s → g b ≡ false → b ∈ commits (forget g s)
  commits-forget_in m f =
      let u = commits_out s m in
      Memᴰ.cast (sym u.3) (commits_in (forget g s) (rows_in u.1 (ap g u.3 ∙ f)) u.2)

  pub commits-forget_out : {b : ℕ} → b ∈ commits (forget g s) → (b ∈ commits s) × (g b ≡ false)
  commits-forget_out m =
      let u = commits_out (forget g s) m in
      let v = rows_out u.1 in
      (Memᴰ.cast (sym u.3) (commits_in s v.0 u.2), sym (ap g u.3) ∙ v.1)

  pub writer-forget_in : (i : ℕ) {r : Row} → Writer s i r → g (num r) ≡ false → Writer (forget g s) i r
  writer-forget_in i {r} w f = record { here = rows_in w.here f; ended = w.ended; wrote = recorded-forget (num r) i 2 f ∙ w.wrote }

  pub writer-forget_out : (i : ℕ) {r : Row} → Writer (forget g s) i r → Writer s i r × (g (num r) ≡ false)
  writer-forget_out i {r} w =
      let u = rows_out w.here in
      (record { here = u.0; ended = w.ended; wrote = sym (recorded-forget (num r) i 2 u.1) ∙ w.wrote }, u.1)

  -- the forgotten rows
  abbrev pub gone_of : State
  gone_of = with_rows s (keep (λ r. g (num r)) s.rows)

  -- the value tables hold the versions of the forgotten
  pub base-forget : (i : ℕ) → i < s.count → base_of (forget g s) i ≡ version_at gone_of i s.moment
  unfolding forget
  base-forget i below =
      let p = get_or-zero (λ k. writer (version_at gone_of k s.moment)) s.count i below in
      let q = get_or-zero (λ k. (version_at gone_of k s.moment).value) s.count i below in
      λ j. version (p j) (q j)

-- ---- what is asked, of the rows that are left and of those that are gone
pub rowed_forget : (g : ℕ → Bool) (s : State) → Rowed s → Rowed (forget g s)
unfolding forget
rowed_forget g s w =
    rowed_less s (forget g s) (pairs-keep _ _ s.rows w.known.ascend) (λ r m. (rows_out g s m).0) (λ x m. (recs_out g s m).0) refl refl w

pub rowed_gone : (g : ℕ → Bool) (s : State) → Rowed s → Rowed (gone_of g s)
rowed_gone g s w = rowed_less s (gone_of g s) (pairs-keep _ _ s.rows w.known.ascend) (λ r m. (keep_out _ s.rows m).0) (λ x m. m) refl refl w

pub behind_forget : (g h : ℕ → Bool) (s : State) → Behind g s → Behind g (forget h s)
behind_forget g h s b i q r wq wr t l = b i q r (writer-forget_out h s i wq).0 (writer-forget_out h s i wr).0 t l

-- ---- versions
module _ (g : ℕ → Bool) (s : State) (w : Rowed s) (b : Behind g s) where
  installers-kept : {r : Row} (i m : ℕ) → r ∈ installers s i m → g (num r) ≡ false → r ∈ installers (forget g s) i m
  installers-kept {r} i m mi f =
      let u = installers_out s i m mi in
      installers_in (forget g s) i m (rows_in g s u.0 f) u.1 u.2 (recorded-forget g s (num r) i 2 f ∙ u.3)

  -- the forgotten versions of an item all stand before moment m
  module _ (i m : ℕ) (below : i < s.count) (past : (r : Row) → Writer s i r → g (num r) ≡ true → done r < m) where
    -- where no kept one stands before m, the installers before m are the forgotten ones
    gone_installers : ((r : Row) → r ∈ installers s i m → g (num r) ≡ true) → installers (gone_of g s) i s.moment ≡ installers s i m
    unfolding installers recorded
    gone_installers none = keep-keep _ _ s.rows ∙ keep_same _ _ s.rows (λ r mr. both_ways _ _ (there r mr) (back r mr))
      where
        there : (r : Row) → r ∈ s.rows
            → (g (num r) && (committed r && ltb (done r) s.moment && any (is_rec (num r) i 2) s.recs)) ≡ true
            → (committed r && ltb (done r) m && any (is_rec (num r) i 2) s.recs) ≡ true
        there r mr t =
            let v = simp and-eq-true_iff at t in
            and_both _ _ (and_both _ _ v.1.0.0 (lt-ltb _ _ (past r (record { here = mr; ended = v.1.0.0; wrote = v.1.1 }) v.0))) v.1.1

        back : (r : Row) → r ∈ s.rows
            → (committed r && ltb (done r) m && any (is_rec (num r) i 2) s.recs) ≡ true
            → (g (num r) && (committed r && ltb (done r) s.moment && any (is_rec (num r) i 2) s.recs)) ≡ true
        back r mr t =
            let v = simp and-eq-true_iff at t in
            and_both _ _ (none r (keep_in _ mr t)) (and_both _ _ (and_both _ _ v.0.0 (lt-ltb _ _ (w.early mr v.0.0))) v.1)

    gone_version : installers (gone_of g s) i s.moment ≡ installers s i m → version_at (gone_of g s) i s.moment ≡ version_at s i m
    gone_version e = version_of_lem (gone_of g s) i s.moment ∙ ap (version_of s i) e ∙ sym (version_of_lem s i m)

    -- forgetting leaves the version as it is
    pub version-forget : version_at (forget g s) i m ≡ version_at s i m
    version-forget = go (stands (forget g s) (rowed_forget g s w).known i m) (stands s w.known i m)
      where
        go : Unwritten (forget g s) i m ⊎ ((c : Row) × Installed (forget g s) i m c) → Unwritten s i m ⊎ ((c : Row) × Installed s i m c)
            → version_at (forget g s) i m ≡ version_at s i m
        go (inl n) k = n.is ∙ base-forget g s i below ∙ gone_version (gone_installers none)
          where
            none : (r : Row) → r ∈ installers s i m → g (num r) ≡ true
            none r mr = pick (passed (g (num r)))
              where
                pick : (g (num r) ≡ true) ⊎ (g (num r) ≡ false) → g (num r) ≡ true
                pick (inl t) = t
                pick (inr f) = absurd (n.none r (installers-kept i m mr f))
        go (inr (c, n)) (inl k) = absurd (k.none c (writer_in s i m (writer-forget_out g s i n.by).0 n.early))
        go (inr (c, n)) (inr (d, k)) =
            n.is ∙ ap (version (num c)) (word_forget g s (num c) i 2 u.1) ∙ ap (λ (r : Row). version (num r) (written s (num r) i)) same ∙ sym k.is
          where
            u : Writer s i c × (g (num c) ≡ false)
            u = writer-forget_out g s i n.by

            late : (g (num d) ≡ true) ⊎ (g (num d) ≡ false) → (ltb (done c) (done d) ≡ true) ⊎ (ltb (done c) (done d) ≡ false) → done d ≤ done c
            late (inr f) l = n.last d (writer_in (forget g s) i m (writer-forget_in g s i k.by f) k.early)
            late (inl t) (inr l) = ltb-false _ _ l
            late (inl t) (inl l) = absurd (false≢true (sym u.1 ∙ b i c d u.0 k.by t (ltb-true _ _ l)))

            same : c ≡ d
            same =
                w.known.distinct u.0.here u.0.ended k.by.here k.by.ended
                (omega (arith, k.last c (writer_in s i m u.0 n.early), late (passed (g (num d))) (passed (ltb (done c) (done d)))))

  -- ---- dependencies

  -- the forgotten versions of an item stand before a kept one
  past_kept : (i : ℕ) {r : Row} → Writer s i r → g (num r) ≡ false → (c : Row) → Writer s i c → g (num c) ≡ true → done c < done r
  past_kept i {r} wr f c wc t = pick (passed (ltb (done r) (done c))) (passed (eqb (done r) (done c)))
    where
      pick : (ltb (done r) (done c) ≡ true) ⊎ (ltb (done r) (done c) ≡ false) → (eqb (done r) (done c) ≡ true) ⊎ (eqb (done r) (done c) ≡ false) → done c < done r
      pick (inl l) e = absurd (false≢true (sym f ∙ b i r c wr wc t (ltb-true _ _ l)))
      pick (inr l) (inl e) =
          absurd (false≢true (sym f ∙ ap (λ (q : Row). g (num q)) (w.known.distinct wr.here wr.ended wc.here wc.ended (eqb-true _ _ e)) ∙ t))
      pick (inr l) (inr e) = omega (arith, ltb-false, eqb-false)

  follows-forget : (i v : ℕ) {r : Row} → r ∈ s.rows → committed r ≡ true → g (num r) ≡ false → i < s.count → follows (forget g s) i v (num r) ≡ follows s i v (num r)
  unfolding follows
  follows-forget i v {r} mr cr f below = go (wrote s (num r) i) refl
    where
      go : (k : Bool) → wrote s (num r) i ≡ k
          → (wrote (forget g s) (num r) i && eqb (writer (version_at (forget g s) i (commit_of (forget g s) (num r)))) v) ≡ (wrote s (num r) i && eqb (writer (version_at s i (commit_of s (num r)))) v)
      go false e = rw (recorded-forget g s (num r) i 2 f, e) refl
      go true e =
          rw (recorded-forget g s (num r) i 2 f, e, row-forget g s (num r) f, row_at s w.known mr)
          (ap (λ (p : Version). eqb (writer p) v) (version-forget i (done r) below (past_kept i (record { here = mr; ended = cr; wrote = e }) f)))

  -- forgetting leaves the dependencies between kept ones as they are
  pub dep-forget : {a b : ℕ} → b ∈ commits s → g a ≡ false → g b ≡ false → dep (forget g s) a b ≡ dep s a b
  unfolding dep reads_from overwrites read_before forget
  dep-forget {a} {b} mb fa fb =
      let u = commits_out s mb in
      let follow : (x : Rec) (v : ℕ) → x ∈ s.recs → follows (forget g s) (item x) v b ≡ follows s (item x) v b
      = λ x v mx. subst (λ (k : ℕ). follows (forget g s) (item x) v k ≡ follows s (item x) v k) u.3 (follows-forget (item x) v u.1 u.2 (ap g u.3 ∙ fb) (w.within mx)) in
      let left : (x : Rec) (t : ℕ) (k l : Bool) → g t ≡ false → (eqb (txn x) t && k && l) ≡ true → not (g (txn x)) ≡ true
      = λ x t k l f h. ap not (ap g (eqb-true _ _ (and_left _ _ (and_left _ _ h))) ∙ f) in
      let p = any-kept (λ x. eqb (txn x) b && is_read x && eqb x.word a) (λ x. eqb (txn x) b && is_read x && eqb x.word a) (λ x. not (g (txn x))) s.recs
      (λ x mx t. refl) (λ x mx t. left x b _ _ fb t) in
      let q = any-kept (λ x. eqb (txn x) b && is_write x && follows (forget g s) (item x) a b) (λ x. eqb (txn x) b && is_write x && follows s (item x) a b) (λ x. not (g (txn x))) s.recs
      (λ x mx t. ap {B = Bool} (λ k. eqb (txn x) b && is_write x && k) (follow x a mx)) (λ x mx t. left x b _ _ fb t) in
      let r = any-kept (λ x. eqb (txn x) a && is_read x && follows (forget g s) (item x) x.word b) (λ x. eqb (txn x) a && is_read x && follows s (item x) x.word b) (λ x. not (g (txn x))) s.recs
      (λ x mx t. ap {B = Bool} (λ k. eqb (txn x) a && is_read x && k) (follow x x.word mx)) (λ x mx t. left x a _ _ fa t) in
      λ j. not (eqb a b) && (p j || q j || r j)

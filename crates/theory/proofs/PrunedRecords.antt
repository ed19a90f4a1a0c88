-- A read and a write on the pruned state are those of the state, pruned, and give the same values; so does the latest value. Assumes nothing.
use Prim.Native.Nat.{◌<◌, ℕ}
use mathlib.Core.Bool.{Bool, ◌&&◌, ◌||◌, cond, false, false≢true, not, true}
use mathlib.Core.List.{map}
use mathlib.Core.Logic.{◌⊎◌, inl, inr}
use mathlib.Core.Path.{◌∙◌, ◌≡◌, ap, refl, subst, sym}
use native.Mathlib.Omega.{arith}
use lib.Dec.{eqb, ltb}
use borrow.Author.Tests.{ne_eqb}
use Rattle.laws.proofs.Lists.{◌∈◌, keep_out, keep_same}
use Rattle.laws.proofs.Records.{any-insert, keep-insert, key_inj, word_in-insert}
use Rattle.laws.proofs.Rows.{Known}
use Rattle.laws.proofs.Spending.{same_spent}
use Rattle.laws.proofs.Versions.{commits_out, installers_out, newest_in, version-base, version-kept}
use Rattle.rules.specs.Deps.{dep, follows, overwrites, read_before, reads_from}
use Rattle.rules.specs.Lists.{any, keep, upfrom}
use Rattle.rules.specs.Spent.{forget, is_spent, old, prune}
use Rattle.rules.specs.State.{State, commit_of, commits, has_read, insert, is_rec, recorded, row_of, start_of, with_recs, word_in, written, wrote}
use Rattle.rules.specs.Versions.{after_read, after_write, installers, latest, newest, read_value, version_at, visible}
use Rattle.terms.specs.Words.{committed, done, is_read, is_write, item, key, num, rec, row, start, txn, version, writer}
use Rattle.terms.specs.declared.Rec.{Rec}
use Rattle.terms.specs.declared.Row.{Row}
use Rattle.terms.specs.declared.Version.{Version}
use Rattle.theory.proofs.Actives.{Active, active-kept, past}
use Rattle.theory.proofs.Consequences.{behind, keyed, known, row_is, rowed}
use Rattle.theory.proofs.Facts.{Facts}
use Rattle.theory.proofs.Forgetting.{gone_of, recorded-forget, row-forget, rowed_gone, version-forget, word_forget}
use Rattle.theory.proofs.PrunedDrop.{its_row}
use Rattle.theory.proofs.Pruning.{forget_ext, prune-is}

-- a record of a transaction that is not committed changes no version, and no dependency of others
module _ (s : State) (k : Known s) (x : Rec) (idle : (r : Row) → r ∈ s.rows → num r ≡ txn x → committed r ≡ false)
    (same : (y : Rec) → y ∈ s.recs → key x ≡ key y → txn x ≡ txn y) where
  abbrev pub grown : State
  grown = with_recs s (insert x s.recs)

  other : (u i k : ℕ) → (u ≡ txn x → ⊥) → (y : Rec) → txn x ≡ txn y → is_rec u i k y ≡ false
  other u i k n y e = rw (ne_eqb (txn y) u (λ (q : txn y ≡ u). n (sym q ∙ sym e))) refl

  pub recorded-put : (u i k : ℕ) → (u ≡ txn x → ⊥) → recorded grown u i k ≡ recorded s u i k
  unfolding recorded
  recorded-put u i k n = any-insert (is_rec u i k) x s.recs (other u i k n x refl) (λ y m e. other u i k n y (same y m e))

  word_put : (u i k : ℕ) → (u ≡ txn x → ⊥) → word_in u i k (insert x s.recs) ≡ word_in u i k s.recs
  word_put u i k n = word_in-insert u i k x s.recs (other u i k n x refl) (λ y m e. other u i k n y (same y m e))

  not_owner : {r : Row} → r ∈ s.rows → committed r ≡ true → num r ≡ txn x → ⊥
  not_owner {r} m c e = false≢true (sym (idle r m e) ∙ c)

  installers-put : (i m : ℕ) → installers grown i m ≡ installers s i m
  unfolding installers
  installers-put i m = keep_same _ _ s.rows (λ r mr. go r mr (committed r) refl)
    where
      go : (r : Row) → r ∈ s.rows → (b : Bool) → committed r ≡ b → (b && ltb (done r) m && wrote grown (num r) i) ≡ (b && ltb (done r) m && wrote s (num r) i)
      go r mr false c = refl
      go r mr true c = ap {B = Bool} (λ k. ltb (done r) m && k) (recorded-put (num r) i 2 (not_owner mr c))

  pub version-put : (i m : ℕ) → version_at grown i m ≡ version_at s i m
  version-put i m = go (newest_in (installers s i m))
    where
      e : newest (installers grown i m) ≡ newest (installers s i m)
      e = ap newest (installers-put i m)

      go : (newest (installers s i m) ≡ row 0 0 0) ⊎ (newest (installers s i m) ∈ installers s i m) → version_at grown i m ≡ version_at s i m
      go (inl q) = version-base grown i m (ap num (e ∙ q)) ∙ sym (version-base s i m (ap num q))
      go (inr n) =
          let u = installers_out s i m n in
          let l = k.positive u.0 in
          version-kept grown i m (omega (arith, ap num e)) ∙ ap {B = Version} (λ r. version (num r) (written grown (num r) i)) e
          ∙ ap (version (num (newest (installers s i m)))) (word_put (num (newest (installers s i m))) i 2 (not_owner u.0 u.1)) ∙ sym (version-kept s i m l)

  follows-put : (i k b : ℕ) → (b ≡ txn x → ⊥) → follows grown i k b ≡ follows s i k b
  unfolding follows
  follows-put i k b n = λ j. recorded-put b i 2 n j && eqb (writer (version-put i (commit_of s b) j)) k

  pub dep-put : (c b : ℕ) → (c ≡ txn x → ⊥) → (b ≡ txn x → ⊥) → dep grown c b ≡ dep s c b
  unfolding dep reads_from overwrites read_before
  dep-put c b nc nb =
      let p = any-insert (λ y. eqb (txn y) b && is_read y && eqb y.word c) x s.recs (off b nb x refl _ _) (λ y m e. off b nb y (same y m e) _ _) in
      let q : any (λ y. eqb (txn y) b && is_write y && follows grown (item y) c b) (insert x s.recs) ≡ any (λ y. eqb (txn y) b && is_write y && follows s (item y) c b) s.recs
      = (λ j. any (λ y. eqb (txn y) b && is_write y && follows-put (item y) c b nb j) (insert x s.recs))
      ∙ any-insert (λ y. eqb (txn y) b && is_write y && follows s (item y) c b) x s.recs (off b nb x refl _ _) (λ y m e. off b nb y (same y m e) _ _) in
      let r : any (λ y. eqb (txn y) c && is_read y && follows grown (item y) y.word b) (insert x s.recs) ≡ any (λ y. eqb (txn y) c && is_read y && follows s (item y) y.word b) s.recs
      = (λ j. any (λ y. eqb (txn y) c && is_read y && follows-put (item y) y.word b nb j) (insert x s.recs))
      ∙ any-insert (λ y. eqb (txn y) c && is_read y && follows s (item y) y.word b) x s.recs (off c nc x refl _ _) (λ y m e. off c nc y (same y m e) _ _) in
      λ j. not (eqb c b) && (p j || q j || r j)
    where
      off : (u : ℕ) → (u ≡ txn x → ⊥) → (y : Rec) → txn x ≡ txn y → (k l : Bool) → (eqb (txn y) u && k && l) ≡ false
      off u n y e k l = rw (ne_eqb (txn y) u (λ (q : txn y ≡ u). n (sym q ∙ sym e))) refl

module _ (s : State) (v : Facts s) (t : ℕ) (a : Active s t) where
  -- a record of t
  module _ (x : Rec) (mine : txn x ≡ t) (below : item x < s.count) (kind : x.kind < 256) where
    pub lone : (r : Row) → r ∈ s.rows → num r ≡ txn x → committed r ≡ false
    lone r m e = its_row s v t a r m (e ∙ mine)

    pub agree : (y : Rec) → y ∈ s.recs → key x ≡ key y → txn x ≡ txn y
    agree y m e = (key_inj x y (omega (arith, v.counts.1), kind) (keyed s v m) e).0

    pub not_own : {b : ℕ} → b ∈ commits s → b ≡ txn x → ⊥
    not_own m e = let u = commits_out s m in false≢true (sym (lone u.0 u.1 (u.3 ∙ e)) ∙ u.2)

    spent_put : (n : ℕ) → is_spent s n ≡ is_spent (grown s (known s v) x lone agree) n
    unfolding commits old
    spent_put = same_spent s (grown s (known s v) x lone agree) refl (λ b m. refl) (λ c b mc mb. dep-put s (known s v) x lone agree c b (not_own mc) (not_own mb))

    left : is_spent s (txn x) ≡ false
    left = ap (is_spent s) mine ∙ active-kept s v a

    gone_put : (i m : ℕ) → version_at (gone_of (is_spent s) (grown s (known s v) x lone agree)) i m ≡ version_at (gone_of (is_spent s) s) i m
    gone_put i m = version-put (gone_of (is_spent s) s) (rowed_gone (is_spent s) s (rowed s v)).known x (λ r mr e. lone r (keep_out _ s.rows mr).0 e) agree i m

    forget-put : with_recs (forget (is_spent s) s) (insert x (forget (is_spent s) s).recs) ≡ forget (is_spent s) (grown s (known s v) x lone agree)
    unfolding forget
    forget-put =
        let u = keep-insert (λ y. not (is_spent s (txn y))) x s.recs (ap not left) v.sorted (λ y m e. ap not (ap (is_spent s) (sym (agree y m e)) ∙ left)) in
        λ j. record {
          count = s.count;
          next = s.next;
          moment = s.moment;
          values = map (λ i. (sym (gone_put i s.moment) j).value) (upfrom 0 s.count);
          writers = map (λ i. writer (sym (gone_put i s.moment) j)) (upfrom 0 s.count);
          rows = keep (λ r. not (is_spent s (num r))) s.rows;
          recs = sym u j;
        }

    pub put_pruned : with_recs (prune s) (insert x (prune s).recs) ≡ prune (with_recs s (insert x s.recs))
    put_pruned =
        ap (λ (z : State). with_recs z (insert x z.recs)) (prune-is s) ∙ forget-put
        ∙ forget_ext (grown s (known s v) x lone agree) spent_put ∙ sym (prune-is (grown s (known s v) x lone agree))

  -- what t sees, and what it has done
  pub recorded_pruned : (i k : ℕ) → recorded (prune s) t i k ≡ recorded s t i k
  recorded_pruned i k = ap (λ (z : State). recorded z t i k) (prune-is s) ∙ recorded-forget (is_spent s) s t i k (active-kept s v a)

  pub word_pruned : (i k : ℕ) → word_in t i k (prune s).recs ≡ word_in t i k s.recs
  word_pruned i k = ap (λ (z : State). word_in t i k z.recs) (prune-is s) ∙ word_forget (is_spent s) s t i k (active-kept s v a)

  pub visible_pruned : (i : ℕ) → i < s.count → visible (prune s) t i ≡ visible s t i
  unfolding visible
  visible_pruned i l =
      let e : row_of s.rows t ≡ a.0 = row_is s v a.1 a.2 in
      ap (λ (z : State). version_at z i (start_of z t)) (prune-is s)
      ∙ ap (λ (r : Row). version_at (forget (is_spent s) s) i (start r)) (row-forget (is_spent s) s t (active-kept s v a))
      ∙ version-forget (is_spent s) s (rowed s v) (behind s v) i (start_of s t) l (λ r w h. subst (λ (q : Row). done r < start q) (sym e) (past s v w.here h a))

  pub read_pruned : (i : ℕ) → i < s.count → after_read (prune s) t i ≡ prune (after_read s t i)
  unfolding after_read
  read_pruned i l =
      (λ j. cond (recorded_pruned i 1 j || recorded_pruned i 2 j) (prune s) (with_recs (prune s) (insert (rec t i 1 (writer (visible_pruned i l j))) (prune s).recs)))
      ∙ go (has_read s t i || wrote s t i)
    where
      x : Rec
      x = rec t i 1 (writer (visible s t i))

      go : (b : Bool) → cond b (prune s) (with_recs (prune s) (insert (rec t i 1 (writer (visible s t i))) (prune s).recs)) ≡ prune (cond b s (with_recs s (insert (rec t i 1 (writer (visible s t i))) s.recs)))
      go true = refl
      go false = put_pruned (rec t i 1 (writer (visible s t i))) refl l (omega arith)

  pub write_pruned : (i k : ℕ) → i < s.count → after_write (prune s) t i k ≡ prune (after_write s t i k)
  unfolding after_write
  write_pruned i k l = put_pruned (rec t i 2 k) refl l (omega arith)

  pub value_pruned : (i : ℕ) → i < s.count → read_value (prune s) t i ≡ read_value s t i
  unfolding read_value
  value_pruned i l = λ j. cond (recorded_pruned i 2 j) (word_pruned i 2 j) (visible_pruned i l j).value

pub latest_pruned : (s : State) → Facts s → (i : ℕ) → i < s.count → latest (prune s) i ≡ latest s i
unfolding latest forget
latest_pruned s v i l =
    ap (λ (z : State). (version_at z i z.moment).value) (prune-is s)
    ∙ ap (λ (p : Version). p.value) (version-forget (is_spent s) s (rowed s v) (behind s v) i s.moment l (λ r w h. (v.ends w.here w.ended).1))

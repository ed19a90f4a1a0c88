-- A begin on the pruned state is the begin, pruned. Assumes nothing.
use Prim.Native.Nat.{◌+◌, ℕ}
use mathlib.Core.Bool.{◌&&◌, ◌||◌, false, not, true}
use mathlib.Core.List.Memᴰ
use mathlib.Core.List.{[], ◌++◌, ◌∷◌, map}
use mathlib.Core.Logic.{◌⊎◌, inl, inr}
use mathlib.Core.Path.{◌∙◌, ◌≡◌, ap, refl, sym}
use native.Mathlib.Omega.{arith}
use lib.Dec.{eqb, ltb}
use borrow.Author.Tests.{lt-ltb, ne_eqb}
use Rattle.laws.proofs.Keeping.{keep_snoc, keep_snoc_in}
use Rattle.laws.proofs.Lists.{◌∈◌, all_in, all_out, both_ways, keep_out, or_right, passed}
use Rattle.laws.proofs.Rows.{row_of_snoc}
use Rattle.laws.proofs.Spending.{same_spent, spent_decides}
use Rattle.laws.proofs.Tables.{map-zero}
use Rattle.laws.proofs.Versions.{commits_out, gone_later, version-by}
use Rattle.rules.specs.Deps.{dep, follows, overwrites, read_before, reads_from}
use Rattle.rules.specs.Lists.{all, any, keep}
use Rattle.rules.specs.Spent.{forget, is_spent, old, prune}
use Rattle.rules.specs.State.{State, begun, commit_of, commits, is_rec, recorded, row_of}
use Rattle.rules.specs.Versions.{installers, version_at}
use Rattle.terms.specs.Words.{committed, done, is_read, is_write, item, num, row, start, txn, writer}
use Rattle.terms.specs.declared.Row.{Row}
use Rattle.terms.specs.declared.Version.{Version}
use Rattle.theory.proofs.Actives.{spent_row}
use Rattle.theory.proofs.Consequences.{row_is}
use Rattle.theory.proofs.Facts.{Facts}
use Rattle.theory.proofs.Forgetting.{gone_of}
use Rattle.theory.proofs.Pruning.{forget_ext, prune-is}

module _ (s : State) (v : Facts s) where
  abbrev pub new : Row
  new = row s.next s.moment 0

  pub commits-begun : commits (begun s) ≡ commits s
  unfolding commits begun
  commits-begun = ap (map num) (keep_snoc committed new s.rows refl)

  installers-begun : (i m : ℕ) → installers (begun s) i m ≡ installers s i m
  unfolding installers recorded begun
  installers-begun i m = keep_snoc _ new s.rows refl

  pub version-begun : (i m : ℕ) → version_at (begun s) i m ≡ version_at s i m
  unfolding begun
  version-begun i m = version-by (begun s) s refl refl refl i m m (installers-begun i m)

  row-begun : {b : ℕ} → b ∈ commits s → row_of (begun s).rows b ≡ row_of s.rows b
  unfolding begun
  row-begun {b} m = let u = commits_out s m in row_of_snoc new b s.rows (ne_eqb _ _ (λ (e : s.next ≡ b). omega (arith, (v.numbers u.1).1, u.3)))

  follows-begun : {b : ℕ} (i w : ℕ) → b ∈ commits s → follows (begun s) i w b ≡ follows s i w b
  unfolding follows recorded begun
  follows-begun {b} i w m =
      let p = ap (λ (q : Row). version_at (begun s) i (done q)) (row-begun m) ∙ version-begun i (commit_of s b) in
      λ j. any (is_rec b i 2) s.recs && eqb (writer (p j)) w

  pub dep-begun : {b : ℕ} (c : ℕ) → b ∈ commits s → dep (begun s) c b ≡ dep s c b
  unfolding dep reads_from overwrites read_before begun
  dep-begun {b} c m =
      λ j. not (eqb c b) && (any (λ x. eqb (txn x) b && is_read x && eqb x.word c) s.recs
      || any (λ x. eqb (txn x) b && is_write x && follows-begun (item x) c m j) s.recs
      || any (λ x. eqb (txn x) c && is_read x && follows-begun (item x) x.word m j) s.recs)

  old-begun : (b : ℕ) → b ∈ commits s → old (begun s) b ≡ old s b
  unfolding old begun
  old-begun b m =
      both_ways _ _
      (λ h. all_in _ s.rows (λ r mr. ap (λ (q : Row). committed r || ltb (done q) (start r)) (sym (row-begun m)) ∙ all_out (λ r. committed r || ltb (commit_of (begun s) b) (start r)) (Memᴰ.append_left (new ∷ []) mr) h))
      (λ h. all_in _ (s.rows ++ (new ∷ [])) (λ r mr. ap (λ (q : Row). committed r || ltb (done q) (start r)) (row-begun m) ∙ go h r (Memᴰ.append_cases s.rows mr)))
    where
      go : all (λ r. committed r || ltb (commit_of s b) (start r)) s.rows ≡ true → (r : Row) → (r ∈ s.rows) ⊎ (r ∈ (new ∷ [])) → (committed r || ltb (commit_of s b) (start r)) ≡ true
      go h r (inl k) = all_out (λ r. committed r || ltb (commit_of s b) (start r)) k h
      go h r (inr k) =
          let u = commits_out s m in
          let p : row_of s.rows b ≡ u.0 = row_is s v u.1 u.3 in
          or_right (committed r) _ (lt-ltb (commit_of s b) (start r) (omega (arith, ap done p, (v.ends u.1 u.2).1, ap start (Memᴰ.eq_of_singleton k))))

  fresh : is_spent s s.next ≡ false
  fresh = go (passed (is_spent s s.next))
    where
      go : (is_spent s s.next ≡ true) ⊎ (is_spent s s.next ≡ false) → is_spent s s.next ≡ false
      go (inr f) = f
      go (inl h) = let u = spent_row s v ((spent_decides s s.next).0 h) in absurd (omega (arith, (v.numbers u.1).1, u.3))

  gone_begun : (i : ℕ) → version_at (gone_of (is_spent s) (begun s)) i (s.moment + 1) ≡ version_at (gone_of (is_spent s) s) i s.moment
  unfolding begun
  gone_begun i =
      version-by (gone_of (is_spent s) (begun s)) (gone_of (is_spent s) s) refl refl refl i (s.moment + 1) s.moment
      (gone_later (gone_of (is_spent s) (begun s)) (gone_of (is_spent s) s) (keep_snoc (λ r. is_spent s (num r)) new s.rows fresh) refl i s.moment (λ r m c. (v.ends (keep_out _ s.rows m).0 c).1))

  begun-forget : begun (forget (is_spent s) s) ≡ forget (is_spent s) (begun s)
  unfolding begun forget
  begun-forget =
      let p = map-zero (λ i. (version_at (gone_of (is_spent s) (begun s)) i (s.moment + 1)).value) (λ i. (version_at (gone_of (is_spent s) s) i s.moment).value) s.count (λ i l. ap (λ (k : Version). k.value) (gone_begun i)) in
      let q = map-zero (λ i. writer (version_at (gone_of (is_spent s) (begun s)) i (s.moment + 1))) (λ i. writer (version_at (gone_of (is_spent s) s) i s.moment)) s.count (λ i l. ap writer (gone_begun i)) in
      let u = keep_snoc_in (λ r. not (is_spent s (num r))) new s.rows (ap not fresh) in
      λ j. record { count = s.count; next = s.next + 1; moment = s.moment + 1; values = sym p j; writers = sym q j; rows = sym u j; recs = keep (λ x. not (is_spent s (txn x))) s.recs }

  pub begin_pruned : begun (prune s) ≡ prune (begun s)
  begin_pruned = ap begun (prune-is s) ∙ begun-forget ∙ forget_ext (begun s) (same_spent s (begun s) commits-begun old-begun (λ c b mc mb. dep-begun c mb)) ∙ sym (prune-is (begun s))

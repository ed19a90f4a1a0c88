-- The pruned state of a lawful one is sound. Assumes nothing.
use Prim.Native.Nat.{◌+◌, ◌<◌, ◌≤◌, ℕ}
use mathlib.Core.Bool.{Bool, false, false≢true, not, true}
use mathlib.Core.List.Memᴰ
use mathlib.Core.List.{map}
use mathlib.Core.Logic.{◌⊎◌, inl, inr}
use mathlib.Core.Path.{◌∙◌, ◌≡◌, ap, refl, subst, sym}
use native.Mathlib.Omega.{arith}
use lib.Dec.{ltb}
use lib.ListN.{length, length-map}
use borrow.Author.Tests.{le-leb, ltb-false, ltb-true}
use Rattle.laws.proofs.Graph.{least_back}
use Rattle.laws.proofs.Keeping.{keep_swap}
use Rattle.laws.proofs.Lists.{◌∈◌, all_in, and_both, keep_out, pairs-keep, passed}
use Rattle.lists.proofs.Keeps.{length-keep}
use Rattle.laws.proofs.Spending.{spent_decides}
use Rattle.laws.proofs.Tables.{mem-upfrom}
use Rattle.laws.proofs.Versions.{Installed, Unwritten, Writer, recorded_in, stands}
use Rattle.rules.specs.Deps.{Ring}
use Rattle.rules.specs.Graph.{Way}
use Rattle.rules.specs.Lists.{keep, upfrom}
use Rattle.rules.specs.Sound.{lean, sized, sound}
use Rattle.rules.specs.Spent.{forget, is_spent, prune}
use Rattle.rules.specs.State.{State, commits, start_of}
use Rattle.rules.specs.Versions.{version_at, visible}
use Rattle.terms.specs.Words.{active, committed, done, item, key, num, start, txn, writer}
use Rattle.terms.specs.declared.Rec.{Rec}
use Rattle.terms.specs.declared.Row.{Row}
use Rattle.theory.proofs.Actives.{idle, past}
use Rattle.theory.proofs.Bare.{sizes_forget}
use Rattle.theory.proofs.Consequences.{behind, row_is, rowed, rowless}
use Rattle.theory.proofs.Facts.{Facts, lawful_from}
use Rattle.theory.proofs.Forgetting.{commits-forget_out, gone_of, recs_out, row-forget, rowed_gone, rows_in, rows_out, version-forget, writer-forget_out}
use Rattle.theory.proofs.Pruning.{ring_out, spent_forget_out}
use Rattle.theory.proofs.Ways.{to_writer}

module _ (g : ℕ → Bool) (s : State) (f : Facts s) where
  less_commits : length (commits (forget g s)) ≤ length (commits s)
  unfolding commits forget
  less_commits =
      omega (
        arith,
        length-map (keep committed (keep (λ r. not (g (num r))) s.rows)) num,
        length-map (keep committed s.rows) num,
        ap length (keep_swap committed (λ r. not (g (num r))) s.rows),
        length-keep (λ r. not (g (num r))) (keep committed s.rows),
      )

  less_active : length (keep active (forget g s).rows) ≤ length (keep active s.rows)
  unfolding forget
  less_active = omega (arith, ap length (keep_swap active (λ r. not (g (num r))) s.rows), length-keep (λ r. not (g (num r))) (keep active s.rows))

  pub facts_forget : ((w : ℕ) → w ∈ (forget g s).writers → (w < s.next) × (w ∈ map num (forget g s).rows → ⊥))
      → ((x : Rec) → x ∈ s.recs → x.kind ≡ 1 → g (txn x) ≡ false → visible (forget g s) (txn x) (item x) ≡ visible s (txn x) (item x)) → Facts (forget g s)
  unfolding forget
  facts_forget bases sees = record {
    sizes = sizes_forget g s;
    ascend = pairs-keep (λ a b. ltb (num a) (num b)) _ s.rows f.ascend;
    sorted = pairs-keep (λ x y. ltb (key x) (key y)) _ s.recs f.sorted;
    counts = f.counts;
    nexts = f.nexts;
    low = omega (arith, less_commits, f.low);
    high = omega (arith, less_active, f.high);
    numbers = λ m. f.numbers (rows_out g s m).0;
    starts = λ ma mb l. f.starts (rows_out g s ma).0 (rows_out g s mb).0 l;
    started = λ m. f.started (rows_out g s m).0;
    ends = λ m c. f.ends (rows_out g s m).0 c;
    distinct = λ ma ca mb cb e. f.distinct (rows_out g s ma).0 ca (rows_out g s mb).0 cb e;
    cross = λ mc cc' mr e. f.cross (rows_out g s mc).0 cc' (rows_out g s mr).0 e;
    kinds = λ m. f.kinds (recs_out g s m).0;
    owner = λ {x} m. let u = recs_out g s m in let o = f.owner u.0 in (o.0, rows_in g s o.1 (ap g o.2 ∙ u.1), o.2);
    within = λ m. f.within (recs_out g s m).0;
    based = λ {w} m. bases w m;
    sees = λ {x} m t. let u = recs_out g s m in f.sees u.0 t ∙ ap writer (sym (sees x u.0 t u.1));
    unmixed = λ i wa wb l. f.unmixed i (writer-forget_out g s i wa).0 (writer-forget_out g s i wb).0 l;
  }

module _ (s : State) (v : Facts s) where
  abbrev p : State
  p = forget (is_spent s) s

  -- ---- what is read

  -- the forgotten versions of an item that a kept transaction read stand before its start: a way would lead from it to one that is spent
  past_read : {x : Rec} → x ∈ s.recs → x.kind ≡ 1 → {r c : Row} → r ∈ s.rows → committed r ≡ true → num r ≡ txn x → is_spent s (num r) ≡ false
      → Writer s (item x) c → is_spent s (num c) ≡ true → start r < done c → ⊥
  past_read {x} mx rx {r} {c} mr cr er left w h l =
      let u = to_writer s v (item x) mr cr (recorded_in s (num r) (item x) 1 mx (sym er) refl rx) w (λ e. false≢true (sym left ∙ ap (is_spent s) e ∙ h)) l in
      false≢true (sym left ∙ (spent_decides s (num r)).1 (least_back (Way.step u.1 u.2) ((spent_decides s (num c)).0 h)))

  -- the version that a kept record's transaction sees is the same
  sees_kept : {x : Rec} → x ∈ s.recs → x.kind ≡ 1 → is_spent s (txn x) ≡ false → visible p (txn x) (item x) ≡ visible s (txn x) (item x)
  unfolding visible
  sees_kept {x} mx rx f =
      ap (λ (q : Row). version_at p (item x) (start q)) (row-forget (is_spent s) s (txn x) f)
      ∙ version-forget (is_spent s) s (rowed s v) (behind s v) (item x) (start_of s (txn x)) (v.within mx)
      (λ c w h. let o = v.owner mx in subst (λ (q : Row). done c < start q) (sym (row_is s v o.1 o.2)) (go c w h o.0 o.1 o.2 (passed (active o.0))))
    where
      go : (c : Row) → Writer s (item x) c → is_spent s (num c) ≡ true → (r : Row) → r ∈ s.rows → num r ≡ txn x → (active r ≡ true) ⊎ (active r ≡ false) → done c < start r
      go c w h r mr e (inl t) = past s v w.here h (r, mr, e, t)
      go c w h r mr e (inr t) = decide (passed (ltb (done c) (start r)))
        where
          decide : (ltb (done c) (start r) ≡ true) ⊎ (ltb (done c) (start r) ≡ false) → done c < start r
          decide (inl y) = ltb-true _ _ y
          decide (inr y) = let no : done c ≡ start r → ⊥ = v.cross w.here w.ended mr in absurd (past_read mx rx mr (ap not t) e (ap (is_spent s) e ∙ f) w h (omega (arith, ltb-false (done c) (start r) y)))

  -- the writers in the value tables have no row
  based-kept : (k : ℕ) → k ∈ p.writers → (k < s.next) × (k ∈ map num p.rows → ⊥)
  unfolding forget
  based-kept k m = let u = Memᴰ.of_map (λ i. writer (version_at (gone_of (is_spent s) s) i s.moment)) (upfrom 0 s.count) m in go u.0 (mem-upfrom 0 s.count u.1) u.2
    where
      norow : ((r : Row) → r ∈ s.rows → is_spent s (num r) ≡ false → num r ≡ k → ⊥) → k ∈ map num p.rows → ⊥
      norow h t = let u = Memᴰ.of_map num p.rows t in let w = rows_out (is_spent s) s u.1 in h u.0 w.0 w.1 u.2

      go : (i : ℕ) → i < 0 + s.count → writer (version_at (gone_of (is_spent s) s) i s.moment) ≡ k → (k < s.next) × (k ∈ map num p.rows → ⊥)
      go i l e = pick (stands (gone_of (is_spent s) s) (rowed_gone (is_spent s) s (rowed s v)).known i s.moment)
        where
          pick : Unwritten (gone_of (is_spent s) s) i s.moment ⊎ ((c : Row) × Installed (gone_of (is_spent s) s) i s.moment c) → (k < s.next) × (k ∈ map num p.rows → ⊥)
          pick (inr (c, n)) =
              let u = keep_out _ s.rows n.by.here in
              let q = ap writer n.is in
              (omega (arith, (v.numbers u.0).1, q), norow (λ z mz f e'. false≢true (sym f ∙ ap (is_spent s) (e' ∙ sym e ∙ q) ∙ u.1)))
          pick (inl n) =
              let u = rowless s v i (omega arith) in
              let q = ap writer n.is in
              (omega (arith, u.0, q), norow (λ z mz f e'. u.1 z mz (e' ∙ sym e ∙ q)))

  facts_kept : Facts p
  facts_kept = facts_forget (is_spent s) s v based-kept (λ x mx rx f. sees_kept mx rx f)

  lean-kept : lean p ≡ true
  unfolding lean
  lean-kept = all_in _ (commits p) (λ t m. ap not (go t (commits-forget_out (is_spent s) s m).1 (passed (is_spent p t))))
    where
      go : (t : ℕ) → is_spent s t ≡ false → (is_spent p t ≡ true) ⊎ (is_spent p t ≡ false) → is_spent p t ≡ false
      go t f (inr n) = n
      go t f (inl h) =
          absurd (false≢true (sym f
          ∙ (spent_decides s t).1 (spent_forget_out (is_spent s) s (rowed s v) (behind s v) (idle s v) (λ n h. (spent_decides s n).0 h) ((spent_decides p t).0 h))))

  pub sound-kept : ¬ Ring s → (n m : ℕ) → length (prune s).rows ≤ n → length (prune s).recs ≤ m → sound n m (prune s) ≡ true
  unfolding sound sized prune
  sound-kept free n m lr lx =
      and_both _ _ (and_both _ _ (and_both _ _ (le-leb _ _ lr) (le-leb _ _ lx))
      (lawful_from p facts_kept (λ r. free (ring_out (is_spent s) s (rowed s v) (behind s v) r)))) lean-kept

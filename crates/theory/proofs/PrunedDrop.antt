-- The end of a transaction: pruned before or after, the state is the same. Assumes nothing.
use Prim.Native.Nat.{ℕ}
use mathlib.Core.Bool.{◌||◌, false, false≢true, not, true}
use mathlib.Core.Path.{◌∙◌, ◌≡◌, ap, subst, sym}
use lib.Dec.{eqb, ltb}
use borrow.Author.Tests.{eqb-true, ne_eqb}
use Rattle.laws.proofs.Keeping.{or_swap}
use Rattle.laws.proofs.Lists.{◌∈◌, all_in, all_out}
use Rattle.laws.proofs.Spending.{spent_commits, spent_decides, spent_old, spent_there}
use Rattle.rules.specs.Spent.{Spent, forget, is_spent, old, prune}
use Rattle.rules.specs.State.{State, commit_of, dropped}
use Rattle.terms.specs.Words.{active, committed, num, start}
use Rattle.terms.specs.declared.Row.{Row}
use Rattle.theory.proofs.Actives.{Active, active-kept, idle}
use Rattle.theory.proofs.Bare.{dropped-is, sizes_forget}
use Rattle.theory.proofs.Consequences.{behind, one_row, rowed}
use Rattle.theory.proofs.Facts.{Facts}
use Rattle.theory.proofs.Forgetting.{Behind, behind_forget, commits-forget_in, commits-forget_out, dep-forget, row-forget, rowed_forget, rows_out}
use Rattle.theory.proofs.Pruning.{forget_ext, forget-forget, prune-forget, prune-is}

module _ (s : State) (v : Facts s) (t : ℕ) (a : Active s t) where
  -- the only row of t is active
  pub its_row : (r : Row) → r ∈ s.rows → num r ≡ t → committed r ≡ false
  its_row r m e = ap not (subst (λ (q : Row). active q ≡ true) (one_row s v a.1 m (a.2 ∙ sym e)) a.3)

  pub behind_only : Behind (λ n. eqb n t) s
  behind_only i q r wq wr h l = absurd (false≢true (sym (its_row r wr.here (eqb-true _ _ h)) ∙ wr.ended))

  abbrev ended : State
  ended = forget (λ n. eqb n t) s

  not_t : {b : ℕ} → Spent s b → eqb b t ≡ false
  not_t {b} p = ne_eqb b t (λ e. false≢true (sym (active-kept s v a) ∙ ap (is_spent s) (sym e) ∙ (spent_decides s b).1 p))

  old-ended : (b : ℕ) → Spent s b → old ended b ≡ true
  unfolding old forget
  old-ended b p =
      all_in _ ended.rows (λ r m. rw (row-forget (λ n. eqb n t) s b (not_t p))
      (all_out (λ r. committed r || ltb (commit_of s b) (start r)) (rows_out (λ n. eqb n t) s m).0 (spent_old s p)))

  spent_ended : {b : ℕ} → Spent s b → Spent ended b
  spent_ended =
      spent_there s ended (λ b p. commits-forget_in (λ n. eqb n t) s (spent_commits s p) (not_t p)) old-ended
      (λ c b p m d. let u = commits-forget_out (λ n. eqb n t) s m in
      (u.0, sym (dep-forget (λ n. eqb n t) s (rowed s v) behind_only (spent_commits s p) u.1 (not_t p)) ∙ d))

  -- a transaction that ends in the pruned state
  ends_pruned : dropped (prune s) t ≡ forget (is_spent s) ended
  ends_pruned =
      ap (λ (z : State). dropped z t) (prune-is s)
      ∙ dropped-is (forget (is_spent s) s) t (sizes_forget (is_spent s) s) (λ r m e. its_row r (rows_out (is_spent s) s m).0 e)
      ∙ forget-forget (is_spent s) (λ n. eqb n t) s (rowed s v) (behind s v)
      ∙ forget_ext s (λ n. or_swap (is_spent s n) (eqb n t))
      ∙ sym (forget-forget (λ n. eqb n t) (is_spent s) s (rowed s v) behind_only)

  pub drop_pruned : prune (dropped (prune s) t) ≡ prune (dropped s t)
  drop_pruned =
      ap prune ends_pruned
      ∙ prune-forget (is_spent s) ended (rowed_forget (λ n. eqb n t) s (rowed s v)) (behind_forget (is_spent s) (λ n. eqb n t) s (behind s v))
      (λ r m h. idle s v r (rows_out (λ n. eqb n t) s m).0 h) (λ n h. spent_ended ((spent_decides s n).0 h))
      ∙ ap prune (sym (dropped-is s t v.sizes its_row))

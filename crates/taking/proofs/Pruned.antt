-- With the places of the spent rows, the tables that are left are those of the pruned state. Assumes nothing.
use Prim.Native.Nat.{ℕ, ◌≤◌}
use mathlib.Core.Bool.{true}
use mathlib.Core.List.{List, map}
use mathlib.Core.Path.{◌≡◌}
use lib.ListN.{length}
use Rattle.rules.specs.Lists.{keep, padded}
use Rattle.rules.specs.Raw.{pack, raw_of, used_recs, zero_row}
use Rattle.rules.specs.Sound.{tested}
use Rattle.rules.specs.Spent.{is_spent, prune}
use Rattle.rules.specs.State.{State, commits}
use Rattle.terms.specs.Words.{num}
use Rattle.terms.specs.declared.Rec.{Rec}
use Rattle.laws.proofs.Lists.{◌∈◌}
use Rattle.laws.proofs.Raw.{Packs}
use Rattle.laws.proofs.Spending.{spent_commits, spent_decides}
use Rattle.graph.specs.Sets.{member}
use Rattle.theory.proofs.Facts.{facts_of}
use Rattle.edges.specs.Blocks.{at}
use Rattle.taking.specs.Leaving.{leaving, stays}
use Rattle.taking.specs.Passing.{Passed}
use Rattle.taking.proofs.Handed.{values_taken, writers_taken}
use Rattle.taking.proofs.Taken.{recs_taken, rows_taken}

module _ (n m : ℕ) (s : State) (h : tested s ≡ true) (fits : (x : Rec) → x ∈ s.recs → Packs x) (room : length s.rows ≤ n)
    (gone : ℕ) (is : (i : ℕ) → member gone i ≡ is_spent s (num (at s.rows i))) where
  only : (t : ℕ) → is_spent s t ≡ true → t ∈ commits s
  only t p = spent_commits s ((spent_decides s t).0 p)

  pub rows_pruned : padded n zero_row (leaving (member gone) 0 (padded n zero_row s.rows)) ≡ (raw_of n m (prune s)).rows
  unfolding prune
  rows_pruned = rows_taken n m s (facts_of s h) fits room (is_spent s) only gone is

  pub recs_pruned : padded m 0 (keep (stays gone (padded n zero_row s.rows)) (used_recs (padded m 0 (map pack s.recs)))) ≡ (raw_of n m (prune s)).recs
  unfolding prune
  recs_pruned = recs_taken n m s (facts_of s h) fits room (is_spent s) only gone is

  module _ {values writers : List ℕ}
      (p : Passed gone (padded n zero_row s.rows) (padded m 0 (map pack s.recs)) (padded 256 0 s.values) (padded 256 0 s.writers) values writers) where
    pub values_pruned : values ≡ (raw_of n m (prune s)).values
    unfolding prune
    values_pruned = values_taken n m s (facts_of s h) fits room (is_spent s) only gone is p

    pub writers_pruned : writers ≡ (raw_of n m (prune s)).writers
    unfolding prune
    writers_pruned = writers_taken n m s (facts_of s h) fits room (is_spent s) only gone is p

-- The transactions that are spent, and the state without them. Assumes nothing.
use Rattle.std.specs.Prelude.{ℕ, Bool, not, ◌&&◌, ◌||◌, List, map, length, ltb}
use Rattle.rules.specs.Lists.{any, all, keep, times, mem, upfrom}
use Rattle.rules.specs.Graph.{Least}
use Rattle.terms.specs.Words.{num, start, committed, txn, writer}
use Rattle.rules.specs.State.{State, with_rows, commit_of, commits}
use Rattle.rules.specs.Versions.{version_at}
use Rattle.rules.specs.Deps.{dep, depends}

-- t's "commit is before the start of every active one"
unfoldable pub old : State → ℕ → Bool
old s t = all (λ r. committed r || ltb (commit_of s t) (start r)) s.rows

-- "A committed transaction is spent when its commit is before the start of every active one and all its incoming dependencies come from
-- spent ones (the least such set)."
abbrev pub Spent : State → ℕ → Type 0
Spent s = Least (depends s) (λ b. mem b (commits s) && old s b)

-- the same as a test. One pass: of those left, the ones that are not old or have a dependency from one that is left;
unfoldable pub sift : State → List ℕ → List ℕ
sift s left = keep (λ b. not (old s b) || any (λ a. dep s a b) left) left

-- those that are not spent: what is left after as many passes as there are committed transactions
unfoldable pub unspent : State → List ℕ
unspent s = times (length (commits s)) (sift s) (commits s)

unfoldable pub is_spent : State → ℕ → Bool
is_spent s t = mem t (commits s) && not (mem t (unspent s))

-- the state without the transactions that pass a test: they "lose rows and records, and their versions pass into the value tables"
unfoldable pub forget : (ℕ → Bool) → State → State
forget g s =
    let gone = with_rows s (keep (λ r. g (num r)) s.rows) in
    record {
      count = s.count;
      next = s.next;
      moment = s.moment;
      values = map (λ i. (version_at gone i s.moment).value) (upfrom 0 s.count);
      writers = map (λ i. writer (version_at gone i s.moment)) (upfrom 0 s.count);
      rows = keep (λ r. not (g (num r))) s.rows;
      recs = keep (λ x. not (g (txn x))) s.recs;
    }

-- "After each accepted commit and each ended transaction, the spent ones lose rows and records, and their versions pass into the value tables."
unfoldable pub prune : State → State
prune s = forget (is_spent s) s

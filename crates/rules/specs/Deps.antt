-- Who is beaten, the dependencies between transactions, and rings. A transaction is spoken of by its number. Assumes nothing.
use Rattle.std.specs.Prelude.{ℕ, ◌<◌, ◌≡◌, Bool, true, not, ◌&&◌, ◌||◌, length, eqb, ltb}
use mathlib.Core.List.{List, Memᴰ}
use Rattle.rules.specs.Lists.{any, keep, times, mem}
use Rattle.rules.specs.Graph.{Edges, Cycle}
use Rattle.terms.specs.Words.{txn, item, is_read, is_write, writer}
use Rattle.rules.specs.State.{State, start_of, commit_of, commits, wrote}
use Rattle.rules.specs.Versions.{version_at}

-- b wrote an item that a wrote
unfoldable pub both_wrote : State → ℕ → ℕ → Bool
both_wrote s a b = any (λ x. eqb (txn x) a && is_write x && wrote s b (item x)) s.recs

-- "T is beaten if a committed transaction whose commit is after T's start wrote an item that T wrote."
unfoldable pub beaten : State → ℕ → Bool
beaten s t = any (λ c. ltb (start_of s t) (commit_of s c) && both_wrote s t c) (commits s)

-- the same as a proposition
pub record Beaten (s : State) (t : ℕ) : Type 0 where
  pub winner : ℕ
  pub here : Memᴰ winner (commits s)
  pub after : start_of s t < commit_of s winner
  pub item : ℕ
  pub mine : wrote s t item ≡ true
  pub theirs : wrote s winner item ≡ true

-- b installed the immediate successor of w's version of item i. "Successors go by commit order."
unfoldable pub follows : State → ℕ → ℕ → ℕ → Bool
follows s i w b = wrote s b i && eqb (writer (version_at s i (commit_of s b))) w

-- "Dependency A to B: B read a version that A installed;
unfoldable pub reads_from : State → ℕ → ℕ → Bool
reads_from s a b = any (λ x. eqb (txn x) b && is_read x && eqb x.word a) s.recs

-- or B installed the immediate successor of a version A installed;
unfoldable pub overwrites : State → ℕ → ℕ → Bool
overwrites s a b = any (λ x. eqb (txn x) b && is_write x && follows s (item x) a b) s.recs

-- or A read a version whose immediate successor B installed."
unfoldable pub read_before : State → ℕ → ℕ → Bool
read_before s a b = any (λ x. eqb (txn x) a && is_read x && follows s (item x) x.word b) s.recs

-- "A and B different"
unfoldable pub dep : State → Edges
dep s a b = not (eqb a b) && (reads_from s a b || overwrites s a b || read_before s a b)

-- the edges between committed transactions; the opening is none
abbrev pub among : State → Edges → Edges
among s e a b = mem a (commits s) && mem b (commits s) && e a b

unfoldable pub depends : State → Edges
depends s = among s (dep s)

-- "Ring: the committed transactions .. have a dependency cycle."
abbrev pub Ring : State → Type 0
Ring s = Cycle (depends s)

-- the same as a test. One pass: the marked, with those to which one of them has a dependency;
unfoldable pub spread : State → List ℕ → List ℕ
spread s marked = keep (λ b. any (λ a. eqb a b || dep s a b) marked) (commits s)

-- those that a reaches, after as many passes as there are committed transactions
unfoldable pub reached : State → ℕ → List ℕ
reached s a = times (length (commits s)) (spread s) (keep (dep s a) (commits s))

unfoldable pub ring : State → Bool
ring s = any (λ a. mem a (reached s a)) (commits s)

-- Versions: which one is visible, what a transaction reads and writes, and an item's latest value. Assumes nothing.
use Rattle.std.specs.Prelude.{ℕ, zero, suc, ◌<◌, ◌≤◌, ◌≡◌, true, ◌&&◌, ◌||◌, cond, get_or, ltb}
use mathlib.Core.List.{List, [], ◌∷◌, Memᴰ}
use Rattle.terms.specs.declared.Row.{Row}
use Rattle.terms.specs.declared.Version.{Version}
use Rattle.rules.specs.Lists.{keep}
use Rattle.terms.specs.Words.{num, done, row, committed, rec, writer, version}
use Rattle.rules.specs.State.{State, with_recs, start_of, commit_of, commits, has_read, wrote, written, insert}

-- the row of the latest commit, or the empty row
unfoldable pub newest : List Row → Row
newest [] = row 0 0 0
newest (r ∷ rs) = let n = newest rs in cond (ltb (done n) (done r)) r n

-- the committed transactions that wrote item i and committed before moment m
unfoldable pub installers : State → ℕ → ℕ → List Row
installers s i m = keep (λ r. committed r && ltb (done r) m && wrote s (num r) i) s.rows

-- the version of item i in the value tables: the opening's, or what transactions that are spent left there
abbrev pub base_of : State → ℕ → Version
base_of s i = version (get_or s.writers i 0) (get_or s.values i 0)

-- the version of item i with the latest commit before moment m
unfoldable pub version_at : State → ℕ → ℕ → Version
version_at s i m = elim (num (newest (installers s i m))) [ zero ↦ base_of s i | suc w ↦ version (suc w) (written s (suc w) i) ]

-- "The version visible to transaction T of item i is the one with the latest commit before T's start; if there is none, the opening's."
unfoldable pub visible : State → ℕ → ℕ → Version
visible s t i = version_at s i (start_of s t)

-- the same as propositions: c is committed, wrote item i, and its commit is before moment m;
pub record Installer (s : State) (i m c : ℕ) : Type 0 where
  pub here : Memᴰ c (commits s)
  pub wrote : wrote s c i ≡ true
  pub before : commit_of s c < m

-- v is the version with the latest commit before moment m; if there is none, the one in the value tables
pub data LatestBefore (s : State) (i m : ℕ) (v : Version) : Type 0 where
  installed : (w : ℕ) → Installer s i m w → ((c : ℕ) → Installer s i m c → commit_of s c ≤ commit_of s w) → v ≡ version w (written s w i) → LatestBefore s i m v
  base : ((c : ℕ) → ¬ Installer s i m c) → v ≡ base_of s i → LatestBefore s i m v

abbrev pub Visible : State → ℕ → ℕ → Version → Type 0
Visible s t i = LatestBefore s i (start_of s t)

-- "Read: if T has written i, T's latest value of i, and no new record. Otherwise the visible version's value, and a read record if there is none yet."
unfoldable pub read_value : State → ℕ → ℕ → ℕ
read_value s t i = cond (wrote s t i) (written s t i) (visible s t i).value

unfoldable pub after_read : State → ℕ → ℕ → State
after_read s t i = cond (has_read s t i || wrote s t i) s (with_recs s (insert (rec t i 1 (writer (visible s t i))) s.recs))

-- "Write: makes T's write record, or changes its word."
unfoldable pub after_write : State → ℕ → ℕ → ℕ → State
after_write s t i v = with_recs s (insert (rec t i 2 v) s.recs)

-- "Latest: the value of the item's version with the latest commit so far, or else the opening's"
unfoldable pub latest : State → ℕ → ℕ
latest s i = (version_at s i s.moment).value

-- The rows by place, and by when they committed. Assumes nothing.
use Rattle.std.specs.Prelude.{ℕ, ◌<◌, Bool, ◌&&◌, List, ltb, leb}
use Rattle.terms.specs.Words.{start, done, committed}
use Rattle.terms.specs.declared.Row.{Row}
use Rattle.edges.specs.Blocks.{at, used_count}

-- the row at j is one of the first b, and passes a test
abbrev pub placed : (Row → Bool) → List Row → ℕ → ℕ → Bool
placed f rs b j = ltb j b && f (at rs j)

-- one of the first b, and committed
abbrev pub ended : List Row → ℕ → ℕ → Bool
ended rs b j = placed committed rs b j

-- its commit is not before moment m; from moment 1 on, it is committed
abbrev pub since : ℕ → Row → Bool
since m r = leb m (done r)

-- the row at j ended before the one at i started
abbrev pub over : List Row → ℕ → ℕ → Bool
over rs j i = ltb (done (at rs j)) (start (at rs i))

-- the starts of the used rows ascend
abbrev pub Rising : List Row → Type 0
Rising rs = (i j : ℕ) → i < j → j < used_count rs → start (at rs i) < start (at rs j)

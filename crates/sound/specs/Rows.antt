-- The sentences on rows as tests that go from row to row. Assumes nothing.
use Rattle.std.specs.Prelude.{ℕ, Bool, true, not, ◌&&◌, ◌||◌, List, [], ◌∷◌, eqb, ltb}
use Rattle.terms.specs.declared.Row.{Row}
use Rattle.terms.specs.Words.{active, done, num, start}
use Rattle.rules.specs.Lists.{pairs}

-- the rows stand by ascending number
abbrev pub ascends : List Row → Bool
ascends rs = pairs (λ a b. ltb (num a) (num b)) rs

-- and by ascending start
abbrev pub rises : List Row → Bool
rises rs = pairs (λ a b. ltb (start a) (start b)) rs

unfoldable pub ends_well : ℕ → Row → Bool
ends_well moment r = active r || (ltb (start r) (done r) && ltb (done r) moment)

-- a row's number and start are above n and b, and its moments below the next
unfoldable pub fine_row : ℕ → ℕ → ℕ → ℕ → Row → Bool
fine_row next moment n b r = ltb n (num r) && (ltb (num r) next && (ltb b (start r) && (ltb (start r) moment && ends_well moment r)))

-- and so on, each above the one before it
unfoldable pub fine_from : ℕ → ℕ → ℕ → ℕ → List Row → Bool
fine_from next moment n b [] = true
fine_from next moment n b (r ∷ rs) = fine_row next moment n b r && fine_from next moment (num r) (start r) rs

-- a's commit is no moment of b's, which stands behind it
unfoldable pub apart_from : Row → Row → Bool
apart_from a b = active a || (not (eqb (done a) (done b)) && not (eqb (done a) (start b)))

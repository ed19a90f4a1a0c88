-- A row table of any length and 32 rows beside it: what is loaded from the table, and what is stored over it. Assumes nothing.
use Rattle.std.specs.Prelude.{ℕ, cond, List, ◌++◌, ltb, drop, length, replicate, take}
use Rattle.terms.specs.declared.Row.{Row}
use Rattle.rules.specs.Raw.{zero_row}

-- how many of n rows there is room for
abbrev pub first_of : ℕ → ℕ
first_of n = cond (ltb n 32) n 32

-- the rows ys, with the first n of `from` in place of as many
abbrev pub over : List Row → ℕ → List Row → List Row
over from n ys = take n from ++ drop n ys

-- the first 32 rows of a table, and zero rows after them where it is shorter
abbrev pub loaded : List Row → List Row
loaded ys = over ys (first_of (length ys)) (replicate 32 zero_row)

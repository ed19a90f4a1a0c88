-- The rows of a set, one after another. Assumes nothing.
use Rattle.std.specs.Prelude.{◌≡◌, ◌<◌, not, ◌&&◌, ℕ, T, eqb, MatchOption, Option}
use Rattle.graph.specs.Sets.{member}

-- a row of the set s, below w; or none, where s is empty
abbrev pub OneOf : ℕ → ℕ → Option ℕ → Type 0
OneOf w s r = MatchOption r (s ≡ 0) (λ i. (i < w) × T (member s i))

-- such a row is taken out of s, and t is left
abbrev pub Takes : ℕ → ℕ → Option ℕ → ℕ → Type 0
Takes w s r t = MatchOption r (s ≡ 0) (λ i. (i < w) × T (member s i) × ((j : ℕ) → member t j ≡ (member s j && not (eqb i j))))

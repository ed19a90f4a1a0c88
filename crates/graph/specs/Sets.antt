-- A set of small numbers as one number: i is in the set where the binary digit at 2 ^ i is 1. Of any width w. Assumes nothing.
use Rattle.std.specs.Prelude.{Bool, not, ◌&&◌, List, ℕ, ◌-◌, ◌/◌, ◌%◌, ◌^◌, eqb, get_or}
use Rattle.std.specs.Int.Bits.{bit_and}
use Rattle.rules.specs.Lists.{any, upfrom}
use Rattle.rules.specs.Graph.{Nodes, Edges}

unfoldable pub digit : ℕ → ℕ → ℕ
digit m i = m / 2 ^ i % 2

unfoldable pub member : ℕ → Nodes
unfolding digit
member m i = eqb (digit m i) 1

-- the edges of a table of sets: the set at a has each b to which an edge leads from a
unfoldable pub edges : List ℕ → Edges
edges g a b = member (get_or g a 0) b

-- what is in a and not in b, both of w digits
unfoldable pub outside : ℕ → ℕ → ℕ → ℕ
outside w a b = bit_and a (2 ^ w - 1 - b)

-- no number below w is in both
unfoldable pub apart : ℕ → ℕ → ℕ → Bool
apart w a b = not (any (λ i. member a i && member b i) (upfrom 0 w))

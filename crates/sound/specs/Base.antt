-- The sentence on the writers in the value tables, over the numbers of the rows. Assumes nothing.
use Rattle.std.specs.Prelude.{ℕ, Bool, not, ◌&&◌, List, ltb}
use Rattle.rules.specs.Lists.{all, mem}

-- a writer is below the next number and none of the numbers; so each of them
abbrev pub fair : ℕ → List ℕ → ℕ → Bool
fair next ns w = ltb w next && not (mem w ns)

unfoldable pub based_on : ℕ → List ℕ → List ℕ → Bool
based_on next ns ws = all (fair next ns) ws

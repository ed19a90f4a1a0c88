-- The marks of the items that a transaction wrote. Assumes nothing.
use Rattle.std.specs.Prelude.{ℕ, ◌<◌, ◌≡◌, Bool, false, List, [], get_or}
use Rattle.rules.specs.State.{recorded}
use Rattle.bridge.specs.Whole.{used_of}

-- a mark is true exactly where t wrote the item
pub record Marked (marks : List Bool) (recs : List ℕ) (t : ℕ) : Type 0 where
  pub mark : (i : ℕ) → i < 256 → get_or marks i false ≡ recorded (used_of [] recs [] []) t i 2

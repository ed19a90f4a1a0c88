-- The tables that a run comes by: the closed ones, or sound ones. Assumes nothing.
use Rattle.std.specs.Prelude.{◌⊎◌, ◌≡◌}
use Rattle.rules.specs.Raw.{Raw, raw_of}
use Rattle.rules.specs.State.{closed}
use Rattle.calls.specs.Lent.{Sound}

-- the closed state's tables: "everything 0"
abbrev pub Closed : Raw → Type 0
Closed w = w ≡ raw_of 32 256 closed

abbrev pub Ready : Raw → Type 0
Ready w = Closed w ⊎ Sound w

-- The rows of the board that the cases run on. Assumes nothing.
use Rattle.std.specs.Prelude.{List, [], ◌∷◌}
use Rattle.terms.specs.declared.Row.{Row}
use Rattle.terms.specs.Words.{row}
use Rattle.rules.specs.Lists.{padded}
use Rattle.rules.specs.Raw.{zero_row}

abbrev pub board_rows : List Row
board_rows = padded 32 zero_row (row 1 1 4 ∷ row 2 2 5 ∷ row 3 3 0 ∷ row 4 6 0 ∷ [])

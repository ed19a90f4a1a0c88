-- `tables_cases::show_version` meets its contract: the rows of the board are known. Assumes nothing.
use Rattle.std.proofs.Common.{rules, ap}
use Rattle.rules.specs.Raw.{used_rows}
use Rattle.tables_cases.proofs.Known.{known_board}
use Rattle.tables_cases.proofs.show_version.Goals as goal

pub visible-v-requires : goal.visible-v-requires
visible-v-requires g c = (known_board (ap used_rows c.board.ensures), search rules, search rules)

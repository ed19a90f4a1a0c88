-- `calls::board::Board::closed` makes the tables of the closed state. Assumes nothing.
use Rattle.std.proofs.Common.{[], ◌∷◌, replicate}
use Rattle.rules.specs.Raw.{raw_of}
use Rattle.rules.specs.State.{closed}
use Rattle.calls.specs.Lent.{raw}
use Rattle.calls.proofs.board.Board.closed.Goals as goal

pub returns : goal.returns
unfolding raw_of closed
returns c = λ j. raw (0 ∷ 0 ∷ 0 ∷ []) (replicate 256 0) (replicate 256 0) (c.no_rows.ensures j) (replicate 256 0)

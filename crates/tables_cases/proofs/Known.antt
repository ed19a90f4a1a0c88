-- The rows of the board are known by their numbers and commits. Assumes nothing.
use mathlib.Core.List.{List}
use mathlib.Core.Path.{◌≡◌, ap, refl, subst}
use lib.Dec.{leb, ltb}
use borrow.Author.Tests.{leb-true}
use Rattle.terms.specs.declared.Row.{Row}
use Rattle.terms.specs.Words.{committed, done, num}
use Rattle.rules.specs.Lists.{pairs}
use Rattle.rules.specs.State.{State}
use Rattle.rules.specs.Raw.{used_rows}
use Rattle.laws.proofs.Lists.{◌∈◌, all_out, apart, keep_in}
use Rattle.laws.proofs.Rows.{Known}
use Rattle.tables_cases.specs.Board.{board_rows}

pub known_board : {s : State} → s.rows ≡ used_rows board_rows → Known s
known_board {s} e = record {
  ascend = ap (pairs (λ a b. ltb (num a) (num b))) e;
  positive = λ m. leb-true 1 _ (all_out (λ r. leb 1 (num r)) (there m) refl);
  distinct = λ ma ca mb cb q. apart done refl (keep_in committed (there ma) ca) (keep_in committed (there mb) cb) q;
}
  where
    there : {r : Row} → r ∈ s.rows → r ∈ used_rows board_rows
    there {r} m = subst (λ (rs : List Row). r ∈ rs) e m

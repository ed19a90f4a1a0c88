-- `parlour::put_line` meets its contract. Assumes nothing.
use Rattle.std.proofs.Common.{arith, ℕ, length-drop, length-set, length-take}
use Rattle.parlour.proofs.Texts.{line_put}
use Rattle.parlour.proofs.put_line.Goals as goal

pub returns-clause-text_after : goal.returns-clause-text_after
returns-clause-text_after c =
    let a = c.put_number-a in
    let b = c.put_number in
    line_put a.new.text b.new.text a.result b.result _ c.args.number c.args.value (omega arith) (omega (arith, length-take {A = ℕ}, length-drop {A = ℕ}, length-set {A = ℕ})) a.ensures.text_after b.ensures.text_after

-- `lists::keep` meets its contract: `Keeping`. Assumes nothing.
use Rattle.std.proofs.Common.{rules}
use Rattle.std.proofs.lemmas.Fn.{says_at}
use Rattle.lists.proofs.Loops.{keep_no, keep_yes}
use Rattle.lists.proofs.keep.Goals.{then-keeps, else-keeps}
use Rattle.lists.proofs.keep.Goals as goal

pub loop-j-preserved : goal.loop-j-preserved
loop-j-preserved g c =
    elim c.if-keeps.branch [
      | then-keeps w ↦ rw (w.table-is, w.kept-is) (keep_yes c.loop-j.invariant _ (search rules) c.index-table-j.is (says_at g.F.Fn c.keeps.ensures w.if-keeps.true))
      | else-keeps w ↦ rw (w.table-is, w.kept-is) (keep_no c.loop-j.invariant _ (search rules) c.index-table-j.is (says_at g.F.Fn c.keeps.ensures w.if-keeps.false))
    ]

-- `parlour::read_full` meets its contract: what a read gives joins what was read before. Assumes nothing.
use Rattle.std.proofs.Common.{rules, ◌-◌, length, sym, subst}
use Rattle.std.specs.Io.KnownBytes.{Consumes}
use Rattle.std.proofs.KnownBytes.{Consumes-trans}
use Rattle.parlour.proofs.Texts.{take_written}
use Rattle.parlour.proofs.read_full.Goals as goal

pub loop-done-preserved : goal.loop-done-preserved
loop-done-preserved g c =
    let before = c.loop-done in
    let joined = take_written before.done (length before.buf - before.done) c.in-Ok.n before.buf c.read.new.buf before.invariant.0 c.in-Ok.ensures.bound.0 in
    (search rules, subst (Consumes _ _) (sym joined) (Consumes-trans _ _ _ _ _ before.invariant.1 c.in-Ok.ensures.bytes.0))

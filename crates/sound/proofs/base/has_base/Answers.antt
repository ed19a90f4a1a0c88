-- `sound::base::has_base` meets its contract: all are below the lowest, or each is fair. Assumes nothing.
use Rattle.std.proofs.Common.{◌∙◌, map, sym, ltb-true}
use Rattle.laws.proofs.Lists.{all_in, all_out}
use Rattle.terms.specs.Words.{num}
use Rattle.sound.specs.Base.{based_on, fair}
use Rattle.sound.proofs.base.has_base.Goals as goal

pub returns-then-are_below : goal.returns-then-are_below
unfolding based_on
returns-then-are_below c =
    let a = c.args in
    sym (all_in (fair a.next (map num a.used.now)) a.writers.now (λ w m.
    c.lowest.ensures w (ltb-true w c.lowest.result (all_out _ m (sym c.are_below.ensures ∙ c.if-are_below.true)))))

-- `sound::rings::peeled` meets its contract: `Peeling`. Assumes nothing.
use Rattle.std.proofs.Common.{rules, arith, ◌-◌, ◌^◌, sym, ◌∙◌}
use lib.Bits.{and_le_l}
use Rattle.graph.specs.Sets.{edges, member, outside}
use Rattle.graph.proofs.Sets.{member_lt}
use Rattle.graph.proofs.Taken.{without_one}
use Rattle.sound.proofs.Peeling.{none-into, one_into, peel_keep, peel_off, peel_start}
use Rattle.sound.proofs.rings.peeled.Goals as goal

pub loop-i-init : goal.loop-i-init
loop-i-init c = (peel_start _ (λ k t. member_lt 32 _ k (search rules) t), omega arith, search rules)

pub loop-i-preserved-then-are_apart : goal.loop-i-preserved-then-are_apart
unfolding outside
loop-i-preserved-then-are_apart c =
    let g = c.args.g.now in
    let k = c.loop-i in
    let o = c.with in
    let less = and_le_l k.left (2 ^ 32 - 1 - o.result) in (
      peel_off (edges g) k.invariant.0 (k.i - 1) (omega arith) (member c.without-left.result) (without_one 32 k.left (k.i - 1) o.result k.invariant.2 (search rules) o.ensures c.without-left.ensures)
          (none-into 32 g (k.i - 1) k.left k.invariant.2 (sym c.if-are_apart.true ∙ c.are_apart.ensures)),
      omega (arith, k.invariant.1, c.without-left.ensures, less),
      omega (arith, k.invariant.2, c.without-left.ensures, less),
    )

pub loop-i-preserved : goal.loop-i-preserved
loop-i-preserved c =
    let g = c.args.g.now in
    let k = c.loop-i in
    let u = one_into 32 g (k.i - 1) k.left (sym c.if-are_apart.false ∙ c.are_apart.ensures) in
    (peel_keep (edges g) k.invariant.0 (k.i - 1) (omega arith) u.0 u.1 u.2, k.invariant.1, k.invariant.2)

-- `sound::rings::has_ring` meets its contract: every ring is in what is left. Assumes nothing.
use Rattle.std.proofs.Common.{rules, arith, ℕ, T, sym, subst}
use lib.Count.{count_trailing_zeros}
use Rattle.graph.specs.Sets.{edges, member}
use Rattle.graph.proofs.Sets.{edges_bound, member-lowest, member_ones}
use Rattle.laws.proofs.Lists.{T_in}
use Rattle.sound.proofs.Peeling.{none_in, none_left, shed-all, some_left}
use Rattle.sound.proofs.rings.has_ring.Goals as goal

pub loop-left-init : goal.loop-left-init
loop-left-init c =
    let g = c.args.g.now in
    (shed-all (edges g) 32 (edges_bound 32 g (search rules) (search rules)) (λ i l. T_in (member_ones 32 i l)), search rules)

pub returns-then-rest-left : goal.returns-then-rest-left
returns-then-rest-left c =
    let g = c.args.g.now in
    let k = c.loop-left in
    some_left (edges g) 32 (edges_bound 32 g (search rules) (search rules)) (member k.left)
    (λ i t. c.peeled-rest.ensures.0.held i (subst (λ (m : ℕ). T (member m i)) (sym c.if-rest-left.true) t)) (count_trailing_zeros 32 k.left) (member-lowest 32 k.left (omega arith) k.invariant.1)

pub returns : goal.returns
returns c =
    let g = c.args.g.now in
    let k = c.loop-left in
    none_left (edges g) 32 (edges_bound 32 g (search rules) (search rules)) k.invariant.0 (none_in 32 g k.left c.loop-left-test.false)

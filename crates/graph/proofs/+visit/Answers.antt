-- `graph::visit` meets its contract: each turn marks a row that was not marked, so less is left to its call and to the next. Assumes nothing.
use Rattle.std.proofs.Common.{arith, sym, ◌∙◌}
use Rattle.graph.specs.Sets.{member, edges}
use Rattle.graph.proofs.Below.{free-grows}
use Rattle.graph.proofs.Sets.{outside-none}
use Rattle.graph.proofs.Visits.{visiting_more}
use Rattle.graph.proofs.Turns.{taken, marked, less}
use Rattle.graph.proofs.+visit.Goals as goal

pub overflow_sub-left : goal.overflow_sub-left
overflow_sub-left t c = omega (arith, less 32 c.ranges.from.fits c.loop-i.invariant.small c.without.ensures c.in-Some.ensures c.with.ensures)

pub visit-s-requires : goal.visit-s-requires
visit-s-requires t c =
    let falls = less 32 c.ranges.from.fits c.loop-i.invariant.small c.without.ensures c.in-Some.ensures c.with.ensures in
    (omega (arith, falls), omega (arith, falls))

pub loop-i-smaller : goal.loop-i-smaller
loop-i-smaller t c =
    omega (
      arith,
      less 32 c.ranges.from.fits c.loop-i.invariant.small c.without.ensures c.in-Some.ensures c.with.ensures,
      free-grows 32 (member c.with.result) (member c.visit-s.result) c.visit-s.ensures.visiting.grows,
    )

pub loop-i-preserved : goal.loop-i-preserved
unfolding edges
loop-i-preserved t c =
    record {
      small = omega arith;
      depth = omega (
        arith,
        less 32 c.ranges.from.fits c.loop-i.invariant.small c.without.ensures c.in-Some.ensures c.with.ensures,
        free-grows 32 (member c.with.result) (member c.visit-s.result) c.visit-s.ensures.visiting.grows,
      );
      visiting = visiting_more (edges c.args.g.now) (member c.args.from) (member c.args.seen) (member c.loop-i.s) c.loop-i.invariant.visiting
          c.in-Some.i (taken 32 c.ranges.from.fits c.loop-i.invariant.small c.without.ensures c.in-Some.ensures).0 (member c.with.result)
          (marked 32 c.ranges.from.fits c.loop-i.invariant.small c.without.ensures c.in-Some.ensures c.with.ensures)
          (member c.visit-s.result) c.visit-s.ensures;
    }

pub returns : goal.returns
returns t c =
    record {
      visiting = c.loop-i.invariant.visiting;
      all = λ i. outside-none 32 c.args.from c.loop-i.s i c.ranges.from.fits c.loop-i.invariant.small (sym c.without.ensures ∙ c.in_default.ensures);
    }

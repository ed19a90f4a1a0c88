-- The depth left falls with each call; the loop keeps what is seen between `seen` and what the visit may mark, and each turn leaves less to mark. Assumes nothing.
use Rattle.std.proofs.Common.{◌<◌, ◌≤◌, ◌^◌}
use Rattle.graph.specs.Sets.{member, edges}
use Rattle.graph.specs.Visit.{free, Visiting}
use Rattle.graph.proofs.+visit.Given as goal

abbrev pub decreases-visit : goal.decreases-visit
decreases-visit l = l.left

abbrev pub invariant-loop-i : goal.invariant-loop-i
invariant-loop-i l =
    record {
      small : l.s < 2 ^ 32;
      depth : free 32 (member l.s) ≤ l.fn.left;
      visiting : Visiting (edges l.fn.g) (member l.fn.from) (member l.fn.seen) (member l.s);
    }

abbrev pub decreases-loop-i : goal.decreases-loop-i
decreases-loop-i l = free 32 (member l.s)

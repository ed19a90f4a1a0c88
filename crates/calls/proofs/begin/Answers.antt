-- `calls::begin` meets its contract: each return is an outcome of a begin on sound tables. Assumes nothing.
use Rattle.std.proofs.Common.{arith, ◌∙◌, ap, sym, ◌+◌, get_or, length-set, set, Ok}
use Rattle.calls.specs.Lent.{raw}
use Rattle.calls.proofs.Begins.{begin-done, begin_full, begin-last}
use Rattle.calls.proofs.Tables.{head_long, moment_small, next_small}
use Rattle.calls.proofs.begin.Goals as goal

pub bounds-head-1 : goal.bounds-head-1
bounds-head-1 c = omega (arith, head_long 32 256 _ c.requires)

pub returns-then-number-eq65536 : goal.returns-then-number-eq65536
returns-then-number-eq65536 c = sym (begin-last 32 256 _ c.requires c.if-number-eq65536.true)

pub returns-then-used-eq-ROWS : goal.returns-then-used-eq-ROWS
returns-then-used-eq-ROWS c = sym (begin_full 32 256 _ c.requires c.if-number-eq65536.false (sym c.used.ensures ∙ c.if-used-eq-ROWS.true))

pub bounds-head-2 : goal.bounds-head-2
bounds-head-2 c = omega (arith, head_long 32 256 _ c.requires)

pub bounds-head-1-2 : goal.bounds-head-1-2
bounds-head-1-2 c = omega (arith, head_long 32 256 _ c.requires)

pub overflow_add-head : goal.overflow_add-head
overflow_add-head c = omega (arith, next_small 32 256 _ c.requires)

pub overflow_add-head-2 : goal.overflow_add-head-2
overflow_add-head-2 c = omega (arith, moment_small 32 256 _ c.requires)

pub bounds-head-2-2 : goal.bounds-head-2-2
bounds-head-2-2 c = omega (arith, head_long 32 256 _ c.requires, length-set c.args.head.now 1 (get_or c.args.head.now 1 0 + 1))

pub returns : goal.returns
returns c =
    (λ j. (Ok (get_or c.args.head.now 1 0), raw (set (set c.args.head.now 1 (get_or c.args.head.now 1 0 + 1)) 2 (get_or c.args.head.now 2 0 + 1)) c.args.values.now c.args.writers.now ((c.add.ensures ∙ ap (set c.args.rows.now _) c.new.ensures) j) c.args.recs.now))
    ∙ sym (begin-done 32 256 _ c.requires c.if-number-eq65536.false (λ e. c.if-used-eq-ROWS.false (c.used.ensures ∙ e)))

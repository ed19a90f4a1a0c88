-- `sound::is_tested` meets its contract: test after test. Assumes nothing.
use Rattle.std.proofs.Common.{arith, rules, ◌≡◌, ◌≤◌, length, get_or, take, refl, sym, ◌∙◌}
use lib.Seq.{length-take-le}
use Rattle.laws.proofs.Lists.{and_left}
use Rattle.lists.proofs.Untils.{length-until}
use Rattle.sound.specs.Shape.{no_row, raw}
use Rattle.sound.proofs.Shapes.{first_most, shape_not}
use Rattle.sound.proofs.Standing.{rows_rise}
use Rattle.sound.proofs.Tested.{tested_linked, tested_unheaded, tested_unrowed, tested_unshaped}
use Rattle.sound.proofs.is_tested.Goals as goal
use Rattle.sound.proofs.is_tested.Goals.{then-has_head, else-has_head}

pub returns-then-rows-ne-ROWS-clause-is : goal.returns-then-rows-ne-ROWS-clause-is
returns-then-rows-ne-ROWS-clause-is c =
    let a = c.args in
    let w = raw a.head.now a.values.now a.writers.now a.rows.now a.recs.now in
    tested_unshaped 32 256 w _ _ refl refl (shape_not 32 256 w c.if-rows-ne-ROWS.true)

pub returns-then-not-has_shape-clause-is : goal.returns-then-not-has_shape-clause-is
returns-then-not-has_shape-clause-is c =
    let a = c.args in
    tested_unshaped 32 256 (raw a.head.now a.values.now a.writers.now a.rows.now a.recs.now) c.used-many.result c.used_recs-filed.result (c.used-many.ensures ∙ length-until no_row c.args.rows.now) c.used_recs-filed.ensures.is
    (sym c.has_shape.ensures.is ∙ c.if-not-has_shape.true)

pub has_shape-requires : goal.has_shape-requires
has_shape-requires c = (c.used-many.ensures ∙ length-until no_row c.args.rows.now, c.used_recs-filed.ensures.is)

pub slice_bounds-used-end : goal.slice_bounds-used-end
slice_bounds-used-end c = sym (length-take-le c.used-many.result c.args.rows.now (omega (arith, c.used-many.ensures, length-until no_row c.args.rows.now, first_most no_row c.args.rows.now)))

pub has_links-requires : goal.has_links-requires
has_links-requires c =
    let a = c.args in
    let most : c.used-many.result ≤ length a.rows.now = omega (arith, c.used-many.ensures, length-until no_row a.rows.now, first_most no_row a.rows.now) in
    elim c.if-has_head.branch [
      | then-has_head w ↦
          let h = sym w.has_rows.ensures ∙ sym w.value-is ∙ c.if-has_rows.true in (
            search rules,
            omega (arith, most, length-take-le c.used-many.result a.rows.now most, (c.has_shape.ensures.lengths c.if-not-has_shape.false).3),
            search rules,
            and_left _ _ h,
            rows_rise (get_or a.head.now 1 0) (get_or a.head.now 2 0) (take c.used-many.result a.rows.now) h,
          )
      | else-has_head w ↦ cc
    ]

pub returns-then-has_rows-clause-is : goal.returns-then-has_rows-clause-is
returns-then-has_rows-clause-is c =
    let a = c.args in
    let u = c.used-many in
    let f = c.used_recs-filed in
    let same : c.unwrap-writers.result.now ≡ a.writers.now = search rules in
    elim c.if-has_head.branch [
      | then-has_head w ↦
          tested_linked 32 256 (raw a.head.now a.values.now a.writers.now a.rows.now a.recs.now) u.result f.result (u.ensures ∙ length-until no_row a.rows.now) f.ensures.is (sym c.has_shape.ensures.is ∙ c.if-not-has_shape.false)
          (sym c.has_head.ensures ∙ w.if-has_head.true) (sym w.has_rows.ensures ∙ sym w.value-is ∙ c.if-has_rows.true)
          (rw (← same) c.has_links.ensures)
      | else-has_head w ↦ cc
    ]

pub returns-else-has_rows-clause-is : goal.returns-else-has_rows-clause-is
returns-else-has_rows-clause-is c =
    let a = c.args in
    let u = c.used-many in
    let f = c.used_recs-filed in
    elim c.if-has_head.branch [
      | then-has_head w ↦
          c.if-has_rows.false
          ∙ tested_unrowed 32 256 (raw a.head.now a.values.now a.writers.now a.rows.now a.recs.now) u.result f.result (u.ensures ∙ length-until no_row a.rows.now) f.ensures.is (sym c.has_shape.ensures.is ∙ c.if-not-has_shape.false)
          (sym c.has_head.ensures ∙ w.if-has_head.true) (sym w.has_rows.ensures ∙ sym w.value-is ∙ c.if-has_rows.false)
      | else-has_head w ↦
          c.if-has_rows.false
          ∙ tested_unheaded 32 256 (raw a.head.now a.values.now a.writers.now a.rows.now a.recs.now) u.result f.result (u.ensures ∙ length-until no_row a.rows.now) f.ensures.is (sym c.has_shape.ensures.is ∙ c.if-not-has_shape.false)
          (sym c.has_head.ensures ∙ w.if-has_head.false)
    ]

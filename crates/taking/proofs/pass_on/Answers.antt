-- `taking::pass_on` meets its contract: for each item the latest version of a row that goes, record after record. Assumes nothing.
use Rattle.std.proofs.lemmas.Grind.{common_steps}
use Rattle.std.proofs.Common.{arith, rules, refl, sym, ◌∙◌, ◌≡◌, get_or}
use Rattle.rules.specs.Raw.{unpack}
use Rattle.terms.specs.Words.{txn}
use Rattle.taking.specs.Leaving.{gone_at}
use Rattle.taking.proofs.Passes.{pass_end, pass_low, pass_none, pass_over, pass_put, pass_read, pass_start}
use Rattle.taking.proofs.pass_on.Goals.{in-Some+then-is_write+then-lt, in-Some+else-is_write, else-is_write-via-then-is_write+else-lt, else-is_write-via-else-is_write, in_default}
use Rattle.taking.proofs.pass_on.Goals as goal

pub returns-then-gone-eq0 : goal.returns-then-gone-eq0
returns-then-gone-eq0 c = pass_none _ _ _ _ _ c.if-gone-eq0.true

pub loop-p-init : goal.loop-p-init
loop-p-init c = (pass_start 256 c.args.gone c.args.rows.now c.args.recs.now c.args.values.now c.args.writers.now refl, refl, c.new-leaving.ensures.rows, c.new-leaving.ensures.gone)

pub loop-p-preserved : goal.loop-p-preserved
loop-p-preserved c =
    let told : c.place.result ≡ gone_at c.args.gone c.args.rows.now (txn (unpack (get_or c.args.recs.now c.loop-p.p-index 0))) =
    c.place.ensures.place ∙ (λ j. gone_at (c.loop-p.invariant.3 j) (c.loop-p.invariant.2 j) (c.txn_of-t.ensures j)) in (
      elim c.match-place.branch [
        | in-Some+then-is_write+then-lt w ↦ rw (w.values-is, w.writers-is, w.best-is)
            (pass_put c.loop-p.invariant.0 (search rules) w.item_of-i.result.0 (sym w.item_of-i.ensures.item) w.item_of-i.ensures.small (search rules) (search rules)
            (sym told ∙ w.in-Some.is) (sym w.is_write.ensures ∙ w.if-is_write.true) refl (search rules) w.word_of.ensures c.txn_of-t.ensures)
        | in-Some+else-is_write w ↦ rw (w.values-is, w.writers-is, w.best-is) (elim w.else-is_write.branch [
          | else-is_write-via-then-is_write+else-lt u ↦ pass_low c.loop-p.invariant.0 (search rules) w.item_of-i.result.0 (sym w.item_of-i.ensures.item) (sym told ∙ w.in-Some.is) (search rules)
          | else-is_write-via-else-is_write u ↦ pass_read c.loop-p.invariant.0 (search rules) (sym w.is_write.ensures ∙ u.if-is_write.false)
        ])
        | in_default w ↦ rw (w.values-is, w.writers-is, w.best-is) (pass_over c.loop-p.invariant.0 (search rules) (sym told ∙ w.in_default.is))
      ],
      grind (arith, common_steps),
      c.place.ensures.rows ∙ c.loop-p.invariant.2,
      c.place.ensures.gone ∙ c.loop-p.invariant.3,
    )

pub returns-after-loop-p : goal.returns-after-loop-p
returns-after-loop-p c = pass_end c.loop-p.invariant.0 (grind (arith, common_steps))

pub returns-then-p-eq0 : goal.returns-then-p-eq0
returns-then-p-eq0 c = pass_end c.loop-p.invariant.0 (grind (arith, common_steps))

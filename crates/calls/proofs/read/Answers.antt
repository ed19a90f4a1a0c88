-- `calls::read` meets its contract: each return is an outcome of the call on sound tables. Assumes nothing.
use Rattle.std.proofs.Common.{rules, arith, ◌∙◌, ap, sym}
use Rattle.terms.specs.declared.Row.{Row}
use Rattle.terms.specs.Words.{start}
use Rattle.rules.specs.Versions.{version_at}
use Rattle.bridge.specs.Whole.{used_of}
use Rattle.rules.specs.Raw.{pack}
use Rattle.bridge.proofs.Holds.{holds, recs_long}
use Rattle.calls.proofs.Accesses.{findable, fits, read_again, read_full, read_inactive, read_new, read_own, read_unknown}
use Rattle.calls.proofs.Exits.{exit}
use Rattle.calls.proofs.Tables.{head_long}
use Rattle.calls.proofs.read.Goals as goal

pub check_item-requires : goal.check_item-requires
check_item-requires c = omega (arith, head_long 32 256 _ c.requires)

pub returns-in_err-check_item : goal.returns-in_err-check_item
returns-in_err-check_item c = exit c.from_residual.ensures c.in_err-check_item.ensures.0 (read_unknown 32 256 _ c.requires _ _ c.in_err-check_item.ensures.1)

pub returns-in_err-check_active : goal.returns-in_err-check_active
returns-in_err-check_active c =
    exit c.from_residual-in_err-check_active.ensures c.in_err-check_active.ensures.0 (read_inactive 32 256 _ c.requires c.args.t c.args.i c.in_ok-check_item.ensures c.in_err-check_active.ensures.1)

pub returns-then-has_rec : goal.returns-then-has_rec
returns-then-has_rec c = sym (read_own 32 256 _ c.requires c.args.t c.args.i c.in_ok-check_item.ensures c.in_ok-check_active.ensures _ (sym c.has_rec.ensures ∙ c.if-has_rec.true) c.word_in.ensures)

pub visible-seen-requires : goal.visible-seen-requires
visible-seen-requires c = findable 32 256 _ c.requires _ c.in_ok-check_item.ensures

pub returns-then-has_rec-2 : goal.returns-then-has_rec-2
returns-then-has_rec-2 c = sym (read_again 32 256 _ c.requires c.args.t c.args.i c.in_ok-check_item.ensures c.in_ok-check_active.ensures (sym c.has_rec.ensures ∙ c.if-has_rec.false) c.visible-seen.result (c.visible-seen.ensures ∙ ap (λ (r : Row). version_at (used_of c.args.rows.now c.args.recs.now c.args.values.now c.args.writers.now) c.args.i.0 (start r)) c.row_of-row.ensures) (sym c.has_rec-2.ensures ∙ c.if-has_rec-2.true))

pub bounds-recs : goal.bounds-recs
bounds-recs c = omega (arith, recs_long 32 256 _ (holds 32 256 _ c.requires))

pub returns-then-recs-ne0 : goal.returns-then-recs-ne0
returns-then-recs-ne0 c = sym (read_full 32 256 _ c.requires c.args.t c.args.i c.in_ok-check_item.ensures c.in_ok-check_active.ensures (sym c.has_rec.ensures ∙ c.if-has_rec.false) c.visible-seen.result (c.visible-seen.ensures ∙ ap (λ (r : Row). version_at (used_of c.args.rows.now c.args.recs.now c.args.values.now c.args.writers.now) c.args.i.0 (start r)) c.row_of-row.ensures) (sym c.has_rec-2.ensures ∙ c.if-has_rec-2.false) c.if-recs-ne0.true)

pub pack-p-requires : goal.pack-p-requires
pack-p-requires c = let f = fits 32 256 _ c.requires c.args.t c.args.i c.in_ok-check_item.ensures c.in_ok-check_active.ensures in rw c.read.ensures (f.0, f.1, search rules)

pub returns : goal.returns
returns c = sym (read_new 32 256 _ c.requires c.args.t c.args.i c.in_ok-check_item.ensures c.in_ok-check_active.ensures (sym c.has_rec.ensures ∙ c.if-has_rec.false) c.visible-seen.result (c.visible-seen.ensures ∙ ap (λ (r : Row). version_at (used_of c.args.rows.now c.args.recs.now c.args.values.now c.args.writers.now) c.args.i.0 (start r)) c.row_of-row.ensures) (sym c.has_rec-2.ensures ∙ c.if-has_rec-2.false) (search rules) c.if-recs-ne0.false _ (c.pack-p.ensures ∙ ap pack c.read.ensures) _ c.insert.ensures)

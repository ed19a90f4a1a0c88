-- `calls::write` meets its contract: each return is an outcome of the call on sound tables. Assumes nothing.
use Rattle.std.proofs.Common.{rules, arith, ◌∙◌, ap, sym}
use Rattle.rules.specs.Raw.{pack}
use Rattle.bridge.proofs.Holds.{holds, recs_long}
use Rattle.calls.proofs.Accesses.{fits, write_full, write_inactive, write_new, write-over, write_unknown}
use Rattle.calls.proofs.Exits.{exit}
use Rattle.calls.proofs.Tables.{head_long}
use Rattle.calls.proofs.write.Goals as goal

pub check_item-requires : goal.check_item-requires
check_item-requires c = omega (arith, head_long 32 256 _ c.requires)

pub returns-in_err-check_item : goal.returns-in_err-check_item
returns-in_err-check_item c = exit c.from_residual.ensures c.in_err-check_item.ensures.0 (write_unknown 32 256 _ c.requires _ _ _ c.in_err-check_item.ensures.1)

pub returns-in_err-check_active : goal.returns-in_err-check_active
returns-in_err-check_active c =
    exit c.from_residual-in_err-check_active.ensures c.in_err-check_active.ensures.0 (write_inactive 32 256 _ c.requires c.args.t c.args.i c.in_ok-check_item.ensures _ c.in_err-check_active.ensures.1)

pub pack-p-requires : goal.pack-p-requires
pack-p-requires c = let f = fits 32 256 _ c.requires c.args.t c.args.i c.in_ok-check_item.ensures c.in_ok-check_active.ensures in rw c.write.ensures (f.0, f.1, search rules)

pub returns-then-has_rec : goal.returns-then-has_rec
returns-then-has_rec c = sym (write-over 32 256 _ c.requires c.args.t c.args.i c.in_ok-check_item.ensures c.in_ok-check_active.ensures c.args.v (search rules) (sym c.has_rec.ensures ∙ c.if-has_rec.true) _ (c.pack-p.ensures ∙ ap pack c.write.ensures) _ c.change.ensures)

pub bounds-recs : goal.bounds-recs
bounds-recs c = omega (arith, recs_long 32 256 _ (holds 32 256 _ c.requires))

pub returns-then-recs-ne0 : goal.returns-then-recs-ne0
returns-then-recs-ne0 c = sym (write_full 32 256 _ c.requires c.args.t c.args.i c.in_ok-check_item.ensures c.in_ok-check_active.ensures c.args.v (search rules) (sym c.has_rec.ensures ∙ c.if-has_rec.false) c.if-recs-ne0.true)

pub returns : goal.returns
returns c = sym (write_new 32 256 _ c.requires c.args.t c.args.i c.in_ok-check_item.ensures c.in_ok-check_active.ensures c.args.v (search rules) (sym c.has_rec.ensures ∙ c.if-has_rec.false) (search rules) c.if-recs-ne0.false _ (c.pack-p.ensures ∙ ap pack c.write.ensures) _ c.insert.ensures)

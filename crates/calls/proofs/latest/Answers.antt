-- `calls::latest` meets its contract: each return is an outcome of the call on sound tables. Assumes nothing.
use Rattle.std.proofs.Common.{arith, sym}
use Rattle.calls.proofs.Accesses.{findable, latest-done, latest_unknown}
use Rattle.calls.proofs.Exits.{exit}
use Rattle.calls.proofs.Tables.{head_long}
use Rattle.calls.proofs.latest.Goals as goal

pub check_item-requires : goal.check_item-requires
check_item-requires c = omega (arith, head_long 32 256 _ c.requires)

pub returns-in_err-check_item : goal.returns-in_err-check_item
returns-in_err-check_item c = exit c.from_residual.ensures c.in_err-check_item.ensures.0 (latest_unknown 32 256 _ c.requires _ c.in_err-check_item.ensures.1)

pub bounds-head-2 : goal.bounds-head-2
bounds-head-2 c = omega (arith, head_long 32 256 _ c.requires)

pub visible-v-requires : goal.visible-v-requires
visible-v-requires c = findable 32 256 _ c.requires _ c.in_ok-check_item.ensures

pub returns : goal.returns
returns c = sym (latest-done 32 256 _ c.requires _ c.in_ok-check_item.ensures _ c.visible-v.ensures)

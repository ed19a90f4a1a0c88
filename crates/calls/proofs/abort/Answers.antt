-- `calls::abort` meets its contract: each return is an outcome of the call on sound tables. Assumes nothing.
use Rattle.std.proofs.Common.{rules, ◌≡◌, sym}
use Rattle.bridge.proofs.Holds.{holds, rows_long}
use Rattle.calls.proofs.Ends.{abort-done, abort_inactive, on_arrays}
use Rattle.calls.proofs.Exits.{exit}
use Rattle.calls.proofs.Tables.{long_tables}
use Rattle.calls.proofs.abort.Goals as goal

pub returns-in_err-check_active : goal.returns-in_err-check_active
returns-in_err-check_active c = exit c.from_residual.ensures c.in_err-check_active.ensures.0 (abort_inactive 32 256 _ c.requires _ c.in_err-check_active.ensures.1)

pub unwrap-values-requires : goal.unwrap-values-requires
unwrap-values-requires c = c.as_mut_array.ensures.variant.1 (long_tables 32 256 _ c.requires).0

pub unwrap-writers-requires : goal.unwrap-writers-requires
unwrap-writers-requires c = c.as_mut_array-2.ensures.variant.1 (long_tables 32 256 _ c.requires).1

pub unwrap-rows-requires : goal.unwrap-rows-requires
unwrap-rows-requires c = c.as_mut_array-3.ensures.variant.1 (rows_long 32 256 _ (holds 32 256 _ c.requires))

pub returns : goal.returns
returns c =
    let ev : c.unwrap-values.result.now ≡ c.args.values.now = search rules in
    let ew : c.unwrap-writers.result.now ≡ c.args.writers.now = search rules in
    let er : c.unwrap-rows.result.now ≡ c.args.rows.now = search rules in
    sym (abort-done 32 256 _ c.requires _ c.in_ok-check_active.ensures (on_arrays ev ew er c.end.ensures))

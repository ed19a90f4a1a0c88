-- `calls::commit` meets its contract: each return is an outcome of the call on sound tables. Assumes nothing.
use Rattle.std.proofs.Common.{rules, arith, List, [], map, get_or, ◌≡◌, ◌∙◌, ap, refl, sym}
use Rattle.terms.specs.declared.Row.{Row}
use Rattle.terms.specs.Words.{stamp}
use Rattle.rules.specs.Deps.{beaten}
use Rattle.bridge.specs.Whole.{used_of}
use Rattle.bridge.proofs.Holds.{holds, rows_long}
use Rattle.calls.proofs.Ends.{commit-beaten, commit-done, commit_inactive, commit-ring, on_arrays}
use Rattle.calls.proofs.Exits.{exit}
use Rattle.calls.proofs.Tables.{head_long, long_tables, moment_small}
use Rattle.calls.proofs.commit.Goals as goal

pub returns-in_err-check_active : goal.returns-in_err-check_active
returns-in_err-check_active c = exit c.from_residual.ensures c.in_err-check_active.ensures.0 (commit_inactive 32 256 _ c.requires _ c.in_err-check_active.ensures.1)

pub unwrap-values-requires : goal.unwrap-values-requires
unwrap-values-requires c = c.as_mut_array.ensures.variant.1 (long_tables 32 256 _ c.requires).0

pub unwrap-writers-requires : goal.unwrap-writers-requires
unwrap-writers-requires c = c.as_mut_array-2.ensures.variant.1 (long_tables 32 256 _ c.requires).1

pub unwrap-rows-requires : goal.unwrap-rows-requires
unwrap-rows-requires c = c.as_mut_array-3.ensures.variant.1 (rows_long 32 256 _ (holds 32 256 _ c.requires))

pub returns-then-beaten : goal.returns-then-beaten
returns-then-beaten c =
    let ev : c.unwrap-values.result.now ≡ c.args.values.now = search rules in
    let ew : c.unwrap-writers.result.now ≡ c.args.writers.now = search rules in
    let er : c.unwrap-rows.result.now ≡ c.args.rows.now = search rules in
    sym (commit-beaten 32 256 _ c.requires _ c.in_ok-check_active.ensures (on_arrays ev ew er c.end.ensures) (sym (c.beaten.ensures ∙ ap (λ (l : List Row). beaten (used_of l c.args.recs.now [] []) c.args.t.0) er) ∙ c.if-beaten.true))

pub bounds-head-2 : goal.bounds-head-2
bounds-head-2 c = omega (arith, head_long 32 256 _ c.requires)

pub returns-then-has_ring : goal.returns-then-has_ring
returns-then-has_ring c =
    let ev : c.unwrap-values.result.now ≡ c.args.values.now = search rules in
    let ew : c.unwrap-writers.result.now ≡ c.args.writers.now = search rules in
    let er : c.unwrap-rows.result.now ≡ c.args.rows.now = search rules in
    sym (commit-ring 32 256 _ c.requires _ c.in_ok-check_active.ensures (sym (c.beaten.ensures ∙ ap (λ (l : List Row). beaten (used_of l c.args.recs.now [] []) c.args.t.0) er) ∙ c.if-beaten.false) _ (c.commit.ensures ∙ ap (map (stamp c.args.t.0 (get_or c.args.head.now 2 0))) er) _ c.edges-g.ensures
    (sym c.has_ring.ensures ∙ c.if-has_ring.true) (on_arrays ev ew er c.end-then-has_ring.ensures))

pub overflow_add-head : goal.overflow_add-head
overflow_add-head c = omega (arith, moment_small 32 256 _ c.requires)

pub bounds-head-2-2 : goal.bounds-head-2-2
bounds-head-2-2 c = omega (arith, head_long 32 256 _ c.requires)

pub returns : goal.returns
returns c =
    let ev : c.unwrap-values.result.now ≡ c.args.values.now = search rules in
    let ew : c.unwrap-writers.result.now ≡ c.args.writers.now = search rules in
    let er : c.unwrap-rows.result.now ≡ c.args.rows.now = search rules in
    sym (commit-done 32 256 _ c.requires _ c.in_ok-check_active.ensures (sym (c.beaten.ensures ∙ ap (λ (l : List Row). beaten (used_of l c.args.recs.now [] []) c.args.t.0) er) ∙ c.if-beaten.false) _ (c.commit.ensures ∙ ap (map (stamp c.args.t.0 (get_or c.args.head.now 2 0))) er) _ c.edges-g.ensures
    (sym c.has_ring.ensures ∙ c.if-has_ring.false) (on_arrays ev ew refl c.tidy.ensures))

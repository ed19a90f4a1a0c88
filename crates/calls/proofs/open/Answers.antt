-- `calls::open` meets its contract: each return is an outcome of an opening of lent tables. Assumes nothing.
use Rattle.std.proofs.Common.{arith, ℕ, List, ◌≡◌, ◌++◌, ◌∙◌, ap, sym, length, replicate, Ok}
use Rattle.rules.specs.Raw.{zero_row}
use Rattle.calls.specs.Lent.{raw}
use Rattle.calls.proofs.Opens.{cleared, counted, long, open_count, open_made, open_misfit}
use Rattle.calls.proofs.open.Goals.{then-not-is_openable-via-then-not-is_openable, then-not-is_openable-via-else-not-is_openable+then-not-is_fitting}
use Rattle.calls.proofs.open.Goals as goal

pub returns-then-not-is_openable : goal.returns-then-not-is_openable
returns-then-not-is_openable c = elim c.then-not-is_openable.branch [ then-not-is_openable-via-then-not-is_openable w ↦ sym (open_count 32 256 _ _ _ (sym c.is_openable.ensures ∙ w.if-not-is_openable.true)) | then-not-is_openable-via-else-not-is_openable+then-not-is_fitting w ↦ sym (open_misfit 32 256 _ _ _ (sym c.is_openable.ensures ∙ w.if-not-is_openable.false) (sym w.is_fitting.ensures ∙ w.if-not-is_fitting.true)) ]

pub copy_from_slice-requires : goal.copy_from_slice-requires
copy_from_slice-requires c = (long 32 256 _ (sym c.is_fitting.ensures ∙ c.if-not-is_fitting.false)).head

pub split_at_mut-used-requires : goal.split_at_mut-used-requires
split_at_mut-used-requires c = omega (arith, (counted _ _ (sym c.is_openable.ensures ∙ c.if-not-is_openable.false)).1, (long 32 256 _ (sym c.is_fitting.ensures ∙ c.if-not-is_fitting.false)).values)

pub returns : goal.returns
returns c =
    let zero : c.default.result ≡ zero_row = λ j. record { number = record { 0 = c.default.ensures.0 j }; start = record { 0 = c.default.ensures.1.0 j }; commit = record { 0 = c.default.ensures.1.1 j } } in
    (λ j. (Ok 0, raw (c.copy_from_slice.ensures.after j) (c.copy_from_slice-2.new.self ++ c.clear_from.new.table) c.clear_from-2.new.table c.clear_from-3.new.table c.clear_from-4.new.table))
    ∙ open_made 32 256 _ _ _ (sym c.is_openable.ensures ∙ c.if-not-is_openable.false) (sym c.is_fitting.ensures ∙ c.if-not-is_fitting.false)
    (λ j. c.copy_from_slice-2.ensures.after j ++ (c.clear_from.ensures ∙ cleared 0 _ ∙ ap (λ (l : List ℕ). replicate (length l) 0) c.split_at_mut-used.ensures.back) j)
    (c.clear_from-2.ensures ∙ cleared 0 _)
    (c.clear_from-3.ensures ∙ cleared _ _ ∙ ap (replicate (length c.args.rows.now)) zero)
    (c.clear_from-4.ensures ∙ cleared 0 _)

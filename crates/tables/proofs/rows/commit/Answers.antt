-- `tables::rows::commit` meets its contract: row after row, by its test. Assumes nothing.
use Rattle.std.proofs.Common.{ℕ, ◌+◌, ◌<◌, Bool, cond, eqb, List, ◌++◌, map, length, get_or, take, drop, set, arith, ap, refl, sym, ◌≡◌, ◌∙◌}
use Rattle.std.proofs.lemmas.List.{get_or_default}
use Rattle.std.proofs.lemmas.List.Edits.{map_over_more}
use Rattle.terms.specs.declared.Row.{Row}
use Rattle.terms.specs.Words.{commit_at, num, stamp}
use Rattle.rules.specs.Raw.{zero_row}
use Rattle.tables.proofs.rows.commit.Goals.{then-eq, else-eq}
use Rattle.tables.proofs.rows.commit.Goals as goal

-- a is what the test answered, and r is written back as y
turn : (t m : ℕ) (xs ys zs : List Row) (i : ℕ) {y : Row} {a b : Bool} → let r = get_or ys i zero_row in
    i < length xs → length ys ≡ length xs → ys ≡ map (stamp t m) (take i xs) ++ drop i xs → a ≡ eqb (num r) t → a ≡ b → y ≡ cond b (commit_at m r) r
    → zs ≡ set ys i y → zs ≡ map (stamp t m) (take (i + 1) xs) ++ drop (i + 1) xs
turn t m xs ys zs i l n h e q k s =
    let r = get_or ys i zero_row in
    s ∙ ap (set ys i) (k ∙ ap (λ b. cond b (commit_at m r) r) (sym q ∙ e))
    ∙ map_over_more (stamp t m) xs ys i r l h (get_or_default ys i zero_row r (omega arith))

pub loop-row-preserved : goal.loop-row-preserved
loop-row-preserved c =
    elim c.if-eq.branch [
      | then-eq w ↦ turn _ _ _ _ _ _ c.loop-row-test.true c.loop-row.auto.rows c.loop-row.invariant c.eq.ensures w.if-eq.true w.commit_at.ensures w.rows-is
      | else-eq w ↦ turn _ _ _ _ _ _ c.loop-row-test.true c.loop-row.auto.rows c.loop-row.invariant c.eq.ensures w.if-eq.false refl w.rows-is
    ]

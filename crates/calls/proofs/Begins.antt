-- A begin on sound tables: each of its outcomes. Assumes nothing.
use Prim.Native.Nat.{ℕ, ◌+◌, ◌<◌}
use mathlib.Core.Bool.{true}
use mathlib.Core.List.{List}
use mathlib.Core.Logic.{inl, inr}
use mathlib.Core.Path.{◌∙◌, ◌≡◌, ap, refl, sym}
use native.Mathlib.Omega.{arith}
use lib.ListN.{get_or, length, set}
use Rattle.std.specs.Prelude.{Err, Ok}
use Rattle.terms.specs.declared.Refusal.TheVariants.{NumbersUsedUp, RowsFull}
use Rattle.terms.specs.Words.{row}
use Rattle.rules.specs.State.{begun}
use Rattle.rules.specs.Machine.{Begin, after, tables}
use Rattle.rules.specs.Raw.{Raw, raw_of, sound_raw, state_of, used_rows}
use Rattle.rules.specs.Public.{on_sound}
use Rattle.bridge.proofs.Holds.{head-is, holds, rows_used}
use Rattle.bridge.proofs.HeldChanges.{add_held}
use Rattle.calls.proofs.Outcomes.{accept, refuse, sane}

module _ (n m : ℕ) (w : Raw) (h : sound_raw n m w ≡ true) where
  pub begin-last : get_or w.head 1 0 ≡ 65536 → on_sound n m Begin w ≡ (Err NumbersUsedUp, w)
  unfolding state_of
  begin-last e = refuse n m w h Begin (Err NumbersUsedUp) (inr (sane n m w h, inl (e, refl))) refl refl

  pub begin_full : (get_or w.head 1 0 ≡ 65536 → ⊥) → length (used_rows w.rows) ≡ n → on_sound n m Begin w ≡ (Err RowsFull, w)
  unfolding state_of tables
  begin_full e l = refuse n m w h Begin (Err RowsFull) (inr (sane n m w h, inr (e, inl (omega (arith, l), refl)))) refl refl

  -- the next number and the next moment are taken, and a row is added
  pub begin-done : (get_or w.head 1 0 ≡ 65536 → ⊥) → (length (used_rows w.rows) ≡ n → ⊥)
      → on_sound n m Begin w ≡ (
        Ok (get_or w.head 1 0),
        record {
          head = set (set w.head 1 (get_or w.head 1 0 + 1)) 2 (get_or w.head 2 0 + 1);
          values = w.values;
          writers = w.writers;
          rows = set w.rows (length (used_rows w.rows)) (row (get_or w.head 1 0) (get_or w.head 2 0) 0);
          recs = w.recs;
        },
      )
  unfolding state_of tables after begun raw_of
  begin-done e l =
      let k = holds n m w h in
      let room : length (state_of w).rows < n = omega (arith, k.rows_few, rows_used w, l) in
      let added = add_held n m w k (row (get_or w.head 1 0) (get_or w.head 2 0) 0) room in
      let heads = ap (λ (d : List ℕ). set (set d 1 (get_or w.head 1 0 + 1)) 2 (get_or w.head 2 0 + 1)) (sym (head-is n m w k)) in
      accept n m w h Begin (Ok (get_or w.head 1 0)) (inr (sane n m w h, inr (e, inr (λ f. l (omega (arith, f, k.rows_few, rows_used w)), refl)))) refl
      ∙ (λ j. (Ok (get_or w.head 1 0), record { head = heads j; values = (added j).values; writers = (added j).writers; rows = (added j).rows; recs = (added j).recs }))

-- The serial order since the last accepted opening, of the history machine and of the table machine. Assumes nothing.
use Prim.Native.Nat.{◌≤◌, ℕ}
use mathlib.Core.Bool.{false}
use mathlib.Core.List.{List}
use mathlib.Core.Path.{◌∙◌, ◌≡◌, ap, refl, subst, sym}
use native.Mathlib.Omega.{arith}
use lib.ListN.{length}
use Rattle.rules.specs.Lists.{any}
use Rattle.rules.specs.Machine.{Call, Line, Machine, final, history, lines, tables}
use Rattle.rules.specs.Serial.{opening}
use Rattle.rules.specs.State.{State, opened}
use Rattle.rules.specs.Versions.{latest}
use Rattle.theory.proofs.Agreeing.{from_opening}
use Rattle.theory.proofs.PrunedRecords.{latest_pruned}
use Rattle.theory.proofs.SinceOpening.{since-opening, told-newest, told_serial, told-since}
use Rattle.theory.specs.Demand3.{OfHistory, OfTables, SerialSince, Serialized, SerializedFrom}

module _ (n m : ℕ) where
  -- from an opened state
  history_from : (vs : List ℕ) → 1 ≤ length vs → length vs ≤ 256 → (xs : List Call) (ls : List Line) → lines (history n m) (opened vs) xs ≡ ls → any opening ls ≡ false
      → SerialSince vs ls (final (history n m) (opened vs) xs)
  history_from vs l r xs ls e none = let t = told-since n m vs l r xs ls e none in (told_serial vs ls _ t, λ i b. told-newest vs ls _ t i)

  -- the table machine's lines are the history machine's
  tables_from : (vs : List ℕ) → 1 ≤ length vs → length vs ≤ 256 → (xs : List Call) (ls : List Line) → lines (tables n m) (opened vs) xs ≡ ls → any opening ls ≡ false
      → SerialSince vs ls (final (tables n m) (opened vs) xs)
  tables_from vs l r xs ls e none =
      let a = from_opening n m vs l r xs in
      let t = told-since n m vs l r xs ls (sym a.answers ∙ e) none in
      let k : length vs ≡ (final (history n m) (opened vs) xs).count = ap length (sym t.values) ∙ t.inv.sizes.0 in (
        told_serial vs ls _ t,
        λ i b. told-newest vs ls _ t i ∙ sym (latest_pruned (final (history n m) (opened vs) xs) t.inv i (omega arith)) ∙ ap (λ (z : State). latest z i) (sym a.ends),
      )

-- from any state
by-opening : (c : Machine)
    → ((vs : List ℕ) → 1 ≤ length vs → length vs ≤ 256 → (xs : List Call) (ls : List Line) → lines c (opened vs) xs ≡ ls → any opening ls ≡ false → SerialSince vs ls (final c (opened vs) xs))
    → Serialized c × SerializedFrom c
by-opening c from = (
  λ s xs before since k vs v e none.
      let u = since-opening c s xs before since k vs v e in
      subst (SerialSince vs since) (sym u.ends) (from vs u.some u.most u.calls since u.said none),
  λ vs l r xs none. from vs l r xs (lines c (opened vs) xs) refl none,
)

pub of_history : OfHistory
of_history n m = by-opening (history n m) (history_from n m)

pub of_tables : OfTables
of_tables n m = by-opening (tables n m) (tables_from n m)

-- What follows at once from the facts of a state that passes the tests. Assumes nothing.
use Prim.Native.Nat.{◌<◌, ℕ}
use mathlib.Core.List.Memᴰ
use mathlib.Core.Logic.{◌⊎◌, ⊎_elim}
use mathlib.Core.Path.{◌∙◌, ◌≡◌, ap, refl, sym}
use native.Mathlib.Omega.{arith}
use lib.ListN.{get_or}
use Rattle.laws.proofs.Lists.{◌∈◌}
use Rattle.laws.proofs.Records.{Keyed}
use Rattle.laws.proofs.Rows.{Known, row_at, same_row}
use Rattle.laws.proofs.Spending.{spent_decides}
use Rattle.laws.proofs.Tables.{get_or-mem}
use Rattle.laws.proofs.Versions.{Installed, Unwritten, stands}
use Rattle.laws.proofs.Writers.{before_spent}
use Rattle.rules.specs.Spent.{is_spent}
use Rattle.rules.specs.State.{State, row_of}
use Rattle.terms.specs.Words.{num}
use Rattle.terms.specs.declared.Rec.{Rec}
use Rattle.terms.specs.declared.Row.{Row}
use Rattle.theory.proofs.Facts.{Facts}
use Rattle.theory.proofs.Forgetting.{Behind, Rowed}

module _ (s : State) (v : Facts s) where
  pub known : Known s
  known = record { ascend = v.ascend; positive = λ m. (v.numbers m).0; distinct = v.distinct }

  pub rowed : Rowed s
  rowed = record { known = known; early = λ m c. (v.ends m c).1; within = v.within }

  pub row_of_lem : {r : Row} → r ∈ s.rows → row_of s.rows (num r) ≡ r
  row_of_lem m = row_at s known m

  -- the row of a number
  pub row_is : {r : Row} {t : ℕ} → r ∈ s.rows → num r ≡ t → row_of s.rows t ≡ r
  row_is m e = ap (row_of s.rows) (sym e) ∙ row_of_lem m

  pub one_row : {q r : Row} → q ∈ s.rows → r ∈ s.rows → num q ≡ num r → q ≡ r
  one_row = same_row s known

  -- the version of an item
  pub standing : (i m : ℕ) → Unwritten s i m ⊎ ((c : Row) × Installed s i m c)
  standing i m = stands s known i m

  -- of each item, the spent versions stand before the others
  pub behind : Behind (is_spent s) s
  behind i q r wq wr t l = (spent_decides s (num q)).1 (before_spent s known i ((spent_decides s (num r)).0 t) refl wq wr.here wr.wrote l)

  -- the writers in the value tables
  pub rowless : (i : ℕ) → i < s.count → (get_or s.writers i 0 < s.next) × ((r : Row) → r ∈ s.rows → num r ≡ get_or s.writers i 0 → ⊥)
  rowless i l =
      let u = v.based (get_or-mem s.writers i (omega (arith, v.sizes.1))) in
      (u.0, λ r m e. u.1 (Memᴰ.cast (sym e) (Memᴰ.map num m)))

  -- a record's key says its transaction, item and kind
  pub keyed : {x : Rec} → x ∈ s.recs → Keyed x
  keyed {x} m = (omega (arith, v.within m, v.counts.1), ⊎_elim (λ e. omega arith) (λ e. omega arith) (v.kinds m))

-- The used rows of a table by place, where they are those of a state that passes the tests. Assumes nothing.
use Prim.Native.Nat.{ℕ, ◌<◌}
use native.Mathlib.Decide.{dec_lt}
use native.Mathlib.Omega.{arith}
use mathlib.Core.Bool.{Bool, true, false, ◌&&◌}
use mathlib.Core.List.{List}
use mathlib.Core.Path.{◌≡◌, sym, ap, ◌∙◌}
use lib.Dec.{eqb, ltb}
use lib.ListN.{length, get_or-eq_default}
use lib.Seq.{get_or-take}
use borrow.Author.Tests.{eq-eqb, eqb-true, lt-ltb, le-ltb, ltb-true}
use Rattle.rules.specs.Lists.{mem, pairs}
use Rattle.rules.specs.Raw.{used_rows, zero_row}
use Rattle.rules.specs.State.{State, commits}
use Rattle.terms.specs.Words.{num, start, committed}
use Rattle.terms.specs.declared.Row.{Row}
use Rattle.lists.proofs.Untils.{until_first, length-until}
use Rattle.laws.proofs.Keeping.{mem-not, pairs_weaken}
use Rattle.laws.proofs.Lists.{◌∈◌, and_both, and_left, and_right, both_ways, mem_in, mem_out}
use Rattle.laws.proofs.Versions.{commits_in, commits_out}
use Rattle.theory.proofs.Facts.{Facts}
use Rattle.theory.proofs.Consequences.{one_row}
use Rattle.edges.specs.Blocks.{at, used_count}
use Rattle.edges.specs.Times.{placed}
use Rattle.edges.proofs.Places.{in_place, pairs_place, place_in}

-- ---- the table and the state
module _ (rs : List Row) (s : State) (rows : s.rows ≡ used_rows rs) where
  pub count_of : used_count rs ≡ length s.rows
  count_of = sym (ap length rows ∙ length-until (λ r. eqb (num r) 0) rs)

  pub at_of : (i : ℕ) → i < length s.rows → at rs i ≡ at s.rows i
  at_of i l =
      sym (get_or-take (used_count rs) rs i zero_row (omega (arith, count_of)))
      ∙ ap (λ (l : List Row). at l i) (sym (until_first (λ r. eqb (num r) 0) rs) ∙ sym rows)

  pub placed-is : (f : Row → Bool) (i : ℕ) → placed f rs (used_count rs) i ≡ (ltb i (length s.rows) && f (at s.rows i))
  placed-is f i = go (dec_lt i (length s.rows))
    where
      go : Dec (i < length s.rows) → placed f rs (used_count rs) i ≡ (ltb i (length s.rows) && f (at s.rows i))
      go (yes l) = λ q. ltb i (count_of q) && f (at_of i l q)
      go (no l) =
          let z : ltb i (length s.rows) ≡ false = le-ltb i (length s.rows) (omega arith) in
          (λ q. (ap (ltb i) count_of ∙ z) q && f (at rs i)) ∙ sym (ap (λ (b : Bool). b && f (at s.rows i)) z)

-- ---- the rows of the state
module _ (s : State) (v : Facts s) where
  abbrev nth_row : ℕ → Row
  nth_row i = at s.rows i

  abbrev nth_num : ℕ → ℕ
  nth_num i = num (nth_row i)

  abbrev len : ℕ
  len = length s.rows

  pub here : (i : ℕ) → i < len → nth_row i ∈ s.rows
  here i l = place_in zero_row s.rows i l

  pub rises : (i j : ℕ) → i < j → j < len → nth_num i < nth_num j
  rises i j l h = ltb-true _ _ (pairs_place zero_row (λ a b. ltb (num a) (num b)) s.rows v.ascend i j l h)

  pub starts_ascend : pairs (λ a b. ltb (start a) (start b)) s.rows ≡ true
  starts_ascend = pairs_weaken (λ a b. ltb (num a) (num b)) _ s.rows (λ a b ma mb l. lt-ltb _ _ (v.starts ma mb (ltb-true _ _ l))) v.ascend

  -- the row at a place is used and committed
  pub committed-is : (i : ℕ) → mem (nth_num i) (commits s) ≡ (ltb i len && committed (nth_row i))
  committed-is i = go (dec_lt i len)
    where
      go : Dec (i < len) → mem (nth_num i) (commits s) ≡ (ltb i len && committed (nth_row i))
      go (yes l) =
          both_ways _ _
          (λ h. let u = commits_out s (mem_out _ _ h) in and_both _ _ (lt-ltb i len l) (ap (λ (r : Row). committed r) (one_row s v (here i l) u.1 (sym u.3)) ∙ u.2))
          (λ h. mem_in _ _ (commits_in s (here i l) (and_right (ltb i len) _ h)))
      go (no l) =
          mem-not (nth_num i) (commits s) (λ m. let u = commits_out s m in omega (arith, (v.numbers u.1).0, u.3, ap num (get_or-eq_default s.rows zero_row {n = i} (omega arith))))
          ∙ sym (ap (λ (b : Bool). b && committed (nth_row i)) (le-ltb i len (omega arith)))

  pub committed-at : (i : ℕ) → nth_num i ∈ commits s → (i < len) × (committed (nth_row i) ≡ true)
  committed-at i m = let u = sym (committed-is i) ∙ mem_in _ _ m in (ltb-true i len (and_left _ _ u), and_right (ltb i len) _ u)

  -- the place of a committed transaction
  pub place_of_lem : {t : ℕ} → t ∈ commits s → (i : ℕ) × (i < len) × (nth_num i ≡ t)
  place_of_lem m = let u = commits_out s m in let w = in_place zero_row s.rows u.1 in (w.0, w.1, ap num w.2 ∙ u.3)

  pub one_place : (i j : ℕ) → i < len → j < len → nth_num i ≡ nth_num j → i ≡ j
  one_place i j li lj e = one (dec_lt i j) (dec_lt j i)
    where
      one : Dec (i < j) → Dec (j < i) → i ≡ j
      one (yes l) d = absurd (omega (arith, rises i j l lj))
      one (no l) (yes k) = absurd (omega (arith, rises j i k li))
      one (no l) (no k) = omega arith

  pub same_place : (i j : ℕ) → i < len → j < len → eqb (nth_num i) (nth_num j) ≡ eqb i j
  same_place i j li lj = both_ways _ _ (λ h. eq-eqb i j (one_place i j li lj (eqb-true _ _ h))) (λ h. eq-eqb _ _ (ap nth_num (eqb-true i j h)))

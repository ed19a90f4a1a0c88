-- The rows that ended before a row started, from row to row. Assumes nothing.
use Prim.Native.Nat.{ℕ, ◌+◌, ◌^◌, ◌≤◌, ◌<◌}
use native.Mathlib.Omega.{arith}
use native.Mathlib.Decide.{ℕ_discrete}
use mathlib.Core.Bool.{Bool, true, false, ◌&&◌, ◌||◌, false≢true}
use mathlib.Core.Logic.{◌⊎◌, inl, inr}
use mathlib.Core.Path.{◌≡◌, sym, ap, ◌∙◌}
use mathlib.Core.List.{List}
use lib.Bits.{bit_or}
use lib.Dec.{eqb, ltb}
use lib.ListN.{length, get_or, set, length-set}
use lib.Seq.{get_or-set_same, get_or-set_other}
use borrow.Author.Tests.{eq-eqb, eqb-true, le-ltb, lt-ltb, ltb-true}
use Rattle.terms.specs.declared.Row.{Row}
use Rattle.terms.specs.Words.{committed, done, start}
use Rattle.laws.proofs.Lists.{and_both, and_left, and_right, both_ways, or_cases, or_left, or_right}
use Rattle.graph.specs.Fill.{Filled}
use Rattle.graph.specs.Sets.{member}
use Rattle.graph.proofs.Sets.{member_with, member-zero}
use Rattle.sound.specs.Items.{at, earlier_than}

module _ (rs : List Row) (i j : ℕ) where
  pub earlier_in : j < i → committed (at rs j) ≡ true → done (at rs j) < start (at rs i) → earlier_than rs i j ≡ true
  unfolding earlier_than
  earlier_in l c d = and_both _ _ (lt-ltb j i l) (and_both _ _ c (lt-ltb _ _ d))

  pub earlier_out : earlier_than rs i j ≡ true → (j < i) × (committed (at rs j) ≡ true) × (done (at rs j) < start (at rs i))
  unfolding earlier_than
  earlier_out h =
      let r = and_right (ltb j i) (committed (at rs j) && ltb (done (at rs j)) (start (at rs i))) h in
      (ltb-true j i (and_left (ltb j i) _ h), and_left (committed (at rs j)) _ r, ltb-true (done (at rs j)) (start (at rs i)) (and_right (committed (at rs j)) _ r))

-- of the rows before index i: those that are committed, and the ends of these; those that ended before the row at i or any behind it
pub record Ended (rs : List Row) (i kept gone : ℕ) (ends : List ℕ) : Type 0 where
  pub len : length ends ≡ 32
  pub keeps : (j : ℕ) → member kept j ≡ true → (j < i) × (committed (at rs j) ≡ true)
  pub kept_in : (j : ℕ) → j < i → committed (at rs j) ≡ true → member kept j ≡ true
  pub past : (j : ℕ) → member gone j ≡ true → (k : ℕ) → i ≤ k → k < length rs → earlier_than rs k j ≡ true
  pub end : (j : ℕ) → j < i → committed (at rs j) ≡ true → get_or ends j 0 ≡ done (at rs j)

none_of : {A : Type 0} (j : ℕ) → member 0 j ≡ true → A
none_of j h = absurd (false≢true (sym (member-zero j) ∙ h))

pub ended-start : (rs : List Row) (ends : List ℕ) → length ends ≡ 32 → Ended rs 0 0 0 ends
ended-start rs ends l = record {
  len = l;
  keeps = λ j h. none_of j h;
  kept_in = λ j b c. absurd (omega arith);
  past = λ j h k a b. none_of j h;
  end = λ j b c. absurd (omega arith);
}

module _ (rs : List Row) (rise : (i j : ℕ) → i < j → j < length rs → start (at rs i) < start (at rs j)) (i kept gone : ℕ) (ends : List ℕ) (s : Ended rs i kept gone ends) (l : i < length rs)
    (r : ℕ) (is : (j : ℕ) → member r j ≡ (member gone j || (member kept j && ltb (get_or ends j 0) (start (at rs i))))) where
  ended_is : (j : ℕ) → member r j ≡ earlier_than rs i j
  ended_is j =
      both_ways _ _
      (λ h. there (or_cases (member gone j) _ (sym (is j) ∙ h)))
      (λ h. let u = earlier_out rs i j h in is j ∙ or_right (member gone j) _ (and_both _ _ (s.kept_in j u.0 u.1) (lt-ltb (get_or ends j 0) (start (at rs i)) (omega (arith, s.end j u.0 u.1, u.2)))))
    where
      there : (member gone j ≡ true) ⊎ ((member kept j && ltb (get_or ends j 0) (start (at rs i))) ≡ true) → earlier_than rs i j ≡ true
      there (inl h) = s.past j h i (omega arith) l
      there (inr h) =
          let u = s.keeps j (and_left _ _ h) in
          earlier_in rs i j u.0 u.1 (omega (arith, s.end j u.0 u.1, ltb-true (get_or ends j 0) (start (at rs i)) (and_right (member kept j) _ h)))

  pub ended_fill : Filled r (length rs) (earlier_than rs i)
  unfolding earlier_than
  ended_fill = record {
    low = λ j b. ended_is j;
    high = λ j b. ended_is j ∙ ap (λ (t : Bool). t && (committed (at rs j) && ltb (done (at rs j)) (start (at rs i)))) (le-ltb j i (omega arith));
  }

  onward : (j : ℕ) → member r j ≡ true → (k : ℕ) → i + 1 ≤ k → k < length rs → earlier_than rs k j ≡ true
  onward j h k a b = let u = earlier_out rs i j (sym (ended_is j) ∙ h) in earlier_in rs k j (omega (arith, u.0)) u.1 (omega (arith, u.2, rise i k (omega arith) b))

  -- the row at i is active, or committed
  pub ended-active : committed (at rs i) ≡ false → Ended rs (i + 1) kept r ends
  ended-active f = record {
    len = s.len;
    keeps = λ j h. let u = s.keeps j h in (omega (arith, u.0), u.1);
    kept_in = λ j b c. s.kept_in j (other j b c (ℕ_discrete i j)) c;
    past = onward;
    end = λ j b c. s.end j (other j b c (ℕ_discrete i j)) c;
  }
    where
      other : (j : ℕ) → j < i + 1 → committed (at rs j) ≡ true → Dec (i ≡ j) → j < i
      other j b c (yes z) = absurd (false≢true (sym f ∙ ap (λ (k : ℕ). committed (at rs k)) z ∙ c))
      other j b c (no z) = omega arith

  pub ended-commit : committed (at rs i) ≡ true → i < 32 → Ended rs (i + 1) (bit_or kept (2 ^ i)) r (set ends i (done (at rs i)))
  ended-commit c few = record {
    len = length-set ends i (done (at rs i)) ∙ s.len;
    keeps = λ j h. keeps j (or_cases (member kept j) _ (sym (member_with kept i j) ∙ h));
    kept_in = λ j b q. member_with kept i j ∙ inside j b q (ℕ_discrete i j);
    past = onward;
    end = λ j b q. end j b q (ℕ_discrete i j);
  }
    where
      keeps : (j : ℕ) → (member kept j ≡ true) ⊎ (eqb i j ≡ true) → (j < i + 1) × (committed (at rs j) ≡ true)
      keeps j (inl h) = let u = s.keeps j h in (omega (arith, u.0), u.1)
      keeps j (inr h) = let z = eqb-true i j h in (omega arith, ap (λ (k : ℕ). committed (at rs k)) (sym z) ∙ c)

      inside : (j : ℕ) → j < i + 1 → committed (at rs j) ≡ true → Dec (i ≡ j) → (member kept j || eqb i j) ≡ true
      inside j b q (yes z) = or_right (member kept j) _ (eq-eqb i j z)
      inside j b q (no z) = or_left _ _ (s.kept_in j (omega arith) q)

      end : (j : ℕ) → j < i + 1 → committed (at rs j) ≡ true → Dec (i ≡ j) → get_or (set ends i (done (at rs i))) j 0 ≡ done (at rs j)
      end j b q (yes z) = ap (λ (k : ℕ). get_or (set ends i (done (at rs i))) k 0) (sym z) ∙ get_or-set_same ends i (done (at rs i)) 0 (omega (arith, s.len)) ∙ ap (λ (k : ℕ). done (at rs k)) z
      end j b q (no z) = get_or-set_other ends i j (done (at rs i)) 0 (λ e. z (sym e)) ∙ s.end j (omega arith) q

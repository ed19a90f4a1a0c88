-- Of rows that pass: what is left passes too, and once one started after a commit, all that are left have their moments after it. Assumes nothing.
use Prim.Native.Nat.{ℕ, zero, suc, ◌≤◌, ◌<◌}
use native.Mathlib.Omega.{arith}
use mathlib.Core.Bool.{true, false, not, ◌&&◌, ◌||◌, and-eq-true_iff}
use mathlib.Core.Logic.{◌⊎◌, inl, inr}
use mathlib.Core.Path.{◌≡◌, refl, ap, ◌∙◌}
use mathlib.Core.List.{List, [], ◌∷◌}
use lib.Dec.{eqb, ltb}
use lib.ListN.{length, get_or, drop}
use borrow.Author.Tests.{eqb-false, eqb-true, ltb-true, ne_eqb}
use Rattle.terms.specs.declared.Row.{Row}
use Rattle.terms.specs.Words.{active, done, num, start}
use Rattle.rules.specs.Lists.{all}
use Rattle.rules.specs.Raw.{zero_row}
use Rattle.laws.proofs.Lists.{and_both, and_left, and_right, or_cases, or_left, or_right, passed}
use Rattle.sound.specs.Rows.{apart_from, ends_well, fine_from, fine_row}

-- ---- of rows that pass, those behind one that started after a's commit have all their moments after it
module _ (next moment : ℕ) (a : Row) where
  after : (r : Row) → done a < start r → ends_well moment r ≡ true → apart_from a r ≡ true
  unfolding apart_from ends_well
  after r l e = go (passed (active a)) (or_cases (active r) _ e)
    where
      go : (active a ≡ true) ⊎ (active a ≡ false) → (active r ≡ true) ⊎ ((ltb (start r) (done r) && ltb (done r) moment) ≡ true) → (active a || (not (eqb (done a) (done r)) && not (eqb (done a) (start r)))) ≡ true
      go (inl t) q = or_left _ _ t
      go (inr t) (inl q) = or_right (active a) _ (and_both _ _ (ap not (ne_eqb (done a) (done r) (λ z. eqb-false (done a) 0 t (z ∙ eqb-true (done r) 0 q)))) (ap not (ne_eqb (done a) (start r) (λ z. omega arith))))
      go (inr t) (inr q) =
          let d = ltb-true (start r) (done r) (and_left _ _ q) in
          or_right (active a) _ (and_both _ _ (ap not (ne_eqb (done a) (done r) (λ z. omega arith))) (ap not (ne_eqb (done a) (start r) (λ z. omega arith))))

  all_after : (n b : ℕ) (us : List Row) → fine_from next moment n b us ≡ true → done a ≤ b → all (apart_from a) us ≡ true
  unfolding fine_from fine_row
  all_after n b [] h l = refl
  all_after n b (r ∷ us) h l =
      let t = and_left (fine_row next moment n b r) (fine_from next moment (num r) (start r) us) h in
      let v = simp and-eq-true_iff at t in
      let s = ltb-true b (start r) v.1.1.0 in
      and_both _ _ (after r (omega arith) v.1.1.1.1) (all_after (num r) (start r) us (and_right (fine_row next moment n b r) _ h) (omega arith))

  pub rest-after : (n b : ℕ) (us : List Row) (j : ℕ) → fine_from next moment n b us ≡ true → j < length us → done a < start (get_or us j zero_row) → all (apart_from a) (drop j us) ≡ true
  unfolding fine_from fine_row
  rest-after n b [] j h l d = absurd (omega arith)
  rest-after n b (r ∷ us) zero h l d =
      let t = and_left (fine_row next moment n b r) (fine_from next moment (num r) (start r) us) h in
      let v = simp and-eq-true_iff at t in
      and_both _ _ (after r d v.1.1.1.1) (all_after (num r) (start r) us (and_right (fine_row next moment n b r) _ h) (omega arith))
  rest-after n b (r ∷ us) (suc j) h l d = rest-after (num r) (start r) us j (and_right (fine_row next moment n b r) _ h) (omega arith) d

-- ---- what is left passes too, behind the row before it
pub fine-rest : (next moment n b : ℕ) (us : List Row) (i : ℕ) → fine_from next moment n b us ≡ true → (m : ℕ) × (c : ℕ) × (fine_from next moment m c (drop i us) ≡ true)
unfolding fine_from
fine-rest next moment n b us zero h = (n, b, h)
fine-rest next moment n b [] (suc i) h = (n, b, refl)
fine-rest next moment n b (r ∷ us) (suc i) h = fine-rest next moment (num r) (start r) us i (and_right (fine_row next moment n b r) _ h)

-- The pass over the rows, with commits that are no later row's moments, is the sentences on rows. Assumes nothing.
use Prim.Native.Nat.{ℕ, ◌<◌}
use native.Mathlib.Omega.{arith}
use mathlib.Core.Bool.{Bool, true, false, not, ◌&&◌, ◌||◌, and-eq-true_iff, false≢true}
use mathlib.Core.Logic.{◌⊎◌, inl, inr}
use mathlib.Core.Path.{◌≡◌, refl, sym, ap, ◌∙◌}
use mathlib.Core.List.{List, [], ◌∷◌}
use lib.Dec.{eqb, ltb, leb}
use borrow.Author.Tests.{eqb-false, eqb-true, le-leb, leb-true, lt-ltb, ltb-false, ltb-true, ne_eqb, not-true}
use Rattle.terms.specs.declared.Row.{Row}
use Rattle.terms.specs.Words.{active, committed, done, num, start}
use Rattle.rules.specs.Lists.{all, keep, pairs}
use Rattle.rules.specs.State.{State, row_of}
use Rattle.rules.specs.Sound.{numbered, timed}
use Rattle.laws.proofs.Lists.{◌∈◌, all_in, all_out, and_both, and_left, and_right, both_ways, keep_in, keep_out, or_cases, or_left, or_right, pairs-keep, passed}
use Rattle.laws.proofs.Keeping.{pairs_weaken}
use Rattle.laws.proofs.Rows.{Ascend, pairs_out, row_found}
use Rattle.sound.specs.Rows.{apart_from, ascends, ends_well, fine_from, fine_row}

abbrev starts_ascend : List Row → Bool
starts_ascend us = pairs (λ a b. ltb (start a) (start b)) us

-- what the pass finds of rows that stand behind a row with the number n and the start b
pub record Fine (next moment n b : ℕ) (us : List Row) : Type 0 where
  pub nums : all (λ r. ltb n (num r)) us ≡ true
  pub ascend : ascends us ≡ true
  pub below : all (λ r. ltb (num r) next) us ≡ true
  pub starts : all (λ r. ltb b (start r)) us ≡ true
  pub rising : starts_ascend us ≡ true
  pub before : all (λ r. ltb (start r) moment) us ≡ true
  pub ends : all (ends_well moment) us ≡ true

module _ (next moment : ℕ) where
  rises : (f : Row → ℕ) (m n : ℕ) (us : List Row) → n < m → all (λ r. ltb m (f r)) us ≡ true → all (λ r. ltb n (f r)) us ≡ true
  rises f m n us l h = all_in _ us (λ r k. lt-ltb n (f r) (omega (arith, ltb-true m (f r) (all_out (λ r. ltb m (f r)) k h))))

  fine_out : (n b : ℕ) (us : List Row) → fine_from next moment n b us ≡ true → Fine next moment n b us
  unfolding fine_from fine_row
  fine_out n b [] h = record { nums = refl; ascend = refl; below = refl; starts = refl; rising = refl; before = refl; ends = refl }
  fine_out n b (r ∷ us) h =
      let t = and_left (fine_row next moment n b r) (fine_from next moment (num r) (start r) us) h in
      let f = fine_out (num r) (start r) us (and_right (fine_row next moment n b r) _ h) in
      let v = simp and-eq-true_iff at t in
      record {
        nums = and_both _ _ v.0 (rises num (num r) n us (ltb-true n (num r) v.0) f.nums);
        ascend = and_both _ _ f.nums f.ascend;
        below = and_both _ _ v.1.0 f.below;
        starts = and_both _ _ v.1.1.0 (rises start (start r) b us (ltb-true b (start r) v.1.1.0) f.starts);
        rising = and_both _ _ f.starts f.rising;
        before = and_both _ _ v.1.1.1.0 f.before;
        ends = and_both _ _ v.1.1.1.1 f.ends;
      }

  fine_in : (n b : ℕ) (us : List Row) → Fine next moment n b us → fine_from next moment n b us ≡ true
  unfolding fine_from fine_row
  fine_in n b [] f = refl
  fine_in n b (r ∷ us) f =
      and_both (fine_row next moment n b r) _
      (and_both (ltb n (num r)) _ (and_left (ltb n (num r)) (all (λ r. ltb n (num r)) us) f.nums)
      (and_both (ltb (num r) next) _ (and_left (ltb (num r) next) (all (λ r. ltb (num r) next) us) f.below)
      (and_both (ltb b (start r)) _ (and_left (ltb b (start r)) (all (λ r. ltb b (start r)) us) f.starts)
      (and_both (ltb (start r) moment) _ (and_left (ltb (start r) moment) (all (λ r. ltb (start r) moment) us) f.before)
      (and_left (ends_well moment r) (all (ends_well moment) us) f.ends)))))
      (fine_in (num r) (start r) us
      (record {
        nums = and_left (all (λ q. ltb (num r) (num q)) us) (ascends us) f.ascend;
        ascend = and_right (all (λ q. ltb (num r) (num q)) us) (ascends us) f.ascend;
        below = and_right (ltb (num r) next) _ f.below;
        starts = and_left (all (λ q. ltb (start r) (start q)) us) (starts_ascend us) f.rising;
        rising = and_right (all (λ q. ltb (start r) (start q)) us) (starts_ascend us) f.rising;
        before = and_right (ltb (start r) moment) _ f.before;
        ends = and_right (ends_well moment r) _ f.ends;
      }))

module _ (s : State) where
  -- the commit of a committed row
  ended : (r : Row) → committed r ≡ true → ends_well s.moment r ≡ true → (start r < done r) × (done r < s.moment)
  unfolding ends_well
  ended r c h = go (or_cases (active r) _ h)
    where
      go : (active r ≡ true) ⊎ ((ltb (start r) (done r) && ltb (done r) s.moment) ≡ true) → (start r < done r) × (done r < s.moment)
      go (inl a) = absurd (false≢true (sym (ap not a) ∙ c))
      go (inr e) = (ltb-true _ _ (and_left _ _ e), ltb-true _ _ (and_right (ltb (start r) (done r)) _ e))

  apart_out : (a b : Row) → committed a ≡ true → apart_from a b ≡ true → (eqb (done a) (done b) ≡ false) × (eqb (done a) (start b) ≡ false)
  unfolding apart_from
  apart_out a b c h = go (or_cases (active a) _ h)
    where
      go : (active a ≡ true) ⊎ ((not (eqb (done a) (done b)) && not (eqb (done a) (start b))) ≡ true) → (eqb (done a) (done b) ≡ false) × (eqb (done a) (start b) ≡ false)
      go (inl t) = absurd (false≢true (sym (ap not t) ∙ c))
      go (inr e) = (not-true _ (and_left _ _ e), not-true _ (and_right (not (eqb (done a) (done b))) _ e))

  module _ (f : Fine s.next s.moment 0 0 s.rows) (p : pairs apart_from s.rows ≡ true) where
    cross : {c r : Row} → c ∈ s.rows → committed c ≡ true → r ∈ s.rows → eqb (done c) (start r) ≡ false
    cross {c} {r} mc e mr = go (passed (ltb (num c) (num r))) (passed (ltb (num r) (num c)))
      where
        end : (start c < done c) × (done c < s.moment)
        end = ended c e (all_out (ends_well s.moment) mc f.ends)

        go : (ltb (num c) (num r) ≡ true) ⊎ (ltb (num c) (num r) ≡ false) → (ltb (num r) (num c) ≡ true) ⊎ (ltb (num r) (num c) ≡ false) → eqb (done c) (start r) ≡ false
        go (inl t) q = (apart_out c r e (pairs_out apart_from s.rows f.ascend p mc mr (ltb-true _ _ t))).1
        go (inr t) (inl q) =
            let l = ltb-true (start r) (start c) (pairs_out (λ a b. ltb (start a) (start b)) s.rows f.ascend f.rising mr mc (ltb-true _ _ q)) in
            ne_eqb (done c) (start r) (λ z. omega (arith, end))
        go (inr t) (inr q) =
            let n : num c ≡ num r = omega (arith, ltb-false) in
            let same : c ≡ r = sym (row_found s.rows f.ascend mc) ∙ ap (row_of s.rows) n ∙ row_found s.rows f.ascend mr in
            ne_eqb (done c) (start r) (λ z. omega (arith, end, ap start same))

    numbered_in : numbered s ≡ true
    unfolding numbered
    numbered_in =
        and_both _ _
        (all_in _ s.rows (λ r m. and_both _ _ (le-leb 1 (num r) (omega (arith, ltb-true 0 (num r) (all_out (λ r. ltb 0 (num r)) m f.nums)))) (all_out (λ r. ltb (num r) s.next) m f.below)))
        f.rising

    timed_in : timed s ≡ true
    unfolding timed
    timed_in =
        and_both _ _ (and_both _ _ (and_both _ _
        (all_in _ s.rows (λ r m. and_both _ _ (le-leb 1 (start r) (omega (arith, ltb-true 0 (start r) (all_out (λ r. ltb 0 (start r)) m f.starts)))) (all_out (λ r. ltb (start r) s.moment) m f.before)))
        (all_in _ (keep committed s.rows) (λ r m. let u = keep_out committed s.rows m in let e = ended r u.1 (all_out (ends_well s.moment) u.0 f.ends) in and_both _ _ (lt-ltb _ _ e.0) (lt-ltb _ _ e.1))))
        (pairs_weaken apart_from (λ a b. not (eqb (done a) (done b))) (keep committed s.rows) (λ a b ma mb h. ap not (apart_out a b (keep_out committed s.rows ma).1 h).0)
        (pairs-keep apart_from committed s.rows p)))
        (all_in _ (keep committed s.rows) (λ c m. let u = keep_out committed s.rows m in all_in _ s.rows (λ r mr. ap not (cross u.0 u.1 mr))))

  module _ (o : Ascend s.rows) (hn : numbered s ≡ true) (ht : timed s ≡ true) where
    fine_of : Fine s.next s.moment 0 0 s.rows
    unfolding numbered timed ends_well
    fine_of =
        let n = and_left (all (λ r. leb 1 (num r) && ltb (num r) s.next) s.rows) _ hn in
        let v = simp and-eq-true_iff at ht in
        record {
          nums = all_in _ s.rows (λ r m. lt-ltb 0 (num r) (leb-true 1 (num r) (and_left _ _ (all_out (λ r. leb 1 (num r) && ltb (num r) s.next) m n))));
          ascend = o;
          below = all_in _ s.rows (λ r m. and_right (leb 1 (num r)) _ (all_out (λ r. leb 1 (num r) && ltb (num r) s.next) m n));
          starts = all_in _ s.rows (λ r m. lt-ltb 0 (start r) (leb-true 1 (start r) (and_left _ _ (all_out (λ r. leb 1 (start r) && ltb (start r) s.moment) m v.0.0.0))));
          rising = and_right (all (λ r. leb 1 (num r) && ltb (num r) s.next) s.rows) _ hn;
          before = all_in _ s.rows (λ r m. and_right (leb 1 (start r)) _ (all_out (λ r. leb 1 (start r) && ltb (start r) s.moment) m v.0.0.0));
          ends = all_in _ s.rows (λ r m. go r m v.0.0.1 (passed (active r)));
        }
      where
        go : (r : Row) → r ∈ s.rows → all (λ r. ltb (start r) (done r) && ltb (done r) s.moment) (keep committed s.rows) ≡ true
            → (active r ≡ true) ⊎ (active r ≡ false) → (active r || (ltb (start r) (done r) && ltb (done r) s.moment)) ≡ true
        go r m h (inl a) = or_left _ _ a
        go r m h (inr a) = or_right (active r) _ (all_out (λ r. ltb (start r) (done r) && ltb (done r) s.moment) (keep_in committed m (ap not a)) h)

    pairs_of : pairs apart_from s.rows ≡ true
    unfolding timed apart_from
    pairs_of =
        let v = simp and-eq-true_iff at ht in
        pairs_weaken (λ a b. ltb (num a) (num b)) apart_from s.rows (λ a b ma mb l. go a b ma mb (ltb-true _ _ l) v.0.1 v.1 (passed (active a)) (passed (active b))) o
      where
        go : (a b : Row) → a ∈ s.rows → b ∈ s.rows → num a < num b → pairs (λ a b. not (eqb (done a) (done b))) (keep committed s.rows) ≡ true
            → all (λ c. all (λ r. not (eqb (done c) (start r))) s.rows) (keep committed s.rows) ≡ true
            → (active a ≡ true) ⊎ (active a ≡ false) → (active b ≡ true) ⊎ (active b ≡ false) → (active a || (not (eqb (done a) (done b)) && not (eqb (done a) (start b)))) ≡ true
        go a b ma mb l h k (inl t) q = or_left _ _ t
        go a b ma mb l h k (inr t) (inl q) =
            or_right (active a) _ (and_both _ _ (ap not (ne_eqb (done a) (done b) (λ z. eqb-false (done a) 0 t (z ∙ eqb-true (done b) 0 q))))
            (all_out (λ r. not (eqb (done a) (start r))) mb (all_out (λ c. all (λ r. not (eqb (done c) (start r))) s.rows) (keep_in committed ma (ap not t)) k)))
        go a b ma mb l h k (inr t) (inr q) =
            or_right (active a) _ (and_both _ _
            (pairs_out (λ a b. not (eqb (done a) (done b))) (keep committed s.rows) (pairs-keep (λ a b. ltb (num a) (num b)) committed s.rows o) h (keep_in committed ma (ap not t)) (keep_in committed mb (ap not q)) l)
            (all_out (λ r. not (eqb (done a) (start r))) mb (all_out (λ c. all (λ r. not (eqb (done c) (start r))) s.rows) (keep_in committed ma (ap not t)) k)))

  -- the equation
  pub rows_is : (fine_from s.next s.moment 0 0 s.rows && pairs apart_from s.rows) ≡ (ascends s.rows && (numbered s && timed s))
  rows_is =
      both_ways _ _
      (λ h. let f = fine_out s.next s.moment 0 0 s.rows (and_left _ _ h) in
      let p = and_right (fine_from s.next s.moment 0 0 s.rows) _ h in
      and_both _ _ f.ascend (and_both _ _ (numbered_in f p) (timed_in f p)))
      (λ h. let o = and_left (ascends s.rows) (numbered s && timed s) h in
      let v = and_right (ascends s.rows) _ h in
      let n = and_left (numbered s) (timed s) v in
      let t = and_right (numbered s) (timed s) v in
      and_both _ _ (fine_in s.next s.moment 0 0 s.rows (fine_of o n t)) (pairs_of o n t))

-- What is drawn from the tables are the edges of the state that they hold. Assumes nothing.
use Prim.Native.Nat.{ℕ, ◌≤◌, ◌<◌}
use native.Mathlib.Decide.{dec_lt, ℕ_discrete}
use native.Mathlib.Omega.{arith}
use mathlib.Core.Bool.{Bool, true, false, not, ◌&&◌, ◌||◌, and-false, and-true, not-not}
use mathlib.Core.List.{List}
use mathlib.Core.Logic.{◌⊎◌, inl, inr}
use mathlib.Core.Path.{◌≡◌, refl, sym, ap, ◌∙◌}
use lib.Dec.{eqb, ltb}
use lib.ListN.{length}
use borrow.Author.Tests.{eq-eqb, ne_eqb, lt-ltb, le-ltb, ltb-true}
use Rattle.rules.specs.Lists.{mem}
use Rattle.rules.specs.State.{State, commits, row_of}
use Rattle.terms.specs.Words.{num, start, done, committed}
use Rattle.terms.specs.declared.Row.{Row}
use Rattle.laws.proofs.Lists.{and_left, and_right, passed}
use Rattle.graph.specs.Sets.{edges as in_table}
use Rattle.theory.specs.Edges.{touches, edge, edges}
use Rattle.theory.proofs.Facts.{Facts, facts_of}
use Rattle.theory.proofs.Consequences.{row_of_lem}
use Rattle.edges.specs.Blocks.{at, used_count}
use Rattle.edges.specs.Times.{ended, over, Rising}
use Rattle.edges.specs.Told.{Holds, EdgesTold}
use Rattle.edges.proofs.Drawing.{Drawing, linked}
use Rattle.edges.proofs.Rowed.{at_of, committed-is, count_of, here, placed-is, rises, same_place}
use Rattle.edges.proofs.Touching.{touched-is, by-is}

module _ (rs : List Row) (ps : List ℕ) (s : State) (v : Facts s) (holds : Holds rs ps s) where
  abbrev nth_num : ℕ → ℕ
  nth_num i = num (at s.rows i)

  abbrev nth_row : ℕ → Row
  nth_row i = at s.rows i

  abbrev len : ℕ
  len = length s.rows

  start_of : (i : ℕ) → i < len → start (row_of s.rows (nth_num i)) ≡ start (nth_row i)
  start_of i l = ap (λ (r : Row). start r) (row_of_lem s v (here s v i l))

  done_of : (i : ℕ) → i < len → done (row_of s.rows (nth_num i)) ≡ done (nth_row i)
  done_of i l = ap (λ (r : Row). done r) (row_of_lem s v (here s v i l))

  starts_rise : (i j : ℕ) → i < j → j < len → start (nth_row i) < start (nth_row j)
  starts_rise i j l k = v.starts (here s v i (omega arith)) (here s v j k) (rises s v i j l k)

  -- moments of commits and starts differ
  not_after : (i j : ℕ) → i < len → j < len → committed (nth_row i) ≡ true → not (ltb (start (nth_row j)) (done (nth_row i))) ≡ ltb (done (nth_row i)) (start (nth_row j))
  not_after i j li lj c = go (dec_lt (start (nth_row j)) (done (nth_row i))) (ℕ_discrete (done (nth_row i)) (start (nth_row j)))
    where
      go : Dec (start (nth_row j) < done (nth_row i)) → Dec (done (nth_row i) ≡ start (nth_row j)) → not (ltb (start (nth_row j)) (done (nth_row i))) ≡ ltb (done (nth_row i)) (start (nth_row j))
      go (yes l) d = ap not (lt-ltb (start (nth_row j)) (done (nth_row i)) l) ∙ sym (le-ltb (done (nth_row i)) (start (nth_row j)) (omega arith))
      go (no l) (yes e) = absurd (v.cross (here s v i li) c (here s v j lj) e)
      go (no l) (no n) = ap not (le-ltb (start (nth_row j)) (done (nth_row i)) (omega arith)) ∙ sym (lt-ltb (done (nth_row i)) (start (nth_row j)) (omega arith))

  rising : Rising rs
  rising i j l h =
      let k : j < len = omega (arith, count_of rs s holds.rows) in
      omega (arith, starts_rise i j l k, ap (λ (r : Row). start r) (at_of rs s holds.rows i (omega arith)), ap (λ (r : Row). start r) (at_of rs s holds.rows j k))

  over-is : (i j : ℕ) → i < len → j < len → over rs j i ≡ ltb (done (nth_row j)) (start (nth_row i))
  over-is i j li lj = λ q. ltb (done (at_of rs s holds.rows j lj q)) (start (at_of rs s holds.rows i li q))

  module _ (w : ℕ) (wide : 256 ≤ w) where
    linked_is : (i j : ℕ) → i < len → j < len → committed (nth_row i) ≡ true → committed (nth_row j) ≡ true → linked w rs ps i j ≡ edge s (nth_num i) (nth_num j)
    unfolding edge
    linked_is i j li lj ci cj =
        (λ q. (ltb j i && (touched-is w wide rs ps s v holds i j li lj q && not (over-is i j li lj q)))
        || (ltb i j && (by-is w wide rs ps s v holds j i lj li q || (touched-is w wide rs ps s v holds j i lj li q && over-is j i lj li q))))
        ∙ pick (dec_lt i j) (dec_lt j i)
        ∙ (λ q. not (sym (same_place s v i j li lj) q) && ((touches s (nth_num i) (nth_num j) && ltb (sym (start_of i li) q) (sym (done_of j lj) q)) || (touches s (nth_num j) (nth_num i) && ltb (sym (done_of i li) q) (sym (start_of j lj) q))))
      where
        after : (i : ℕ) (l : i < len) → committed (nth_row i) ≡ true → start (nth_row i) < done (nth_row i)
        after i l c = (v.ends (here s v i l) c).0

        pick : Dec (i < j) → Dec (j < i)
            → ((ltb j i && (touches s (nth_num i) (nth_num j) && not (ltb (done (nth_row j)) (start (nth_row i))))) || (ltb i j && (touches s (nth_num i) (nth_num j) || (touches s (nth_num j) (nth_num i) && ltb (done (nth_row i)) (start (nth_row j))))))
            ≡ (not (eqb i j) && ((touches s (nth_num i) (nth_num j) && ltb (start (nth_row i)) (done (nth_row j))) || (touches s (nth_num j) (nth_num i) && ltb (done (nth_row i)) (start (nth_row j)))))
        pick (yes l) d =
            rw (lt-ltb i j l, le-ltb j i (omega arith), ne_eqb i j (λ (e : i ≡ j). omega arith), lt-ltb (start (nth_row i)) (done (nth_row j)) (omega (arith, starts_rise i j l lj, after j lj cj)))
            (ap (λ (b : Bool). b || (touches s (nth_num j) (nth_num i) && ltb (done (nth_row i)) (start (nth_row j)))) (sym (and-true (touches s (nth_num i) (nth_num j)))))
        pick (no l) (yes h) =
            rw (lt-ltb j i h, le-ltb i j (omega arith), ne_eqb i j (λ (e : i ≡ j). omega arith), le-ltb (done (nth_row i)) (start (nth_row j)) (omega (arith, starts_rise j i h li, after i li ci)))
            ((λ q. (touches s (nth_num i) (nth_num j) && (ap not (sym (not_after j i lj li cj)) ∙ not-not (ltb (start (nth_row i)) (done (nth_row j)))) q) || sym (and-false (touches s (nth_num j) (nth_num i))) q))
        pick (no l) (no h) = rw (le-ltb i j (omega arith), le-ltb j i (omega arith), eq-eqb i j (omega arith)) refl

    pub told : {n a before : ℕ} {tab ends g rest : List ℕ} → a ≡ used_count rs → Drawing w n rs ps tab ends g rest before a → (i j : ℕ) → in_table g i j ≡ edges s (nth_num i) (nth_num j)
    unfolding in_table edges
    told {a = a} all d i j = d.is rising i j ∙ (λ q. (among-is i q && among-is j q) && linked w rs ps i j) ∙ go (passed (mem (nth_num i) (commits s))) (passed (mem (nth_num j) (commits s)))
      where
        among-is : (i : ℕ) → ended rs a i ≡ mem (nth_num i) (commits s)
        among-is i = ap (λ (b : ℕ). ended rs b i) all ∙ placed-is rs s holds.rows committed i ∙ sym (committed-is s v i)

        out : (a : ℕ) → mem (nth_num a) (commits s) ≡ true → (a < len) × (committed (nth_row a) ≡ true)
        out a h = let u = sym (committed-is s v a) ∙ h in (ltb-true a len (and_left _ _ u), and_right (ltb a len) _ u)

        go : (mem (nth_num i) (commits s) ≡ true) ⊎ (mem (nth_num i) (commits s) ≡ false) → (mem (nth_num j) (commits s) ≡ true) ⊎ (mem (nth_num j) (commits s) ≡ false)
            → ((mem (nth_num i) (commits s) && mem (nth_num j) (commits s)) && linked w rs ps i j) ≡ (mem (nth_num i) (commits s) && mem (nth_num j) (commits s) && edge s (nth_num i) (nth_num j))
        go (inr f) y = rw f refl
        go (inl x) (inr f) = rw (x, f) refl
        go (inl x) (inl y) = let u = out i x in let u' = out j y in rw (x, y) (linked_is i j u.0 u'.0 u.1 u'.1)

-- the masks tell the edges of every state that the tables hold
pub edges-told : (w n : ℕ) → 256 ≤ w → (rs : List Row) (ps : List ℕ) {a before : ℕ} {tab ends g rest : List ℕ} → a ≡ used_count rs → Drawing w n rs ps tab ends g rest before a → EdgesTold n rs ps g
edges-told w n wide rs ps all d = record { len = d.g_len; is = λ s h holds i j. told rs ps s (facts_of s h) holds w wide all d i j }

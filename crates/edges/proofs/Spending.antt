-- The spent rows are the committed ones that are not reached from those that are not old. Assumes nothing.
use Prim.Native.Nat.{ℕ, ◌≤◌, ◌<◌, ◌^◌}
use native.Mathlib.Omega.{arith}
use mathlib.Core.Bool.{Bool, true, false, not, ◌&&◌, ◌||◌, false≢true}
use mathlib.Core.List.{List}
use mathlib.Core.Logic.{◌⊎◌, inl, inr}
use mathlib.Core.Path.{◌≡◌, refl, sym, ap, ◌∙◌}
use lib.Dec.{T, ltb, leb, eqb}
use lib.ListN.{length}
use borrow.Author.Tests.{lt-ltb, ltb-true, not-true, leb-true, eqb-true}
use Rattle.rules.specs.Lists.{all, mem}
use Rattle.rules.specs.Raw.{used_rows}
use Rattle.rules.specs.Sound.{lawful}
use Rattle.rules.specs.Spent.{Spent, is_spent, old}
use Rattle.rules.specs.State.{State, commits}
use Rattle.terms.specs.Words.{num, start, done, active, committed}
use Rattle.terms.specs.declared.Row.{Row}
use Rattle.laws.proofs.Lists.{T_in, T_out, and_both, and_left, and_right, both_ways, mem_in, mem_out, passed}
use Rattle.laws.proofs.Spending.{spent_commits, spent_decides}
use Rattle.graph.specs.Sets.{member, outside, edges as in_table}
use Rattle.graph.specs.Reach.{Reached, reachable}
use Rattle.graph.proofs.Reachable.{reachable-reached}
use Rattle.graph.proofs.Ways.{closed_way}
use Rattle.graph.proofs.Sets.{member-outside}
use Rattle.theory.specs.Edges.{edges}
use Rattle.theory.proofs.EdgesRings.{spent_reached}
use Rattle.theory.proofs.Facts.{Facts, lawful_facts}
use Rattle.theory.proofs.Consequences.{row_of_lem}
use Rattle.edges.specs.Blocks.{at, used_count}
use Rattle.edges.specs.Spent.{limit_of}
use Rattle.edges.specs.Times.{placed, since}
use Rattle.edges.specs.Told.{SpentTold}
use Rattle.edges.proofs.Indexes.{first_most}
use Rattle.edges.proofs.Limits.{limit_used, limit_is, limit_positive}
use Rattle.edges.proofs.Rowed.{committed-at, committed-is, count_of, here, place_of_lem, placed-is, starts_ascend}
use Rattle.edges.proofs.Timings.{since_one}
use Rattle.edges.proofs.Ways.{bound, way_in, way_out}

-- a state whose rows are the used ones, and a table of sets that has its edges
module _ (rs : List Row) (g : List ℕ) (s : State) (h : lawful s ≡ true) (rows : s.rows ≡ used_rows rs)
    (e : (i j : ℕ) → in_table g i j ≡ edges s (num (at s.rows i)) (num (at s.rows j))) where
  v : Facts s
  v = lawful_facts s h

  abbrev nth_row : ℕ → Row
  nth_row i = at s.rows i

  abbrev nth_num : ℕ → ℕ
  nth_num i = num (nth_row i)

  abbrev len : ℕ
  len = length s.rows

  -- ---- the committed rows that are not old
  module _ (top : ℕ) (last : s.moment ≤ top) (young among : ℕ) (ys : (j : ℕ) → member young j ≡ placed (since (limit_of top rs)) rs (used_count rs) j)
      (cs : (j : ℕ) → member among j ≡ placed (since 1) rs (used_count rs) j) where
    limit_same : limit_of top rs ≡ limit_of top s.rows
    limit_same = limit_used top rs ∙ ap (limit_of top) (sym rows)

    judged : (i : ℕ) → i < len → committed (nth_row i) ≡ true → since (limit_of top rs) (nth_row i) ≡ not (old s (nth_num i))
    unfolding old
    judged i l c =
        ap (λ (m : ℕ). leb m (done (nth_row i))) limit_same
        ∙ limit_is top s.rows (λ r m. (v.numbers m).0) (starts_ascend s v) (done (nth_row i)) (omega (arith, (v.ends (here s v i l) c).1))
        ∙ ap (λ (d : ℕ). not (all (λ r. committed r || ltb d (start r)) s.rows)) (sym (ap (λ (r : Row). done r) (row_of_lem s v (here s v i l))))

    -- a commit that is not before the limit is one
    has_ended : (i : ℕ) → since (limit_of top rs) (nth_row i) ≡ true → committed (nth_row i) ≡ true
    has_ended i t = go (passed (active (nth_row i)))
      where
        go : (active (nth_row i) ≡ true) ⊎ (active (nth_row i) ≡ false) → committed (nth_row i) ≡ true
        go (inr f) = ap not f
        go (inl a) =
            absurd (omega (
              arith,
              leb-true (limit_of top rs) (done (nth_row i)) t,
              eqb-true (done (nth_row i)) 0 a,
              limit_same,
              limit_positive top s.rows (omega (arith, v.low, v.nexts.0)) (λ r m. (v.started m).0),
            ))

    young_is : (i : ℕ) → member young i ≡ (mem (nth_num i) (commits s) && not (old s (nth_num i)))
    young_is i = ys i ∙ placed-is rs s rows (since (limit_of top rs)) i ∙ both_ways _ _ there back
      where
        there : (ltb i len && since (limit_of top rs) (nth_row i)) ≡ true → (mem (nth_num i) (commits s) && not (old s (nth_num i))) ≡ true
        there t =
            let l = and_left (ltb i len) _ t in
            let f = and_right (ltb i len) _ t in
            let c = has_ended i f in
            and_both _ _ (committed-is s v i ∙ and_both _ _ l c) (sym (judged i (ltb-true i len l) c) ∙ f)

        back : (mem (nth_num i) (commits s) && not (old s (nth_num i))) ≡ true → (ltb i len && since (limit_of top rs) (nth_row i)) ≡ true
        back t =
            let u = committed-at s v i (mem_out _ _ (and_left _ _ t)) in
            and_both _ _ (lt-ltb i len u.0) (judged i u.0 u.1 ∙ and_right (mem (nth_num i) (commits s)) _ t)

    among-is : (i : ℕ) → member among i ≡ mem (nth_num i) (commits s)
    among-is i = cs i ∙ placed-is rs s rows (since 1) i ∙ ap (λ (b : Bool). ltb i len && b) (since_one (nth_row i)) ∙ sym (committed-is s v i)

    -- ---- what is reached from them
    module _ (k : ℕ) (room : len ≤ k) where
      seeds_low : (i : ℕ) → T (member young i) → i < k
      seeds_low i t = let u = (committed-at s v i (mem_out _ _ (and_left _ _ (sym (young_is i) ∙ T_out _ t)))).0 in omega arith

      from_young : Reached (in_table g) (member young) (reachable k (in_table g) (member young))
      from_young = reachable-reached k (in_table g) (bound s v g e k room) (member young) seeds_low

      pub spent_is : (i : ℕ) → (member among i && not (reachable k (in_table g) (member young) i)) ≡ is_spent s (nth_num i)
      spent_is i = both_ways _ _ there back
        where
          there : (member among i && not (reachable k (in_table g) (member young) i)) ≡ true → is_spent s (nth_num i) ≡ true
          there t =
              let m = mem_out (nth_num i) (commits s) (sym (among-is i) ∙ and_left (member among i) _ t) in
              let free = not-true (reachable k (in_table g) (member young) i) (and_right (member among i) _ t) in
              (spent_decides s (nth_num i)).1 ((spent_reached s h (nth_num i)).1 (
                m,
                λ a ma o w.
                    let c = place_of_lem s v ma in
                    let seed = T_in (young_is c.0 ∙ and_both _ _ (ap (λ (n : ℕ). mem n (commits s)) c.2 ∙ mem_in a (commits s) ma) (ap not (ap (old s) c.2 ∙ o))) in
                    false≢true (sym free ∙ T_out (reachable k (in_table g) (member young) i) (closed_way (reachable k (in_table g) (member young)) from_young.closed (from_young.has c.0 seed)
                    (way_in s v g e w c.0 c.1 c.2 i (committed-at s v i m).0 refl))),
              ))

          back : is_spent s (nth_num i) ≡ true → (member among i && not (reachable k (in_table g) (member young) i)) ≡ true
          back t =
              let p = (spent_decides s (nth_num i)).0 t in
              and_both _ _ (among-is i ∙ mem_in _ _ (spent_commits s p)) (pick p (passed (reachable k (in_table g) (member young) i)))
            where
              pick : Spent s (nth_num i) → (reachable k (in_table g) (member young) i ≡ true) ⊎ (reachable k (in_table g) (member young) i ≡ false) → not (reachable k (in_table g) (member young) i) ≡ true
              pick p (inr f) = ap not f
              pick p (inl r) =
                  let o = from_young.only i (T_in r) in
                  let y = sym (young_is o.0) ∙ T_out _ o.1 in
                  absurd (((spent_reached s h (nth_num i)).0 p).1 (nth_num o.0) (mem_out _ _ (and_left _ _ y)) (not-true _ (and_right (mem (nth_num o.0) (commits s)) _ y)) (way_out s v g e o.2))

-- the set that is left tells the spent rows
pub spent_told : (k top : ℕ) → 131072 ≤ top → (rs : List Row) (g : List ℕ) → length rs ≤ k → (young among reached : ℕ) {r : ℕ} → among < 2 ^ k → reached < 2 ^ k
    → ((j : ℕ) → member young j ≡ placed (since (limit_of top rs)) rs (used_count rs) j) → ((j : ℕ) → member among j ≡ placed (since 1) rs (used_count rs) j)
    → member reached ≡ reachable k (in_table g) (member young) → r ≡ outside k among reached → SpentTold rs g r
spent_told k top high rs g room young among reached {r} ha hr ys cs is q =
    record {
      is = λ s h rows e i.
          let v = lawful_facts s h in
          ap (λ (m : ℕ). member m i) q ∙ member-outside k among reached i ha hr ∙ ap (λ (f : ℕ → Bool). member among i && not (f i)) is
          ∙ spent_is rs g s h rows e top (omega (arith, v.high, v.nexts.1)) young among ys cs k (omega (arith, count_of rs s rows, first_most (λ r. eqb (num r) 0) rs)) i;
    }

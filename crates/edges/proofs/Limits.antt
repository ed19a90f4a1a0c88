-- The start of the first active row: the scan for it, and which commits it says to be old. Assumes nothing.
use Prim.Native.Nat.{ℕ, ◌+◌, ◌≤◌, ◌<◌}
use native.Mathlib.Decide.{dec_lt}
use native.Mathlib.Omega.{arith}
use mathlib.Core.Bool.{Bool, true, false, not, ◌&&◌, ◌||◌}
use mathlib.Core.List.Memᴰ
use mathlib.Core.List.{List, [], ◌∷◌}
use mathlib.Core.Path.{◌≡◌, refl, sym, ap, ◌∙◌}
use lib.Dec.{eqb, ltb, leb}
use lib.ListN.{length}
use borrow.Author.Tests.{ne_eqb, lt-ltb, le-ltb, le-leb, lt-leb, ltb-true}
use Rattle.rules.specs.Lists.{all, pairs}
use Rattle.rules.specs.Raw.{used_rows, zero_row}
use Rattle.terms.specs.Words.{num, start, active, committed}
use Rattle.terms.specs.declared.Row.{Row}
use Rattle.lists.proofs.Scans.{Going, go_next, go_here, go_done}
use Rattle.lists.proofs.Untils.{stop}
use Rattle.laws.proofs.Lists.{◌∈◌, all_in, all_out, and_left, and_right, or_right}
use Rattle.edges.specs.Blocks.{at}
use Rattle.edges.specs.Spent.{limit_of}

-- ---- the scan
module _ (top : ℕ) {rs : List Row} {v i : ℕ} (s : Going rs (limit_of top) v i) where
  pub limit_unused : i < length rs → eqb (num (at rs i)) 0 ≡ true → top ≡ v
  unfolding limit_of
  limit_unused l e = go_here s zero_row l (λ ys. rw (e, limit_of) refl)

  pub limit_active : i < length rs → eqb (num (at rs i)) 0 ≡ false → active (at rs i) ≡ true → start (at rs i) ≡ v
  unfolding limit_of
  limit_active l e a = go_here s zero_row l (λ ys. rw (e, a, limit_of) refl)

  pub limit_next : i < length rs → eqb (num (at rs i)) 0 ≡ false → active (at rs i) ≡ false → Going rs (limit_of top) v (i + 1)
  unfolding limit_of
  limit_next l e a = go_next s zero_row (limit_of top) l (λ ys. rw (e, a, limit_of) refl)

  pub limit_done : length rs ≤ i → top ≡ v
  unfolding limit_of
  limit_done l = go_done s l

-- ---- the used rows alone count
pub limit_used : (top : ℕ) (rs : List Row) → limit_of top rs ≡ limit_of top (used_rows rs)
unfolding limit_of
limit_used top [] = refl
limit_used top (r ∷ rs) = go (eqb (num r) 0) refl (limit_used top rs)
  where
    go : (b : Bool) → eqb (num r) 0 ≡ b → limit_of top rs ≡ limit_of top (used_rows rs)
        → ◌≡◌ {A = ℕ} (elim b [ true ↦ top | false ↦ elim (active r) [ true ↦ start r | false ↦ limit_of top rs ] ]) (limit_of top (stop b r (used_rows rs)))
    go true e i = refl
    go false e i = rw (e, limit_of) (pick (active r) i)
      where
        pick : (b : Bool) → limit_of top rs ≡ limit_of top (used_rows rs) → ◌≡◌ {A = ℕ} (elim b [ true ↦ start r | false ↦ limit_of top rs ]) (elim b [ true ↦ start r | false ↦ limit_of top (used_rows rs) ])
        pick true i = refl
        pick false i = i

-- a commit at d is before the start of every active row exactly if it is before the limit: the starts ascend
pub limit_is : (top : ℕ) (rs : List Row) → ((r : Row) → r ∈ rs → 1 ≤ num r) → pairs (λ a b. ltb (start a) (start b)) rs ≡ true → (d : ℕ) → d < top
    → leb (limit_of top rs) d ≡ not (all (λ r. committed r || ltb d (start r)) rs)
unfolding limit_of
limit_is top [] pos asc d h = lt-leb top d h
limit_is top (r ∷ rs) pos asc d h = rw (ne_eqb (num r) 0 (λ (e : num r ≡ 0). omega (arith, pos r (Memᴰ.head refl))), limit_of)
    (go (active r) (limit_is top rs (λ q m. pos q (Memᴰ.tail m)) (and_right (all (λ b. ltb (start r) (start b)) rs) _ asc) d h))
  where
    go : (b : Bool) → leb (limit_of top rs) d ≡ not (all (λ r. committed r || ltb d (start r)) rs)
        → leb (elim b [ true ↦ start r | false ↦ limit_of top rs ]) d ≡ not ((not b || ltb d (start r)) && all (λ r. committed r || ltb d (start r)) rs)
    go false i = i
    go true i = pick (dec_lt d (start r))
      where
        later : d < start r → all (λ r. committed r || ltb d (start r)) rs ≡ true
        later l = all_in _ rs (λ q m. or_right (committed q) _ (lt-ltb d (start q) (omega (arith, ltb-true (start r) (start q) (all_out (λ b. ltb (start r) (start b)) m (and_left _ _ asc))))))

        pick : Dec (d < start r) → leb (start r) d ≡ not (ltb d (start r) && all (λ r. committed r || ltb d (start r)) rs)
        pick (yes l) = lt-leb (start r) d l ∙ sym (λ q. not (lt-ltb d (start r) l q && later l q))
        pick (no l) = le-leb (start r) d (omega arith) ∙ sym (ap (λ (b : Bool). not (b && all (λ r. committed r || ltb d (start r)) rs)) (le-ltb d (start r) (omega arith)))

pub limit_positive : (top : ℕ) (rs : List Row) → 1 ≤ top → ((r : Row) → r ∈ rs → 1 ≤ start r) → 1 ≤ limit_of top rs
unfolding limit_of
limit_positive top [] h f = h
limit_positive top (r ∷ rs) h f = go (eqb (num r) 0) (active r) (limit_positive top rs h (λ q m. f q (Memᴰ.tail m)))
  where
    go : (b c : Bool) → 1 ≤ limit_of top rs → 1 ≤ elim b [ true ↦ top | false ↦ elim c [ true ↦ start r | false ↦ limit_of top rs ] ]
    go true c i = h
    go false true i = f r (Memᴰ.head refl)
    go false false i = i

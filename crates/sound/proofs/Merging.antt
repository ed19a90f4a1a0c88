-- One pass over rows and records, both of which ascend. Assumes nothing.
use Prim.Native.Nat.{ℕ, zero, suc, ◌+◌, ◌≤◌, ◌<◌}
use native.Mathlib.Omega.{arith}
use native.Mathlib.Decide.{dec_lt}
use native.Mathlib.Numerals.{add-one}
use mathlib.Core.Bool.{Bool, true, false, ◌&&◌}
use mathlib.Core.Logic.{◌≢◌}
use mathlib.Core.Path.{◌≡◌, refl, sym, ap, ap₂, subst, ◌∙◌}
use mathlib.Core.List.{List, [], ◌∷◌}
use lib.Dec.{eqb, ltb}
use lib.ListN.{length, get_or, set, drop, drop_of_length-le}
use lib.Seq.{drop-cons, get_or-set_same, get_or-set_other}
use borrow.Author.Count.{below_more}
use borrow.Author.Tests.{eq-eqb, ne_eqb}
use Rattle.terms.specs.declared.Row.{Row}
use Rattle.terms.specs.Words.{num, txn}
use Rattle.rules.specs.Lists.{all}
use Rattle.rules.specs.Raw.{unpack, zero_row}
use Rattle.laws.proofs.Lists.{and_right}
use Rattle.laws.proofs.Rows.{Ascend}
use Rattle.sound.specs.Records.{Owners, filed_after, filed_from, key_of}
use Rattle.sound.proofs.Filed.{filed_empty, filed_other, filed_own}

-- the pass has come to the row i and the record j, after a record with the key k
pub record Merging (count : ℕ) (rs : List Row) (ps : List ℕ) (k i j : ℕ) : Type 0 where
  pub same : filed_from count (drop i rs) k (drop j ps) ≡ filed_from count rs 0 ps

ascend_drop : (i : ℕ) (rs : List Row) → Ascend rs → Ascend (drop i rs)
ascend_drop zero rs o = o
ascend_drop (suc i) [] o = refl
ascend_drop (suc i) (r ∷ rs) o = ascend_drop i rs (and_right (all (λ b. ltb (num r) (num b)) rs) _ o)

module _ (count : ℕ) (rs : List Row) (ps : List ℕ) (k i j : ℕ) (s : Merging count rs ps k i j) (lj : j < length ps) where
  abbrev v : Bool
  v = filed_from count rs 0 ps

  recs_open : drop j ps ≡ get_or ps j 0 ∷ drop (j + 1) ps
  recs_open = rw add-one (drop-cons ps j 0 lj)

  merge_left : length rs ≤ i → false ≡ v
  merge_left l =
      sym (filed_empty count k (get_or ps j 0) (drop (j + 1) ps))
      ∙ ap₂ (λ (a : List Row) (b : List ℕ). filed_from count a k b) (sym (drop_of_length-le rs l)) (sym recs_open) ∙ s.same

  module _ (li : i < length rs) where
    abbrev r : Row
    r = get_or rs i zero_row

    rows_open : drop i rs ≡ get_or rs i zero_row ∷ drop (i + 1) rs
    rows_open = rw add-one (drop-cons rs i zero_row li)

    opened : filed_from count (drop i rs) k (drop j ps) ≡ filed_from count (r ∷ drop (i + 1) rs) k (get_or ps j 0 ∷ drop (j + 1) ps)
    opened = ap₂ (λ (a : List Row) (b : List ℕ). filed_from count a k b) rows_open recs_open

    merge_other : Ascend rs → (num r ≡ txn (unpack (get_or ps j 0)) → ⊥) → Merging count rs ps k (i + 1) j
    merge_other o n =
        record {
          same = ap (λ (b : List ℕ). filed_from count (drop (i + 1) rs) k b) recs_open
              ∙ sym (filed_other count r (drop (i + 1) rs) k (get_or ps j 0) (drop (j + 1) ps) (subst Ascend rows_open (ascend_drop i rs o)) n) ∙ sym opened ∙ s.same;
        }

    module _ (e : num r ≡ txn (unpack (get_or ps j 0))) where
      owned-here : (filed_after count k (get_or ps j 0) && filed_from count (drop i rs) (key_of (get_or ps j 0)) (drop (j + 1) ps)) ≡ v
      owned-here =
          ap (λ (a : List Row). filed_after count k (get_or ps j 0) && filed_from count a (key_of (get_or ps j 0)) (drop (j + 1) ps)) rows_open
          ∙ sym (filed_own count r (drop (i + 1) rs) k (get_or ps j 0) (drop (j + 1) ps) e) ∙ sym opened ∙ s.same

      pub merge_bad : filed_after count k (get_or ps j 0) ≡ false → false ≡ v
      merge_bad f =
          ap (λ (b : Bool). b && filed_from count (drop i rs) (key_of (get_or ps j 0)) (drop (j + 1) ps)) (sym f) ∙ owned-here

      pub merge_next : filed_after count k (get_or ps j 0) ≡ true → Merging count rs ps (key_of (get_or ps j 0)) i (j + 1)
      merge_next f =
          record { same = ap (λ (b : Bool). b && filed_from count (drop i rs) (key_of (get_or ps j 0)) (drop (j + 1) ps)) (sym f) ∙ owned-here }

module _ (count : ℕ) (rs : List Row) (ps : List ℕ) (k i j : ℕ) (s : Merging count rs ps k i j) where
  merge_done : length ps ≤ j → true ≡ filed_from count rs 0 ps
  unfolding filed_from
  merge_done l = ap (λ (b : List ℕ). filed_from count (drop i rs) k b) (sym (drop_of_length-le ps l)) ∙ s.same

  -- the row has no further record
  pub merge_past : Ascend rs → i < length rs → (j < length ps → num (get_or rs i zero_row) ≡ txn (unpack (get_or ps j 0)) → ⊥) → Merging count rs ps k (i + 1) j
  unfolding filed_from
  merge_past o li n = go (dec_lt j (length ps))
    where
      go : Dec (j < length ps) → Merging count rs ps k (i + 1) j
      go (yes l) = merge_other count rs ps k i j s l li o (n l)
      go (no l) = record { same = ap (λ (b : List ℕ). filed_from count (drop (i + 1) rs) k b) (drop_of_length-le ps (omega arith)) ∙ merge_done (omega arith) }

  -- no row is left
  pub merge_end : length rs ≤ i → j ≤ length ps → eqb j (length ps) ≡ filed_from count rs 0 ps
  merge_end l b = go (dec_lt j (length ps))
    where
      go : Dec (j < length ps) → eqb j (length ps) ≡ filed_from count rs 0 ps
      go (yes q) = ne_eqb j (length ps) (λ e. omega arith) ∙ merge_left count rs ps k i j s q l
      go (no q) = eq-eqb j (length ps) (omega arith) ∙ merge_done (omega arith)

-- ---- the index of each record's row
pub owners_more : (j i : ℕ) (rs : List Row) (ps os : List ℕ) → Owners j rs ps os → j < length os → i < length rs → num (get_or rs i zero_row) ≡ txn (unpack (get_or ps j 0)) → Owners (j + 1) rs ps (set os j i)
owners_more j i rs ps os o l li e =
    let put = get_or-set_same os j i 0 l in
    record {
      inside = below_more _ j (λ k q. let ne : k ≢ j = omega arith in rw (get_or-set_other os j k i 0 ne) (o.inside k q)) (rw put li);
      is = below_more _ j (λ k q. let ne : k ≢ j = omega arith in rw (get_or-set_other os j k i 0 ne) (o.is k q)) (rw put e);
    }

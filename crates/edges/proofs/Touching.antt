-- What the index says of a state: who wrote an item, who touched it, and which rows touch each other. Assumes nothing.
use Prim.Native.Nat.{ℕ, ◌+◌, ◌≤◌, ◌<◌}
use native.Mathlib.Omega.{arith}
use mathlib.Core.Bool.{Bool, true, false, cond, ◌&&◌, ◌||◌, or-false, and-eq-true_iff}
use mathlib.Core.List.{List}
use mathlib.Core.Path.{◌≡◌, refl, sym, ap, ◌∙◌}
use lib.Dec.{eqb}
use lib.ListN.{length}
use borrow.Author.Tests.{eq-eqb, eqb-true, ne_eqb}
use Rattle.rules.specs.Lists.{any}
use Rattle.rules.specs.Raw.{unpack, used_recs}
use Rattle.rules.specs.State.{State, is_rec, recorded, wrote}
use Rattle.terms.specs.Words.{num, txn, item, is_write}
use Rattle.terms.specs.declared.Rec.{Rec}
use Rattle.terms.specs.declared.Row.{Row}
use Rattle.laws.proofs.Lists.{and_both, and_left, and_right, any_in, any_out, both_ways}
use Rattle.laws.proofs.Keeping.{any-kept}
use Rattle.laws.proofs.Raw.{unpack_packs}
use Rattle.theory.specs.Edges.{touches}
use Rattle.theory.proofs.Facts.{Facts}
use Rattle.edges.specs.Blocks.{at, block, hits, marked}
use Rattle.edges.specs.Drawn.{meets, met_by}
use Rattle.edges.specs.Told.{Holds}
use Rattle.edges.proofs.Places.{any-map, any_agree, any_either}
use Rattle.edges.proofs.Blocked.{own, block-is}

-- ---- a mark in the index: a packed item is below 256
module _ (w : ℕ) (wide : 256 ≤ w) where
  module _ (i p : ℕ) where
    same : eqb (w + item (unpack p)) (w + i) ≡ eqb (item (unpack p)) i
    same = both_ways _ _ (λ h. eq-eqb (item (unpack p)) i (omega (arith, eqb-true (w + item (unpack p)) (w + i) h))) (λ h. eq-eqb (w + item (unpack p)) (w + i) (ap (λ (n : ℕ). w + n) (eqb-true _ _ h)))

    low : eqb (item (unpack p)) (w + i) ≡ false
    low = ne_eqb (item (unpack p)) (w + i) (λ (e : item (unpack p) ≡ w + i). omega (arith, (unpack_packs p).item-fits))

    hits-writer : hits w (w + i) p ≡ (is_write (unpack p) && eqb (item (unpack p)) i)
    hits-writer = go (is_write (unpack p))
      where
        go : (b : Bool) → eqb (cond b (w + item (unpack p)) (item (unpack p))) (w + i) ≡ (b && eqb (item (unpack p)) i)
        go true = same
        go false = low

    hits_either : i < w → (hits w i p || hits w (w + i) p) ≡ eqb (item (unpack p)) i
    hits_either l = go (is_write (unpack p))
      where
        go : (b : Bool) → (eqb (cond b (w + item (unpack p)) (item (unpack p))) i || eqb (cond b (w + item (unpack p)) (item (unpack p))) (w + i)) ≡ eqb (item (unpack p)) i
        go true = ap (λ (c : Bool). c || eqb (w + item (unpack p)) (w + i)) (ne_eqb (w + item (unpack p)) i (λ (e : w + item (unpack p) ≡ i). omega arith)) ∙ same
        go false = ap (λ (c : Bool). eqb (item (unpack p)) i || c) low ∙ or-false _

module _ (w : ℕ) (wide : 256 ≤ w) (rs : List Row) (ps : List ℕ) (s : State) (v : Facts s) (holds : Holds rs ps s) where
  abbrev us : List ℕ
  us = used_recs ps

  abbrev nth_num : ℕ → ℕ
  nth_num i = num (at s.rows i)

  abbrev n : ℕ
  n = length s.rows

  -- a test over the records of a row
  over : (q : ℕ → Bool) (j : ℕ) → j < n → any q (block rs ps j) ≡ any (λ p. own (nth_num j) p && q p) us
  over q j l =
      ap (any q) (block-is rs ps s v holds j l)
      ∙ any-kept q (λ p. own (nth_num j) p && q p) (own (nth_num j)) us (λ p m h. sym (ap (λ (b : Bool). b && q p) h)) (λ p m h. and_left _ _ h)

  in_state : (q : Rec → Bool) → any (λ p. q (unpack p)) us ≡ any q s.recs
  in_state q = sym (any-map unpack q us) ∙ ap (any q) (sym holds.recs)

  writer-is : (i j : ℕ) → j < n → marked w rs ps (w + i) j ≡ wrote s (nth_num j) i
  unfolding recorded
  writer-is i j l =
      over (hits w (w + i)) j l
      ∙ any_agree _ _ us (λ p m. ap (λ (b : Bool). own (nth_num j) p && b) (hits-writer w wide i p) ∙ turned (own (nth_num j) p) (is_write (unpack p)) (eqb (item (unpack p)) i))
      ∙ in_state (is_rec (nth_num j) i 2)
    where
      turned : (a b c : Bool) → (a && (b && c)) ≡ ((a && c) && b)
      turned true true true = refl
      turned true true false = refl
      turned true false true = refl
      turned true false false = refl
      turned false b c = refl

  pub touched-is : (i j : ℕ) → i < n → j < n → meets w (marked w rs ps) (block rs ps i) j ≡ touches s (nth_num i) (nth_num j)
  unfolding touches
  touched-is i j li lj =
      over (λ p. marked w rs ps (w + item (unpack p)) j) i li
      ∙ any_agree _ _ us (λ p m. ap (λ (b : Bool). own (nth_num i) p && b) (writer-is (item (unpack p)) j lj))
      ∙ in_state (λ y. eqb (txn y) (nth_num i) && wrote s (nth_num j) (item y))

  -- q is j's, of p's item
  abbrev of : ℕ → ℕ → ℕ → Bool
  of j p q = own (nth_num j) q && eqb (item (unpack q)) (item (unpack p))

  -- the other way round: a record that writes what another touched
  pub by-is : (i j : ℕ) → i < n → j < n → met_by w (marked w rs ps) (block rs ps i) j ≡ touches s (nth_num j) (nth_num i)
  unfolding touches recorded
  by-is i j li lj =
      over (λ p. is_write (unpack p) && (marked w rs ps (item (unpack p)) j || marked w rs ps (w + item (unpack p)) j)) i li
      ∙ any_agree _ _ us (λ p m. ap (λ (b : Bool). own (nth_num i) p && (is_write (unpack p) && b)) (accessed p))
      ∙ both_ways _ _ there back
      ∙ in_state (λ y. eqb (txn y) (nth_num j) && wrote s (nth_num i) (item y))
    where
      accessed : (p : ℕ) → (marked w rs ps (item (unpack p)) j || marked w rs ps (w + item (unpack p)) j) ≡ any (of j p) us
      accessed p =
          (λ z. over (hits w (item (unpack p))) j lj z || over (hits w (w + item (unpack p))) j lj z)
          ∙ any_either (λ q. own (nth_num j) q && hits w (item (unpack p)) q) (λ q. own (nth_num j) q && hits w (w + item (unpack p)) q) us
          ∙ any_agree _ _ us (λ q m. both (own (nth_num j) q) (hits w (item (unpack p)) q) (hits w (w + item (unpack p)) q)
          ∙ ap (λ (b : Bool). own (nth_num j) q && b) (hits_either w wide (item (unpack p)) q (omega (arith, (unpack_packs p).item-fits))))
        where
          both : (o a b : Bool) → ((o && a) || (o && b)) ≡ (o && (a || b))
          both true a b = refl
          both false a b = refl

      there : any (λ p. own (nth_num i) p && (is_write (unpack p) && any (of j p) us)) us ≡ true → any (λ q. own (nth_num j) q && wrote s (nth_num i) (item (unpack q))) us ≡ true
      there h =
          let u = any_out (λ p. own (nth_num i) p && (is_write (unpack p) && any (of j p) us)) us h in
          let a = and_left (own (nth_num i) u.0) _ u.2 in
          let b = and_right (own (nth_num i) u.0) (is_write (unpack u.0) && any (of j u.0) us) u.2 in
          let o = any_out (of j u.0) us (and_right (is_write (unpack u.0)) (any (of j u.0) us) b) in
          any_in (λ q. own (nth_num j) q && wrote s (nth_num i) (item (unpack q))) o.1 (and_both (own (nth_num j) o.0) (wrote s (nth_num i) (item (unpack o.0))) (and_left (own (nth_num j) o.0) (eqb (item (unpack o.0)) (item (unpack u.0))) o.2)
          (sym (in_state (is_rec (nth_num i) (item (unpack o.0)) 2))
          ∙ any_in (λ p. is_rec (nth_num i) (item (unpack o.0)) 2 (unpack p)) u.1 (and_both _ _ (and_both _ _ a (eq-eqb (item (unpack u.0)) (item (unpack o.0)) (sym (eqb-true (item (unpack o.0)) (item (unpack u.0)) (and_right (own (nth_num j) o.0) _ o.2))))) (and_left (is_write (unpack u.0)) (any (of j u.0) us) b))))

      back : any (λ q. own (nth_num j) q && wrote s (nth_num i) (item (unpack q))) us ≡ true → any (λ p. own (nth_num i) p && (is_write (unpack p) && any (of j p) us)) us ≡ true
      back h =
          let u = any_out (λ q. own (nth_num j) q && wrote s (nth_num i) (item (unpack q))) us h in
          let a = and_left (own (nth_num j) u.0) (wrote s (nth_num i) (item (unpack u.0))) u.2 in
          let o = any_out (λ p. is_rec (nth_num i) (item (unpack u.0)) 2 (unpack p)) us (in_state (is_rec (nth_num i) (item (unpack u.0)) 2) ∙ and_right (own (nth_num j) u.0) (wrote s (nth_num i) (item (unpack u.0))) u.2) in
          let c = simp and-eq-true_iff at o.2 in
          any_in (λ p. own (nth_num i) p && (is_write (unpack p) && any (of j p) us)) o.1 (and_both (own (nth_num i) o.0) (is_write (unpack o.0) && any (of j o.0) us) c.0.0 (and_both (is_write (unpack o.0)) (any (of j o.0) us) c.1
          (any_in (of j o.0) u.1 (and_both (own (nth_num j) u.0) (eqb (item (unpack u.0)) (item (unpack o.0))) a (eq-eqb _ _ (sym (eqb-true (item (unpack o.0)) (item (unpack u.0)) c.0.1)))))))

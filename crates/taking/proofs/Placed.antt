-- Rows and records of a state by place in its tables: where a number stands, and what stands there. Assumes nothing.
use Prim.Native.Nat.{ℕ, ◌≤◌, ◌<◌}
use native.Mathlib.Omega.{arith}
use mathlib.Core.Bool.{Bool, true, false, false≢true}
use mathlib.Core.List.{List, [], ◌∷◌, map}
use mathlib.Core.Path.{◌≡◌, refl, sym, ap, ◌∙◌}
use lib.Dec.{eqb, ltb}
use lib.ListN.{length}
use borrow.Author.Tests.{eq-eqb, ne_eqb, ltb-true}
use Rattle.rules.specs.Lists.{padded, all}
use Rattle.rules.specs.Raw.{zero_row}
use Rattle.rules.specs.State.{State, is_rec, word_in}
use Rattle.terms.specs.Words.{num, key}
use Rattle.terms.specs.declared.Rec.{Rec}
use Rattle.lists.proofs.Pads.{get_or-padded, length-padded}
use Rattle.laws.proofs.Lists.{◌∈◌, all_out, and_left, and_right}
use Rattle.laws.proofs.Records.{Sorted, is-rec_out}
use Rattle.theory.proofs.Facts.{Facts}
use Rattle.edges.specs.Blocks.{at}
use Rattle.edges.proofs.Rowed.{rises}
use Rattle.taking.specs.Leaving.{place_of}
use Rattle.std.proofs.lemmas.List.Sums.{position_or_len_is}

module _ (n : ℕ) (s : State) (v : Facts s) (room : length s.rows ≤ n) where
  pub at-padded : (i : ℕ) → at (padded n zero_row s.rows) i ≡ at s.rows i
  at-padded i = get_or-padded n i zero_row s.rows

  -- a row's number stands at the row's place
  pub place_is : (i : ℕ) → i < length s.rows → place_of (padded n zero_row s.rows) (num (at s.rows i)) ≡ i
  place_is i l =
      position_or_len_is (λ r. eqb (num r) (num (at s.rows i))) (padded n zero_row s.rows) i zero_row (omega (arith, length-padded n zero_row s.rows room))
      (λ k h. ne_eqb _ _ (λ (e : num (at (padded n zero_row s.rows) k) ≡ num (at s.rows i)). let u = rises s v k i h l in omega (arith, ap num (at-padded k))))
      (λ q. eq-eqb _ _ (ap num (at-padded i)))

-- the word of a record of sorted records is found by its transaction, item and kind
pub word_in_lem : (t i k : ℕ) {x : Rec} (xs : List Rec) → Sorted xs → x ∈ xs → is_rec t i k x ≡ true → word_in t i k xs ≡ x.word
unfolding word_in
word_in_lem t i k {x} (y ∷ ys) o m h = go (is_rec t i k y) refl m (λ n. word_in_lem t i k ys (and_right (all (λ z. ltb (key y) (key z)) ys) _ o) n h)
  where
    go : (b : Bool) → is_rec t i k y ≡ b → x ∈ (y ∷ ys) → (x ∈ ys → word_in t i k ys ≡ x.word) → ◌≡◌ {A = ℕ} (elim b [ true ↦ y.word | false ↦ word_in t i k ys ]) x.word
    go true e (mathlib.Core.List.Memᴰ.head q) r = ap (λ (z : Rec). z.word) (sym q)
    go true e (mathlib.Core.List.Memᴰ.tail n) r =
        let a = is-rec_out t i k y e in
        let b = is-rec_out t i k x h in
        absurd (omega (arith, ltb-true (key y) (key x) (all_out (λ z. ltb (key y) (key z)) n (and_left _ _ o)), a.0, a.1, a.2, b.0, b.1, b.2))
    go false e (mathlib.Core.List.Memᴰ.head q) r = absurd (false≢true (sym e ∙ ap (is_rec t i k) (sym q) ∙ h))
    go false e (mathlib.Core.List.Memᴰ.tail n) r = r n
word_in_lem t i k {x = x} [] o m h = elim m [ ]

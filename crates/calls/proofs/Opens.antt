-- An opening of lent tables: each of its outcomes. Assumes nothing.
use Prim.Native.Nat.{ℕ, ◌-◌, ◌≤◌}
use mathlib.Core.Bool.{Bool, ◌&&◌, and-eq-true_iff, false, true}
use mathlib.Core.List.{List, [], ◌∷◌, ◌++◌}
use mathlib.Core.Path.{◌∙◌, ◌≡◌, ap, refl, sym}
use native.Mathlib.Nat.{sub-zero}
use native.Mathlib.Omega.{arith}
use lib.ListN.{drop, length, length-drop, replicate, take}
use borrow.Author.Tests.{eqb-true, leb-true}
use Rattle.std.specs.Prelude.{Err, Ok}
use Rattle.terms.specs.Words.{Answer}
use Rattle.terms.specs.declared.Refusal.TheVariants.{BadOpening}
use Rattle.terms.specs.declared.Row.{Row}
use Rattle.rules.specs.Lists.{padded}
use Rattle.rules.specs.State.{opened}
use Rattle.rules.specs.Machine.{openable}
use Rattle.rules.specs.Raw.{Raw, raw_of, zero_row}
use Rattle.rules.specs.Public.{fitting, open_on}
use Rattle.lists.proofs.Pads.{padded-end}

-- the lengths of tables that fit
pub record Long (n m : ℕ) (w : Raw) : Type 0 where
  pub head : length w.head ≡ 3
  pub values : length w.values ≡ 256
  pub writers : length w.writers ≡ 256
  pub rows : length w.rows ≡ n
  pub recs : length w.recs ≡ m

pub long : (n m : ℕ) (w : Raw) → fitting n m w ≡ true → Long n m w
unfolding fitting
long n m w h =
    let v = simp and-eq-true_iff at h in
    record {
      head = eqb-true _ 3 v.0.0.0.0;
      values = eqb-true _ 256 v.0.0.0.1;
      writers = eqb-true _ 256 v.0.0.1;
      rows = eqb-true _ n v.0.1;
      recs = eqb-true _ m v.1;
    }

-- the count of an opening that is accepted
pub counted : (c : ℕ) (vs : List ℕ) → openable c vs ≡ true → (length vs ≡ c) × (length vs ≤ 256)
unfolding openable
counted c vs h =
    let v = simp and-eq-true_iff at h in
    let e = eqb-true (length vs) c v.1 in
    (e, omega (arith, e, leb-true c 256 v.0.1))

take_none : {A : Type 0} (l : List A) → take 0 l ≡ []
take_none [] = refl
take_none (x ∷ l) = refl

-- a table that is cleared from its start on
pub cleared : {A : Type 0} (z : A) (l : List A) → padded (length l) z (take 0 l) ≡ replicate (length l) z
cleared z l = (λ j. padded (length l) z (take_none l j)) ∙ ap (λ (k : ℕ). replicate k z) (sub-zero (length l))

module _ (n m c : ℕ) (vs : List ℕ) (w : Raw) where
  outcome : Bool → Bool → Answer × Raw
  outcome a b = elim (a && b) [ true ↦ (Ok 0, raw_of n m (opened vs)) | false ↦ (Err BadOpening, w) ]

  pub open_count : openable c vs ≡ false → open_on n m c vs w ≡ (Err BadOpening, w)
  unfolding open_on outcome
  open_count a = ap (λ (k : Bool). outcome k (fitting n m w)) a

  pub open_misfit : openable c vs ≡ true → fitting n m w ≡ false → open_on n m c vs w ≡ (Err BadOpening, w)
  unfolding open_on outcome
  open_misfit a b = λ j. outcome (a j) (b j)

  pub open_done : openable c vs ≡ true → fitting n m w ≡ true → open_on n m c vs w ≡ (
    Ok 0,
    record {
      head = c ∷ 1 ∷ 1 ∷ [];
      values = padded 256 0 vs;
      writers = padded 256 0 [];
      rows = replicate n zero_row;
      recs = padded m 0 [];
    },
  )
  unfolding open_on outcome raw_of opened
  open_done a b =
      let u = counted c vs a in
      (λ j. outcome (a j) (b j))
      ∙ (λ j. (
        Ok 0,
        record {
          head = u.0 j ∷ 1 ∷ 1 ∷ [];
          values = padded 256 0 vs;
          writers = padded-end 256 (length vs) 0 [] (omega (arith, u.1)) j;
          rows = replicate (sub-zero n j) zero_row;
          recs = padded m 0 [];
        },
      ))

  -- what the writing of each table makes
  pub open_made : openable c vs ≡ true → fitting n m w ≡ true → {v q x : List ℕ} {r : List Row}
      → v ≡ vs ++ replicate (length (drop (length vs) w.values)) 0 → q ≡ replicate (length w.writers) 0 → r ≡ replicate (length w.rows) zero_row → x ≡ replicate (length w.recs) 0
      → ◌≡◌ {A = Answer × Raw} (Ok 0, record { head = c ∷ 1 ∷ 1 ∷ []; values = v; writers = q; rows = r; recs = x }) (open_on n m c vs w)
  open_made a b ev eq er ex =
      let u = long n m w b in
      (λ j. (
        Ok 0,
        record {
          head = c ∷ 1 ∷ 1 ∷ [];
          values = (ev ∙ ap (λ (k : ℕ). vs ++ replicate k 0) (length-drop (length vs) w.values ∙ ap (λ (k : ℕ). k - length vs) u.values)) j;
          writers = (eq ∙ (λ i. replicate (u.writers i) 0) ∙ sym (ap (λ (k : ℕ). replicate k 0) (sub-zero 256))) j;
          rows = (er ∙ (λ i. replicate (u.rows i) zero_row)) j;
          recs = (ex ∙ (λ i. replicate (u.recs i) 0) ∙ sym (ap (λ (k : ℕ). replicate k 0) (sub-zero m))) j;
        },
      ))
      ∙ sym (open_done a b)

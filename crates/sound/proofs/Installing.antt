-- The index of the committed writers by item, filled record by record. Assumes nothing.
use Prim.Native.Nat.{ℕ, zero, suc, ◌+◌, ◌^◌, ◌<◌}
use native.Mathlib.Omega.{arith}
use native.Mathlib.Decide.{ℕ_discrete}
use mathlib.Core.Bool.{Bool, true, false, ◌&&◌, ◌||◌, or-false, false≢true}
use mathlib.Core.Logic.{◌⊎◌, inl, inr}
use mathlib.Core.Path.{◌≡◌, refl, sym, ap, ◌∙◌}
use mathlib.Core.List.{List}
use lib.Bits.{bit_or}
use lib.Dec.{eqb, ltb}
use lib.ListN.{length, get_or, set, replicate, length-replicate, length-set}
use lib.Seq.{get_or-set_same, get_or-set_other}
use borrow.Author.Tests.{eq-eqb, eqb-true, lt-ltb, ltb-true, ne_eqb}
use Rattle.terms.specs.declared.Row.{Row}
use Rattle.terms.specs.Words.{committed, is_write, item, num, txn}
use Rattle.rules.specs.Raw.{unpack}
use Rattle.laws.proofs.Lists.{and_both, and_left, and_right, both_ways, or_cases, or_left, or_right}
use Rattle.laws.proofs.Rows.{Ascend}
use Rattle.graph.specs.Sets.{member}
use Rattle.graph.proofs.Sets.{member_with, member-zero}
use Rattle.sound.specs.Items.{at, installs, is_install}
use Rattle.sound.proofs.Places.{row_one}

-- the record is of the row at i: it is installed by that row, or by none
module _ (rs : List Row) (asc : Ascend rs) (i p : ℕ) (l : i < length rs) (own : num (at rs i) ≡ txn (unpack p)) where
  installs-is : (e j : ℕ) → installs rs e j p ≡ (is_install p (at rs i) && (eqb (item (unpack p)) e && eqb i j))
  unfolding installs
  installs-is e j =
      both_ways _ _
      (λ t.
      let a = and_left (ltb j (length rs) && committed (at rs j)) _ t in
      let b = and_right (ltb j (length rs) && committed (at rs j)) _ t in
      let c = and_right (eqb (num (at rs j)) (txn (unpack p))) _ b in
      let same : i ≡ j = row_one rs asc i j l (ltb-true j (length rs) (and_left (ltb j (length rs)) (committed (at rs j)) a))
      (own ∙ sym (eqb-true (num (at rs j)) (txn (unpack p)) (and_left (eqb (num (at rs j)) (txn (unpack p))) (eqb (item (unpack p)) e && is_write (unpack p)) b))) in
      and_both _ _ (and_both _ _ (and_right (eqb (item (unpack p)) e) _ c) (ap (λ (k : ℕ). committed (at rs k)) same ∙ and_right (ltb j (length rs)) _ a))
      (and_both _ _ (and_left (eqb (item (unpack p)) e) (is_write (unpack p)) c) (eq-eqb i j same)))
      (λ t.
      let a = and_left (is_install p (at rs i)) _ t in
      let b = and_right (is_install p (at rs i)) _ t in
      let same : i ≡ j = eqb-true i j (and_right (eqb (item (unpack p)) e) _ b) in
      and_both _ _ (and_both _ _ (lt-ltb j (length rs) (omega arith)) (ap (λ (k : ℕ). committed (at rs k)) (sym same) ∙ and_right (is_write (unpack p)) _ a))
      (and_both _ _ (eq-eqb _ _ (ap (λ (k : ℕ). num (at rs k)) (sym same) ∙ own)) (and_both _ _ (and_left (eqb (item (unpack p)) e) _ b) (and_left (is_write (unpack p)) (committed (at rs i)) a))))

-- the first k records are in the index, and nothing else
pub record Met (rs : List Row) (ps tab : List ℕ) (k : ℕ) : Type 0 where
  pub len : length tab ≡ 256
  pub into : (t e j : ℕ) → t < k → e < 256 → installs rs e j (get_or ps t 0) ≡ true → member (get_or tab e 0) j ≡ true
  pub from : (e j : ℕ) → e < 256 → member (get_or tab e 0) j ≡ true → (t : ℕ) × (t < k) × (installs rs e j (get_or ps t 0) ≡ true)

get_or_zeros : (n e : ℕ) → ◌≡◌ {A = ℕ} (get_or {A = ℕ} (replicate n 0) e 0) 0
get_or_zeros zero e = refl
get_or_zeros (suc n) zero = refl
get_or_zeros (suc n) (suc e) = get_or_zeros n e

pub met_start : (rs : List Row) (ps tab : List ℕ) → tab ≡ replicate 256 0 → Met rs ps tab 0
met_start rs ps tab z =
    record {
      len = ap length z ∙ length-replicate {A = ℕ} 256 0;
      into = λ t e j l. absurd (omega arith);
      from = λ e j l h. absurd (false≢true (sym (ap (λ (t : List ℕ). member (get_or t e 0) j) z ∙ ap (λ (k : ℕ). member k j) (get_or_zeros 256 e) ∙ member-zero j) ∙ h));
    }

module _ (rs : List Row) (ps : List ℕ) (asc : Ascend rs) (tab : List ℕ) (k i : ℕ)
    (s : Met rs ps tab k) (l : i < length rs) (own : num (at rs i) ≡ txn (unpack (get_or ps k 0))) where
  here : (e j : ℕ) → installs rs e j (get_or ps k 0) ≡ (is_install (get_or ps k 0) (at rs i) && (eqb (item (unpack (get_or ps k 0))) e && eqb i j))
  here e j = installs-is rs asc i (get_or ps k 0) l own e j

  pub met_skip : is_install (get_or ps k 0) (at rs i) ≡ false → Met rs ps tab (k + 1)
  met_skip f =
      record {
        len = s.len;
        into = λ t e j b q g. old t e j q g b (ℕ_discrete t k);
        from = λ e j q g. let u = s.from e j q g in (u.0, omega (arith, u.1), u.2);
      }
    where
      old : (t e j : ℕ) → e < 256 → installs rs e j (get_or ps t 0) ≡ true → t < k + 1 → Dec (t ≡ k) → member (get_or tab e 0) j ≡ true
      old t e j q g b (yes z) = absurd (false≢true (sym f ∙ and_left _ _ (sym (here e j) ∙ ap (λ (y : ℕ). installs rs e j (get_or ps y 0)) (sym z) ∙ g)))
      old t e j q g b (no z) = s.into t e j (omega arith) q g

  pub met_put : is_install (get_or ps k 0) (at rs i) ≡ true → (x : ℕ) → x ≡ item (unpack (get_or ps k 0)) → x < 256
      → Met rs ps (set tab x (bit_or (get_or tab x 0) (2 ^ i))) (k + 1)
  met_put f x ex lx =
      record {
        len = length-set tab x (bit_or (get_or tab x 0) (2 ^ i)) ∙ s.len;
        into = λ t e j b q g. put e j (ℕ_discrete e x) ∙ new t e j q g b (ℕ_discrete t k);
        from = λ e j q g. old e j q (or_cases (member (get_or tab e 0) j) _ (sym (put e j (ℕ_discrete e x)) ∙ g));
      }
    where
      put : (e j : ℕ) → Dec (e ≡ x) → member (get_or (set tab x (bit_or (get_or tab x 0) (2 ^ i))) e 0) j ≡ (member (get_or tab e 0) j || (eqb (item (unpack (get_or ps k 0))) e && eqb i j))
      put e j (yes z) =
          ap (λ (y : ℕ). member (get_or (set tab x (bit_or (get_or tab x 0) (2 ^ i))) y 0) j) z
          ∙ ap (λ (y : ℕ). member y j) (get_or-set_same tab x (bit_or (get_or tab x 0) (2 ^ i)) 0 (omega (arith, s.len)))
          ∙ member_with (get_or tab x 0) i j
          ∙ (λ t. member (get_or tab (sym z t) 0) j || (sym (eq-eqb (item (unpack (get_or ps k 0))) e (sym ex ∙ sym z)) t && eqb i j))
      put e j (no z) =
          ap (λ (y : ℕ). member y j) (get_or-set_other tab x e (bit_or (get_or tab x 0) (2 ^ i)) 0 z)
          ∙ sym (ap (λ (b : Bool). member (get_or tab e 0) j || (b && eqb i j)) (ne_eqb (item (unpack (get_or ps k 0))) e (λ q. z (sym q ∙ sym ex))) ∙ or-false (member (get_or tab e 0) j))

      new : (t e j : ℕ) → e < 256 → installs rs e j (get_or ps t 0) ≡ true → t < k + 1 → Dec (t ≡ k) → (member (get_or tab e 0) j || (eqb (item (unpack (get_or ps k 0))) e && eqb i j)) ≡ true
      new t e j q g b (yes z) = or_right (member (get_or tab e 0) j) _ (and_right (is_install (get_or ps k 0) (at rs i)) _ (sym (here e j) ∙ ap (λ (y : ℕ). installs rs e j (get_or ps y 0)) (sym z) ∙ g))
      new t e j q g b (no z) = or_left _ _ (s.into t e j (omega arith) q g)

      old : (e j : ℕ) → e < 256 → (member (get_or tab e 0) j ≡ true) ⊎ ((eqb (item (unpack (get_or ps k 0))) e && eqb i j) ≡ true) → (t : ℕ) × (t < k + 1) × (installs rs e j (get_or ps t 0) ≡ true)
      old e j q (inl g) = let u = s.from e j q g in (u.0, omega (arith, u.1), u.2)
      old e j q (inr g) = (k, omega arith, here e j ∙ and_both _ _ f g)

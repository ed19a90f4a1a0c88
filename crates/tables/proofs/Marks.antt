-- The marks of the items that a transaction wrote, record after record. Assumes nothing.
use Prim.Native.Nat.{ℕ, ◌+◌, ◌<◌, ◌≤◌}
use native.Mathlib.Omega.{arith}
use mathlib.Core.Bool.{Bool, true, false, ◌&&◌, ◌||◌, or-false}
use mathlib.Core.List.{List, [], ◌∷◌}
use mathlib.Core.Logic.{◌⊎◌, inl, inr}
use mathlib.Core.Path.{◌∙◌, ◌≡◌, ap, refl, sym}
use lib.Dec.{eqb}
use lib.ListN.{get_or, get_or-replicate, length, length-replicate, length-set, replicate, set}
use lib.Seq.{get_or-set_other, get_or-set_same}
use borrow.Author.Tests.{eq-eqb, eqb-false, eqb-true, ne_eqb}
use Rattle.terms.specs.Words.{is_write, item, txn}
use Rattle.rules.specs.State.{is_rec, recorded}
use Rattle.rules.specs.Raw.{unpack}
use Rattle.laws.proofs.Lists.{and_both, and_left, and_right, or_right, passed}
use Rattle.bridge.specs.Whole.{used_of, whole_of}
use Rattle.tables.specs.Marks.{Marked}
use Rattle.tables.proofs.Scanning.{Scanning, scan_done, scan_next, scan_stop}
use Rattle.tables.proofs.Steps.{recorded_hit, recorded_skip}

-- the mark of item i, or what the records that are left say of it
abbrev marks : List Bool → ℕ → ℕ → List ℕ → Bool
marks m t i ps = get_or m i false || recorded (whole_of [] ps [] []) t i 2

-- the scan has come to index j, and the marks are m
pub record Marking (recs : List ℕ) (t : ℕ) (m : List Bool) (j : ℕ) : Type 0 where
  pub long : length m ≡ 256
  pub mark : (i : ℕ) → i < 256 → Scanning (λ p. eqb p 0) recs (marks m t i) (recorded (used_of [] recs [] []) t i 2) j

pub mark-start : {recs : List ℕ} {t : ℕ} → Marking recs t (replicate 256 false) 0
mark-start {recs} {t} = record {
  long = length-replicate {A = Bool} 256 false;
  mark = λ i l. record {
    going = record { at_most = omega arith; same = ap (λ (b : Bool). b || recorded (used_of [] recs [] []) t i 2) (get_or-replicate 256 i false false l) };
  };
}

not-rec : (t i p : ℕ) → (eqb (txn (unpack p)) t && is_write (unpack p)) ≡ false → is_rec t i 2 (unpack p) ≡ false
not-rec t i p e = go (eqb (txn (unpack p)) t) (eqb (item (unpack p)) i) (is_write (unpack p)) e
  where
    go : (a b c : Bool) → (a && c) ≡ false → (a && b && c) ≡ false
    go true true c e = e
    go true false c e = refl
    go false b c e = refl

is_its : (t i p : ℕ) → (eqb (txn (unpack p)) t && is_write (unpack p)) ≡ true → item (unpack p) ≡ i → is_rec t i 2 (unpack p) ≡ true
is_its t i p e q =
    and_both _ _ (and_both _ _ (and_left (eqb (txn (unpack p)) t) (is_write (unpack p)) e) (eq-eqb (item (unpack p)) i q)) (and_right (eqb (txn (unpack p)) t) (is_write (unpack p)) e)

module _ {recs : List ℕ} {t : ℕ} {m : List Bool} {j : ℕ} (s : Marking recs t m j) (l : j < length recs) (u : eqb (get_or recs j 0) 0 ≡ false) where
  pub mark_skip : (eqb (txn (unpack (get_or recs j 0))) t && is_write (unpack (get_or recs j 0))) ≡ false → Marking recs t m (j + 1)
  mark_skip e = record {
    long = s.long;
    mark = λ i h. scan_next (s.mark i h) 0 (marks m t i) l u (λ ps. ap {B = Bool} (λ b. get_or m i false || b) (recorded_skip t i 2 (get_or recs j 0) (not-rec t i (get_or recs j 0) e) ps));
  }

  pub mark_hit : (eqb (txn (unpack (get_or recs j 0))) t && is_write (unpack (get_or recs j 0))) ≡ true → (a : ℕ) → a ≡ item (unpack (get_or recs j 0)) → Marking recs t (set m a true) (j + 1)
  mark_hit e a q = record {
    long = length-set m a true ∙ s.long;
    mark = λ i h. scan_next (s.mark i h) 0 (marks (set m a true) t i) l u (λ ps. turn i h ps (passed (eqb a i)));
  }
    where
      p : ℕ
      p = get_or recs j 0

      turn : (i : ℕ) → i < 256 → (ps : List ℕ) → (eqb a i ≡ true) ⊎ (eqb a i ≡ false) → marks m t i (p ∷ ps) ≡ marks (set m a true) t i ps
      turn i h ps (inl k) =
          let z : a ≡ i = eqb-true a i k in
          or_right (get_or m i false) (recorded (whole_of [] (p ∷ ps) [] []) t i 2) (recorded_hit t i 2 p (is_its t i p e (sym q ∙ z)) ps)
          ∙ ap {B = Bool} (λ k. k || recorded (whole_of [] ps [] []) t i 2) (sym (ap (λ (n : ℕ). get_or (set m n true) i false) z ∙ get_or-set_same m i true false (omega (arith, s.long))))
      turn i h ps (inr k) =
          ap {B = Bool} (λ b. get_or m i false || b)
          (recorded_skip t i 2 p (other (eqb (txn (unpack p)) t) (is_write (unpack p)) (ne_eqb (item (unpack p)) i (λ z. eqb-false a i k (q ∙ z)))) ps)
          ∙ ap {B = Bool} (λ k. k || recorded (whole_of [] ps [] []) t i 2) (sym (get_or-set_other m a i true false (λ z. eqb-false a i k (sym z))))
        where
          other : (b c : Bool) {d : Bool} → d ≡ false → (b && d && c) ≡ false
          other true c f = rw f refl
          other false c f = refl

module _ {recs : List ℕ} {t : ℕ} {m : List Bool} {j : ℕ} (s : Marking recs t m j) where
  -- where no used record is left, the marks are right
  pub mark-done : length recs ≤ j → Marked m recs t
  unfolding recorded
  mark-done l = record { mark = λ i h. sym (or-false (get_or m i false)) ∙ scan_done (s.mark i h) l }

  pub mark_stop : j < length recs → eqb (get_or recs j 0) 0 ≡ true → Marked m recs t
  unfolding recorded
  mark_stop l u = record { mark = λ i h. sym (or-false (get_or m i false)) ∙ scan_stop (s.mark i h) 0 l u }

-- The sentence on concurrent writers, of two rows and one record. Assumes nothing.
use Prim.Native.Nat.{◌<◌}
use mathlib.Core.Bool.{Bool, true, false, not, ◌&&◌, false≢true}
use mathlib.Core.Logic.{◌⊎◌, inl, inr}
use mathlib.Core.Path.{◌≡◌, sym, ap, ◌∙◌}
use lib.Dec.{eqb, ltb}
use borrow.Author.Tests.{eq-eqb, eqb-true, lt-ltb, ltb-true, not-true}
use Rattle.terms.specs.declared.Row.{Row}
use Rattle.terms.specs.declared.Rec.{Rec}
use Rattle.terms.specs.Words.{committed, concurrent, done, is_write, item, num, start, txn}
use Rattle.rules.specs.Lists.{keep}
use Rattle.rules.specs.State.{State, wrote}
use Rattle.rules.specs.Deps.{both_wrote}
use Rattle.rules.specs.Sound.{unmixed}
use Rattle.laws.proofs.Lists.{◌∈◌, and_both, and_left, and_right, any_in, any_out, keep_in, keep_out, pairs-keep, passed}
use Rattle.laws.proofs.Keeping.{pairs_weaken}
use Rattle.laws.proofs.Rows.{Ascend, concurrent-committed, pairs_out}
use Rattle.sound.proofs.Standing.{Ranked}

-- two rows that wrote one item are not concurrent, where the sentence holds
module _ (s : State) (k : Ranked s) where
  ascends : Ascend (keep committed s.rows)
  ascends = pairs-keep (λ a b. ltb (num a) (num b)) committed s.rows k.ascend

  abbrev apart_by : Row → Row → Bool
  apart_by a b = not (concurrent a b && both_wrote s (num a) (num b))

  pub clashless : unmixed s ≡ true → {a b : Row} → a ∈ s.rows → committed a ≡ true → b ∈ s.rows → committed b ≡ true → num a < num b
      → (x : Rec) → x ∈ s.recs → txn x ≡ num a → is_write x ≡ true → wrote s (num b) (item x) ≡ true → start a < done b → start b < done a → ⊥
  unfolding unmixed both_wrote
  clashless h {a} {b} ma ca mb cb l x mx tx wx wb p q =
      false≢true (sym (not-true _ (pairs_out apart_by (keep committed s.rows) ascends h (keep_in committed ma ca) (keep_in committed mb cb) l))
      ∙ and_both _ _ (concurrent-committed a b ca cb ∙ and_both _ _ (lt-ltb _ _ p) (lt-ltb _ _ q))
      (any_in (λ x. eqb (txn x) (num a) && is_write x && wrote s (num b) (item x)) mx (and_both _ _ (and_both _ _ (eq-eqb _ _ tx) wx) wb)))

  pub unmixed_from : ((a b : Row) → a ∈ s.rows → committed a ≡ true → b ∈ s.rows → committed b ≡ true → num a < num b
      → (x : Rec) → x ∈ s.recs → txn x ≡ num a → is_write x ≡ true → wrote s (num b) (item x) ≡ true → start b < done a → ⊥) → unmixed s ≡ true
  unfolding unmixed both_wrote
  unmixed_from h =
      pairs_weaken (λ a b. ltb (num a) (num b)) apart_by (keep committed s.rows)
      (λ a b ma mb l. ap not (go a b (keep_out committed s.rows ma) (keep_out committed s.rows mb) (ltb-true _ _ l) (passed (concurrent a b && both_wrote s (num a) (num b))))) ascends
    where
      go : (a b : Row) → (a ∈ s.rows) × (committed a ≡ true) → (b ∈ s.rows) × (committed b ≡ true) → num a < num b
          → ((concurrent a b && both_wrote s (num a) (num b)) ≡ true) ⊎ ((concurrent a b && both_wrote s (num a) (num b)) ≡ false) → (concurrent a b && both_wrote s (num a) (num b)) ≡ false
      go a b u v l (inr f) = f
      go a b u v l (inl t) =
          let c = sym (concurrent-committed a b u.1 v.1) ∙ and_left (concurrent a b) _ t in
          let y = any_out (λ x. eqb (txn x) (num a) && is_write x && wrote s (num b) (item x)) s.recs (and_right (concurrent a b) _ t) in
          let z = and_left (eqb (txn y.0) (num a) && is_write y.0) _ y.2 in
          absurd (h a b u.0 u.1 v.0 v.1 l y.0 y.1 (eqb-true _ _ (and_left (eqb (txn y.0) (num a)) _ z)) (and_right (eqb (txn y.0) (num a)) _ z)
          (and_right (eqb (txn y.0) (num a) && is_write y.0) _ y.2) (ltb-true (start b) (done a) (and_right (ltb (start a) (done b)) _ c)))

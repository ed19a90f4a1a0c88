-- Who is beaten, and who wrote an item that another wrote: the tests mean what the words say. Assumes nothing.
use Prim.Native.Nat.{ℕ}
use mathlib.Core.Bool.{◌&&◌, and-eq-true_iff, true}
use mathlib.Core.Logic.{◌↔◌}
use mathlib.Core.Path.{◌∙◌, ◌≡◌, ap, refl}
use lib.Dec.{eqb, ltb}
use borrow.Author.Tests.{eq-eqb, eqb-true, lt-ltb, ltb-true}
use Rattle.laws.proofs.Lists.{and_both, and_left, and_right, any_in, any_out}
use Rattle.laws.proofs.Versions.{recorded_in, recorded_out}
use Rattle.rules.specs.Deps.{Beaten, beaten, both_wrote}
use Rattle.rules.specs.State.{State, commit_of, commits, start_of, wrote}
use Rattle.terms.specs.Words.{is_write, item, txn}

module _ (s : State) where
  -- a and b wrote one item
  pub both_in : (a b i : ℕ) → wrote s a i ≡ true → wrote s b i ≡ true → both_wrote s a b ≡ true
  unfolding both_wrote
  both_in a b i p q =
      let u = recorded_out s a i 2 p in
      any_in (λ x. eqb (txn x) a && is_write x && wrote s b (item x)) u.1
      (and_both _ _ (and_both _ _ (eq-eqb _ _ u.2) (eq-eqb _ _ u.4)) (ap (λ (j : ℕ). wrote s b j) u.3 ∙ q))

  pub both_out : (a b : ℕ) → both_wrote s a b ≡ true → (i : ℕ) × (wrote s a i ≡ true) × (wrote s b i ≡ true)
  unfolding both_wrote
  both_out a b h =
      let u = any_out (λ x. eqb (txn x) a && is_write x && wrote s b (item x)) s.recs h in
      let v = simp and-eq-true_iff at u.2 in
      (item u.0, recorded_in s a (item u.0) 2 u.1 (eqb-true _ _ v.0.0) refl (eqb-true _ _ v.0.1), v.1)

  pub both_turned : (a b : ℕ) → both_wrote s a b ≡ true → both_wrote s b a ≡ true
  both_turned a b h = let u = both_out a b h in both_in b a u.0 u.2 u.1

  -- the test for beaten ones
  pub beaten_decides : (t : ℕ) → (beaten s t ≡ true) ↔ Beaten s t
  unfolding beaten
  beaten_decides t = (
    λ h.
        let u = any_out (λ c. ltb (start_of s t) (commit_of s c) && both_wrote s t c) (commits s) h in
        let v = both_out t u.0 (and_right (ltb (start_of s t) (commit_of s u.0)) _ u.2) in
        record { winner = u.0; here = u.1; after = ltb-true _ _ (and_left _ _ u.2); item = v.0; mine = v.1; theirs = v.2 },
    λ b. any_in _ b.here (and_both _ _ (lt-ltb _ _ b.after) (both_in t b.winner b.item b.mine b.theirs)),
  )

-- A step as a call. One that opens has as many zeros as starting values, and more than 256 are refused. Assumes nothing.
use Prim.Native.Nat.{ℕ, zero, suc, ◌<◌, ◌≤◌}
use mathlib.Core.Bool.{false, true}
use mathlib.Core.List.{List, ◌∷◌}
use mathlib.Core.Logic.{◌⊎◌, inl, inr}
use mathlib.Core.Path.{◌≡◌, ◌∙◌, ap, refl, sym}
use native.Mathlib.Omega.{arith}
use lib.ListN.{length, length-replicate, replicate, take}
use Rattle.std.specs.Prelude.{Err}
use Rattle.terms.specs.Words.{Answer}
use Rattle.terms.specs.declared.Refusal.TheVariants.{BadOpening}
use Rattle.terms.specs.declared.Step.{Step}
use Rattle.terms.specs.declared.Step.TheVariants.{Abort, Begin, Commit, Latest, Open, Read, Write}
use Rattle.rules.specs.Machine.{call_of, openable}
use Rattle.rules.specs.Public.{call_on, open_on}
use Rattle.rules.specs.Raw.{Raw}
use Rattle.rules.specs.Serial.{opens}
use Rattle.laws.proofs.Lists.{passed}
use Rattle.calls.proofs.Opens.{counted, open_count}

take_zeros : (k n : ℕ) → k ≤ n → take {A = ℕ} k (replicate n 0) ≡ replicate k 0
take_zeros zero zero l = refl
take_zeros zero (suc n) l = refl
take_zeros (suc k) zero l = absurd (omega arith)
take_zeros (suc k) (suc n) l = ap (λ (xs : List ℕ). 0 ∷ xs) (take_zeros k n (omega arith))

pub zeros_long : (c : ℕ) → c ≤ 256 → c ≡ length (take {A = ℕ} c (replicate 256 0))
zeros_long c l = sym (ap length (take_zeros c 256 l) ∙ length-replicate c 0)

module _ (n m c : ℕ) (w : Raw) where
  -- "count outside 1 to 256"
  pub open_many : 256 < c → call_on n m (call_of (Open c)) w ≡ (Err BadOpening, w)
  unfolding call_on call_of
  open_many l = go (passed (openable c (replicate c 0)))
    where
      go : (openable c (replicate c 0) ≡ true) ⊎ (openable c (replicate c 0) ≡ false) → open_on n m c (replicate c 0) w ≡ (Err BadOpening, w)
      go (inl t) = let v = counted c (replicate c 0) t in absurd (omega (arith, v.0, v.1))
      go (inr f) = open_count n m c (replicate c 0) w f

  pub open_few : c ≤ 256 → open_on n m c (take c (replicate 256 0)) w ≡ call_on n m (call_of (Open c)) w
  unfolding call_on call_of
  open_few l = ap (λ (vs : List ℕ). open_on n m c vs w) (take_zeros c 256 l)

-- a call that is told of a step by another name
pub of_step : {s u : Step} (w : Raw) {r : Answer × Raw} → s ≡ u → r ≡ call_on 32 256 (call_of u) w → r ≡ call_on 32 256 (call_of s) w
of_step w e p = p ∙ ap (λ (x : Step). call_on 32 256 (call_of x) w) (sym e)

-- a step of any other kind than the first does not open
pub other_step : (s : Step) → ((c : ℕ) → ¬ (s ≡ Open c)) → opens (call_of s) ≡ false
unfolding opens call_of
other_step (Open c) k = absurd (k c refl)
other_step Begin k = refl
other_step (Read t i) k = refl
other_step (Write t i v) k = refl
other_step (Commit t) k = refl
other_step (Abort t) k = refl
other_step (Latest i) k = refl

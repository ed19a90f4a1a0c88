-- What stands at the front of a part: the kinds and their lengths, and when a part is bad. Assumes nothing.
use Prim.Native.Nat.{ℕ, zero, suc, ◌<◌, ◌≤◌}
use native.Mathlib.Omega.{arith}
use mathlib.Core.Bool.{Bool, cond, false, true}
use mathlib.Core.List.{List, [], ◌∷◌}
use mathlib.Core.Logic.{◌⊎◌, inl, inr}
use mathlib.Core.Path.{◌≡◌, ◌∙◌, ap, refl, sym}
use lib.Dec.{eqb, leb}
use lib.ListN.{get_or-eq_default, length}
use borrow.Author.Tests.{eq-eqb, eqb-false, eqb-true, le-leb, leb-false, leb-true, lt-leb, ne_eqb}
use Rattle.terms.specs.declared.Step.{Step}
use Rattle.std.specs.Prelude.{Option, None, Some}
use Rattle.steps.specs.Decoding.{decoded, kind_of, length_of, step_of, whole}
use Rattle.steps.specs.Spelling.{BadRest}

-- what holds of each kind, holds of all from 0 to 6
pub by_kind : (P : ℕ → Type 0) → P 0 → P 1 → P 2 → P 3 → P 4 → P 5 → P 6 → (k : ℕ) → k ≤ 6 → P k
by_kind P a b c d e f g zero l = a
by_kind P a b c d e f g (suc zero) l = b
by_kind P a b c d e f g (suc (suc zero)) l = c
by_kind P a b c d e f g (suc (suc (suc zero))) l = d
by_kind P a b c d e f g (suc (suc (suc (suc zero)))) l = e
by_kind P a b c d e f g (suc (suc (suc (suc (suc zero))))) l = f
by_kind P a b c d e f g (suc (suc (suc (suc (suc (suc zero)))))) l = g
by_kind P a b c d e f g (suc (suc (suc (suc (suc (suc (suc k))))))) l = absurd (omega arith)

known_length : (k : ℕ) → k ≤ 6 → 0 < length_of k
unfolding length_of
known_length = by_kind (λ k. 0 < length_of k) (omega arith) (omega arith) (omega arith) (omega arith) (omega arith) (omega arith) (omega arith)

pub unknown_length : (k : ℕ) → 6 < k → length_of k ≡ 0
unfolding length_of
unknown_length k l = get_or-eq_default (3 ∷ 1 ∷ 5 ∷ 9 ∷ 3 ∷ 3 ∷ 3 ∷ []) 0 {n = k} (omega arith)

-- a kind is known and has a length, or is above 6 and has none
pub kind_cases : (k : ℕ) → ((k ≤ 6) × (0 < length_of k)) ⊎ ((6 < k) × (length_of k ≡ 0))
kind_cases k = go (leb k 6) refl
  where
    go : (b : Bool) → leb k 6 ≡ b → ((k ≤ 6) × (0 < length_of k)) ⊎ ((6 < k) × (length_of k ≡ 0))
    go true e = let l = leb-true k 6 e in inl (l, known_length k l)
    go false e = let l = leb-false k 6 e in inr (l, unknown_length k l)

-- the kinds but 0 to 3 are three bytes long
pub three : (k : ℕ) → 3 < k → k ≤ 6 → 3 ≡ length_of k
unfolding length_of
three k m l =
    by_kind (λ k. 3 < k → 3 ≡ length_of k) (λ m. absurd (omega arith)) (λ m. absurd (omega arith)) (λ m. absurd (omega arith)) (λ m. absurd (omega arith)) (λ m. refl) (λ m. refl) (λ m. refl) k l m

module _ (p : List ℕ) where
  -- ---- the length of the step at the front

  pub whole-fits : length_of (kind_of p) ≤ length p → whole p ≡ length_of (kind_of p)
  unfolding whole
  whole-fits l = rw (le-leb (length_of (kind_of p)) (length p) l)

  pub whole_cut : length p < length_of (kind_of p) → whole p ≡ 0
  unfolding whole
  whole_cut l = rw (lt-leb (length_of (kind_of p)) (length p) l)

  -- the step is there with all its bytes, or there is none
  pub whole-cases : ((whole p ≡ length_of (kind_of p)) × (length_of (kind_of p) ≤ length p)) ⊎ ((whole p ≡ 0) × (length p < length_of (kind_of p)))
  whole-cases = go (leb (length_of (kind_of p)) (length p)) refl
    where
      go : (b : Bool) → leb (length_of (kind_of p)) (length p) ≡ b
          → ((whole p ≡ length_of (kind_of p)) × (length_of (kind_of p) ≤ length p)) ⊎ ((whole p ≡ 0) × (length p < length_of (kind_of p)))
      go true e = let l = leb-true _ _ e in inl (whole-fits l, l)
      go false e = let l = leb-false _ _ e in inr (whole_cut l, l)

  pub whole_most : whole p ≤ length p
  whole_most = elim whole-cases [ inl (e, l) ↦ omega (arith, e, l) | inr (e, l) ↦ omega (arith, e) ]

  pub whole_is : 0 < whole p → (whole p ≡ length_of (kind_of p)) × (length_of (kind_of p) ≤ length p)
  whole_is h = elim whole-cases [ inl v ↦ v | inr (e, l) ↦ absurd (omega (arith, e, h)) ]

  -- a step of a kind that is there has room
  pub room : {k : ℕ} → 0 < whole p → kind_of p ≡ k → length_of k ≤ length p
  room h e = rw (sym e) (whole_is h).1

  -- above 5 there is one kind
  pub last_kind : 0 < whole p → 5 < kind_of p → kind_of p ≡ 6
  last_kind h l = elim (kind_cases (kind_of p)) [ inl (k, n) ↦ omega (arith, k, l) | inr (k, n) ↦ absurd (omega (arith, n, (whole_is h).0, h)) ]

  -- ---- decoding

  outcome : Bool → Option (Step × ℕ)
  outcome b = cond b None (Some (step_of (kind_of p) p, whole p))

  pub decoded_bad : whole p ≡ 0 → decoded p ≡ None
  unfolding decoded outcome
  decoded_bad e = ap outcome (eq-eqb (whole p) 0 e)

  pub decoded_good : 0 < whole p → decoded p ≡ Some (step_of (kind_of p) p, whole p)
  unfolding decoded outcome
  decoded_good l = ap outcome (ne_eqb (whole p) 0 (λ e. omega (arith, e, l)))

  pub bad-is : decoded p ≡ None → whole p ≡ 0
  unfolding decoded outcome
  bad-is e = go (eqb (whole p) 0) refl e
    where
      go : (b : Bool) → eqb (whole p) 0 ≡ b → outcome b ≡ None → whole p ≡ 0
      go true q e = eqb-true (whole p) 0 q
      go false q e = let z : ◌≡◌ {A = ℕ} 0 1 = cc in omega arith

  pub good_is : {s : Step} {n : ℕ} → decoded p ≡ Some (s, n) → (s ≡ step_of (kind_of p) p) × (n ≡ whole p) × (0 < whole p)
  unfolding decoded outcome
  good_is {s} {n} e = go (eqb (whole p) 0) refl e
    where
      go : (b : Bool) → eqb (whole p) 0 ≡ b → outcome b ≡ Some (s, n) → (s ≡ step_of (kind_of p) p) × (n ≡ whole p) × (0 < whole p)
      go true q e = absurd (let z : ◌≡◌ {A = ℕ} 0 1 = cc in omega arith)
      go false q e =
          let both : ◌≡◌ {A = Step × ℕ} (s, n) (step_of (kind_of p) p, whole p) = cc in
          (ap (λ (v : Step × ℕ). v.0) both, ap (λ (v : Step × ℕ). v.1) both, omega (arith, eqb-false (whole p) 0 q))

  -- a step has a byte at least, and lies inside the part
  pub good_length : {s : Step} {n : ℕ} → decoded p ≡ Some (s, n) → (0 < n) × (n ≤ length p)
  good_length e = let v = good_is e in (omega (arith, v.1, v.2), omega (arith, v.1, whole_most))

-- ---- bad parts are those whose kind is unknown or whose body is cut

pub bad-rest : (p : List ℕ) → 0 < length p → decoded p ≡ None → BadRest p
bad-rest [] l e = absurd (omega arith)
bad-rest (k ∷ q) l e =
    let w = bad-is (k ∷ q) e in
    (l, elim (whole-cases (k ∷ q)) [ inr (u, c) ↦ inr c | inl (u, c) ↦ elim (kind_cases k) [ inr (a, n) ↦ inl a | inl (a, n) ↦ absurd (omega (arith, n, u, w)) ] ])

pub rest-bad : (p : List ℕ) → BadRest p → decoded p ≡ None
rest-bad [] (l, c) = absurd (omega arith)
rest-bad (k ∷ q) (l, inl u) = decoded_bad (k ∷ q) (whole-fits (k ∷ q) (omega (arith, unknown_length k u)) ∙ unknown_length k u)
rest-bad (k ∷ q) (l, inr c) = decoded_bad (k ∷ q) (whole_cut (k ∷ q) c)

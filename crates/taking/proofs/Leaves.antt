-- What is left when the elements at some places go: by a test of the elements, and of a padded list. Assumes nothing.
use Prim.Native.Nat.{ℕ, zero, suc, ◌+◌, ◌-◌, ◌≤◌, ◌<◌}
use native.Mathlib.Nat.{add-zero}
use native.Mathlib.Omega.{arith}
use mathlib.Core.Bool.{Bool, true, false, not}
use mathlib.Core.List.{List, [], ◌∷◌, ◌++◌}
use mathlib.Core.Path.{◌≡◌, refl, sym, ap, ◌∙◌}
use lib.ListN.{length, get_or, replicate}
use Rattle.rules.specs.Lists.{keep, padded}
use Rattle.lists.proofs.Keeps.{put}
use Rattle.lists.proofs.Pads.{padded-end}
use Rattle.taking.specs.Leaving.{leaving}

module _ {A : Type 0} where
  -- what a place does to the rest
  abbrev off : Bool → A → List A → List A
  off b x l = elim b [ true ↦ l | false ↦ x ∷ l ]

  -- ---- the places that pass are those of the elements that a test does not keep
  pub leaving-keep : (g : ℕ → Bool) (p : A → Bool) (d : A) (k : ℕ) (xs : List A) → ((i : ℕ) → i < length xs → g (k + i) ≡ not (p (get_or xs i d))) → leaving g k xs ≡ keep p xs
  leaving-keep g p d k [] h = refl
  leaving-keep g p d k (x ∷ xs) h =
      ap (λ (b : Bool). off b x (leaving g (k + 1) xs)) (ap g (sym (add-zero k)) ∙ h 0 (omega arith))
      ∙ go (p x) (leaving-keep g p d (k + 1) xs (λ i l. ap g {x = k + 1 + i} {y = k + suc i} (omega arith) ∙ h (suc i) (omega arith)))
    where
      go : (b : Bool) → leaving g (k + 1) xs ≡ keep p xs → off (not b) x (leaving g (k + 1) xs) ≡ put b x (keep p xs)
      go true e = ap (λ (l : List A). x ∷ l) e
      go false e = e

  leaving-append : (g : ℕ → Bool) (k : ℕ) (xs ys : List A) → leaving g k (xs ++ ys) ≡ leaving g k xs ++ leaving g (k + length xs) ys
  leaving-append g k [] ys = ap (λ (n : ℕ). leaving g n ys) (sym (add-zero k))
  leaving-append g k (x ∷ xs) ys = go (g k) (leaving-append g (k + 1) xs ys ∙ ap (λ (n : ℕ). leaving g (k + 1) xs ++ leaving g n ys) {x = k + 1 + length xs} {y = k + suc (length xs)} (omega arith))
    where
      go : (b : Bool) → leaving g (k + 1) (xs ++ ys) ≡ leaving g (k + 1) xs ++ leaving g (k + suc (length xs)) ys
          → off b x (leaving g (k + 1) (xs ++ ys)) ≡ off b x (leaving g (k + 1) xs) ++ leaving g (k + suc (length xs)) ys
      go true e = e
      go false e = ap (λ (l : List A). x ∷ l) e

  leaving-length : (g : ℕ → Bool) (k : ℕ) (xs : List A) → length (leaving g k xs) ≤ length xs
  leaving-length g k [] = omega arith
  leaving-length g k (x ∷ xs) = go (g k) (leaving-length g (k + 1) xs)
    where
      go : (b : Bool) → length (leaving g (k + 1) xs) ≤ length xs → length (off b x (leaving g (k + 1) xs)) ≤ suc (length xs)
      go true h = omega arith
      go false h = omega arith

  leaving_filled : (g : ℕ → Bool) (k m : ℕ) (z : A) → ((i : ℕ) → k ≤ i → g i ≡ false) → leaving g k (replicate m z) ≡ replicate m z
  leaving_filled g k zero z h = refl
  leaving_filled g k (suc m) z h = ap (λ (b : Bool). off b z (leaving g (k + 1) (replicate m z))) (h k (omega arith)) ∙ ap (λ (l : List A). z ∷ l) (leaving_filled g (k + 1) m z (λ i q. h i (omega arith)))

  -- the padding stays
  pub leaving-padded : (g : ℕ → Bool) (n : ℕ) (z : A) (xs : List A) → length xs ≤ n → ((i : ℕ) → length xs ≤ i → g i ≡ false)
      → padded n z (leaving g 0 (padded n z xs)) ≡ padded n z (leaving g 0 xs)
  leaving-padded g n z xs l h =
      ap (padded n z) (leaving-append g 0 xs (replicate (n - length xs) z) ∙ ap (λ (l : List A). leaving g 0 xs ++ l) (leaving_filled g (0 + length xs) (n - length xs) z (λ i q. h i (omega arith))))
      ∙ padded-end n (n - length xs) z (leaving g 0 xs) (omega (arith, leaving-length g 0 xs))

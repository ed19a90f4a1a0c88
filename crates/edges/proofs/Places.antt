-- Lists by place: what stands at a place, places in order, and lists up to a stop. Assumes nothing.
use Prim.Native.Nat.{ℕ, zero, suc, ◌≤◌, ◌<◌}
use native.Mathlib.Omega.{arith}
use mathlib.Core.Bool.{Bool, true, false, cond, ◌&&◌, ◌||◌}
use mathlib.Core.List.Memᴰ
use mathlib.Core.List.{List, [], ◌∷◌, map}
use mathlib.Core.Path.{◌≡◌, refl, sym, ap, ◌∙◌}
use lib.ListN.{length, get_or, drop}
use Rattle.rules.specs.Lists.{any, all, pairs, until}
use Rattle.lists.specs.Tables.{first_index}
use Rattle.lists.proofs.Untils.{stop}
use Rattle.laws.proofs.Lists.{◌∈◌, all_out, and_left, and_right}

module _ {A : Type 0} (d : A) where
  pub place_in : (xs : List A) (i : ℕ) → i < length xs → get_or xs i d ∈ xs
  place_in [] i l = absurd (omega arith)
  place_in (x ∷ xs) zero l = Memᴰ.head refl
  place_in (x ∷ xs) (suc i) l = Memᴰ.tail (place_in xs i (omega arith))

  pub in_place : {x : A} (xs : List A) → x ∈ xs → (i : ℕ) × (i < length xs) × (get_or xs i d ≡ x)
  in_place (y ∷ xs) (Memᴰ.head e) = (0, omega arith, sym e)
  in_place (y ∷ xs) (Memᴰ.tail m) = let u = in_place xs m in (suc u.0, omega (arith, u.1), u.2)
  in_place [] m = elim m [ ]

  pub pairs_place : (f : A → A → Bool) (xs : List A) → pairs f xs ≡ true → (i j : ℕ) → i < j → j < length xs → f (get_or xs i d) (get_or xs j d) ≡ true
  pairs_place f [] h i j l k = absurd (omega arith)
  pairs_place f (x ∷ xs) h i zero l k = absurd (omega arith)
  pairs_place f (x ∷ xs) h zero (suc j) l k = all_out (f x) (place_in xs j (omega arith)) (and_left _ _ h)
  pairs_place f (x ∷ xs) h (suc i) (suc j) l k = pairs_place f xs (and_right (all (f x) xs) _ h) i j (omega arith) (omega arith)

module _ {A B : Type 0} (h : A → B) where
  pub any-map : (p : B → Bool) (xs : List A) → any p (map h xs) ≡ any (λ x. p (h x)) xs
  any-map p [] = refl
  any-map p (x ∷ xs) = ap (λ (b : Bool). p (h x) || b) (any-map p xs)

  all_mapped : (p : B → Bool) (xs : List A) → all p (map h xs) ≡ all (λ x. p (h x)) xs
  all_mapped p [] = refl
  all_mapped p (x ∷ xs) = ap (λ (b : Bool). p (h x) && b) (all_mapped p xs)

  pub pairs_mapped : (f : B → B → Bool) (xs : List A) → pairs f (map h xs) ≡ pairs (λ a b. f (h a) (h b)) xs
  pairs_mapped f [] = refl
  pairs_mapped f (x ∷ xs) = λ j. all_mapped (f (h x)) xs j && pairs_mapped f xs j

pub any_agree : {A : Type 0} (p q : A → Bool) (xs : List A) → ((x : A) → x ∈ xs → p x ≡ q x) → any p xs ≡ any q xs
any_agree p q [] h = refl
any_agree p q (x ∷ xs) h = λ j. h x (Memᴰ.head refl) j || any_agree p q xs (λ y m. h y (Memᴰ.tail m)) j

-- one of two tests is passed
pub any_either : {A : Type 0} (p q : A → Bool) (xs : List A) → (any p xs || any q xs) ≡ any (λ x. p x || q x) xs
any_either p q [] = refl
any_either p q (x ∷ xs) = mixed (p x) (any p xs) (q x) (any q xs) ∙ ap (λ (b : Bool). (p x || q x) || b) (any_either p q xs)
  where
    mixed : (a b c d : Bool) → ((a || b) || (c || d)) ≡ ((a || c) || (b || d))
    mixed true b c d = refl
    mixed false true true d = refl
    mixed false true false d = refl
    mixed false false c d = refl

-- a test that waits for b
pub any_gated : {A : Type 0} (f : Bool → A → Bool) → ((x : A) → f false x ≡ false) → (b : Bool) (xs : List A) → any (f b) xs ≡ (b && any (f true) xs)
any_gated f e true xs = refl
any_gated f e false [] = refl
any_gated f e false (x ∷ xs) = ap (λ (b : Bool). b || any (f false) xs) (e x) ∙ any_gated f e false xs

-- ---- what stops a scan may stop it before: a list up to the first that passes z, where all that pass z pass p
module _ {A : Type 0} (z p : A → Bool) (stops : (x : A) → z x ≡ true → p x ≡ true) where
  pub first_until : (k : ℕ) (xs : List A) → k ≤ length (until z xs) → first_index p (drop k xs) ≡ first_index p (drop k (until z xs))
  unfolding first_index
  first_until zero [] h = refl
  first_until (suc k) [] h = refl
  first_until zero (x ∷ xs) h = go (z x) refl (first_until zero xs (omega arith))
    where
      go : (b : Bool) → z x ≡ b → first_index p xs ≡ first_index p (until z xs) → first_index p (x ∷ xs) ≡ first_index p (stop b x (until z xs))
      go true e r = ap (λ (c : Bool). cond c zero (suc (first_index p xs))) (stops x e)
      go false e r = ap (λ (n : ℕ). cond (p x) zero (suc n)) r
  first_until (suc k) (x ∷ xs) h = go (z x) refl h (first_until k xs)
    where
      go : (b : Bool) → z x ≡ b → suc k ≤ length (stop b x (until z xs)) → (k ≤ length (until z xs) → first_index p (drop k xs) ≡ first_index p (drop k (until z xs)))
          → first_index p (drop k xs) ≡ first_index p (drop (suc k) (stop b x (until z xs)))
      go true e l r = absurd (omega arith)
      go false e l r = r (omega arith)

  pub until-until : (k : ℕ) (xs : List A) → k ≤ length (until z xs) → until p (drop k xs) ≡ until p (drop k (until z xs))
  until-until zero [] h = refl
  until-until (suc k) [] h = refl
  until-until zero (x ∷ xs) h = go (z x) refl (until-until zero xs (omega arith))
    where
      go : (b : Bool) → z x ≡ b → until p xs ≡ until p (until z xs) → until p (x ∷ xs) ≡ until p (stop b x (until z xs))
      go true e r = ap (λ (c : Bool). stop c x (until p xs)) (stops x e)
      go false e r = ap (λ (l : List A). stop (p x) x l) r
  until-until (suc k) (x ∷ xs) h = go (z x) refl h (until-until k xs)
    where
      go : (b : Bool) → z x ≡ b → suc k ≤ length (stop b x (until z xs)) → (k ≤ length (until z xs) → until p (drop k xs) ≡ until p (drop k (until z xs)))
          → until p (drop k xs) ≡ until p (drop (suc k) (stop b x (until z xs)))
      go true e l r = absurd (omega arith)
      go false e l r = r (omega arith)

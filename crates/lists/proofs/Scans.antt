-- Scans of a list from its start, with any accumulator: what the rest gives is what was asked for. Assumes nothing.
use Prim.Native.Nat.{ℕ, zero, suc, ◌+◌, ◌≤◌, ◌<◌, zero-le}
use native.Mathlib.Numerals.{add-one, add-one-le}
use native.Mathlib.Nat.{add-zero, zero-add}
use native.Mathlib.Omega.{arith}
use mathlib.Core.Bool.{Bool, true, false, cond}
use mathlib.Core.Path.{◌≡◌, refl, sym, ap, ◌∙◌}
use mathlib.Core.List.{List, [], ◌∷◌}
use lib.ListN.{length, get_or, take, drop, length-take, drop_of_length-le}
use lib.Seq.{drop-cons, get_or-take}
use Rattle.rules.specs.Lists.{upfrom}
use Rattle.lists.specs.Tables.{first_index}

-- the scan has come to index j: f of what is left is the answer v
pub record Going {A B : Type 0} (xs : List A) (f : List A → B) (v : B) (j : ℕ) : Type 0 where
  pub at_most : j ≤ length xs
  pub same : f (drop j xs) ≡ v

module _ {A B : Type 0} {xs : List A} where
  pub go_start : {f : List A → B} → Going xs f (f xs) 0
  go_start = record { at_most = zero-le; same = refl }

  module _ {f : List A → B} {v : B} {j : ℕ} (s : Going xs f v j) where
    opened : (d : A) → j < length xs → f (get_or xs j d ∷ drop (j + 1) xs) ≡ v
    opened d l = rw add-one (ap f (sym (drop-cons xs j d l)) ∙ s.same)

    -- g of the rest is f of the rest with the element at j in front
    pub go_next : (d : A) (g : List A → B) → j < length xs → ((ys : List A) → f (get_or xs j d ∷ ys) ≡ g ys) → Going xs g v (j + 1)
    go_next d g l e = record { at_most = add-one-le l; same = sym (e (drop (j + 1) xs)) ∙ opened d l }

    -- whatever the rest is, the answer is w
    pub go_here : (d : A) {w : B} → j < length xs → ((ys : List A) → f (get_or xs j d ∷ ys) ≡ w) → w ≡ v
    go_here d l e = sym (e (drop (j + 1) xs)) ∙ opened d l

    pub go_done : length xs ≤ j → f [] ≡ v
    go_done l = ap f (sym (drop_of_length-le xs l)) ∙ s.same

-- ---- a scan of the first n elements alone

module _ {A B : Type 0} (n : ℕ) (xs : List A) (h : n ≤ length xs) {f : List A → B} {v : B} {j : ℕ} (s : Going (take n xs) f v j) where
  inside : j < n → j < length (take n xs)
  inside l = omega (arith, length-take n xs)

  pub part_next : (d : A) (g : List A → B) → j < n → ((ys : List A) → f (get_or xs j d ∷ ys) ≡ g ys) → Going (take n xs) g v (j + 1)
  part_next d g l e = go_next s d g (inside l) (rw (get_or-take n xs j d l) e)

  pub part_here : (d : A) {w : B} → j < n → ((ys : List A) → f (get_or xs j d ∷ ys) ≡ w) → w ≡ v
  part_here d l e = go_here s d (inside l) (rw (get_or-take n xs j d l) e)

  pub part_done : n ≤ j → f [] ≡ v
  part_done l = go_done s (omega (arith, length-take n xs))

-- ---- a scan of the numbers below n

pub length-upfrom : (k n : ℕ) → length (upfrom k n) ≡ n
length-upfrom k zero = refl
length-upfrom k (suc n) = ap suc (length-upfrom (suc k) n)

pub get_or-upfrom : (k n i d : ℕ) → i < n → get_or (upfrom k n) i d ≡ k + i
get_or-upfrom k zero i d l = absurd (omega arith)
get_or-upfrom k (suc n) zero d l = omega arith
get_or-upfrom k (suc n) (suc i) d l = omega (arith, get_or-upfrom (suc k) n i d (omega arith))

module _ {B : Type 0} (n : ℕ) {f : List ℕ → B} {v : B} {j : ℕ} (s : Going (upfrom 0 n) f v j) where
  here : j < n → get_or (upfrom 0 n) j 0 ≡ j
  here l = omega (arith, get_or-upfrom 0 n j 0 l)

  pub count_next : (g : List ℕ → B) → j < n → ((ys : List ℕ) → f (j ∷ ys) ≡ g ys) → Going (upfrom 0 n) g v (j + 1)
  count_next g l e = go_next s 0 g (omega (arith, length-upfrom 0 n)) (rw (here l) e)

  pub count-done : n ≤ j → f [] ≡ v
  count-done l = go_done s (omega (arith, length-upfrom 0 n))

-- ---- the first index that passes

module _ {A : Type 0} (p : A → Bool) where
  -- the index so far, and what the rest adds to it
  abbrev pub onwards : ℕ → List A → ℕ
  onwards j ys = j + first_index p ys

  pub first_start : {xs : List A} → Going xs (onwards 0) (first_index p xs) 0
  first_start {xs} = record { at_most = zero-le; same = zero-add (first_index p xs) }

  module _ {xs : List A} {v j : ℕ} (s : Going xs (onwards j) v j) where
    pub first_next : (d : A) → j < length xs → p (get_or xs j d) ≡ false → Going xs (onwards (j + 1)) v (j + 1)
    unfolding first_index
    first_next d l e = go_next s d (onwards (j + 1)) l (λ ys. ap (λ (b : Bool). j + cond b zero (suc (first_index p ys))) e ∙ omega arith)

    pub first_here : (d : A) → j < length xs → p (get_or xs j d) ≡ true → j ≡ v
    unfolding first_index
    first_here d l e = go_here s d l (λ ys. ap (λ (b : Bool). j + cond b zero (suc (first_index p ys))) e ∙ add-zero j)

    pub first_done : length xs ≤ j → j ≡ v
    unfolding first_index
    first_done l = sym (add-zero j) ∙ go_done s l

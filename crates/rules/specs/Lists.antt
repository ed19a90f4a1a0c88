-- Lists and tests: the few functions that the definitions are made of. Assumes nothing.
use Rattle.std.specs.Prelude.{ℕ, zero, suc, ◌-◌, Bool, true, false, ◌&&◌, ◌||◌, List, [], ◌∷◌, ◌++◌, length, replicate, eqb}

module _ {A : Type 0} where
  -- some element passes the test
  abbrev pub any : (A → Bool) → List A → Bool
  any p [] = false
  any p (x ∷ xs) = p x || any p xs

  -- every element passes the test
  abbrev pub all : (A → Bool) → List A → Bool
  all p [] = true
  all p (x ∷ xs) = p x && all p xs

  -- every element passes the test with every later one
  abbrev pub pairs : (A → A → Bool) → List A → Bool
  pairs p [] = true
  pairs p (x ∷ xs) = all (p x) xs && pairs p xs

  -- the elements that pass the test, in their order
  abbrev pub keep : (A → Bool) → List A → List A
  keep p [] = []
  keep p (x ∷ xs) = elim (p x) [ true ↦ x ∷ keep p xs | false ↦ keep p xs ]

  -- the elements before the first that passes the test
  abbrev pub until : (A → Bool) → List A → List A
  until p [] = []
  until p (x ∷ xs) = elim (p x) [ true ↦ [] | false ↦ x ∷ until p xs ]

  -- the list, filled up with z to a length
  abbrev pub padded : ℕ → A → List A → List A
  padded n z xs = xs ++ replicate (n - length xs) z

  -- the lists are equally long, and each pair of elements at one place passes the test
  abbrev pub sames : (A → A → Bool) → List A → List A → Bool
  sames e [] [] = true
  sames e [] (y ∷ ys) = false
  sames e (x ∷ xs) [] = false
  sames e (x ∷ xs) (y ∷ ys) = e x y && sames e xs ys

  -- f, n times over
  abbrev pub times : ℕ → (A → A) → A → A
  times zero f a = a
  times (suc n) f a = times n f (f a)

  -- the last element, or else a
  abbrev pub last_or : A → List A → A
  last_or a [] = a
  last_or a (x ∷ xs) = last_or x xs

-- the number stands in the list
abbrev pub mem : ℕ → List ℕ → Bool
mem n ns = any (λ k. eqb k n) ns

-- k, k + 1, .., k + n − 1
abbrev pub upfrom : ℕ → ℕ → List ℕ
upfrom k zero = []
upfrom k (suc n) = k ∷ upfrom (suc k) n

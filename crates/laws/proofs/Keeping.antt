-- Laws of the kept part of a list, and of pairs, under other changes of the list. Assumes nothing.
use Prim.Native.Nat.{ℕ}
use mathlib.Core.Bool.{Bool, ◌&&◌, ◌||◌, false, false≢true, true}
use mathlib.Core.List.Memᴰ
use mathlib.Core.List.{List, [], ◌++◌, ◌∷◌, map}
use mathlib.Core.Logic.{◌⊎◌, inl, inr}
use mathlib.Core.Path.{◌∙◌, ◌≡◌, ap, refl, sym}
use Rattle.laws.proofs.Lists.{◌∈◌, all_in, all_out, and_both, and_left, and_right, any_in, any_out, both_ways, keep_in, keep-keep, keep_out, keep_same, mem_out, passed}
use Rattle.rules.specs.Lists.{all, any, keep, mem, pairs}

pub and_swap : (a b : Bool) → (a && b) ≡ (b && a)
and_swap true true = refl
and_swap true false = refl
and_swap false true = refl
and_swap false false = refl

pub or_swap : (a b : Bool) → (a || b) ≡ (b || a)
or_swap true true = refl
or_swap true false = refl
or_swap false true = refl
or_swap false false = refl

module _ {A : Type 0} where
  -- a test over the kept is another test over all
  pub any-kept : (f h : A → Bool) (g : A → Bool) (xs : List A) → ((x : A) → x ∈ xs → g x ≡ true → f x ≡ h x)
      → ((x : A) → x ∈ xs → h x ≡ true → g x ≡ true) → any f (keep g xs) ≡ any h xs
  any-kept f h g xs e k =
      both_ways _ _ (λ t. let u = any_out f (keep g xs) t in let v = keep_out g xs u.1 in any_in h v.0 (sym (e u.0 v.0 v.1) ∙ u.2))
      (λ t. let u = any_out h xs t in let p = k u.0 u.1 u.2 in any_in f (keep_in g u.1 p) (e u.0 u.1 p ∙ u.2))

  pub all-kept : (f h : A → Bool) (g : A → Bool) (xs : List A) → ((x : A) → x ∈ xs → g x ≡ true → f x ≡ h x)
      → ((x : A) → x ∈ xs → g x ≡ false → h x ≡ true) → all f (keep g xs) ≡ all h xs
  all-kept f h g xs e k =
      both_ways _ _ (λ t. all_in h xs (λ x m. pick t x m (passed (g x))))
      (λ t. all_in f (keep g xs) (λ x m. let u = keep_out g xs m in e x u.0 u.1 ∙ all_out h u.0 t))
    where
      pick : all f (keep g xs) ≡ true → (x : A) → x ∈ xs → (g x ≡ true) ⊎ (g x ≡ false) → h x ≡ true
      pick t x m (inl q) = sym (e x m q) ∙ all_out f (keep_in g m q) t
      pick t x m (inr q) = k x m q

  -- two filters that pass the same
  pub keep_twice : (f g h k : A → Bool) (xs : List A) → ((x : A) → (g x && f x) ≡ (k x && h x)) → keep f (keep g xs) ≡ keep h (keep k xs)
  keep_twice f g h k xs e = keep-keep f g xs ∙ keep_same _ _ xs (λ x m. e x) ∙ sym (keep-keep h k xs)

  pub keep-once : (f g h : A → Bool) (xs : List A) → ((x : A) → (g x && f x) ≡ h x) → keep f (keep g xs) ≡ keep h xs
  keep-once f g h xs e = keep-keep f g xs ∙ keep_same _ _ xs (λ x m. e x)

  pub keep_swap : (f g : A → Bool) (xs : List A) → keep f (keep g xs) ≡ keep g (keep f xs)
  keep_swap f g xs = keep_twice f g g f xs (λ x. and_swap (g x) (f x))

  -- a change of elements that the test does not see
  pub keep-map : (f : A → A) (p : A → Bool) (xs : List A) → ((x : A) → x ∈ xs → (f x ≡ x) ⊎ ((p (f x) ≡ false) × (p x ≡ false))) → keep p (map f xs) ≡ keep p xs
  keep-map f p [] h = refl
  keep-map f p (x ∷ xs) h = go (h x (Memᴰ.head refl)) (keep-map f p xs (λ y m. h y (Memᴰ.tail m)))
    where
      go : (f x ≡ x) ⊎ ((p (f x) ≡ false) × (p x ≡ false)) → keep p (map f xs) ≡ keep p xs → keep p (map f (x ∷ xs)) ≡ keep p (x ∷ xs)
      go (inl e) r = λ j. elim (p (e j)) [ true ↦ e j ∷ r j | false ↦ r j ]
      go (inr (e, q)) r = rw (e, keep) (rw (q, keep) r)

  -- a change that leaves the test as it is
  pub keep-map-map : (f : A → A) (p : A → Bool) (xs : List A) → ((x : A) → p (f x) ≡ p x) → keep p (map f xs) ≡ map f (keep p xs)
  keep-map-map f p [] h = refl
  keep-map-map f p (x ∷ xs) h = go (p x) (h x) (keep-map-map f p xs h)
    where
      go : (b : Bool) → p (f x) ≡ b → keep p (map f xs) ≡ map f (keep p xs) → keep p (f x ∷ map f xs) ≡ map f (elim b [ true ↦ x ∷ keep p xs | false ↦ keep p xs ])
      go true e r = rw (e, keep) (λ j. f x ∷ r j)
      go false e r = rw (e, keep) r

  pub keep-none : (p : A → Bool) (xs : List A) → ((x : A) → x ∈ xs → p x ≡ false) → keep p xs ≡ []
  keep-none p [] h = refl
  keep-none p (x ∷ xs) h = rw (h x (Memᴰ.head refl), keep) (keep-none p xs (λ y m. h y (Memᴰ.tail m)))

-- one more at the end, that is not kept or is
module _ {A : Type 0} (p : A → Bool) (x : A) where
  pub keep_snoc : (xs : List A) → p x ≡ false → keep p (xs ++ (x ∷ [])) ≡ keep p xs
  keep_snoc [] e = rw (e, keep) refl
  keep_snoc (y ∷ ys) e = go (p y) (keep_snoc ys e)
    where
      go : (b : Bool) → keep p (ys ++ (x ∷ [])) ≡ keep p ys → ◌≡◌ {A = List A} (elim b [ true ↦ y ∷ keep p (ys ++ (x ∷ [])) | false ↦ keep p (ys ++ (x ∷ [])) ]) (elim b [ true ↦ y ∷ keep p ys | false ↦ keep p ys ])
      go true r = λ j. y ∷ r j
      go false r = r

  pub keep_snoc_in : (xs : List A) → p x ≡ true → keep p (xs ++ (x ∷ [])) ≡ keep p xs ++ (x ∷ [])
  keep_snoc_in [] e = rw (e, keep) refl
  keep_snoc_in (y ∷ ys) e = go (p y) (keep_snoc_in ys e)
    where
      go : (b : Bool) → keep p (ys ++ (x ∷ [])) ≡ keep p ys ++ (x ∷ []) → ◌≡◌ {A = List A} (elim b [ true ↦ y ∷ keep p (ys ++ (x ∷ [])) | false ↦ keep p (ys ++ (x ∷ [])) ]) (elim b [ true ↦ y ∷ keep p ys | false ↦ keep p ys ] ++ (x ∷ []))
      go true r = λ j. y ∷ r j
      go false r = r

module _ {A : Type 0} where
  pub keep_all : (p : A → Bool) (xs : List A) → ((x : A) → x ∈ xs → p x ≡ true) → keep p xs ≡ xs
  keep_all p [] h = refl
  keep_all p (x ∷ xs) h = rw (h x (Memᴰ.head refl), keep) (λ j. x ∷ keep_all p xs (λ y m. h y (Memᴰ.tail m)) j)

pub pairs_weaken : {A : Type 0} (p q : A → A → Bool) (xs : List A) → ((a b : A) → a ∈ xs → b ∈ xs → p a b ≡ true → q a b ≡ true) → pairs p xs ≡ true → pairs q xs ≡ true
pairs_weaken p q [] h e = refl
pairs_weaken p q (x ∷ xs) h e =
    and_both _ _ (all_in (q x) xs (λ y m. h x y (Memᴰ.head refl) (Memᴰ.tail m) (all_out (p x) m (and_left _ _ e))))
    (pairs_weaken p q xs (λ a b ma mb. h a b (Memᴰ.tail ma) (Memᴰ.tail mb)) (and_right (all (p x) xs) _ e))

pub pairs_snoc : {A : Type 0} (f : A → A → Bool) (x : A) (xs : List A) → pairs f xs ≡ true → ((y : A) → y ∈ xs → f y x ≡ true) → pairs f (xs ++ (x ∷ [])) ≡ true
pairs_snoc f x [] h k = refl
pairs_snoc f x (y ∷ ys) h k =
    and_both _ _ (all_in (f y) (ys ++ (x ∷ [])) (λ z m. go z (Memᴰ.append_cases ys m))) (pairs_snoc f x ys (and_right (all (f y) ys) _ h) (λ z m. k z (Memᴰ.tail m)))
  where
    go : (z : _) → (z ∈ ys) ⊎ (z ∈ (x ∷ [])) → f y z ≡ true
    go z (inl m) = all_out (f y) m (and_left _ _ h)
    go z (inr m) = rw (Memᴰ.eq_of_singleton m) (k y (Memᴰ.head refl))

pub pairs-map : {A : Type 0} (f : A → A → Bool) (h : A → A) (xs : List A) → pairs f (map h xs) ≡ pairs (λ a b. f (h a) (h b)) xs
pairs-map f h [] = refl
pairs-map f h (x ∷ xs) = λ j. alls xs j && pairs-map f h xs j
  where
    alls : (ys : List _) → all (f (h x)) (map h ys) ≡ all (λ b. f (h x) (h b)) ys
    alls [] = refl
    alls (y ∷ ys) = ap {B = Bool} (λ k. f (h x) (h y) && k) (alls ys)

-- what does not stand in the list
-- where no element passes the test, none is found
pub any_none : {A : Type 0} (p : A → Bool) (xs : List A) → ((x : A) → x ∈ xs → p x ≡ false) → any p xs ≡ false
any_none p xs h = go (passed (any p xs))
  where
    go : (any p xs ≡ true) ⊎ (any p xs ≡ false) → any p xs ≡ false
    go (inl t) = let u = any_out p xs t in absurd (false≢true (sym (h u.0 u.1) ∙ u.2))
    go (inr f) = f

pub mem-not : (w : ℕ) (l : List ℕ) → (w ∈ l → ⊥) → mem w l ≡ false
mem-not w l h = go (passed (mem w l))
  where
    go : (mem w l ≡ true) ⊎ (mem w l ≡ false) → mem w l ≡ false
    go (inl t) = absurd (h (mem_out w l t))
    go (inr f) = f

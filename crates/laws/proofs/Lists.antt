-- Laws of tests and of the list functions that the definitions are made of. A test that is passed is `t ≡ true`. Assumes nothing.
use Prim.Native.Nat.{◌<◌, ◌≤◌, suc, zero, ℕ}
use mathlib.Core.Bool.{Bool, ◌&&◌, ◌||◌, false, false≢true, not, true}
use mathlib.Core.List.Memᴰ
use mathlib.Core.List.{List, Memᴰ, [], ◌∷◌}
use mathlib.Core.Logic.{◌⊎◌, inl, inr}
use mathlib.Core.Path.{◌≡◌, refl, subst, sym}
use native.Mathlib.Omega.{arith}
use lib.Dec.{T, eqb}
use lib.ListN.{length}
use borrow.Author.Tests.{eq-eqb, eqb-false, eqb-true, not-true}
use Rattle.lists.proofs.Keeps.{length-keep}
use Rattle.rules.specs.Lists.{all, any, keep, mem, pairs, times}

infix 40 ◌∈◌
-- x stands in the list
abbrev pub ◌∈◌ : {A : Type 0} → A → List A → Type 0
x ∈ xs = Memᴰ x xs

pub and_left : (a b : Bool) → (a && b) ≡ true → a ≡ true
and_left true b h = refl
and_left false b h = h

pub and_right : (a b : Bool) → (a && b) ≡ true → b ≡ true
and_right true b h = h
and_right false b h = absurd (false≢true h)

pub and_both : (a b : Bool) → a ≡ true → b ≡ true → (a && b) ≡ true
and_both true b g h = h
and_both false b g h = g

pub or_cases : (a b : Bool) → (a || b) ≡ true → (a ≡ true) ⊎ (b ≡ true)
or_cases true b h = inl refl
or_cases false b h = inr h

pub or_left : (a b : Bool) → a ≡ true → (a || b) ≡ true
or_left true b h = refl
or_left false b h = absurd (false≢true h)

pub or_right : (a b : Bool) → b ≡ true → (a || b) ≡ true
or_right true b h = refl
or_right false b h = h

-- a test that is passed, as a type
pub T_in : {b : Bool} → b ≡ true → T b
T_in h = subst (λ (x : Bool). T x) (sym h) tt

pub T_out : (b : Bool) → T b → b ≡ true
T_out true t = refl
T_out false t = elim t [ ]

-- a test is passed or it is not
pub passed : (b : Bool) → (b ≡ true) ⊎ (b ≡ false)
passed true = inl refl
passed false = inr refl

module _ {A : Type 0} (p : A → Bool) where
  pub any_out : (xs : List A) → any p xs ≡ true → (x : A) × (x ∈ xs) × (p x ≡ true)
  any_out [] h = absurd (false≢true h)
  any_out (x ∷ xs) h = go (or_cases _ _ h) (any_out xs)
    where
      go : (p x ≡ true) ⊎ (any p xs ≡ true) → (any p xs ≡ true → (y : A) × (y ∈ xs) × (p y ≡ true)) → (y : A) × (y ∈ (x ∷ xs)) × (p y ≡ true)
      go (inl t) r = (x, Memᴰ.head refl, t)
      go (inr t) r = let y = r t in (y.0, Memᴰ.tail y.1, y.2)

  pub any_in : {x : A} {xs : List A} → x ∈ xs → p x ≡ true → any p xs ≡ true
  any_in (Memᴰ.head e) t = or_left _ _ (rw e at t)
  any_in (Memᴰ.tail {x = y} m) t = or_right (p y) _ (any_in m t)

  pub all_out : {x : A} {xs : List A} → x ∈ xs → all p xs ≡ true → p x ≡ true
  all_out (Memᴰ.head e) t = rw e (and_left _ _ t)
  all_out (Memᴰ.tail {x = y} m) t = all_out m (and_right (p y) _ t)

  pub all_in : (xs : List A) → ((x : A) → x ∈ xs → p x ≡ true) → all p xs ≡ true
  all_in [] h = refl
  all_in (x ∷ xs) h = and_both _ _ (h x (Memᴰ.head refl)) (all_in xs (λ y m. h y (Memᴰ.tail m)))

  pub keep_in : {x : A} {xs : List A} → x ∈ xs → p x ≡ true → x ∈ keep p xs
  keep_in (Memᴰ.head e) t = let u = rw e at t in rw (u, keep) (Memᴰ.head e)
  keep_in {x} (Memᴰ.tail {x = y} {xs = ys} m) t = go (p y) (keep_in m t)
    where
      go : (b : Bool) → x ∈ keep p ys → x ∈ (elim b [ true ↦ y ∷ keep p ys | false ↦ keep p ys ])
      go true k = Memᴰ.tail k
      go false k = k

  pub keep_out : {x : A} (xs : List A) → x ∈ keep p xs → (x ∈ xs) × (p x ≡ true)
  keep_out [] m = elim m [ ]
  keep_out {x} (y ∷ ys) m = go (p y) refl m (keep_out ys)
    where
      go : (b : Bool) → p y ≡ b → x ∈ (elim b [ true ↦ y ∷ keep p ys | false ↦ keep p ys ])
          → (x ∈ keep p ys → (x ∈ ys) × (p x ≡ true)) → (x ∈ (y ∷ ys)) × (p x ≡ true)
      go true e (Memᴰ.head q) r = (Memᴰ.head q, rw q e)
      go true e (Memᴰ.tail k) r = let u = r k in (Memᴰ.tail u.0, u.1)
      go false e k r = let u = r k in (Memᴰ.tail u.0, u.1)

  -- all are kept, or fewer
  pub keep_less : (xs : List A) → (keep p xs ≡ xs) ⊎ (length (keep p xs) < length xs)
  keep_less [] = inl refl
  keep_less (x ∷ xs) = go (p x) (keep_less xs) (length-keep p xs)
    where
      go : (b : Bool) → (keep p xs ≡ xs) ⊎ (length (keep p xs) < length xs) → length (keep p xs) ≤ length xs
          → (◌≡◌ {A = List A} (elim b [ true ↦ x ∷ keep p xs | false ↦ keep p xs ]) (x ∷ xs))
          ⊎ (length {A = A} (elim b [ true ↦ x ∷ keep p xs | false ↦ keep p xs ]) < suc (length xs))
      go true (inl e) h = inl (cc)
      go true (inr l) h = inr (omega arith)
      go false r h = inr (omega arith)

module _ {A : Type 0} where
  -- where every element that p passes q passes too, both keep the same or q keeps more
  pub keep_more : (p q : A → Bool) (xs : List A) → ((x : A) → x ∈ xs → p x ≡ true → q x ≡ true)
      → (keep q xs ≡ keep p xs) ⊎ (length (keep p xs) < length (keep q xs))
  keep_more p q [] h = inl refl
  keep_more p q (x ∷ xs) h = go (p x) (q x) (h x (Memᴰ.head refl)) (keep_more p q xs (λ y m. h y (Memᴰ.tail m)))
    where
      go : (b c : Bool) → (b ≡ true → c ≡ true) → (keep q xs ≡ keep p xs) ⊎ (length (keep p xs) < length (keep q xs))
          → (◌≡◌ {A = List A} (elim c [ true ↦ x ∷ keep q xs | false ↦ keep q xs ]) (elim b [ true ↦ x ∷ keep p xs | false ↦ keep p xs ]))
          ⊎ (length {A = A} (elim b [ true ↦ x ∷ keep p xs | false ↦ keep p xs ]) < length {A = A} (elim c [ true ↦ x ∷ keep q xs | false ↦ keep q xs ]))
      go true true k (inl e) = inl (cc)
      go true true k (inr l) = inr (omega arith)
      go true false k r = absurd (false≢true (k refl))
      go false true k (inl e) = inr (rw e (omega arith))
      go false true k (inr l) = inr (omega arith)
      go false false k r = r

  -- a pass that changes nothing changes nothing when it is repeated
  pub times_fixed : (f : A → A) (a : A) → f a ≡ a → (n : ℕ) → times n f a ≡ a
  times_fixed f a e zero = refl
  times_fixed f a e (suc n) = rw e (times_fixed f a e n)

  -- passes that each change nothing or make a number smaller come to rest, once there have been as many as the number says
  pub times-rest : (f : A → A) (μ : A → ℕ) (I : A → Type 0) → ((a : A) → I a → I (f a)) → ((a : A) → I a → (f a ≡ a) ⊎ (μ (f a) < μ a))
      → (n : ℕ) (a : A) → I a → μ a ≤ n → f (times n f a) ≡ times n f a
  times-rest f μ I keeps falls zero a i h = go (falls a i)
    where
      go : (f a ≡ a) ⊎ (μ (f a) < μ a) → f a ≡ a
      go (inl e) = e
      go (inr l) = absurd (omega arith)
  times-rest f μ I keeps falls (suc n) a i h = go (falls a i) (times-rest f μ I keeps falls n (f a) (keeps a i))
    where
      go : (f a ≡ a) ⊎ (μ (f a) < μ a) → (μ (f a) ≤ n → f (times n f (f a)) ≡ times n f (f a)) → f (times n f (f a)) ≡ times n f (f a)
      go (inl e) r = rw (e, times_fixed f a e n) e
      go (inr l) r = r (omega arith)

  -- what each pass keeps stays
  pub times_keeps : (f : A → A) (I : A → Type 0) → ((a : A) → I a → I (f a)) → (n : ℕ) (a : A) → I a → I (times n f a)
  times_keeps f I keeps zero a i = i
  times_keeps f I keeps (suc n) a i = times_keeps f I keeps n (f a) (keeps a i)

-- two tests that pass together are equal
pub both_ways : (a b : Bool) → (a ≡ true → b ≡ true) → (b ≡ true → a ≡ true) → a ≡ b
both_ways true b f g = sym (f refl)
both_ways false true f g = g refl
both_ways false false f g = refl

module _ {A : Type 0} where
  -- tests that agree on the list keep the same
  pub keep_same : (f g : A → Bool) (xs : List A) → ((x : A) → x ∈ xs → f x ≡ g x) → keep f xs ≡ keep g xs
  keep_same f g [] h = refl
  keep_same f g (x ∷ xs) h = go (f x) (g x) (h x (Memᴰ.head refl)) (keep_same f g xs (λ y m. h y (Memᴰ.tail m)))
    where
      go : (a b : Bool) → a ≡ b → keep f xs ≡ keep g xs
          → ◌≡◌ {A = List A} (elim a [ true ↦ x ∷ keep f xs | false ↦ keep f xs ]) (elim b [ true ↦ x ∷ keep g xs | false ↦ keep g xs ])
      go true true q e = cc
      go true false q e = absurd (false≢true (sym q))
      go false true q e = absurd (false≢true q)
      go false false q e = e

  pub keep-keep : (f g : A → Bool) (xs : List A) → keep f (keep g xs) ≡ keep (λ x. g x && f x) xs
  keep-keep f g [] = refl
  keep-keep f g (x ∷ xs) = go (g x) (keep-keep f g xs)
    where
      go : (b : Bool) → keep f (keep g xs) ≡ keep (λ y. g y && f y) xs
          → keep f (elim b [ true ↦ x ∷ keep g xs | false ↦ keep g xs ]) ≡ elim (b && f x) [ true ↦ x ∷ keep (λ y. g y && f y) xs | false ↦ keep (λ y. g y && f y) xs ]
      go true e = pick (f x) e
        where
          pick : (c : Bool) → keep f (keep g xs) ≡ keep (λ y. g y && f y) xs
              → ◌≡◌ {A = List A} (elim c [ true ↦ x ∷ keep f (keep g xs) | false ↦ keep f (keep g xs) ]) (elim c [ true ↦ x ∷ keep (λ y. g y && f y) xs | false ↦ keep (λ y. g y && f y) xs ])
          pick true e = cc
          pick false e = e
      go false e = e

  -- what holds of all pairs holds of the pairs of the kept
  pub pairs-keep : (f : A → A → Bool) (g : A → Bool) (xs : List A) → pairs f xs ≡ true → pairs f (keep g xs) ≡ true
  pairs-keep f g [] h = refl
  pairs-keep f g (x ∷ xs) h = go (g x) (pairs-keep f g xs (and_right (all (f x) xs) _ h))
    where
      go : (b : Bool) → pairs f (keep g xs) ≡ true → pairs f (elim b [ true ↦ x ∷ keep g xs | false ↦ keep g xs ]) ≡ true
      go true e = and_both _ _ (all_in (f x) (keep g xs) (λ y m. all_out (f x) (keep_out g xs m).0 (and_left _ _ h))) e
      go false e = e

-- elements whose numbers are all different are equal where their numbers are
pub apart : {A : Type 0} (f : A → ℕ) {x y : A} {xs : List A} → pairs (λ a b. not (eqb (f a) (f b))) xs ≡ true
    → x ∈ xs → y ∈ xs → f x ≡ f y → x ≡ y
apart f h (Memᴰ.head d) (Memᴰ.head e) q = cc
apart f {y = y} h (Memᴰ.head {x = z} d) (Memᴰ.tail n) q =
    absurd (eqb-false (f z) (f y) (not-true _ (all_out (λ b. not (eqb (f z) (f b))) n (and_left _ _ h))) (cc))
apart f {x = x} h (Memᴰ.tail m) (Memᴰ.head {x = z} e) q =
    absurd (eqb-false (f z) (f x) (not-true _ (all_out (λ b. not (eqb (f z) (f b))) m (and_left _ _ h))) (cc))
apart f h (Memᴰ.tail {x = z} {xs = zs} m) (Memᴰ.tail n) q = apart f (and_right (all (λ b. not (eqb (f z) (f b))) zs) _ h) m n q

pub mem_out : (n : ℕ) (ns : List ℕ) → mem n ns ≡ true → n ∈ ns
mem_out n ns h = let x = any_out (λ k. eqb k n) ns h in Memᴰ.cast (sym (eqb-true _ _ x.2)) x.1

pub mem_in : (n : ℕ) (ns : List ℕ) → n ∈ ns → mem n ns ≡ true
mem_in n ns m = any_in (λ k. eqb k n) m (eq-eqb n n refl)

-- a list in which nothing stands
pub empty : {A : Type 0} (xs : List A) → ((x : A) → x ∈ xs → ⊥) → xs ≡ []
empty [] h = refl
empty (x ∷ xs) h = absurd (h x (Memᴰ.head refl))

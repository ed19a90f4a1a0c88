-- Laws of the records: an insertion, and what is found after it. Assumes nothing.
use Prim.Native.Nat.{◌<◌, ◌≤◌, suc, ℕ}
use mathlib.Core.Bool.{Bool, and-eq-true_iff, false, false≢true, true}
use mathlib.Core.List.Memᴰ
use mathlib.Core.List.{List, [], ◌∷◌}
use mathlib.Core.Logic.{◌⊎◌, inl, inr}
use mathlib.Core.Path.{◌∙◌, ◌≡◌, ap, refl, sym}
use native.Mathlib.Omega.{arith}
use lib.Dec.{eqb, ltb}
use lib.ListN.{length}
use borrow.Author.Tests.{eq-eqb, eqb-false, eqb-true, lt-ltb, ltb-false, ltb-true}
use Rattle.laws.proofs.Lists.{◌∈◌, all_in, all_out, and_both, and_left, and_right, any_in, any_out, both_ways, keep_out, passed}
use Rattle.rules.specs.Lists.{all, any, keep, pairs}
use Rattle.rules.specs.State.{insert, is_rec, word_in}
use Rattle.terms.specs.Words.{item, key, txn}
use Rattle.terms.specs.declared.Rec.{Rec}

-- x goes before y
abbrev pub is_below : Rec → Rec → Bool
is_below x y = ltb (key x) (key y)

-- the records stand by ascending key
abbrev pub Sorted : List Rec → Type 0
Sorted xs = pairs is_below xs ≡ true

-- the item and the kind of a record fit its key
abbrev pub Keyed : Rec → Type 0
Keyed x = (item x < 256) × (x.kind < 256)

-- a key says the transaction, the item and the kind,
pub key_inj : (x y : Rec) → Keyed x → Keyed y → key x ≡ key y → (txn x ≡ txn y) × (item x ≡ item y) × (x.kind ≡ y.kind)
key_inj x y p q e =
    let a : txn x ≡ txn y = omega (arith, p.0, p.1, q.0, q.1) in
    let b : item x ≡ item y = omega (arith, p.0, p.1, q.0, q.1) in
    (a, b, omega (arith, p.0, p.1, q.0, q.1))

-- and by ascending key is by transaction, then item, then kind
pub lexical : (x y : Rec) → Keyed x → Keyed y → key x < key y
    → (txn x < txn y) ⊎ ((txn x ≡ txn y) × ((item x < item y) ⊎ ((item x ≡ item y) × (x.kind < y.kind))))
lexical x y p q h = by_txn (passed (ltb (txn x) (txn y)))
  where
    by_item : (txn x ≡ txn y) → (ltb (item x) (item y) ≡ true) ⊎ (ltb (item x) (item y) ≡ false) → (item x < item y) ⊎ ((item x ≡ item y) × (x.kind < y.kind))
    by_item e (inl t) = inl (ltb-true _ _ t)
    by_item e (inr f) = inr (omega (arith, ltb-false, p.0, p.1, q.0, q.1), omega (arith, ltb-false, p.0, p.1, q.0, q.1))

    by_txn : (ltb (txn x) (txn y) ≡ true) ⊎ (ltb (txn x) (txn y) ≡ false)
        → (txn x < txn y) ⊎ ((txn x ≡ txn y) × ((item x < item y) ⊎ ((item x ≡ item y) × (x.kind < y.kind))))
    by_txn (inl t) = inl (ltb-true _ _ t)
    by_txn (inr f) = let e : txn x ≡ txn y = omega (arith, ltb-false, p.0, p.1, q.0, q.1) in inr (e, by_item e (passed (ltb (item x) (item y))))

-- after an insertion stand the record put in and those that stood there
pub insert_out : {y : Rec} (x : Rec) (xs : List Rec) → y ∈ insert x xs → (y ≡ x) ⊎ (y ∈ xs)
unfolding insert
insert_out x [] (Memᴰ.head e) = inl e
insert_out x [] (Memᴰ.tail m) = inr m
insert_out {y} x (z ∷ zs) m = go (ltb (key x) (key z)) (eqb (key x) (key z)) m (insert_out x zs)
  where
    go : (b c : Bool)
        → y ∈ (elim b [ true ↦ x ∷ z ∷ zs | false ↦ elim c [ true ↦ x ∷ zs | false ↦ z ∷ insert x zs ] ])
        → (y ∈ insert x zs → (y ≡ x) ⊎ (y ∈ zs)) → (y ≡ x) ⊎ (y ∈ (z ∷ zs))
    go true c (Memᴰ.head e) r = inl e
    go true c (Memᴰ.tail k) r = inr k
    go false true (Memᴰ.head e) r = inl e
    go false true (Memᴰ.tail k) r = inr (Memᴰ.tail k)
    go false false (Memᴰ.head e) r = inr (Memᴰ.head e)
    go false false (Memᴰ.tail k) r = elim (r k) [ inl e ↦ inl e | inr u ↦ inr (Memᴰ.tail u) ]

-- an insertion keeps the order
pub insert-sorted : (x : Rec) (xs : List Rec) → Sorted xs → Sorted (insert x xs)
unfolding insert
insert-sorted x [] h = refl
insert-sorted x (y ∷ ys) h = go (ltb (key x) (key y)) (eqb (key x) (key y)) refl refl (insert-sorted x ys (and_right (all (is_below y) ys) _ h))
  where
    above : (z : Rec) → z ∈ ys → key y < key z
    above z m = ltb-true _ _ (all_out (is_below y) m (and_left _ _ h))

    go : (b c : Bool) → ltb (key x) (key y) ≡ b → eqb (key x) (key y) ≡ c → Sorted (insert x ys)
        → pairs is_below (elim b [ true ↦ x ∷ y ∷ ys | false ↦ elim c [ true ↦ x ∷ ys | false ↦ y ∷ insert x ys ] ]) ≡ true
    go true c e f r =
        and_both _ _ (and_both _ _ e (all_in (is_below x) ys (λ z m. lt-ltb (key x) (key z) (omega (arith, above z m, ltb-true))))) h
    go false true e f r =
        and_both _ _ (all_in (is_below x) ys (λ z m. lt-ltb (key x) (key z) (omega (arith, above z m, eqb-true)))) (and_right (all (is_below y) ys) _ h)
    go false false e f r = and_both _ _ (all_in (is_below y) (insert x ys) (λ z m. ahead z (insert_out x ys m))) r
      where
        ahead : (z : Rec) → (z ≡ x) ⊎ (z ∈ ys) → is_below y z ≡ true
        ahead z (inl q) = rw q (lt-ltb (key y) (key x) (omega (arith, ltb-false, eqb-false)))
        ahead z (inr m) = lt-ltb _ _ (above z m)

pub insert-has : (x : Rec) (xs : List Rec) → x ∈ insert x xs
unfolding insert
insert-has x [] = Memᴰ.head refl
insert-has x (y ∷ ys) = go (ltb (key x) (key y)) (eqb (key x) (key y)) (insert-has x ys)
  where
    go : (b c : Bool) → x ∈ insert x ys → x ∈ (elim b [ true ↦ x ∷ y ∷ ys | false ↦ elim c [ true ↦ x ∷ ys | false ↦ y ∷ insert x ys ] ])
    go true c r = Memᴰ.head refl
    go false true r = Memᴰ.head refl
    go false false r = Memᴰ.tail r

pub insert-stays : (x : Rec) {z : Rec} (xs : List Rec) → z ∈ xs → (key x ≡ key z → ⊥) → z ∈ insert x xs
unfolding insert
insert-stays x {z} (y ∷ ys) m n = go (ltb (key x) (key y)) (eqb (key x) (key y)) refl m (λ k. insert-stays x ys k n)
  where
    go : (b c : Bool) → eqb (key x) (key y) ≡ c → z ∈ (y ∷ ys) → (z ∈ ys → z ∈ insert x ys)
        → z ∈ (elim b [ true ↦ x ∷ y ∷ ys | false ↦ elim c [ true ↦ x ∷ ys | false ↦ y ∷ insert x ys ] ])
    go true c e k r = Memᴰ.tail k
    go false true e (Memᴰ.head q) r = absurd (n (eqb-true _ _ e ∙ ap (λ (w : Rec). key w) (sym q)))
    go false true e (Memᴰ.tail k) r = Memᴰ.tail k
    go false false e (Memᴰ.head q) r = Memᴰ.head q
    go false false e (Memᴰ.tail k) r = Memᴰ.tail (r k)
insert-stays x {z = z} [] m n = elim m [ ]

pub any-insert : (f : Rec → Bool) (x : Rec) (xs : List Rec) → f x ≡ false → ((y : Rec) → y ∈ xs → key x ≡ key y → f y ≡ false) → any f (insert x xs) ≡ any f xs
any-insert f x xs e h =
    both_ways _ _ (λ t. let u = any_out f (insert x xs) t in go u.0 u.2 (insert_out x xs u.1))
    (λ t. let u = any_out f xs t in any_in f (insert-stays x xs u.1 (λ q. false≢true (sym (h u.0 u.1 q) ∙ u.2))) u.2)
  where
    go : (y : Rec) → f y ≡ true → (y ≡ x) ⊎ (y ∈ xs) → any f xs ≡ true
    go y t (inl q) = absurd (false≢true (sym e ∙ ap f (sym q) ∙ t))
    go y t (inr m) = any_in f m t

pub word_in-insert : (u i k : ℕ) (x : Rec) (xs : List Rec) → is_rec u i k x ≡ false → ((y : Rec) → y ∈ xs → key x ≡ key y → is_rec u i k y ≡ false) → word_in u i k (insert x xs) ≡ word_in u i k xs
unfolding word_in insert
word_in-insert u i k x [] e h = rw (e, word_in) refl
word_in-insert u i k x (y ∷ ys) e h = go (ltb (key x) (key y)) (eqb (key x) (key y)) refl (is_rec u i k y) refl (word_in-insert u i k x ys e (λ z m. h z (Memᴰ.tail m)))
  where
    go : (b c : Bool) → eqb (key x) (key y) ≡ c → (d : Bool) → is_rec u i k y ≡ d → word_in u i k (insert x ys) ≡ word_in u i k ys
        → word_in u i k (elim b [ true ↦ x ∷ y ∷ ys | false ↦ elim c [ true ↦ x ∷ ys | false ↦ y ∷ insert x ys ] ]) ≡ elim d [ true ↦ y.word | false ↦ word_in u i k ys ]
    go true c q true f r = rw (e, word_in) (rw (f, word_in) refl)
    go true c q false f r = rw (e, word_in) (rw (f, word_in) refl)
    go false true q true f r = absurd (false≢true (sym (h y (Memᴰ.head refl) (eqb-true _ _ q)) ∙ f))
    go false true q false f r = rw (e, word_in) refl
    go false false q true f r = rw (f, word_in) refl
    go false false q false f r = rw (f, word_in) r

-- before all that stands above it
pub insert_first : (x : Rec) (xs : List Rec) → ((y : Rec) → y ∈ xs → key x < key y) → insert x xs ≡ x ∷ xs
unfolding insert
insert_first x [] h = refl
insert_first x (y ∷ ys) h = rw (lt-ltb (key x) (key y) (h y (Memᴰ.head refl)), insert) refl

pub keep-insert : (p : Rec → Bool) (x : Rec) (xs : List Rec) → p x ≡ true → Sorted xs → ((y : Rec) → y ∈ xs → key x ≡ key y → p y ≡ true)
    → keep p (insert x xs) ≡ insert x (keep p xs)
unfolding insert
keep-insert p x [] e s h = rw (e, keep) refl
keep-insert p x (y ∷ ys) e s h =
    go (ltb (key x) (key y)) (eqb (key x) (key y)) refl refl (p y) refl (keep-insert p x ys e (and_right (all (λ z. ltb (key y) (key z)) ys) _ s) (λ z m. h z (Memᴰ.tail m)))
  where
    above : key x < key y → (z : Rec) → z ∈ (y ∷ ys) → key x < key z
    above l z (Memᴰ.head q) = omega (arith, ap (λ (w : Rec). key w) q)
    above l z (Memᴰ.tail m) = omega (arith, ltb-true (key y) (key z) (all_out (λ z. ltb (key y) (key z)) m (and_left _ _ s)))

    go : (b c : Bool) → ltb (key x) (key y) ≡ b → eqb (key x) (key y) ≡ c → (d : Bool) → p y ≡ d → keep p (insert x ys) ≡ insert x (keep p ys)
        → keep p (elim b [ true ↦ x ∷ y ∷ ys | false ↦ elim c [ true ↦ x ∷ ys | false ↦ y ∷ insert x ys ] ]) ≡ insert x (elim d [ true ↦ y ∷ keep p ys | false ↦ keep p ys ])
    go true c f q true k r = rw (e, keep) (rw (k, keep) (sym (insert_first x (y ∷ keep p ys) (λ z m. pick z m))))
      where
        pick : (z : Rec) → z ∈ (y ∷ keep p ys) → key x < key z
        pick z (Memᴰ.head g) = above (ltb-true _ _ f) z (Memᴰ.head g)
        pick z (Memᴰ.tail m) = above (ltb-true _ _ f) z (Memᴰ.tail (keep_out p ys m).0)
    go true c f q false k r = rw (e, keep) (rw (k, keep) (sym (insert_first x (keep p ys) (λ z m. above (ltb-true _ _ f) z (Memᴰ.tail (keep_out p ys m).0)))))
    go false true f q true k r = rw (e, keep) (rw (f, insert) (rw q refl))
    go false true f q false k r = absurd (false≢true (sym k ∙ h y (Memᴰ.head refl) (eqb-true _ _ q)))
    go false false f q true k r = rw (k, keep) (rw (f, insert) (rw q (λ j. y ∷ r j)))
    go false false f q false k r = rw (k, keep) r

pub insert_more : (x : Rec) (xs : List Rec) → length (insert x xs) ≤ suc (length xs)
unfolding insert
insert_more x [] = omega arith
insert_more x (y ∷ ys) = go (ltb (key x) (key y)) (eqb (key x) (key y)) (insert_more x ys)
  where
    go : (b c : Bool) → length (insert x ys) ≤ suc (length ys) → length {A = Rec} (elim b [ true ↦ x ∷ y ∷ ys | false ↦ elim c [ true ↦ x ∷ ys | false ↦ y ∷ insert x ys ] ]) ≤ suc (suc (length ys))
    go true c h = omega arith
    go false true h = omega arith
    go false false h = omega arith

pub insert-same : (x : Rec) {z : Rec} (xs : List Rec) → Sorted xs → z ∈ xs → key x ≡ key z → length (insert x xs) ≤ length xs
unfolding insert
insert-same x {z} (y ∷ ys) s m e = go (ltb (key x) (key y)) (eqb (key x) (key y)) refl refl m (λ k. insert-same x ys (and_right (all (λ z. ltb (key y) (key z)) ys) _ s) k e)
  where
    go : (b c : Bool) → ltb (key x) (key y) ≡ b → eqb (key x) (key y) ≡ c → z ∈ (y ∷ ys) → (z ∈ ys → length (insert x ys) ≤ length ys)
        → length {A = Rec} (elim b [ true ↦ x ∷ y ∷ ys | false ↦ elim c [ true ↦ x ∷ ys | false ↦ y ∷ insert x ys ] ]) ≤ suc (length ys)
    go true c f q (Memᴰ.head k) r = absurd (omega (arith, ltb-true (key x) (key y) f, ap (λ (w : Rec). key w) k))
    go true c f q (Memᴰ.tail k) r = absurd (omega (arith, ltb-true (key x) (key y) f, ltb-true (key y) (key z) (all_out (λ z. ltb (key y) (key z)) k (and_left _ _ s))))
    go false true f q k r = omega arith
    go false false f q (Memᴰ.head k) r = absurd (eqb-false _ _ q (e ∙ ap (λ (w : Rec). key w) k))
    go false false f q (Memᴰ.tail k) r = omega (arith, r k)
insert-same x {z = z} [] s m e = elim m [ ]

pub word_in-keep : (t i k : ℕ) (g : Rec → Bool) (xs : List Rec) → ((x : Rec) → x ∈ xs → is_rec t i k x ≡ true → g x ≡ true)
    → word_in t i k (keep g xs) ≡ word_in t i k xs
unfolding word_in
word_in-keep t i k g [] h = refl
word_in-keep t i k g (x ∷ xs) h = go (is_rec t i k x) (g x) refl (h x (Memᴰ.head refl)) (word_in-keep t i k g xs (λ y m. h y (Memᴰ.tail m)))
  where
    go : (b c : Bool) → is_rec t i k x ≡ b → (is_rec t i k x ≡ true → c ≡ true) → word_in t i k (keep g xs) ≡ word_in t i k xs
        → word_in t i k (elim c [ true ↦ x ∷ keep g xs | false ↦ keep g xs ]) ≡ elim b [ true ↦ x.word | false ↦ word_in t i k xs ]
    go true true e f r = rw (e, word_in) refl
    go true false e f r = absurd (false≢true (f e))
    go false true e f r = rw (e, word_in) r
    go false false e f r = r

pub is-rec : (x : Rec) → is_rec (txn x) (item x) x.kind x ≡ true
is-rec x = and_both _ _ (and_both _ _ (eq-eqb (txn x) _ refl) (eq-eqb (item x) _ refl)) (eq-eqb x.kind _ refl)

pub is-rec_out : (u i k : ℕ) (x : Rec) → is_rec u i k x ≡ true → (txn x ≡ u) × (item x ≡ i) × (x.kind ≡ k)
is-rec_out u i k x h = let v = simp and-eq-true_iff at h in (eqb-true _ _ v.0.0, eqb-true _ _ v.0.1, eqb-true _ _ v.1)

pub word_same : (x : Rec) (ys : List Rec) → word_in (txn x) (item x) x.kind (insert x ys) ≡ x.word
unfolding insert word_in
word_same x [] = rw (is-rec x, word_in) refl
word_same x (y ∷ ys) = go (ltb (key x) (key y)) (eqb (key x) (key y)) refl (word_same x ys)
  where
    go : (b c : Bool) → eqb (key x) (key y) ≡ c → word_in (txn x) (item x) x.kind (insert x ys) ≡ x.word
        → word_in (txn x) (item x) x.kind (elim b [ true ↦ x ∷ y ∷ ys | false ↦ elim c [ true ↦ x ∷ ys | false ↦ y ∷ insert x ys ] ]) ≡ x.word
    go true c q r = rw (is-rec x, word_in) refl
    go false true q r = rw (is-rec x, word_in) refl
    go false false q r = pick (is_rec (txn x) (item x) x.kind y) refl r
      where
        pick : (b : Bool) → is_rec (txn x) (item x) x.kind y ≡ b → word_in (txn x) (item x) x.kind (insert x ys) ≡ x.word
            → ◌≡◌ {A = ℕ} (elim b [ true ↦ y.word | false ↦ word_in (txn x) (item x) x.kind (insert x ys) ]) x.word
        pick true e r = let v = is-rec_out (txn x) (item x) x.kind y e in absurd (eqb-false (key x) (key y) q (omega (arith, v.0, v.1, v.2)))
        pick false e r = r

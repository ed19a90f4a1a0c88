-- Tables that are made item by item. Assumes nothing.
use Prim.Native.Nat.{◌+◌, ◌<◌, suc, zero, ℕ}
use mathlib.Core.Bool.{Bool, true}
use mathlib.Core.List.Memᴰ
use mathlib.Core.List.{List, [], ◌∷◌, map}
use mathlib.Core.Path.{◌∙◌, ◌≡◌, ap, refl}
use native.Mathlib.Nat.{zero-add}
use native.Mathlib.Omega.{arith}
use lib.ListN.{get_or, length, length-map, replicate}
use Rattle.laws.proofs.Lists.{◌∈◌, and_both}
use Rattle.lists.proofs.Scans.{length-upfrom}
use Rattle.rules.specs.Lists.{all, upfrom}

-- an entry of a table made item by item
pub get_or-upfrom : (f : ℕ → ℕ) (k n i : ℕ) → i < n → get_or (map f (upfrom k n)) i 0 ≡ f (k + i)
get_or-upfrom f k zero i h = absurd (omega arith)
get_or-upfrom f k (suc n) zero h = ap f (omega arith)
get_or-upfrom f k (suc n) (suc i) h = get_or-upfrom f (suc k) n i (omega arith) ∙ ap f (omega arith)

pub get_or-zero : (f : ℕ → ℕ) (n i : ℕ) → i < n → get_or (map f (upfrom 0 n)) i 0 ≡ f i
get_or-zero f n i h = get_or-upfrom f 0 n i h ∙ ap f (zero-add i)

pub map-upfrom : (f h : ℕ → ℕ) (k n : ℕ) → ((i : ℕ) → i < k + n → f i ≡ h i) → map f (upfrom k n) ≡ map h (upfrom k n)
map-upfrom f h k zero e = refl
map-upfrom f h k (suc n) e =
    let p = e k (omega arith) in
    let q = map-upfrom f h (suc k) n (λ i l. e i (omega arith)) in
    λ j. p j ∷ q j

pub map-zero : (f h : ℕ → ℕ) (n : ℕ) → ((i : ℕ) → i < n → f i ≡ h i) → map f (upfrom 0 n) ≡ map h (upfrom 0 n)
map-zero f h n e = map-upfrom f h 0 n (λ i l. e i (omega arith))

-- a table is made of its entries
pub table : (l : List ℕ) (k : ℕ) (f : ℕ → ℕ) → ((i : ℕ) → i < length l → f (k + i) ≡ get_or l i 0) → map f (upfrom k (length l)) ≡ l
table [] k f h = refl
table (x ∷ l) k f h =
    let p : f k ≡ x = ap f (omega arith) ∙ h 0 (omega arith) in
    let q = table l (suc k) f (λ i b. ap f (omega arith) ∙ h (suc i) (omega arith)) in
    λ j. p j ∷ q j

pub length-table : (f : ℕ → ℕ) (n : ℕ) → length (map f (upfrom 0 n)) ≡ n
length-table f n = length-map (upfrom 0 n) f ∙ length-upfrom 0 n

pub mem-upfrom : {i : ℕ} (k n : ℕ) → i ∈ upfrom k n → i < k + n
mem-upfrom k (suc n) (Memᴰ.head e) = omega arith
mem-upfrom k (suc n) (Memᴰ.tail m) = omega (arith, mem-upfrom (suc k) n m)
mem-upfrom k zero m = elim m [ ]

pub get_or-mem : (l : List ℕ) (i : ℕ) → i < length l → get_or l i 0 ∈ l
get_or-mem [] i h = absurd (omega arith)
get_or-mem (x ∷ l) zero h = Memᴰ.head refl
get_or-mem (x ∷ l) (suc i) h = Memᴰ.tail (get_or-mem l i (omega arith))

pub all_replicate : {A : Type 0} (p : A → Bool) (n : ℕ) (a : A) → p a ≡ true → all p (replicate n a) ≡ true
all_replicate p zero a h = refl
all_replicate p (suc n) a h = and_both _ _ h (all_replicate p n a h)

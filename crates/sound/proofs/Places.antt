-- Rows and records by their index: what stands there, and that rows by ascending number are known by it. Assumes nothing.
use Prim.Native.Nat.{ℕ, zero, suc, ◌<◌}
use native.Mathlib.Omega.{arith}
use native.Mathlib.Decide.{dec_lt}
use mathlib.Core.Bool.{Bool, true}
use mathlib.Core.Path.{◌≡◌, refl, sym, ap}
use mathlib.Core.List.Memᴰ
use mathlib.Core.List.{List, [], ◌∷◌, map}
use lib.Dec.{ltb}
use lib.ListN.{length, get_or, length-map}
use borrow.Author.Tests.{ltb-true}
use Rattle.terms.specs.declared.Row.{Row}
use Rattle.terms.specs.Words.{num, start}
use Rattle.rules.specs.Lists.{all, pairs}
use Rattle.rules.specs.Raw.{zero_row}
use Rattle.laws.proofs.Lists.{◌∈◌, all_out, and_left, and_right}
use Rattle.laws.proofs.Rows.{Ascend, pairs-num}
use Rattle.sound.specs.Items.{at}
use Rattle.sound.specs.Rows.{rises}
use Rattle.sound.proofs.Search.{ascend_at}

-- what stands in a list stands at an index, and what stands at an index in the list
pub index_of : {A : Type 0} (d : A) {x : A} (xs : List A) → x ∈ xs → (i : ℕ) × (i < length xs) × (get_or xs i d ≡ x)
index_of d (y ∷ xs) (Memᴰ.head e) = (0, omega arith, sym e)
index_of d (y ∷ xs) (Memᴰ.tail m) = let u = index_of d xs m in (suc u.0, omega (arith, u.1), u.2)
index_of d [] m = elim m [ ]

pub stands_at : {A : Type 0} (d : A) (xs : List A) (i : ℕ) → i < length xs → get_or xs i d ∈ xs
stands_at d [] i l = absurd (omega arith)
stands_at d (x ∷ xs) zero l = Memᴰ.head refl
stands_at d (x ∷ xs) (suc i) l = Memᴰ.tail (stands_at d xs i (omega arith))

-- what holds of each with every later one holds by index
pairs-at : {A : Type 0} (f : A → A → Bool) (d : A) (xs : List A) → pairs f xs ≡ true → (i j : ℕ) → i < j → j < length xs → f (get_or xs i d) (get_or xs j d) ≡ true
pairs-at f d [] o i j l b = absurd (omega arith)
pairs-at f d (x ∷ xs) o zero zero l b = absurd (omega arith)
pairs-at f d (x ∷ xs) o zero (suc j) l b = all_out (f x) (stands_at d xs j (omega arith)) (and_left _ _ o)
pairs-at f d (x ∷ xs) o (suc i) zero l b = absurd (omega arith)
pairs-at f d (x ∷ xs) o (suc i) (suc j) l b = pairs-at f d xs (and_right (all (f x) xs) _ o) i j (omega arith) (omega arith)

pub start-at : (rs : List Row) → rises rs ≡ true → (i j : ℕ) → i < j → j < length rs → start (at rs i) < start (at rs j)
start-at rs r i j l b = ltb-true (start (at rs i)) (start (at rs j)) (pairs-at (λ a b. ltb (start a) (start b)) zero_row rs r i j l b)

pub nums_at : (rs : List Row) (i : ℕ) → get_or (map num rs) i 0 ≡ num (at rs i)
nums_at [] i = refl
nums_at (r ∷ rs) zero = refl
nums_at (r ∷ rs) (suc i) = nums_at rs i

module _ (rs : List Row) (o : Ascend rs) where
  pub row_rising : (i j : ℕ) → i < j → j < length rs → num (at rs i) < num (at rs j)
  row_rising i j l b =
      let r = ascend_at (map num rs) (pairs-num rs o) i j l (omega (arith, length-map rs num)) in
      omega (arith, r, nums_at rs i, nums_at rs j)

  pub row_one : (i j : ℕ) → i < length rs → j < length rs → num (at rs i) ≡ num (at rs j) → i ≡ j
  row_one i j a b e = go (dec_lt i j) (dec_lt j i)
    where
      go : Dec (i < j) → Dec (j < i) → i ≡ j
      go (yes l) q = absurd (omega (arith, row_rising i j l b))
      go (no l) (yes q) = absurd (omega (arith, row_rising j i q a))
      go (no l) (no q) = omega arith

  pub row_order : (i j : ℕ) → i < length rs → j < length rs → num (at rs i) < num (at rs j) → i < j
  row_order i j a b e = go (dec_lt i j) (dec_lt j i)
    where
      go : Dec (i < j) → Dec (j < i) → i < j
      go (yes l) q = l
      go (no l) (yes q) = absurd (omega (arith, row_rising j i q a))
      go (no l) (no q) = let z : i ≡ j = omega arith in absurd (omega (arith, ap (λ (k : ℕ). num (at rs k)) z))

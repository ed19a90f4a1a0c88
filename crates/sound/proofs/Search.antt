-- A number looked for among the numbers of rows, which ascend. Assumes nothing.
use Rattle.std.proofs.Common.{ℕ, zero, suc, ◌≤◌, ◌<◌, ◌≡◌, refl, sym, ap, ◌∙◌, arith, Bool, true, false, ◌||◌, List, [], ◌∷◌, map, length, get_or, Result, Ok, Err, MatchResult, lt-ltb, ltb, ltb-true, not, ne_eqb}
use native.Mathlib.Decide.{dec_lt}
use Rattle.std.specs.List.Sorted.{IsBinarySearchResult}
use Rattle.std.specs.Ordering.{nat_cmp, ordering_index}
use Rattle.std.specs.Result.{is_ok}
use Rattle.std.proofs.Math.ListN.{length-map, get_or-map}
use Rattle.std.proofs.lemmas.List.Sorted.{searched}
use Rattle.terms.specs.declared.Row.{Row}
use Rattle.terms.specs.Words.{num, row}
use Rattle.rules.specs.Lists.{all, mem, pairs}
use Rattle.rules.specs.State.{State}
use Rattle.rules.specs.Sound.{based}
use Rattle.laws.proofs.Lists.{all_out, and_both, and_left, and_right, mem_in}
use Rattle.laws.proofs.Rows.{Ascend, pairs-num}
use Rattle.laws.proofs.Tables.{get_or-mem}
use Rattle.sound.specs.Base.{based_on, fair}
use Rattle.sound.specs.Items.{at}

-- a number that stands at no index
mem-none : (w : ℕ) (xs : List ℕ) → ((k : ℕ) → k < length xs → get_or xs k 0 ≡ w → ⊥) → mem w xs ≡ false
mem-none w [] h = refl
mem-none w (x ∷ xs) h = ap (λ (b : Bool). b || mem w xs) (ne_eqb x w (h 0 (omega arith))) ∙ mem-none w xs (λ k l. h (suc k) (omega arith))

-- ascending numbers ascend by index
pub ascend_at : (xs : List ℕ) → pairs ltb xs ≡ true → (i j : ℕ) → i < j → j < length xs → get_or xs i 0 < get_or xs j 0
ascend_at [] o i j l b = absurd (omega arith)
ascend_at (x ∷ xs) o zero zero l b = absurd (omega arith)
ascend_at (x ∷ xs) o zero (suc j) l b = ltb-true x (get_or xs j 0) (all_out (ltb x) (get_or-mem xs j (omega arith)) (and_left _ _ o))
ascend_at (x ∷ xs) o (suc i) zero l b = absurd (omega arith)
ascend_at (x ∷ xs) o (suc i) (suc j) l b = ascend_at xs (and_right (all (ltb x) xs) _ o) i j (omega arith) (omega arith)

-- ---- a number looked for among rows by ascending number
module _ (rs : List Row) (w : ℕ) where
  -- the search by number is one of the rows' numbers
  by_number : (r : Result ℕ ℕ) → IsBinarySearchResult (λ y. nat_cmp (num y) w) rs r → IsBinarySearchResult (λ n. nat_cmp n w) (map num rs) r
  by_number (Ok i) h = λ d. ap (λ (n : ℕ). nat_cmp n w) (get_or-map num rs i (row d 0 0)) ∙ h (row d 0 0)
  by_number (Err i) h = λ up.
      let p = h (λ i j d l b. go i j d (up i j (num d) l (omega (arith, length-map rs num)))) in (
        λ k d l b. ap (λ (n : ℕ). nat_cmp n w) (get_or-map num rs k (row d 0 0)) ∙ p.0 k (row d 0 0) l b,
        λ k d l b. ap (λ (n : ℕ). nat_cmp n w) (get_or-map num rs k (row d 0 0)) ∙ p.1 k (row d 0 0) l (omega (arith, length-map rs num)),
      )
    where
      go : (i j : ℕ) (d : Row) → ordering_index (nat_cmp (get_or (map num rs) i (num d)) w) ≤ ordering_index (nat_cmp (get_or (map num rs) j (num d)) w)
          → ordering_index (nat_cmp (num (get_or rs i d)) w) ≤ ordering_index (nat_cmp (num (get_or rs j d)) w)
      go i j d l = rw (← get_or-map num rs i d, ← get_or-map num rs j d) l

  pub found : Ascend rs → (r : Result ℕ ℕ) → IsBinarySearchResult (λ y. nat_cmp (num y) w) rs r → is_ok r ≡ mem w (map num rs)
  found o r h = go r (searched (map num rs) w r (by_number r h) rising)
    where
      rising : (i j : ℕ) → i ≤ j → j < length (map num rs) → get_or (map num rs) i 0 ≤ get_or (map num rs) j 0
      rising i j l b = step (dec_lt i j)
        where
          step : Dec (i < j) → get_or (map num rs) i 0 ≤ get_or (map num rs) j 0
          step (yes q) = omega (arith, ascend_at (map num rs) (pairs-num rs o) i j q b)
          step (no q) = let z : i ≡ j = omega arith in omega (arith, ap (λ (k : ℕ). get_or (map num rs) k 0) z)

      go : (r : Result ℕ ℕ) → MatchResult r (λ i. (i < length (map num rs)) × (get_or (map num rs) i 0 ≡ w)) (λ i. (i ≤ length (map num rs)) × ((k : ℕ) → k < i → get_or (map num rs) k 0 < w) × ((k : ℕ) → i ≤ k → k < length (map num rs) → w < get_or (map num rs) k 0))
          → is_ok r ≡ mem w (map num rs)
      go (Ok i) u = sym (ap (λ (k : ℕ). mem k (map num rs)) (sym u.1) ∙ mem_in (get_or (map num rs) i 0) (map num rs) (get_or-mem (map num rs) i u.0))
      go (Err i) u = sym (mem-none w (map num rs) (λ k b e. side k b e (dec_lt k i)))
        where
          side : (k : ℕ) → k < length (map num rs) → get_or (map num rs) k 0 ≡ w → Dec (k < i) → ⊥
          side k b e (yes q) = omega (arith, u.1 k q)
          side k b e (no q) = omega (arith, u.2 k (omega arith) b)

-- a number below the next and the first row's is a fair writer
pub lowest_fair : (next low : ℕ) (rs : List Row) → Ascend rs → low ≤ next → (0 < length rs → low ≤ num (at rs 0)) → (w : ℕ) → w < low → fair next (map num rs) w ≡ true
lowest_fair next low [] o b f w l = and_both _ _ (lt-ltb w next (omega arith)) refl
lowest_fair next low (r ∷ rs) o b f w l =
    let none : mem w (map num (r ∷ rs)) ≡ false = mem-none w (map num (r ∷ rs)) (λ k c e. side k c e (dec_lt 0 k)) in
    and_both _ _ (lt-ltb w next (omega arith)) (ap not none)
  where
    side : (k : ℕ) → k < length (map num (r ∷ rs)) → get_or (map num (r ∷ rs)) k 0 ≡ w → Dec (0 < k) → ⊥
    side k c e (yes q) = omega (arith, f (omega arith), ascend_at (map num (r ∷ rs)) (pairs-num (r ∷ rs) o) 0 k q c)
    side k c e (no q) = let z : k ≡ 0 = omega arith in omega (arith, f (omega arith), ap (λ (i : ℕ). get_or (map num (r ∷ rs)) i 0) z)

-- the sentence, over the numbers of the state's rows
pub based-is : (s : State) → based_on s.next (map num s.rows) s.writers ≡ based s
unfolding based_on based
based-is s = refl

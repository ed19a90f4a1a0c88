-- Sets as numbers: what is in a union, in a set with one more, in what two share, in a difference. Of any width w. Assumes nothing.
use mathlib.Core.Path.{◌≡◌, refl, sym, ap, subst, ◌∙◌}
use mathlib.Core.Bool.{Bool, true, false, not, ◌||◌, ◌&&◌}
use mathlib.Core.List.{List}
use Prim.Native.Nat.{ℕ, zero, suc, ◌+◌, ◌-◌, ◌/◌, ◌%◌, ◌^◌, ◌≤◌, ◌<◌, max, min}
use native.Mathlib.Nat.{mod-eq_of_lt, div-one}
use native.Mathlib.Numerals.{add-one, one-add}
use native.Mathlib.Decide.{dec_lt, ℕ_discrete}
use native.Mathlib.Omega.{arith}
use lib.Dec.{T, eqb, eqb→eq, T_not, not_T}
use lib.Bits.{bit_or, bit_and, bit_xor, and_lt, and_mask, xor_add_and}
use Rattle.std.specs.Int.{bit_at}
use Rattle.std.proofs.lemmas.Nat.Bits.{bit_at_or, bit_at_and, bit_at_xor, bit_at-lt, bit_at_above, bit_at-zero, bit_at-pow_same, bit_at-pow_other, bit_at_ones, same_from_bits_below}
use lib.Count.{count_trailing_zeros, under}
use lib.Pow.{shr-shr, shr_lt}
use lib.ListN.{get_or, length, get_or-eq_default}
use mir.Facts.{and_yes, yes_and}
use borrow.Author.Tests.{eq-eqb, ne_eqb, eqb-false}
use Rattle.rules.specs.Lists.{any, upfrom}
use Rattle.graph.specs.Sets.{digit, member, edges, outside, apart}
use Rattle.graph.proofs.Tests.{fails, failed, same}
use Rattle.laws.proofs.Lists.{T_in, T_out}
use Rattle.graph.proofs.Below.{any_below, below_any}

-- what holds of 0 and 1 holds of every digit
on_digits : (P : ℕ → ℕ → Type 0) → P 0 0 → P 0 1 → P 1 0 → P 1 1 → (x y : ℕ) → x < 2 → y < 2 → P x y
on_digits P a b c d zero zero p q = a
on_digits P a b c d zero (suc zero) p q = b
on_digits P a b c d zero (suc (suc y)) p q = absurd (omega arith)
on_digits P a b c d (suc zero) zero p q = c
on_digits P a b c d (suc zero) (suc zero) p q = d
on_digits P a b c d (suc zero) (suc (suc y)) p q = absurd (omega arith)
on_digits P a b c d (suc (suc x)) y p q = absurd (omega arith)

pub member_or : (a b i : ℕ) → member (bit_or a b) i ≡ (member a i || member b i)
unfolding member digit
member_or a b i = rw bit_at_or (on_digits (λ x y. eqb (max x y) 1 ≡ (eqb x 1 || eqb y 1)) refl refl refl refl _ _ (bit_at-lt a i) (bit_at-lt b i))

pub member_and : (a b i : ℕ) → member (bit_and a b) i ≡ (member a i && member b i)
unfolding member digit
member_and a b i = rw bit_at_and (on_digits (λ x y. eqb (min x y) 1 ≡ (eqb x 1 && eqb y 1)) refl refl refl refl _ _ (bit_at-lt a i) (bit_at-lt b i))

-- a set has no member past its width
pub member_past : (w m i : ℕ) → m < 2 ^ w → w ≤ i → member m i ≡ false
unfolding member digit
member_past w m i h l = ap (λ (d : ℕ). eqb d 1) (bit_at_above m w i h l)

pub member_lt : (w m i : ℕ) → m < 2 ^ w → T (member m i) → i < w
member_lt w m i h t = go (dec_lt i w)
  where
    go : Dec (i < w) → i < w
    go (yes k) = k
    go (no k) = absurd (failed (member_past w m i h (omega arith)) t)

-- the number 0 has no member
pub member-zero : (i : ℕ) → member 0 i ≡ false
unfolding member digit
member-zero i = ap (λ (d : ℕ). eqb d 1) (bit_at-zero i)

-- ---- a set of one

pub member_one : (i j : ℕ) → member (2 ^ i) j ≡ eqb i j
unfolding member digit
member_one i j = go (ℕ_discrete i j)
  where
    go : Dec (i ≡ j) → member (2 ^ i) j ≡ eqb i j
    go (yes e) = subst (λ (k : ℕ). member (2 ^ i) k ≡ eqb i k) e (ap (λ (d : ℕ). eqb d 1) (bit_at-pow_same i) ∙ sym (eq-eqb i i refl))
    go (no n) = ap (λ (d : ℕ). eqb d 1) (bit_at-pow_other i j (λ e. n (sym e))) ∙ sym (ne_eqb i j n)

-- a set with i added
pub member_with : (m i j : ℕ) → member (bit_or m (2 ^ i)) j ≡ (member m j || eqb i j)
member_with m i j = member_or m (2 ^ i) j ∙ ap (λ (b : Bool). member m j || b) (member_one i j)

-- the lowest set digit is a member
pub member-lowest : (w m : ℕ) → 0 < m → m < 2 ^ w → T (member m (count_trailing_zeros w m))
unfolding count_trailing_zeros member digit
member-lowest zero m p h = absurd (omega arith)
member-lowest (suc w) m p h = go (m % 2) refl (λ q. member-lowest w (m / 2) q (shr_lt w 1 (subst (λ (k : ℕ). m < 2 ^ k) (sym (add-one w)) h)))
  where
    go : (d : ℕ) → m % 2 ≡ d → (0 < m / 2 → T (member (m / 2) (count_trailing_zeros w (m / 2)))) → T (member m (under d (count_trailing_zeros w (m / 2))))
    go zero e rest =
        let t = count_trailing_zeros w (m / 2) in
        subst (λ (n : ℕ). T (eqb (n % 2) 1)) (shr-shr m 1 t ∙ ap (λ (k : ℕ). m / 2 ^ k) (one-add t)) (rest (omega arith))
    go (suc d) e rest =
        let one : m % 2 ≡ 1 = omega arith in
        subst (λ (n : ℕ). T (eqb (n % 2) 1)) (sym (div-one m)) (T_in (eq-eqb (m % 2) 1 one))

-- ---- what is not in a set

-- all digits below w are set
pub member_ones : (w i : ℕ) → i < w → member (2 ^ w - 1) i ≡ true
unfolding member digit
member_ones w i h = ap (λ (d : ℕ). eqb d 1) (bit_at_ones w i h)

pub member-not : (w b i : ℕ) → b < 2 ^ w → i < w → member (2 ^ w - 1 - b) i ≡ not (member b i)
unfolding member digit
member-not w b i hb h =
    let flip : bit_xor b (2 ^ w - 1) ≡ 2 ^ w - 1 - b = omega (arith, xor_add_and b (2 ^ w - 1), and_mask b w ∙ mod-eq_of_lt hb) in
    rw (← flip, bit_at_xor, bit_at_ones w i h) (on_digits (λ x y. eqb ((x + 1) % 2) 1 ≡ not (eqb x 1)) refl refl refl refl _ 0 (bit_at-lt b i) (omega arith))

pub member-outside : (w a b i : ℕ) → a < 2 ^ w → b < 2 ^ w → member (outside w a b) i ≡ (member a i && not (member b i))
unfolding outside
member-outside w a b i ha hb = member_and a (2 ^ w - 1 - b) i ∙ go (dec_lt i w)
  where
    go : Dec (i < w) → (member a i && member (2 ^ w - 1 - b) i) ≡ (member a i && not (member b i))
    go (yes h) = ap (λ (t : Bool). member a i && t) (member-not w b i hb h)
    go (no h) = rw (member_past w a i ha (omega arith))

pub outside_in : (w a b i : ℕ) → a < 2 ^ w → b < 2 ^ w → T (member (outside w a b) i) → T (member a i) × T (not (member b i))
outside_in w a b i ha hb t = and_yes (member a i) (not (member b i)) (subst T (member-outside w a b i ha hb) t)

-- where nothing of a is outside b, all of it is inside
pub outside-none : (w a b i : ℕ) → a < 2 ^ w → b < 2 ^ w → outside w a b ≡ 0 → T (member a i) → T (member b i)
outside-none w a b i ha hb z t = go (member b i) refl
  where
    go : (c : Bool) → member b i ≡ c → T c
    go true e = tt
    go false e =
        failed (sym (member-outside w a b i ha hb) ∙ ap (λ (n : ℕ). member n i) z ∙ member-zero i)
        (yes_and (member a i) (not (member b i)) t (T_in (ap not e)))

-- ---- a set is known by its members

-- a set with no member is 0
pub none-zero : (w m : ℕ) → m < 2 ^ w → ((j : ℕ) → j < w → member m j ≡ false) → m ≡ 0
unfolding member digit
none-zero w m h n =
    same_from_bits_below w m 0 h (omega arith)
    (λ i l. let z = eqb-false (bit_at m i) 1 (n i l) in omega (arith, bit_at-lt m i, bit_at-zero i, z))

-- ---- a table of sets

-- the edges of a table of w sets of w digits lie below w
pub edges_bound : (w : ℕ) (g : List ℕ) → length g ≡ w → ((i : ℕ) → get_or g i 0 < 2 ^ w) → (i j : ℕ) → T (edges g i j) → (i < w) × (j < w)
unfolding edges
edges_bound w g l f i j t = (go (dec_lt i w), member_lt w (get_or g i 0) j (f i) t)
  where
    go : Dec (i < w) → i < w
    go (yes h) = h
    go (no h) = absurd (failed (ap (λ (n : ℕ). member n j) (get_or-eq_default g 0 (omega arith)) ∙ member-zero j) t)

-- ---- two sets that share nothing

abbrev shared : ℕ → ℕ → ℕ → Bool
shared a b i = member a i && member b i

pub apart_out : (w a b : ℕ) → apart w a b ≡ true → (j : ℕ) → j < w → (member a j && member b j) ≡ false
unfolding apart
apart_out w a b h j l = fails _ (λ t. T_not (any (shared a b) (upfrom 0 w)) (T_in h) (any_below w (shared a b) j l t))

pub apart_in : (w a b : ℕ) → ((j : ℕ) → j < w → (member a j && member b j) ≡ false) → apart w a b ≡ true
unfolding apart
apart_in w a b h =
    T_out _ (not_T (any (shared a b) (upfrom 0 w)) (λ t. let u = below_any w (shared a b) t in failed (h u.0 u.1) u.2))

pub apart-is : (w a b : ℕ) → a < 2 ^ w → b < 2 ^ w → eqb (bit_and a b) 0 ≡ apart w a b
apart-is w a b ha hb =
    same _ _
    (λ t. T_in (apart_in w a b (λ j l. sym (member_and a b j) ∙ ap (λ (m : ℕ). member m j) (eqb→eq _ 0 t) ∙ member-zero j)))
    (λ t. T_in (eq-eqb _ 0 (none-zero w (bit_and a b) (and_lt w a b ha hb) (λ j l. member_and a b j ∙ apart_out w a b (T_out _ t) j l))))

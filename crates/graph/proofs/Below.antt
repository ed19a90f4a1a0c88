-- Tests on the numbers below n: whether one of them passes, all their values as a list, and how many fail. Assumes nothing.
use mathlib.Core.Path.{◌≡◌, refl, sym, ap₂, ◌∙◌, subst}
use mathlib.Core.Logic.{⊎_elim}
use mathlib.Core.Bool.{Bool, true, false, not}
use mathlib.Core.List.{◌∷◌, map}
use Prim.Native.Nat.{ℕ, zero, suc, ◌+◌, ◌≤◌, ◌<◌}
use native.Mathlib.Nat.{add-zero, add-suc, suc-add, zero-add}
use native.Mathlib.Decide.{dec_lt, ℕ_discrete}
use native.Mathlib.Omega.{arith}
use lib.Dec.{T}
use lib.ListN.{length, length-map, get_or-eq_default}
use mir.Facts.{or_yes}
use Rattle.rules.specs.Lists.{any, upfrom}
use Rattle.rules.specs.Graph.{Nodes}
use Rattle.graph.specs.Reach.{tab, on}
use Rattle.graph.specs.Visit.{unless, free}
use Rattle.graph.proofs.Tests.{or_left, or_right, failed, same}

-- ---- one of them passes

any_from : (n k : ℕ) (s : Nodes) (i : ℕ) → k ≤ i → i < k + n → T (s i) → T (any s (upfrom k n))
any_from zero k s i h l t = absurd (omega arith)
any_from (suc n) k s i h l t = go (λ g. any_from n (suc k) s i g (omega arith) t) (ℕ_discrete i k)
  where
    go : (suc k ≤ i → T (any s (upfrom (suc k) n))) → Dec (i ≡ k) → T (any s (upfrom k (suc n)))
    go f (yes e) = or_left (s k) _ (subst (λ (z : ℕ). T (s z)) e t)
    go f (no d) = or_right (s k) _ (f (omega arith))

from_any : (n k : ℕ) (s : Nodes) → T (any s (upfrom k n)) → (i : ℕ) × (k ≤ i) × (i < k + n) × T (s i)
from_any (suc n) k s t =
    ⊎_elim (λ h. (k, omega arith, omega arith, h))
    (λ h. let r = from_any n (suc k) s h in (r.0, omega (arith, r.1), omega (arith, r.2), r.3)) (or_yes (s k) _ t)
from_any zero k s t = elim t [ ]

pub any_below : (n : ℕ) (s : Nodes) (i : ℕ) → i < n → T (s i) → T (any s (upfrom 0 n))
any_below n s i h t = any_from n 0 s i (omega arith) (omega arith) t

pub below_any : (n : ℕ) (s : Nodes) → T (any s (upfrom 0 n)) → (i : ℕ) × (i < n) × T (s i)
below_any n s t = let r = from_any n 0 s t in (r.0, omega (arith, r.2), r.3)

-- ---- their values as a list

length-upfrom : (k n : ℕ) → length (upfrom k n) ≡ n
length-upfrom k zero = refl
length-upfrom k (suc n) = rw (length-upfrom (suc k) n)

on_from : (n k : ℕ) (s : Nodes) (i : ℕ) → i < n → on (map s (upfrom k n)) i ≡ s (k + i)
on_from zero k s i h = absurd (omega arith)
on_from (suc n) k s zero h = rw add-zero
on_from (suc n) k s (suc i) h = on_from n (suc k) s i (omega arith) ∙ rw (suc-add, add-suc)

pub on_tab : (n : ℕ) (s : Nodes) (i : ℕ) → i < n → on (tab n s) i ≡ s i
on_tab n s i h = on_from n 0 s i h ∙ rw zero-add

pub on_lt : (n : ℕ) (s : Nodes) (i : ℕ) → T (on (tab n s) i) → i < n
on_lt n s i t = go (dec_lt i n)
  where
    go : Dec (i < n) → i < n
    go (yes h) = h
    go (no h) = absurd (failed (get_or-eq_default (tab n s) false (omega (arith, length-map (upfrom 0 n) s, length-upfrom 0 n))) t)

-- ---- tests that agree on them

same_from : (n k : ℕ) (s r : Nodes) → ((i : ℕ) → k ≤ i → i < k + n → s i ≡ r i) → map s (upfrom k n) ≡ map r (upfrom k n)
same_from zero k s r h = refl
same_from (suc n) k s r h = ap₂ ◌∷◌ (h k (omega arith) (omega arith)) (same_from n (suc k) s r (λ i a b. h i (omega arith) (omega arith)))

pub tab-same : (n : ℕ) (s r : Nodes) → ((i : ℕ) → i < n → s i ≡ r i) → tab n s ≡ tab n r
tab-same n s r h = same_from n 0 s r (λ i a b. h i (omega arith))

pub any_same : (n : ℕ) (s r : Nodes) → ((i : ℕ) → i < n → s i ≡ r i) → any s (upfrom 0 n) ≡ any r (upfrom 0 n)
any_same n s r h =
    same _ _
    (λ t. let u = below_any n s t in any_below n r u.0 u.1 (subst T (h u.0 u.1) u.2))
    (λ t. let u = below_any n r t in any_below n s u.0 u.1 (subst T (sym (h u.0 u.1)) u.2))

-- ---- how many fail

unless_more : (a b : Bool) (m n : ℕ) → (T a → T b) → m ≤ n → unless b m ≤ unless a n
unless_more true true m n f h = h
unless_more true false m n f h = absurd (f tt)
unless_more false true m n f h = omega arith
unless_more false false m n f h = omega arith

unless_less : (a b : Bool) (m n : ℕ) → (T a → T b) → m < n → unless b m < unless a n
unless_less true true m n f h = h
unless_less true false m n f h = absurd (f tt)
unless_less false true m n f h = omega arith
unless_less false false m n f h = omega arith

unless_new : (a b : Bool) (m n : ℕ) → T (not a) → T b → m ≤ n → unless b m < unless a n
unless_new false true m n p q h = omega arith
unless_new false false m n p q h = elim q [ ]
unless_new true b m n p q h = elim p [ ]

unless-le : (b : Bool) (m n : ℕ) → m ≤ n → unless b m ≤ suc n
unless-le true m n h = omega arith
unless-le false m n h = omega arith

unless-none : (b : Bool) (m : ℕ) → unless b m ≤ 0 → T b × (m ≤ 0)
unless-none true m h = (tt, h)
unless-none false m h = absurd (omega arith)

pub free-le : (n : ℕ) (s : Nodes) → free n s ≤ n
unfolding free
free-le zero s = omega arith
free-le (suc n) s = unless-le (s n) (free n s) n (free-le n s)

-- a larger set leaves no more
pub free-grows : (n : ℕ) (s r : Nodes) → ((i : ℕ) → T (s i) → T (r i)) → free n r ≤ free n s
unfolding free
free-grows zero s r h = omega arith
free-grows (suc n) s r h = unless_more (s n) (r n) (free n r) (free n s) (h n) (free-grows n s r h)

-- a set with one more leaves less
pub free_falls : (n : ℕ) (s r : Nodes) (a : ℕ) → a < n → ((i : ℕ) → T (s i) → T (r i)) → T (not (s a)) → T (r a) → free n r < free n s
unfolding free
free_falls zero s r a h g p q = absurd (omega arith)
free_falls (suc n) s r a h g p q = go (λ l. free_falls n s r a l g p q) (ℕ_discrete a n)
  where
    go : (a < n → free n r < free n s) → Dec (a ≡ n) → free (suc n) r < free (suc n) s
    go less (yes e) =
        unless_new (s n) (r n) (free n r) (free n s) (subst (λ (z : ℕ). T (not (s z))) e p) (subst (λ (z : ℕ). T (r z)) e q) (free-grows n s r g)
    go less (no f) = unless_less (s n) (r n) (free n r) (free n s) (g n) (less (omega arith))

-- a set that leaves none has them all
pub free-none : (n : ℕ) (s : Nodes) → free n s ≤ 0 → (i : ℕ) → i < n → T (s i)
unfolding free
free-none zero s h i l = absurd (omega arith)
free-none (suc n) s h i l = go (λ k. free-none n s (unless-none (s n) (free n s) h).1 i k) (ℕ_discrete i n)
  where
    go : (i < n → T (s i)) → Dec (i ≡ n) → T (s i)
    go f (yes e) = subst (λ (z : ℕ). T (s z)) (sym e) (unless-none (s n) (free n s) h).0
    go f (no d) = f (omega arith)

-- Places in order, tables of zeros, and parts of a table. Assumes nothing.
use Prim.Native.Nat.{ℕ, zero, suc, ◌+◌, ◌-◌, ◌≤◌, ◌<◌}
use native.Mathlib.Decide.{dec_lt}
use native.Mathlib.Omega.{arith}
use mathlib.Core.Bool.{Bool, true, false}
use mathlib.Core.List.{List}
use mathlib.Core.Path.{◌≡◌, refl, sym, ap, ◌∙◌}
use lib.Dec.{ltb}
use lib.ListN.{length, get_or, drop, take, replicate, length-take, length-drop}
use lib.Seq.{take_all}
use borrow.Author.Tests.{lt-ltb, le-ltb}
use Rattle.lists.specs.Tables.{first_index}
use Rattle.lists.proofs.Untils.{until_first, length-until}
use Rattle.graph.proofs.Sets.{member-zero}
use Rattle.edges.specs.Blocks.{has}

-- ---- numbers in order
pub ltb_next : (j a : ℕ) → (a ≡ j → ⊥) → ltb j (a + 1) ≡ ltb j a
ltb_next j a n = go (dec_lt j a)
  where
    go : Dec (j < a) → ltb j (a + 1) ≡ ltb j a
    go (yes h) = lt-ltb j (a + 1) (omega arith) ∙ sym (lt-ltb j a h)
    go (no h) = le-ltb j (a + 1) (omega arith) ∙ sym (le-ltb j a (omega arith))

pub ltb-here : (a : ℕ) → ltb a (a + 1) ≡ true
ltb-here a = lt-ltb a (a + 1) (omega arith)

pub ltb_self : (a : ℕ) → ltb a a ≡ false
ltb_self a = le-ltb a a (omega arith)

pub get_or_zeros : (n e : ℕ) → ◌≡◌ {A = ℕ} (get_or {A = ℕ} (replicate n 0) e 0) 0
get_or_zeros zero e = refl
get_or_zeros (suc n) zero = refl
get_or_zeros (suc n) (suc e) = get_or_zeros n e

-- a table of empty sets
pub has_zeros : (n e j : ℕ) → has (replicate n 0) e j ≡ false
has_zeros n e j = rw (get_or_zeros n e) (member-zero j)

pub first_most : {A : Type 0} (p : A → Bool) (xs : List A) → first_index p xs ≤ length xs
first_most p xs = omega (arith, length-until p xs, ap length (until_first p xs), length-take (first_index p xs) xs)

-- a part of a slice from a place to its end
pub part_end : {A : Type 0} (k : ℕ) (xs : List A) → k ≤ length xs → take (length xs - k) (drop k xs) ≡ drop k xs
part_end k xs h = take_all (length xs - k) (drop k xs) (omega (arith, length-drop k xs))

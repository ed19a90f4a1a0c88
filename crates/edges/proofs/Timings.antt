-- Sets of the rows that pass a test, row after row. Assumes nothing.
use Prim.Native.Nat.{ℕ, ◌+◌, ◌^◌}
use native.Mathlib.Decide.{ℕ_discrete}
use native.Mathlib.Omega.{arith}
use mathlib.Core.Bool.{Bool, true, false, not, ◌&&◌, ◌||◌, or-false}
use mathlib.Core.List.{List}
use mathlib.Core.Path.{◌≡◌, refl, sym, ap, subst, ◌∙◌}
use lib.Bits.{bit_or}
use lib.Dec.{eqb}
use borrow.Author.Tests.{eq-eqb, ne_eqb, le-ltb, le-leb, lt-leb}
use Rattle.terms.specs.Words.{done, committed}
use Rattle.terms.specs.declared.Row.{Row}
use Rattle.graph.specs.Sets.{member}
use Rattle.graph.proofs.Sets.{member-zero, member_with}
use Rattle.edges.specs.Blocks.{at}
use Rattle.edges.specs.Times.{placed, since}
use Rattle.edges.proofs.Indexes.{ltb_next, ltb-here, ltb_self}

module _ (f : Row → Bool) (rs : List Row) (b : ℕ) where
  pub placed_other : (j : ℕ) → (b ≡ j → ⊥) → placed f rs (b + 1) j ≡ placed f rs b j
  placed_other j n = ap (λ (t : Bool). t && f (at rs j)) (ltb_next j b n)

  pub placed_self : placed f rs (b + 1) b ≡ f (at rs b)
  placed_self = ap (λ (t : Bool). t && f (at rs b)) (ltb-here b)

  pub placed-not : placed f rs b b ≡ false
  placed-not = ap (λ (t : Bool). t && f (at rs b)) (ltb_self b)

  -- a row that does not pass adds nothing
  pub placed_skip : f (at rs b) ≡ false → (j : ℕ) → placed f rs (b + 1) j ≡ placed f rs b j
  placed_skip c j = go (ℕ_discrete b j)
    where
      go : Dec (b ≡ j) → placed f rs (b + 1) j ≡ placed f rs b j
      go (yes q) = subst (λ (i : ℕ). placed f rs (b + 1) i ≡ placed f rs b i) q (placed_self ∙ c ∙ sym placed-not)
      go (no n) = placed_other j n

pub placed-zero : (f : Row → Bool) (rs : List Row) (j : ℕ) → placed f rs 0 j ≡ false
placed-zero f rs j = ap (λ (t : Bool). t && f (at rs j)) (le-ltb j 0 (omega arith))

-- ---- the set of the rows that pass
pub set-start : (f : Row → Bool) (rs : List Row) (j : ℕ) → member 0 j ≡ placed f rs 0 j
set-start f rs j = member-zero j ∙ sym (placed-zero f rs j)

pub set_next : (f : Row → Bool) (rs : List Row) (b m : ℕ) {r : ℕ} → ((j : ℕ) → member m j ≡ placed f rs b j) → r ≡ bit_or m (2 ^ b) → f (at rs b) ≡ true → (j : ℕ) → member r j ≡ placed f rs (b + 1) j
set_next f rs b m {r} h q c j = ap (λ (k : ℕ). member k j) q ∙ member_with m b j ∙ go (ℕ_discrete b j)
  where
    go : Dec (b ≡ j) → (member m j || eqb b j) ≡ placed f rs (b + 1) j
    go (yes e) = subst (λ (i : ℕ). (member m i || eqb b i) ≡ placed f rs (b + 1) i) e (rw (h b, placed-not f rs b, eq-eqb b b refl) (sym (placed_self f rs b ∙ c)))
    go (no n) = rw (ne_eqb b j n) (or-false _ ∙ h j ∙ sym (placed_other f rs b j n))

-- a row committed at moment 1 or later is committed
pub since_one : (r : Row) → since 1 r ≡ committed r
since_one r = go (ℕ_discrete (done r) 0)
  where
    go : Dec (done r ≡ 0) → since 1 r ≡ committed r
    go (yes e) = lt-leb 1 (done r) (omega arith) ∙ sym (ap not (eq-eqb (done r) 0 e))
    go (no n) = le-leb 1 (done r) (omega arith) ∙ sym (ap not (ne_eqb (done r) 0 n))

-- Tests as facts: `T b` says that the test b is passed. Assumes nothing.
use mathlib.Core.Path.{◌≡◌, refl, sym, subst}
use mathlib.Core.Bool.{Bool, true, false, ◌||◌}
use lib.Dec.{T}
use Rattle.laws.proofs.Lists.{T_out}

pub fails : (b : Bool) → (T b → ⊥) → b ≡ false
fails true f = absurd (f tt)
fails false f = refl

pub failed : {b : Bool} → b ≡ false → T b → ⊥
failed e t = subst T e t

pub or_left : (a b : Bool) → T a → T (a || b)
or_left true b t = tt
or_left false b t = elim t [ ]

pub or_right : (a b : Bool) → T b → T (a || b)
or_right true b t = tt
or_right false b t = t

-- tests that are passed together are equal
pub same : (a b : Bool) → (T a → T b) → (T b → T a) → a ≡ b
same true b f g = sym (T_out b (f tt))
same false b f g = sym (fails b g)

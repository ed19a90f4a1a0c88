-- One turn of a visit: the row that is taken is of `from` and is not marked; with it marked, less is left. Assumes nothing.
use Prim.Native.Nat.{ℕ, ◌<◌, ◌^◌}
use mathlib.Core.Path.{◌≡◌, ◌∙◌, ap, subst}
use mathlib.Core.Bool.{not}
use lib.Bits.{bit_or}
use lib.Dec.{T}
use Rattle.graph.specs.Sets.{member, outside}
use Rattle.graph.specs.Visit.{free}
use Rattle.graph.proofs.Sets.{member_with, outside_in}
use Rattle.graph.proofs.Visits.{Marked, marked-free}

module _ (w : ℕ) {from s rest i : ℕ} (small : from < 2 ^ w) (small_s : s < 2 ^ w) (is : rest ≡ outside w from s) (in_rest : (i < w) × T (member rest i)) where
  pub taken : T (member from i) × T (not (member s i))
  taken = outside_in w from s i small small_s (subst (λ (n : ℕ). T (member n i)) is in_rest.1)

  module _ {s' : ℕ} (with_i : s' ≡ bit_or s (2 ^ i)) where
    pub marked : Marked i (member s) (member s')
    marked j = ap (λ (n : ℕ). member n j) with_i ∙ member_with s i j

    pub less : free w (member s') < free w (member s)
    less = marked-free i (member s) (member s') marked w in_rest.0 taken.1

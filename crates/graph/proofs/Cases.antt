-- Worked cases of the computed definitions, on tables of three rows and on a chain of thirty-two. Assumes nothing.
use mathlib.Core.Path.{◌≡◌, refl}
use mathlib.Core.Bool.{true, false}
use mathlib.Core.List.{List, [], ◌∷◌, map}
use Prim.Native.Nat.{ℕ, suc}
use lib.Dec.{eqb}
use Rattle.rules.specs.Lists.{upfrom}
use Rattle.graph.specs.Sets.{digit, member, edges, apart, outside}
use Rattle.graph.specs.Reach.{spread, reachable, ringed}

-- 0 leads to 1, 1 to 2, and 2 to 0
round : List ℕ
round = 2 ∷ 4 ∷ 1 ∷ []

-- 0 leads to 1 and 2, and 1 to 2
triangle : List ℕ
triangle = 6 ∷ 4 ∷ 0 ∷ []

rings : map (ringed 3 (edges round)) (upfrom 0 3) ≡ true ∷ true ∷ true ∷ []
unfolding round digit member edges spread reachable ringed
rings = refl

no_rings : map (ringed 3 (edges triangle)) (upfrom 0 3) ≡ false ∷ false ∷ false ∷ []
unfolding triangle digit member edges spread reachable ringed
no_rings = refl

from_one : map (reachable 3 (edges triangle) (eqb 1)) (upfrom 0 4) ≡ false ∷ true ∷ true ∷ false ∷ []
unfolding triangle digit member edges spread reachable ringed
from_one = refl

chain : reachable 32 (λ a b. eqb (suc a) b) (eqb 0) 31 ≡ true
unfolding spread reachable
chain = refl

sets : (apart 3 5 2 ≡ true) × (apart 3 5 4 ≡ false) × (outside 3 7 2 ≡ 5)
unfolding digit member apart outside
sets = (refl, refl, refl)

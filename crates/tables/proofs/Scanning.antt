-- Scans that stop at the first unused element: what the used rest gives is what was asked for. Assumes nothing.
use Prim.Native.Nat.{ℕ, ◌+◌, ◌≤◌, ◌<◌}
use mathlib.Core.Bool.{Bool, true, false}
use mathlib.Core.List.{List, [], ◌∷◌}
use mathlib.Core.Path.{◌∙◌, ◌≡◌, ap}
use lib.ListN.{length, get_or}
use Rattle.rules.specs.Lists.{until}
use Rattle.lists.proofs.Scans.{Going, go_done, go_here, go_next, go_start}
use Rattle.lists.proofs.Untils.{stop}

-- the scan has come to index j: f of the used ones that are left is the answer v
pub record Scanning {A B : Type 0} (p : A → Bool) (xs : List A) (f : List A → B) (v : B) (j : ℕ) : Type 0 where
  pub going : Going xs (λ ys. f (until p ys)) v j

module _ {A B : Type 0} {p : A → Bool} {xs : List A} where
  pub scan_start : {f : List A → B} → Scanning p xs f (f (until p xs)) 0
  scan_start {f} = record { going = go_start }

  module _ {f : List A → B} {v : B} {j : ℕ} (s : Scanning p xs f v j) where
    -- g of the rest is f of the rest with the used element at j in front
    pub scan_next : (d : A) (g : List A → B) → j < length xs → p (get_or xs j d) ≡ false → ((ys : List A) → f (get_or xs j d ∷ ys) ≡ g ys) → Scanning p xs g v (j + 1)
    scan_next d g l e h =
        record { going = go_next s.going d (λ ys. g (until p ys)) l (λ ys. ap (λ (b : Bool). f (stop b (get_or xs j d) (until p ys))) e ∙ h (until p ys)) }

    -- the element at j is unused
    pub scan_stop : (d : A) → j < length xs → p (get_or xs j d) ≡ true → f [] ≡ v
    scan_stop d l e = go_here s.going d l (λ ys. ap (λ (b : Bool). f (stop b (get_or xs j d) (until p ys))) e)

    pub scan_done : length xs ≤ j → f [] ≡ v
    scan_done l = go_done s.going l

-- The words of serial runs, tried: an order that is right, one that is wrong, and lines that no order fits. Assumes nothing.
use Prim.Native.Nat.{ℕ}
use mathlib.Core.Path.{◌≡◌, refl}
use mathlib.Core.List.{List, [], ◌∷◌}
use native.Mathlib.Omega.{arith}
use lib.ListN.{get_or}
use Rattle.std.specs.Prelude.{Ok}
use Rattle.rules.specs.State.{opened}
use Rattle.rules.specs.Machine.{Call, Line, lines, history}
use Rattle.rules.specs.Serial.{committers, in_turn, Store, Fits, newest_put}
use Rattle.rules.specs.Book.{book}
use Rattle.rules.specs.Parlour.{begin, read, write, commit, abort}

abbrev zeros : Store
zeros i = get_or (0 ∷ 0 ∷ []) i 0

-- P6, with an aborted third: 2 commits first, and 1 goes first
abbrev p6 : List Call
p6 =
    begin ∷ begin ∷ begin ∷ read 1 0 ∷ read 1 1 ∷ read 2 1 ∷ write 2 1 20 ∷ write 3 0 7 ∷ commit 2 ∷ abort 3 ∷ write 1 0 8 ∷ write 1 0 9 ∷ read 1 0
    ∷ commit 1 ∷ []

abbrev told : List Line
told = lines (history 32 256) (opened (0 ∷ 0 ∷ [])) p6

p6-committed : committers told ≡ (2 ∷ 1 ∷ [])
unfolding book
p6-committed = refl

p6_right : Fits zeros (in_turn told (1 ∷ 2 ∷ []))
unfolding book
p6_right = (refl, (refl, (refl, (refl, tt))))

-- each item's newest committed value
p6-newest : (newest_put told 0 0 (committers told) ≡ 9) × (newest_put told 1 0 (committers told) ≡ 20)
unfolding book
p6-newest = (refl, refl)

p6_wrong : Fits zeros (in_turn told (2 ∷ 1 ∷ [])) → ⊥
unfolding book
p6_wrong f = let e : ◌≡◌ {A = ℕ} 20 0 = f.1.1.0 in omega arith

-- two that each read what the other wrote: no order fits
abbrev skew : List Line
skew =
    (begin, Ok 1) ∷ (begin, Ok 2) ∷ (read 1 0, Ok 0) ∷ (read 2 1, Ok 0) ∷ (write 1 1 40, Ok 0) ∷ (write 2 0 50, Ok 0)
    ∷ (commit 1, Ok 3) ∷ (commit 2, Ok 4) ∷ []

skew_wrong : (Fits zeros (in_turn skew (1 ∷ 2 ∷ [])) → ⊥) × (Fits zeros (in_turn skew (2 ∷ 1 ∷ [])) → ⊥)
unfolding book
skew_wrong = (λ f. let e : ◌≡◌ {A = ℕ} 40 0 = f.1.0 in omega arith, λ f. let e : ◌≡◌ {A = ℕ} 50 0 = f.1.0 in omega arith)

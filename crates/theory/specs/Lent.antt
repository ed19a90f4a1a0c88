-- Demands 2 and 3 of lent tables: the functions that the contracts of the public calls cite, one after another. Of boards of any sizes,
-- n rows and m records. Assumes nothing.
use Rattle.std.specs.Prelude.{ℕ, false, true, List, ◌++◌, ◌∷◌, map, ◌≡◌, Ok}
use Rattle.rules.specs.Lists.{all, any}
use Rattle.rules.specs.Machine.{Call, Line, Open, history, lines, states}
use Rattle.rules.specs.Public.{in_range, lines_on, open_on, raws_on}
use Rattle.rules.specs.Raw.{Raw, raw_of, sound_raw, state_of}
use Rattle.rules.specs.Serial.{Serial, opening}
use Rattle.rules.specs.Spent.{prune}
use Rattle.rules.specs.State.{State, opened}

-- Tables w and a state s, called alike: each answer is the history machine's, the tables hold after each call the history pruned, with
-- all their padding, and they are sound.
abbrev pub Follows : ℕ → ℕ → Raw → State → List Call → Type 0
Follows n m w s xs =
    (lines_on n m w xs ≡ lines (history n m) s xs)
    × (raws_on n m w xs ≡ map (λ z. raw_of n m (prune z)) (states (history n m) s xs))
    × (all (sound_raw n m) (raws_on n m w xs) ≡ true)

-- From what an accepted opening left, whatever tables were lent to it, and whatever is called then: calls with any numbers, and openings
-- with any values. No call writes a value above 4,294,967,295, which no value of the code is.
abbrev pub LentOpened : Type 0
LentOpened =
    (n m : ℕ) (w : Raw) (c : ℕ) (vs : List ℕ) → (open_on n m c vs w).0 ≡ Ok 0
    → (xs : List Call) → all in_range xs ≡ true → Follows n m (open_on n m c vs w).1 (opened vs) xs

-- From any sound tables, also those that no history reaches.
abbrev pub LentSound : Type 0
LentSound = (n m : ℕ) (w : Raw) → sound_raw n m w ≡ true → (xs : List Call) → all in_range xs ≡ true → Follows n m w (state_of w) xs

-- What was called and answered after the last accepted opening has a serial order.
abbrev pub LentSerial : Type 0
LentSerial =
    (n m : ℕ) (w : Raw) → sound_raw n m w ≡ true → (xs : List Call) → all in_range xs ≡ true
    → (before since : List Line) (k : ℕ) (vs : List ℕ) (v : ℕ) → lines_on n m w xs ≡ before ++ ((Open k vs, Ok v) ∷ since)
    → any opening since ≡ false → (order : List ℕ) × Serial vs since order

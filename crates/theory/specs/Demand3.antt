-- Demand 3, of both machines, of any sizes: since the last accepted opening the committed transactions have a serial order. Assumes nothing.
use Rattle.std.specs.Prelude.{◌<◌, ◌≤◌, ℕ, false, List, ◌++◌, ◌∷◌, ◌≡◌, get_or, length, Ok}
use Rattle.rules.specs.Lists.{any}
use Rattle.rules.specs.Machine.{Call, Line, Machine, Open, final, history, lines, tables}
use Rattle.rules.specs.Serial.{Serial, committers, newest_put, opening}
use Rattle.rules.specs.State.{State, opened}
use Rattle.rules.specs.Versions.{latest}

-- What some lines since an opening with the values vs say, with refused calls among them, where s is the state after them: there is a
-- serial order, and the newest committed value of each item, by the lines alone, is its latest value.
abbrev pub SerialSince : List ℕ → List Line → State → Type 0
SerialSince vs ls s =
    ((order : List ℕ) × Serial vs ls order) × ((i : ℕ) → i < length vs → newest_put ls i (get_or vs i 0) (committers ls) ≡ latest s i)

-- from any state: `since` is what was called and answered after the last accepted opening
abbrev pub Serialized : Machine → Type 0
Serialized c =
    (s : State) (xs : List Call) (before since : List Line) (k : ℕ) (vs : List ℕ) (v : ℕ)
    → lines c s xs ≡ before ++ ((Open k vs, Ok v) ∷ since) → any opening since ≡ false → SerialSince vs since (final c s xs)

-- from an opened state
abbrev pub SerializedFrom : Machine → Type 0
SerializedFrom c =
    (vs : List ℕ) → 1 ≤ length vs → length vs ≤ 256 → (xs : List Call)
    → any opening (lines c (opened vs) xs) ≡ false → SerialSince vs (lines c (opened vs) xs) (final c (opened vs) xs)

-- Of the history machine, and of the table machine.
abbrev pub OfHistory : Type 0
OfHistory = (n m : ℕ) → Serialized (history n m) × SerializedFrom (history n m)

abbrev pub OfTables : Type 0
OfTables = (n m : ℕ) → Serialized (tables n m) × SerializedFrom (tables n m)

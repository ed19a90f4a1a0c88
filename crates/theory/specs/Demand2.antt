-- Demand 2, of machines of any sizes: the table machine does what the history machine does, and what the answers mean. Assumes nothing.
use Rattle.terms.specs.declared.Refusal.TheVariants.{Beaten, ClosesRing, UnsoundTables}
use Rattle.rules.specs.Deps
use Rattle.std.specs.Prelude.{◌≤◌, ℕ, false, true, ◌↔◌, ◌⊎◌, ◌≡◌, length, Err, Ok}
use mathlib.Core.List.{List, Memᴰ, map}
use Rattle.rules.specs.Deps.{Ring}
use Rattle.rules.specs.Lists.{all}
use Rattle.rules.specs.Machine.{Call, Commit, Latest, Line, Machine, Read, final, history, lines, states, step, tables}
use Rattle.rules.specs.Sound.{lawful, sound}
use Rattle.rules.specs.Spent.{prune}
use Rattle.rules.specs.State.{State, closed, committing, is_active, opened, written, wrote}
use Rattle.rules.specs.Versions.{LatestBefore, Visible}
use Rattle.terms.specs.declared.ItemNo.{ItemNo}
use Rattle.terms.specs.declared.TxnNo.{TxnNo}
use Rattle.terms.specs.declared.Version.{Version}

-- an opening is accepted with 1 to 256 values
abbrev pub Openable : List ℕ → Type 0
Openable vs = (1 ≤ length vs) × (length vs ≤ 256)

-- The table machine forgets the spent transactions, and the history machine forgets nothing. Called alike from one state, both give the
-- same lines, and the tables stand after each call as the history pruned. The machines have n rows and m records.
abbrev pub SameFrom : ℕ → ℕ → State → List Call → Type 0
SameFrom n m s xs = (lines (tables n m) s xs ≡ lines (history n m) s xs) × (states (tables n m) s xs ≡ map prune (states (history n m) s xs))

-- All tables on the way are sound, and no call is answered that they are not.
abbrev pub SafeFrom : ℕ → ℕ → State → List Call → Type 0
SafeFrom n m s xs =
    (all (sound n m) (states (tables n m) s xs) ≡ true) × ((l : Line) → Memᴰ l (lines (tables n m) s xs) → ¬ (l.1 ≡ (Err UnsoundTables)))

-- From an opening with any values, whatever is called then, further openings and calls that are refused among them;
abbrev pub FromOpening : Type 0
FromOpening = (n m : ℕ) (vs : List ℕ) → Openable vs → (xs : List Call) → SameFrom n m (opened vs) xs × SafeFrom n m (opened vs) xs

-- from the closed state, in which a run of a step file begins;
abbrev pub FromClosed : Type 0
FromClosed = (n m : ℕ) (xs : List Call) → SameFrom n m closed xs

-- and from any sound tables, also those that no history reaches.
abbrev pub FromSound : Type 0
FromSound = (n m : ℕ) (s : State) → sound n m s ≡ true → (xs : List Call) → SameFrom n m s xs × SafeFrom n m s xs

-- The state of the history machine, after any calls since an opening, is lawful.
abbrev pub Lawful : Type 0
Lawful = (n m : ℕ) (vs : List ℕ) → Openable vs → (xs : List Call) → lawful (final (history n m) (opened vs) xs) ≡ true

-- ---- what the answers mean, of a machine c in a state s

-- An accepted read gives what the transaction wrote last, if it wrote the item, and else the value of the version visible to it.
abbrev pub ReadsSo : Machine → State → Type 0
ReadsSo c s =
    (t : TxnNo) (i : ItemNo) (w : ℕ) → (step c s (Read t i)).0 ≡ Ok w
    → ((wrote s t.0 i.0 ≡ true) × (w ≡ written s t.0 i.0))
    ⊎ ((wrote s t.0 i.0 ≡ false) × ((v : Version) × Visible s t.0 i.0 v × (w ≡ v.value)))

-- An accepted latest gives the value of the version with the latest commit so far.
abbrev pub LatestSo : Machine → State → Type 0
LatestSo c s = (i : ItemNo) (w : ℕ) → (step c s (Latest i)).0 ≡ Ok w → (v : Version) × LatestBefore s i.0 s.moment v × (w ≡ v.value)

-- A commit of an active transaction is answered Beaten exactly if the transaction is beaten; if it is not, ClosesRing exactly if the
-- committed ones have a dependency cycle once it is one of them; and else it is accepted with the next moment.
abbrev pub CommitsSo : Machine → State → Type 0
CommitsSo c s =
    (t : TxnNo) → is_active s t.0 ≡ true
    → (((step c s (Commit t)).0 ≡ (Err Beaten)) ↔ Deps.Beaten s t.0)
    × (¬ Deps.Beaten s t.0 → ((step c s (Commit t)).0 ≡ (Err ClosesRing)) ↔ Ring (committing s t.0))
    × (¬ Deps.Beaten s t.0 → ¬ Ring (committing s t.0) → (step c s (Commit t)).0 ≡ Ok s.moment)

abbrev pub Means : Machine → State → Type 0
Means c s = ReadsSo c s × LatestSo c s × CommitsSo c s

-- So answers the history machine after any calls since an opening;
abbrev pub HistoryMeans : Type 0
HistoryMeans = (n m : ℕ) (vs : List ℕ) → Openable vs → (xs : List Call) → Means (history n m) (final (history n m) (opened vs) xs)

-- and so answers the table machine on any sound tables.
abbrev pub TablesMean : Type 0
TablesMean = (n m : ℕ) (s : State) → sound n m s ≡ true → Means (tables n m) s

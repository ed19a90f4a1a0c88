-- Sound tables stay sound, and pruning makes them so. Of machines of any sizes, n rows and m records. Assumes nothing.
use Rattle.std.specs.Prelude.{◌≤◌, ℕ, false, true, ◌≡◌, length, Err}
use mathlib.Core.List.{Memᴰ}
use Rattle.terms.specs.declared.Refusal.TheVariants.{UnsoundTables}
use Rattle.rules.specs.Lists.{all}
use Rattle.rules.specs.Machine.{Call, step, tables}
use Rattle.rules.specs.Serial.{opens}
use Rattle.rules.specs.Sound.{lawful, sound}
use Rattle.rules.specs.Spent.{Spent, prune}
use Rattle.rules.specs.State.{State, commits}
use Rattle.terms.specs.Words.{committed}

-- "Every call on sound tables leaves sound tables", reached or not.
abbrev pub SoundKept : Type 0
SoundKept = (n m : ℕ) (s : State) → sound n m s ≡ true → (x : Call) → sound n m (step (tables n m) s x).1 ≡ true

-- On unsound tables every call but an opening is answered so, and changes nothing.
abbrev pub UnsoundRefused : Type 0
UnsoundRefused = (n m : ℕ) (s : State) → sound n m s ≡ false → (x : Call) → opens x ≡ false → step (tables n m) s x ≡ (Err UnsoundTables, s)

-- A lawful state that is pruned is sound, if it fits the tables, and there is nothing left to prune.
abbrev pub PruneSound : Type 0
PruneSound = (n m : ℕ) (s : State) → lawful s ≡ true → length (prune s).rows ≤ n → length (prune s).recs ≤ m → sound n m (prune s) ≡ true

abbrev pub PruneOnce : Type 0
PruneOnce = (s : State) → lawful s ≡ true → prune (prune s) ≡ prune s

-- "With none active, all are spent."
abbrev pub NoneActive : Type 0
NoneActive = (s : State) → lawful s ≡ true → all committed s.rows ≡ true → (t : ℕ) → Memᴰ t (commits s) → Spent s t

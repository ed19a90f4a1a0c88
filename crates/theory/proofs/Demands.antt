-- The theorems: a proof of each statement of Demand2, Demand3, Lent and Kept. Assumes nothing.
use Prim.Native.Nat.{ℕ}
use mathlib.Core.Bool.{false≢true, not}
use mathlib.Core.List.{List}
use mathlib.Core.Path.{◌∙◌, ap, sym}
use native.Mathlib.Omega.{arith}
use borrow.Author.Tests.{ne_eqb}
use Rattle.terms.specs.Words.{Answer}
use Rattle.laws.proofs.Lists.{all_out}
use Rattle.laws.proofs.Spending.{with_none-active}
use Rattle.rules.specs.Machine.{Call, final, history, tables}
use Rattle.rules.specs.State.{State, opened}
use Rattle.theory.proofs.Agreeing.{Agree, from_closed, from_opening, from_sound, lawful-run, prune_twice, sound-lawful, still_sound}
use Rattle.theory.proofs.Facts.{lawful_facts, lawful-free}
use Rattle.theory.proofs.LawfulCalls.{opened-lawful}
use Rattle.theory.proofs.Meaning.{means}
use Rattle.theory.proofs.PrunedSound.{sound-kept}
use Rattle.theory.proofs.Refusing.{is_fine}
use Rattle.laws.proofs.Refusals.{unsound_first}
use Rattle.theory.proofs.LentRuns as runs
use Rattle.theory.proofs.Serializing.{of_history, of_tables}
use Rattle.theory.specs.Demand2.{FromClosed, FromOpening, FromSound, HistoryMeans, Lawful, SafeFrom, SameFrom, TablesMean}
use Rattle.theory.specs.Demand3.{OfHistory, OfTables}
use Rattle.theory.specs.Lent.{LentOpened, LentSerial, LentSound}
use Rattle.theory.specs.Kept.{NoneActive, PruneOnce, PruneSound, SoundKept, UnsoundRefused}

-- ---- demand 2
agreed : (n m : ℕ) (s : State) (xs : List Call) → Agree n m s s xs → SameFrom n m s xs × SafeFrom n m s xs
agreed n m s xs a = ((a.answers, a.stand), (a.safe, λ l h e. false≢true (ap (λ (k : Answer). is_fine k) (sym e) ∙ all_out (λ l. is_fine l.1) h a.fine)))

pub demand_2_opening : FromOpening
demand_2_opening n m vs (l, r) xs = agreed n m (opened vs) xs (from_opening n m vs l r xs)

pub demand_2_closed : FromClosed
demand_2_closed n m xs = from_closed n m xs

pub demand_2_sound : FromSound
demand_2_sound n m s h xs = agreed n m s xs (from_sound n m s h xs)

pub history-lawful : Lawful
history-lawful n m vs (l, r) xs = lawful-run n m (opened vs) (opened-lawful vs l r) xs

pub history_means : HistoryMeans
unfolding history
history_means n m vs o xs =
    let v = lawful_facts (final (history n m) (opened vs) xs) (history-lawful n m vs o xs) in
    means (history n m) (final (history n m) (opened vs) xs) v (ne_eqb (final (history n m) (opened vs) xs).count 0 (λ e. omega (arith, v.counts.0)))

pub tables_mean : TablesMean
unfolding tables
tables_mean n m s h = means (tables n m) s (lawful_facts s (sound-lawful n m s h)) (ap not h)

-- ---- demand 3
pub demand_3_history : OfHistory
demand_3_history = of_history

pub demand_3_tables : OfTables
demand_3_tables = of_tables

-- ---- lent tables
pub lent-opened : LentOpened
lent-opened = runs.lent-opened

pub lent-sound : LentSound
lent-sound = runs.lent-sound

pub lent_serial : LentSerial
lent_serial = runs.lent_serial

-- ---- sound tables
pub sound-stays : SoundKept
sound-stays = still_sound

pub unsound-refused : UnsoundRefused
unfolding tables
unsound-refused n m s u x o = unsound_first (tables n m) s x o (ap not u)

pub prune-sound : PruneSound
prune-sound n m s h a b = sound-kept s (lawful_facts s h) (lawful-free s h) n m a b

pub prune-once : PruneOnce
prune-once = prune_twice

pub none-active : NoneActive
none-active s h idle t m = with_none-active s idle (lawful-free s h) m

-- The theorems at a long mixed history: a begin before any opening, a reopening with a transaction under way, numbers given again, a refused opening,
-- an aborted writer. So their hypotheses are met. Assumes nothing.
use Prim.Native.Nat.{ℕ, ◌≤◌}
use mathlib.Core.Path.{◌≡◌, refl}
use mathlib.Core.Bool.{true, false}
use mathlib.Core.List.{List, [], ◌∷◌, ◌++◌}
use native.Mathlib.Omega.{arith}
use lib.ListN.{length, replicate}
use Rattle.std.specs.Prelude.{Err, Ok}
use Rattle.terms.specs.declared.Refusal.TheVariants.{UnsoundTables, NotActive, BadOpening}
use Rattle.terms.specs.Words.{row, rec}
use Rattle.rules.specs.Lists.{mem}
use Rattle.rules.specs.State.{State, closed, opened}
use Rattle.rules.specs.Machine.{Call, Line, Open, final, history, step, tables}
use Rattle.rules.specs.Serial.{Serial}
use Rattle.rules.specs.Raw.{Raw, zero_row}
use Rattle.rules.specs.Public.{in_range, open_on}
use Rattle.rules.specs.Sound.{lawful, sound}
use Rattle.rules.specs.Book.{book}
use Rattle.rules.specs.Parlour.{abort, begin, commit, read, state, write}
use Rattle.theory.specs.Demand2.{Means, SafeFrom, SameFrom}
use Rattle.theory.specs.Demand3.{SerialSince}
use Rattle.theory.specs.Lent.{Follows}
use Rattle.theory.proofs.Demands.{demand_2_closed, demand_2_opening, demand_2_sound, demand_3_history, demand_3_tables, history-lawful, history_means, lent-opened, lent_serial, lent-sound, sound-stays, tables_mean}

abbrev early : List Call
early = begin ∷ Open 1 (8 ∷ []) ∷ begin ∷ write 1 0 5 ∷ commit 1 ∷ begin ∷ read 2 0 ∷ []

-- after the opening with 3 and 4: P6, with a third that is aborted
abbrev late : List Call
late =
    read 2 0 ∷ begin ∷ begin ∷ read 1 0 ∷ read 1 1 ∷ read 2 1 ∷ write 2 1 20 ∷ Open 257 [] ∷ commit 2 ∷ write 1 0 9 ∷ begin ∷ write 3 0 7 ∷ read 3 0 ∷ abort 3
    ∷ commit 1 ∷ commit 3 ∷ []

abbrev calls : List Call
calls = early ++ Open 2 (3 ∷ 4 ∷ []) ∷ late

abbrev before : List Line
before =
    (begin, (Err UnsoundTables)) ∷ (Open 1 (8 ∷ []), Ok 0) ∷ (begin, Ok 1) ∷ (write 1 0 5, Ok 0) ∷ (commit 1, Ok 2) ∷ (begin, Ok 2)
    ∷ (read 2 0, Ok 5) ∷ []

abbrev since : List Line
since =
    (read 2 0, (Err NotActive)) ∷ (begin, Ok 1) ∷ (begin, Ok 2) ∷ (read 1 0, Ok 3) ∷ (read 1 1, Ok 4) ∷ (read 2 1, Ok 4) ∷ (write 2 1 20, Ok 0)
    ∷ (Open 257 [], (Err BadOpening)) ∷ (commit 2, Ok 3) ∷ (write 1 0 9, Ok 0) ∷ (begin, Ok 3) ∷ (write 3 0 7, Ok 0) ∷ (read 3 0, Ok 7)
    ∷ (abort 3, Ok 0) ∷ (commit 1, Ok 5) ∷ (commit 3, (Err NotActive)) ∷ []

-- ---- demand 2
pub closed_same : SameFrom 32 256 closed calls
closed_same = demand_2_closed 32 256 calls

openable : (1 ≤ length {A = ℕ} (3 ∷ 4 ∷ [])) × (length {A = ℕ} (3 ∷ 4 ∷ []) ≤ 256)
openable = (omega arith, omega arith)

pub opened-same : SameFrom 32 256 (opened (3 ∷ 4 ∷ [])) late × SafeFrom 32 256 (opened (3 ∷ 4 ∷ [])) late
opened-same = demand_2_opening 32 256 (3 ∷ 4 ∷ []) openable late

pub opened-lawful : lawful (final (history 32 256) (opened (3 ∷ 4 ∷ [])) late) ≡ true
opened-lawful = history-lawful 32 256 (3 ∷ 4 ∷ []) openable late

pub opened_means : Means (history 32 256) (final (history 32 256) (opened (3 ∷ 4 ∷ [])) late)
opened_means = history_means 32 256 (3 ∷ 4 ∷ []) openable late

-- tables that no history reaches: the value tables' writer 1 has left no trace of a moment between 1 and 3
abbrev unreached : State
unreached = state 2 3 4 (5 ∷ 6 ∷ []) (0 ∷ 1 ∷ []) (row 2 3 0 ∷ []) (rec 2 1 1 1 ∷ [])

pub unreached_same : SameFrom 32 256 unreached late × SafeFrom 32 256 unreached late
unfolding book
unreached_same = demand_2_sound 32 256 unreached refl late

pub unreached_means : Means (tables 32 256) unreached
unfolding book
unreached_means = tables_mean 32 256 unreached refl

pub unreached_stays : sound 32 256 (step (tables 32 256) unreached (commit 2)).1 ≡ true
unfolding book
unreached_stays = sound-stays 32 256 unreached refl (commit 2)

-- ---- demand 3: the order has 1 and 2, and neither 3 nor what was committed before the opening
pub serial : SerialSince (3 ∷ 4 ∷ []) since (final (tables 32 256) closed calls)
unfolding book
serial = (demand_3_tables 32 256).0 closed calls before since 2 (3 ∷ 4 ∷ []) 0 refl refl

pub serial_history : SerialSince (3 ∷ 4 ∷ []) since (final (history 32 256) closed calls)
unfolding book
serial_history = (demand_3_history 32 256).0 closed calls before since 2 (3 ∷ 4 ∷ []) 0 refl refl

pub in_order : (mem 1 serial.0.0 ≡ true) × (mem 2 serial.0.0 ≡ true) × (mem 3 serial.0.0 ≡ false)
unfolding book
in_order = (serial.0.1.whole 1, serial.0.1.whole 2, serial.0.1.whole 3)

-- ---- lent tables that hold anything, opened with 3 and 4
abbrev lent : Raw
lent = record { head = 9 ∷ 8 ∷ 7 ∷ []; values = replicate 256 6; writers = replicate 256 5; rows = replicate 4 (row 3 2 1); recs = replicate 8 1 }

pub lent_follow : Follows 4 8 (open_on 4 8 2 (3 ∷ 4 ∷ []) lent).1 (opened (3 ∷ 4 ∷ [])) late
unfolding book in_range
lent_follow = lent-opened 4 8 lent 2 (3 ∷ 4 ∷ []) refl late refl

abbrev fresh : Raw
fresh =
    record { head = 1 ∷ 1 ∷ 1 ∷ []; values = 8 ∷ replicate 255 0; writers = replicate 256 0; rows = replicate 4 zero_row; recs = replicate 8 0 }

pub fresh_follow : Follows 4 8 fresh (state 1 1 1 (8 ∷ []) (0 ∷ []) [] []) (Open 2 (3 ∷ 4 ∷ []) ∷ late)
unfolding book in_range
fresh_follow = lent-sound 4 8 fresh refl (Open 2 (3 ∷ 4 ∷ []) ∷ late) refl

pub fresh_serial : (order : List ℕ) × Serial (3 ∷ 4 ∷ []) since order
unfolding book in_range
fresh_serial = lent_serial 4 8 fresh refl (Open 2 (3 ∷ 4 ∷ []) ∷ late) refl [] since 2 (3 ∷ 4 ∷ []) 0 refl refl

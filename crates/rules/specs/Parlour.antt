-- The parlour cases P1 to P8 of document 01, as one list, and what it is for a machine to meet them. Assumes nothing.
use Rattle.std.specs.Prelude.{ℕ, ◌≡◌, Bool, true, List, [], ◌∷◌, map, replicate}
use Rattle.terms.specs.declared.Row.{Row}
use Rattle.terms.specs.declared.Rec.{Rec}
use Rattle.terms.specs.declared.Given.{Given}
use Rattle.rules.specs.Lists.{all}
use Rattle.terms.specs.Words.{given}
use Rattle.rules.specs.State.{State, closed}
use Rattle.rules.specs.Machine.{Call, Open, Begin, Read, Write, Commit, Abort, Latest, Machine, run, states}

infix 70 ◌⇒◌
infix 70 ◌⇏◌
-- the calls, written short; a step file's opening starts with zeros
abbrev pub opens : ℕ → Call
opens c = Open c (replicate c 0)

abbrev pub begin : Call
begin = Begin

abbrev pub read : ℕ → ℕ → Call
read t i = Read (record { 0 = t }) (record { 0 = i })

abbrev pub write : ℕ → ℕ → ℕ → Call
write t i v = Write (record { 0 = t }) (record { 0 = i }) v

abbrev pub commit : ℕ → Call
commit t = Commit (record { 0 = t })

abbrev pub abort : ℕ → Call
abort t = Abort (record { 0 = t })

abbrev pub latest : ℕ → Call
latest i = Latest (record { 0 = i })

-- a state, by count, next number, next moment, values, writers, rows and records
abbrev pub state : ℕ → ℕ → ℕ → List ℕ → List ℕ → List Row → List Rec → State
state c n m vs ws rs xs = record { count = c; next = n; moment = m; values = vs; writers = ws; rows = rs; recs = xs }

-- a call and its answer: accepted with a value, or refused with a number
abbrev pub ◌⇒◌ : Call → ℕ → Call × Given
x ⇒ v = (x, given 0 v)

abbrev pub ◌⇏◌ : Call → ℕ → Call × Given
x ⇏ n = (x, given n 0)

abbrev pub Told : Type 0
Told = List (Call × Given)

-- "Two items from open unless said."
abbrev pub p1 : Told
p1 =
    opens 2 ⇒ 0 ∷ begin ⇒ 1 ∷ begin ⇒ 2 ∷ read 1 0 ⇒ 0 ∷ read 2 1 ⇒ 0 ∷ write 1 1 40 ⇒ 0 ∷ write 2 0 50 ⇒ 0
    ∷ commit 1 ⇒ 3 ∷ commit 2 ⇏ 8 ∷ latest 1 ⇒ 40 ∷ latest 0 ⇒ 0 ∷ []

-- "Begin 1, 2; both write item 0; commit 1 gives 3; commit 2 gives 7."
abbrev pub p2 : Told
p2 = opens 2 ⇒ 0 ∷ begin ⇒ 1 ∷ begin ⇒ 2 ∷ write 1 0 7 ⇒ 0 ∷ write 2 0 8 ⇒ 0 ∷ commit 1 ⇒ 3 ∷ commit 2 ⇏ 7 ∷ []

-- "Begin 1, write, commit (2), begin 2, write the same item, commit: 4."
abbrev pub p3 : Told
p3 = opens 2 ⇒ 0 ∷ begin ⇒ 1 ∷ write 1 0 7 ⇒ 0 ∷ commit 1 ⇒ 2 ∷ begin ⇒ 2 ∷ write 2 0 8 ⇒ 0 ∷ commit 2 ⇒ 4 ∷ []

-- "Begin 1, 2; 1 reads both items; 2 reads and writes item 1 as 20, commits (3); begin 3 reads 0 and 20, commits (5); 1 writes item 0, commits: 8."
abbrev pub p4 : Told
p4 =
    opens 2 ⇒ 0 ∷ begin ⇒ 1 ∷ begin ⇒ 2 ∷ read 1 0 ⇒ 0 ∷ read 1 1 ⇒ 0 ∷ read 2 1 ⇒ 0 ∷ write 2 1 20 ⇒ 0 ∷ commit 2 ⇒ 3
    ∷ begin ⇒ 3 ∷ read 3 0 ⇒ 0 ∷ read 3 1 ⇒ 20 ∷ commit 3 ⇒ 5 ∷ write 1 0 9 ⇒ 0 ∷ commit 1 ⇏ 8 ∷ []

-- "As P4 but 1 commits before 3: 1 gets 5, then 3 gets 8, though it wrote nothing."
abbrev pub p5 : Told
p5 =
    opens 2 ⇒ 0 ∷ begin ⇒ 1 ∷ begin ⇒ 2 ∷ read 1 0 ⇒ 0 ∷ read 1 1 ⇒ 0 ∷ read 2 1 ⇒ 0 ∷ write 2 1 20 ⇒ 0 ∷ commit 2 ⇒ 3
    ∷ begin ⇒ 3 ∷ read 3 0 ⇒ 0 ∷ read 3 1 ⇒ 20 ∷ write 1 0 9 ⇒ 0 ∷ commit 1 ⇒ 5 ∷ commit 3 ⇏ 8 ∷ []

-- "As P4 without 3: commit 1 gives 4."
abbrev pub p6 : Told
p6 =
    opens 2 ⇒ 0 ∷ begin ⇒ 1 ∷ begin ⇒ 2 ∷ read 1 0 ⇒ 0 ∷ read 1 1 ⇒ 0 ∷ read 2 1 ⇒ 0 ∷ write 2 1 20 ⇒ 0 ∷ commit 2 ⇒ 3
    ∷ write 1 0 9 ⇒ 0 ∷ commit 1 ⇒ 4 ∷ []

-- "Begin 1, 2, 3; 1 reads item 0; 2 writes item 0, reads item 1; 3 writes item 1; commits of 3, 2, 1 give 4, 5, 6."
abbrev pub p7 : Told
p7 =
    opens 2 ⇒ 0 ∷ begin ⇒ 1 ∷ begin ⇒ 2 ∷ begin ⇒ 3 ∷ read 1 0 ⇒ 0 ∷ write 2 0 5 ⇒ 0 ∷ read 2 1 ⇒ 0 ∷ write 3 1 6 ⇒ 0
    ∷ commit 3 ⇒ 4 ∷ commit 2 ⇒ 5 ∷ commit 1 ⇒ 6 ∷ []

-- "Both 1 and 2 read and write item 0; 1 commits; 2 gets 7, not 8."
abbrev pub p8 : Told
p8 =
    opens 2 ⇒ 0 ∷ begin ⇒ 1 ∷ begin ⇒ 2 ∷ read 1 0 ⇒ 0 ∷ write 1 0 3 ⇒ 0 ∷ read 2 0 ⇒ 0 ∷ write 2 0 4 ⇒ 0
    ∷ commit 1 ⇒ 3 ∷ commit 2 ⇏ 7 ∷ []

abbrev pub cases : List Told
cases = p1 ∷ p2 ∷ p3 ∷ p4 ∷ p5 ∷ p6 ∷ p7 ∷ p8 ∷ []

-- the calls of a case
abbrev pub calls_of : Told → List Call
calls_of c = map (λ l. l.0) c

-- from the closed state the machine gives the listed answers in every case
abbrev pub Meets : Machine → List Told → Type 0
Meets m cs = map (λ c. run m closed (calls_of c)) cs ≡ map (map (λ l. l.1)) cs

-- the test is passed by the state after every call of every case
abbrev pub Always : Machine → (State → Bool) → List Told → Type 0
Always m f cs = all (λ c. all f (states m closed (calls_of c))) cs ≡ true

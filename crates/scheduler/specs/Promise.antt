-- What the seven public calls promise together, as one statement about a scheduler: any function from a call and tables to an answer and tables. Assumes nothing.
use Rattle.std.specs.Prelude.{ℕ, ◌≡◌}
use Rattle.terms.specs.Words.{Answer}
use Rattle.rules.specs.Machine.{Call}
use Rattle.rules.specs.Public.{call_on}
use Rattle.rules.specs.Raw.{Raw}

-- an answer, and the tables afterwards
abbrev pub Result : Type 0
Result = Answer × Raw

abbrev pub Scheduler : Type 0
Scheduler = Call → Raw → Result

-- The statement of a call: the contracts of `open`, `begin`, `read`, `write`, `commit`, `abort` and `latest` say it of the call that each makes,
-- since `call_on` of an opening is `open_on`, of a begin `begin_on`, and so on.
abbrev pub Says : ℕ → ℕ → Call → Raw → Result → Type 0
Says n m x w r = r ≡ call_on n m x w

-- the statement of every call, on whatever tables
abbrev pub Keeps : ℕ → ℕ → Scheduler → Type 0
Keeps n m f = (x : Call) (w : Raw) → Says n m x w (f x w)

-- Two results that satisfy a call's statement are equal.
abbrev pub OneResult : Type 0
OneResult = (n m : ℕ) (x : Call) (w : Raw) (a b : Result) → Says n m x w a → Says n m x w b → a ≡ b

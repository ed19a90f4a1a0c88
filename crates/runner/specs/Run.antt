-- What a run of a step file writes and returns, in terms of the history machine. Assumes nothing.
use Rattle.std.specs.Prelude.{ℕ, ◌+◌, ◌*◌, Bool, cond, List, [], ◌∷◌, ◌++◌, map, ltb, length, Result, Ok, Err}
use Rattle.runner.specs.declared.Outcome.{Outcome}
use Rattle.runner.specs.declared.Outcome.TheVariants.{Complete, BadStep}
use Rattle.runner.specs.declared.RunError.{RunError}
use Rattle.runner.specs.declared.RunError.TheVariants.{TooLong, NoRoom}
use Rattle.terms.specs.declared.Given.{Given}
use Rattle.terms.specs.Words.{given}
use Rattle.rules.specs.State.{closed}
use Rattle.rules.specs.Machine.{call_of, history, run}
use Rattle.steps.specs.Answers.{with_answers}
use Rattle.steps.specs.Decoding.{BadAt, Contents, Done, End, steps_of}

-- "A bad step ends the run after its own answer 10", and "10 gives the offset of the kind byte"
abbrev pub bad_answer : End → List Given
bad_answer Done = []
bad_answer (BadAt at) = given 10 at ∷ []

-- the value has room in an answer's four bytes: "Values 0 to 4,294,967,295"
abbrev pub narrow : Given → Bool
narrow g = ltb g.value 4294967296

-- the number of a run that writes its answers: 10 if a bad step ended it
abbrev pub number_of : End → ℕ
number_of Done = 0
number_of (BadAt at) = 10

-- how many answers a run wrote
abbrev pub answers_in : Outcome → ℕ
answers_in (Complete n) = n
answers_in (BadStep n) = n

-- "returns 65,536 times its number plus the answers written": the number that C gets for how a run ended
abbrev pub code : Result Outcome RunError → ℕ
code (Ok (Complete n)) = n
code (Ok (BadStep n)) = 65536 * 10 + n
code (Err TooLong) = 65536 * 11
code (Err NoRoom) = 65536 * 12

module _ (n m : ℕ) where
  -- the answers that a file gives on a board of n rows and m records: the history machine's to its steps, from "the closed state, in which a run of a step
  -- file begins"; a 10 included
  unfoldable pub answers_to : Contents → List Given
  answers_to h = run (history n m) closed (map call_of h.steps) ++ bad_answer h.end

  -- "returns 65,536 times its number plus the answers written": the number returned, and the answer buffer afterwards
  unfoldable pub written : Contents → List ℕ → ℕ × List ℕ
  written h out = (65536 * number_of h.end + length (answers_to h), with_answers (answers_to h) out)

  -- "step file above 8,192 bytes": 11; "answer buffer shorter than 5 bytes for each answer the file gives, a 10 included": 12, which "goes before 10".
  -- "With 11 or 12 nothing is written."
  unfoldable pub run_on : List ℕ → List ℕ → ℕ × List ℕ
  run_on file out =
      cond (ltb 8192 (length file)) (65536 * 11, out)
      (cond (ltb (length out) (5 * length (answers_to (steps_of file)))) (65536 * 12, out)
      (written (steps_of file) out))

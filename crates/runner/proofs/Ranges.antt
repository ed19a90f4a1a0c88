-- The steps of a file write no value above 4,294,967,295, and a file gives as many answers as it is counted to. Assumes nothing.
use Prim.Native.Nat.{ℕ, ◌<◌, suc}
use mathlib.Core.Bool.{◌&&◌, true}
use mathlib.Core.List.{List, [], ◌∷◌, map}
use mathlib.Core.Path.{◌≡◌, ◌∙◌, ap, refl}
use native.Mathlib.Omega.{arith}
use lib.ListN.{get_or, length, length-append, length-map}
use borrow.Author.Tests.{lt-ltb}
use Rattle.terms.specs.declared.Step.{Step}
use Rattle.terms.specs.declared.Step.TheVariants.{Abort, Begin, Commit, Latest, Open, Read, Write}
use Rattle.terms.specs.Words
use Rattle.rules.specs.Lists.{all}
use Rattle.rules.specs.Machine.{Call, Machine, call_of, history, lines, run, step}
use Rattle.rules.specs.Public.{in_range}
use Rattle.rules.specs.State.{State, closed}
use Rattle.laws.proofs.Lists.{and_both, and_left, and_right}
use Rattle.steps.specs.Decoding.{BadAt, Contents, Done, End, answers_of, last_answer, steps_of}
use Rattle.steps.specs.Format.{byte, short, writable}
use Rattle.steps.proofs.Files.{file_spelled}
use Rattle.runner.specs.Run.{answers_to, bad_answer}

bytes_all : (l : List ℕ) → ((i : ℕ) → get_or l i 0 < 256) → all byte l ≡ true
bytes_all [] h = refl
bytes_all (b ∷ l) h = and_both _ _ (lt-ltb b 256 (h 0)) (bytes_all l (λ i. h (suc i)))

step_ranged : (s : Step) → writable s ≡ true → in_range (call_of s) ≡ true
unfolding writable call_of in_range
step_ranged (Open c) h = refl
step_ranged Begin h = refl
step_ranged (Read t i) h = refl
step_ranged (Write t i v) h = and_right (short t.0 && short i.0) _ h
step_ranged (Commit t) h = refl
step_ranged (Abort t) h = refl
step_ranged (Latest i) h = refl

steps_ranged : (ss : List Step) → all writable ss ≡ true → all in_range (map call_of ss) ≡ true
steps_ranged [] h = refl
steps_ranged (s ∷ ss) h = and_both _ _ (step_ranged s (and_left _ _ h)) (steps_ranged ss (and_right (writable s) _ h))

pub file_ranged : (file : List ℕ) → ((i : ℕ) → get_or file i 0 < 256) → all in_range (map call_of (steps_of file).steps) ≡ true
file_ranged file h = steps_ranged (steps_of file).steps (file_spelled 0 file (bytes_all file h)).fits

length-lines : (m : Machine) (s : State) (xs : List Call) → length (lines m s xs) ≡ length xs
unfolding lines
length-lines m s [] = refl
length-lines m s (x ∷ xs) = ap suc (length-lines m (step m s x).1 xs)

length-bad : (e : End) → length (bad_answer e) ≡ last_answer e
length-bad Done = refl
length-bad (BadAt at) = refl

-- one answer to each step, and the 10
pub answers_many : (n m : ℕ) (h : Contents) → length (answers_to n m h) ≡ answers_of h
unfolding answers_to run
answers_many n m h =
    let xs = map call_of h.steps in
    length-append (run (history n m) closed xs) (bad_answer h.end)
    ∙ omega (arith, length-map (lines (history n m) closed xs) (λ l. Words.paper l.1), length-lines (history n m) closed xs, length-map h.steps call_of, length-bad h.end)

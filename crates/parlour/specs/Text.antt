-- What the program prints for a step file. Assumes nothing.
use Rattle.std.specs.Prelude.{ℕ, zero, suc, ◌+◌, ◌/◌, ◌%◌, cond, List, [], ◌∷◌, ◌++◌, ltb, drop, get_or, length}
use Rattle.terms.specs.declared.Given.{Given}
use Rattle.steps.specs.Decoding.{field, steps_of}
use Rattle.runner.specs.Run.{answers_to}

-- the decimal digits of a number that has at most k of them, in ASCII
unfoldable pub decimal_in : ℕ → ℕ → List ℕ
decimal_in zero n = []
decimal_in (suc k) n = cond (ltb n 10) ((48 + n) ∷ []) (decimal_in k (n / 10) ++ (48 + n % 10) ∷ [])

-- the numbers of the code have 20 at most
abbrev pub decimal : ℕ → List ℕ
decimal n = decimal_in 20 n

-- "number, space, value in decimal, newline"
unfoldable pub line : ℕ → ℕ → List ℕ
line number value = decimal number ++ (32 ∷ (decimal value ++ (10 ∷ [])))

-- the lines of the first n answers in some bytes: "An answer is 5 bytes: number, then value."
unfoldable pub lines_in : ℕ → List ℕ → List ℕ
lines_in zero bytes = []
lines_in (suc n) bytes = line (get_or bytes 0 0) (field 1 4 bytes) ++ lines_in n (drop 5 bytes)

-- the lines of the answers that fill some bytes
abbrev pub lines_of : List ℕ → List ℕ
lines_of bytes = lines_in (length bytes / 5) bytes

-- the lines of some answers
unfoldable pub text_of : List Given → List ℕ
text_of [] = []
text_of (g ∷ gs) = line g.number g.value ++ text_of gs

-- what is printed for a file: "For 11 it prints `11 0`."
unfoldable pub shown : List ℕ → List ℕ
shown file = cond (ltb 8192 (length file)) (line 11 0) (text_of (answers_to 32 256 (steps_of file)))

-- The bytes of an answer, and an answer buffer with some answers in it. Assumes nothing.
use Rattle.std.specs.Prelude.{ℕ, ◌+◌, ◌*◌, List, [], ◌∷◌, ◌++◌, length, take, drop}
use Rattle.terms.specs.declared.Given.{Given}
use Rattle.steps.specs.Format.{le}

-- "An answer is 5 bytes: number, then value."
unfoldable pub answer_bytes : Given → List ℕ
answer_bytes g = g.number ∷ le 4 g.value

unfoldable pub encoded : List Given → List ℕ
encoded [] = []
encoded (g ∷ gs) = answer_bytes g ++ encoded gs

-- a buffer whose five bytes at a place are an answer
unfoldable pub answer_at : ℕ → Given → List ℕ → List ℕ
answer_at at g out = take at out ++ answer_bytes g ++ drop (at + 5) out

-- a buffer with answers written from its start. "Bytes past the last answer stay."
unfoldable pub with_answers : List Given → List ℕ → List ℕ
with_answers gs out = encoded gs ++ drop (5 * length gs) out

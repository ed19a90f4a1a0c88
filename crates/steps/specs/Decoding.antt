-- What a part of a file that starts at a kind byte holds, and what a whole file does. Assumes nothing.
use Rattle.std.specs.Prelude.{ℕ, zero, suc, ◌+◌, ◌*◌, ◌-◌, cond, List, [], ◌∷◌, Option, None, Some, eqb, leb, length, get_or, take, drop}
use Rattle.terms.specs.declared.Step.{Step}
use Rattle.terms.specs.declared.Step.TheVariants.{Open, Begin, Read, Write, Commit, Abort, Latest}

-- "numbers little-endian"
unfoldable pub number : List ℕ → ℕ
number [] = 0
number (b ∷ bs) = b + 256 * number bs

-- the number in the k bytes from place at on
unfoldable pub field : ℕ → ℕ → List ℕ → ℕ
field at k p = number (take k (drop at p))

-- "a body whose length the kind fixes": how long a step of a kind is, its kind byte included; 0 for an unknown kind
unfoldable pub length_of : ℕ → ℕ
length_of kind = get_or (3 ∷ 1 ∷ 5 ∷ 9 ∷ 3 ∷ 3 ∷ 3 ∷ []) kind 0

-- the first byte of a part; an empty part counts as a cut step of kind 0
abbrev pub kind_of : List ℕ → ℕ
kind_of p = get_or p 0 0

-- how long the step at the front of a part is; 0 where its kind is unknown or its body is cut
unfoldable pub whole : List ℕ → ℕ
whole p = cond (leb (length_of (kind_of p)) (length p)) (length_of (kind_of p)) 0

-- the step of a kind whose body stands in the part
unfoldable pub step_of : ℕ → List ℕ → Step
step_of kind p =
    get_or
    (Open (field 1 2 p)
    ∷ Begin
    ∷ Read (record { 0 = field 1 2 p }) (record { 0 = field 3 2 p })
    ∷ Write (record { 0 = field 1 2 p }) (record { 0 = field 3 2 p }) (field 5 4 p)
    ∷ Commit (record { 0 = field 1 2 p })
    ∷ Abort (record { 0 = field 1 2 p })
    ∷ Latest (record { 0 = field 1 2 p })
    ∷ [])
    kind
    Begin

-- "each step is decoded from the part of the file that starts at its kind byte": the step and its length, or none: a bad step, "unknown kind or cut body"
unfoldable pub decoded : List ℕ → Option (Step × ℕ)
decoded p = cond (eqb (whole p) 0) None (Some (step_of (kind_of p) p, whole p))

-- How a file ends: after its last step, or with a bad one, whose kind byte has an offset.
pub data End : Type 0 where
  Done : End
  BadAt : ℕ → End

-- what a file holds
pub record Contents : Type 0 where
  pub steps : List Step
  pub end : End

abbrev pub contents : List Step → End → Contents
contents ss e = record { steps = ss; end = e }

abbrev pub and_then : Step → Contents → Contents
and_then s h = contents (s ∷ h.steps) h.end

-- what stands at an offset, and what follows: rest n, after n bytes
abbrev pub onward : ℕ → Option (Step × ℕ) → (ℕ → Contents) → Contents
onward at None rest = contents [] (BadAt at)
onward at (Some (s, n)) rest = and_then s (rest n)

-- What a file holds from an offset on. The first k bytes from there belong to the step before, and are passed over.
unfoldable pub contents_from : ℕ → ℕ → List ℕ → Contents
contents_from at k [] = contents [] Done
contents_from at (suc k) (b ∷ p) = contents_from (suc at) k p
contents_from at zero (b ∷ p) = onward at (decoded (b ∷ p)) (λ n. contents_from (suc at) (n - 1) p)

-- "A bad step ends the run": the steps of a file, and how it ends
abbrev pub steps_of : List ℕ → Contents
steps_of file = contents_from 0 0 file

-- "each answer the file gives, a 10 included"
abbrev pub last_answer : End → ℕ
last_answer Done = 0
last_answer (BadAt at) = 1

abbrev pub answers_of : Contents → ℕ
answers_of h = length h.steps + last_answer h.end

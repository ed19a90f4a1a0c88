-- What stands at a place of a file, and the place behind it. Assumes nothing.
use Rattle.std.specs.Prelude.{ℕ, ◌+◌, List, Option, None, Some}
use Rattle.terms.specs.declared.Step.{Step}
use Rattle.steps.specs.Decoding.{decoded}
use Rattle.steps.proofs.Unfold.{part_at}
use Rattle.reader.specs.declared.Next.{Next}

-- a place moved on past a good step; a bad one is not passed
abbrev pub after : ℕ → Option (Step × ℕ) → ℕ
after at (Some (s, n)) = at + n
after at None = at

-- "each step is decoded from the part of the file that starts at its kind byte"
unfoldable pub next_at : List ℕ → ℕ → Next
next_at file at = record { decoded = decoded (part_at file at); at = after at (decoded (part_at file at)) }

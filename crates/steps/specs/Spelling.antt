-- What it means that the bytes of a file are those of some steps, with nothing or a bad step after them. Assumes nothing.
use Rattle.std.specs.Prelude.{ℕ, ◌+◌, ◌<◌, true, List, [], ◌++◌, ◌⊎◌, ◌≡◌, length}
use Rattle.rules.specs.Lists.{all}
use Rattle.steps.specs.Format.{bytes_of_all, writable}
use Rattle.steps.specs.Decoding.{BadAt, Contents, Done, End, kind_of, length_of}

-- "unknown kind or cut body": the first byte is above 6, or there are fewer bytes than its kind has
abbrev pub BadRest : List ℕ → Type 0
BadRest p = (0 < length p) × ((6 < kind_of p) ⊎ (length p < length_of (kind_of p)))

-- what follows the last step, at an offset: nothing, or a bad step; "10 gives the offset of the kind byte"
pub data Ending (at : ℕ) : List ℕ → End → Type 0 where
  nothing : Ending at [] Done
  bad : {p : List ℕ} → BadRest p → Ending at p (BadAt at)

-- the part of a file from an offset on is the bytes of the steps, and then such an ending
pub record Spells (at : ℕ) (part : List ℕ) (h : Contents) : Type 0 where
  pub rest : List ℕ
  pub same : part ≡ bytes_of_all h.steps ++ rest
  pub fits : all writable h.steps ≡ true
  pub ending : Ending (at + length (bytes_of_all h.steps)) rest h.end

-- The bytes of a step, and which steps can be written. Assumes nothing.
use Rattle.std.specs.Prelude.{ℕ, zero, suc, ◌/◌, ◌%◌, Bool, true, ◌&&◌, List, [], ◌∷◌, ◌++◌, ltb}
use Rattle.terms.specs.declared.Step.{Step}
use Rattle.terms.specs.declared.Step.TheVariants.{Open, Begin, Read, Write, Commit, Abort, Latest}

-- "numbers little-endian": v in k bytes
unfoldable pub le : ℕ → ℕ → List ℕ
le zero v = []
le (suc k) v = (v % 256) ∷ le k (v / 256)

-- "One byte of kind, then a body whose length the kind fixes; .. transactions, items and counts 2 bytes, values 4. Kinds: 0 open (count; all values start
-- at 0), 1 begin, 2 read (transaction, item), 3 write (transaction, item, value), 4 commit (transaction), 5 abort (transaction), 6 latest (item)."
unfoldable pub bytes_of : Step → List ℕ
bytes_of (Open c) = 0 ∷ le 2 c
bytes_of Begin = 1 ∷ []
bytes_of (Read t i) = 2 ∷ le 2 t.0 ++ le 2 i.0
bytes_of (Write t i v) = 3 ∷ le 2 t.0 ++ le 2 i.0 ++ le 4 v
bytes_of (Commit t) = 4 ∷ le 2 t.0
bytes_of (Abort t) = 5 ∷ le 2 t.0
bytes_of (Latest i) = 6 ∷ le 2 i.0

-- the bytes of some steps, one after the other
unfoldable pub bytes_of_all : List Step → List ℕ
bytes_of_all [] = []
bytes_of_all (s ∷ ss) = bytes_of s ++ bytes_of_all ss

-- each number of the step has room in its bytes
abbrev pub short : ℕ → Bool
short n = ltb n 65536

unfoldable pub writable : Step → Bool
writable (Open c) = short c
writable Begin = true
writable (Read t i) = short t.0 && short i.0
writable (Write t i v) = short t.0 && short i.0 && ltb v 4294967296
writable (Commit t) = short t.0
writable (Abort t) = short t.0
writable (Latest i) = short i.0

-- a byte
abbrev pub byte : ℕ → Bool
byte n = ltb n 256

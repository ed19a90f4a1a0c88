-- The sentences on records as tests that go from record to record, and which row each record belongs to. Assumes nothing.
use Rattle.std.specs.Prelude.{ℕ, ◌/◌, ◌^◌, ◌<◌, Bool, true, ◌&&◌, ◌≡◌, List, [], ◌∷◌, map, leb, ltb, get_or, length}
use Rattle.terms.specs.declared.Row.{Row}
use Rattle.terms.specs.Words.{item, key, num, txn}
use Rattle.rules.specs.Lists.{mem, pairs}
use Rattle.rules.specs.Raw.{unpack, zero_row}

-- what stands above the word of a packed record: its key
abbrev pub key_of : ℕ → ℕ
key_of p = p / 2 ^ 32

-- the records stand by ascending key
abbrev pub sorted : List ℕ → Bool
sorted ps = pairs (λ x y. ltb (key x) (key y)) (map unpack ps)

-- the key is above k, the kind 1 or 2, the item below count
unfoldable pub filed_after : ℕ → ℕ → ℕ → Bool
filed_after count k p = ltb k (key_of p) && (leb 1 (unpack p).kind && (leb (unpack p).kind 2 && ltb (item (unpack p)) count))

-- and so on, each above the one before it, and each of one of the rows
unfoldable pub filed_from : ℕ → List Row → ℕ → List ℕ → Bool
filed_from count rs k [] = true
filed_from count rs k (p ∷ ps) = mem (txn (unpack p)) (map num rs) && (filed_after count k p && filed_from count rs (key_of p) ps)

-- each of the first m records belongs to the row of its index
pub record Owners (m : ℕ) (rs : List Row) (ps owners : List ℕ) : Type 0 where
  pub inside : (j : ℕ) → j < m → get_or owners j 0 < length rs
  pub is : (j : ℕ) → j < m → num (get_or rs (get_or owners j 0) zero_row) ≡ txn (unpack (get_or ps j 0))

-- The latest versions of the rows that go, item by item. Assumes nothing.
use Rattle.std.specs.Prelude.{ℕ, ◌≤◌, ◌≡◌, Bool, true, ◌&&◌, eqb, length, get_or}
use mathlib.Core.List.{List, Memᴰ}
use Rattle.rules.specs.Raw.{unpack, used_recs}
use Rattle.terms.specs.declared.Row.{Row}
use Rattle.terms.specs.Words.{done, txn, item, is_write}
use Rattle.graph.specs.Sets.{member}
use Rattle.edges.specs.Blocks.{at}
use Rattle.taking.specs.Leaving.{place_of}

-- the record is a write of item i by a row that goes
abbrev pub writes : ℕ → List Row → ℕ → ℕ → Bool
writes gone rows i p = member gone (place_of rows (txn (unpack p))) && is_write (unpack p) && eqb (item (unpack p)) i

-- when the record's row committed
abbrev pub commit_at : List Row → ℕ → ℕ
commit_at rows p = done (at rows (place_of rows (txn (unpack p))))

-- the record is the latest such write among some
pub record Latest (gone : ℕ) (rows : List Row) (ps : List ℕ) (i p : ℕ) : Type 0 where
  pub here : Memᴰ p ps
  pub is : writes gone rows i p ≡ true
  pub last : (q : ℕ) → Memᴰ q ps → writes gone rows i q ≡ true → commit_at rows q ≤ commit_at rows p

-- the entries of item i are its latest write's; or nothing that goes wrote it after moment 0, and they are as they were
pub data Entry (gone : ℕ) (rows : List Row) (ps : List ℕ) (v₀ w₀ v w : ℕ) (i : ℕ) : Type 0 where
  kept : ((q : ℕ) → Memᴰ q ps → writes gone rows i q ≡ true → commit_at rows q ≡ 0) → v ≡ v₀ → w ≡ w₀ → Entry gone rows ps v₀ w₀ v w i
  passed : (p : ℕ) → Latest gone rows ps i p → v ≡ (unpack p).word → w ≡ txn (unpack p) → Entry gone rows ps v₀ w₀ v w i

-- the value tables afterwards
pub record Passed (gone : ℕ) (rows : List Row) (ps values₀ writers₀ values writers : List ℕ) : Type 0 where
  pub values_len : length values ≡ length values₀
  pub writers-len : length writers ≡ length writers₀
  pub entry : (i : ℕ) → Entry gone rows (used_recs ps) (get_or values₀ i 0) (get_or writers₀ i 0) (get_or values i 0) (get_or writers i 0) i

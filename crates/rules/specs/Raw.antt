-- The tables as they are lent: of any length, with their padding. The state that they hold, and when they are sound. Assumes nothing.
use Rattle.std.specs.Prelude.{ℕ, ◌+◌, ◌*◌, ◌/◌, ◌%◌, ◌^◌, Bool, ◌&&◌, List, [], ◌∷◌, map, get_or, take, eqb}
use Rattle.terms.specs.declared.Row.{Row}
use Rattle.terms.specs.declared.Rec.{Rec}
use Rattle.rules.specs.Lists.{until, padded, sames}
use Rattle.terms.specs.Words.{num, start, done, row, rec, key}
use Rattle.rules.specs.State.{State}
use Rattle.rules.specs.Sound.{sound}

-- a record as one number, 16 bits for the transaction, 8 for the item, 8 for the kind, 32 for the word; and back
abbrev pub pack : Rec → ℕ
pack x = key x * 2 ^ 32 + x.word

abbrev pub unpack : ℕ → Rec
unpack p = rec (p / 2 ^ 48) (p / 2 ^ 40 % 256) (p / 2 ^ 32 % 256) (p % 2 ^ 32)

-- the head (count, next number, next moment), the values, the writers, the rows, the packed records
pub record Raw : Type 0 where
  pub head : List ℕ
  pub values : List ℕ
  pub writers : List ℕ
  pub rows : List Row
  pub recs : List ℕ

abbrev pub zero_row : Row
zero_row = row 0 0 0

-- "Used rows come first", "Used records come first"
abbrev pub used_rows : List Row → List Row
used_rows rs = until (λ r. eqb (num r) 0) rs

abbrev pub used_recs : List ℕ → List ℕ
used_recs ps = until (λ p. eqb p 0) ps

-- the state that the tables hold
unfoldable pub state_of : Raw → State
state_of w =
    let count = get_or w.head 0 0 in
    record {
      count = count;
      next = get_or w.head 1 0;
      moment = get_or w.head 2 0;
      values = take count w.values;
      writers = take count w.writers;
      rows = used_rows w.rows;
      recs = map unpack (used_recs w.recs);
    }

-- the tables of a board of n rows and m records that hold a state: "entries from count upward are 0", "others are all zero"
unfoldable pub raw_of : ℕ → ℕ → State → Raw
raw_of n m s =
    record {
      head = s.count ∷ s.next ∷ s.moment ∷ [];
      values = padded 256 0 s.values;
      writers = padded 256 0 s.writers;
      rows = padded n zero_row s.rows;
      recs = padded m 0 (map pack s.recs);
    }

-- two rows, and two sets of tables, are the same, as tests
abbrev pub same_row : Row → Row → Bool
same_row a b = eqb (num a) (num b) && eqb (start a) (start b) && eqb (done a) (done b)

unfoldable pub same_raw : Raw → Raw → Bool
same_raw v w =
    sames eqb v.head w.head && sames eqb v.values w.values && sames eqb v.writers w.writers
    && sames same_row v.rows w.rows && sames eqb v.recs w.recs

-- sound tables: they are the padded form of the state that they hold, and that state is sound
unfoldable pub sound_raw : ℕ → ℕ → Raw → Bool
sound_raw n m w = same_raw (raw_of n m (state_of w)) w && sound n m (state_of w)

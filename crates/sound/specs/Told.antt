-- What the tests say of every state that has the used rows rs and the used records ps, and all tests but those of dependencies, of lent tables. Assumes nothing.
use Rattle.std.specs.Prelude.{ℕ, ◌<◌, Bool, true, ◌&&◌, ◌≡◌, List, get_or, length, take}
use Rattle.terms.specs.declared.Row.{Row}
use Rattle.terms.specs.Words.{item}
use Rattle.rules.specs.Sound.{based, numbered, owned, seen, sized, tested, timed, unmixed}
use Rattle.rules.specs.Raw.{Raw, raw_of, same_raw, state_of, unpack}
use Rattle.sound.specs.Parts.{held}
use Rattle.sound.specs.Records.{sorted}

-- writers ws that stand at the items of the records as in the table; rows that pass the sentences on rows
pub record ItemsTold (rs : List Row) (ps writers : List ℕ) (b : Bool) : Type 0 where
  pub is : (count next moment : ℕ) (vs ws : List ℕ) → numbered (held count next moment vs ws rs ps) ≡ true → timed (held count next moment vs ws rs ps) ≡ true
      → ((t : ℕ) → t < length ps → get_or ws (item (unpack (get_or ps t 0))) 0 ≡ get_or writers (item (unpack (get_or ps t 0))) 0)
      → b ≡ (unmixed (held count next moment vs ws rs ps) && seen (held count next moment vs ws rs ps))

pub record LinksTold (count next : ℕ) (writers : List ℕ) (rs : List Row) (ps : List ℕ) (b : Bool) : Type 0 where
  pub is : (moment : ℕ) (vs : List ℕ) → numbered (held count next moment vs (take count writers) rs ps) ≡ true → timed (held count next moment vs (take count writers) rs ps) ≡ true
      → b ≡ (sorted ps
      && (owned (held count next moment vs (take count writers) rs ps)
      && (based (held count next moment vs (take count writers) rs ps)
      && (unmixed (held count next moment vs (take count writers) rs ps) && seen (held count next moment vs (take count writers) rs ps)))))

-- the tables are the padded form of their own state, which has the sizes and passes the tests
unfoldable pub tested_raw : ℕ → ℕ → Raw → Bool
tested_raw n m w = same_raw (raw_of n m (state_of w)) w && (sized n m (state_of w) && tested (state_of w))

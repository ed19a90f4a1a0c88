-- What sound tables have: their lengths, and numbers that fit. Assumes nothing.
use Prim.Native.Nat.{ℕ, ◌<◌, ◌≤◌}
use mathlib.Core.Bool.{◌&&◌, true}
use mathlib.Core.Path.{◌≡◌, ap, sym}
use native.Mathlib.Omega.{arith}
use lib.Dec.{eqb}
use lib.ListN.{get_or, length}
use borrow.Author.Tests.{eq-eqb}
use Rattle.rules.specs.Raw.{Raw, sound_raw, state_of}
use Rattle.rules.specs.Public.{fitting}
use Rattle.bridge.proofs.Holds.{head-is, holds, values_long, writers_long}

module _ (n m : ℕ) (w : Raw) (h : sound_raw n m w ≡ true) where
  pub head_long : length w.head ≡ 3
  head_long = ap length (head-is n m w (holds n m w h))

  pub next_small : get_or w.head 1 0 ≤ 65536
  unfolding state_of
  next_small = (holds n m w h).facts.nexts.1

  pub moment_small : get_or w.head 2 0 < 131072
  unfolding state_of
  moment_small = omega (arith, (holds n m w h).facts.high, next_small)

  -- the value tables have an entry for each of 256 items
  pub long_tables : (length w.values ≡ 256) × (length w.writers ≡ 256)
  long_tables = (values_long n m w (holds n m w h), writers_long n m w (holds n m w h))

-- four lengths are right: the tables fit if the records do
pub fitting-by : (n m : ℕ) (w : Raw) → length w.head ≡ 3 → length w.values ≡ 256 → length w.writers ≡ 256 → length w.rows ≡ n
    → eqb (length w.recs) m ≡ fitting n m w
unfolding fitting
fitting-by n m w a b c d =
    sym (λ j. eq-eqb _ 3 a j && eq-eqb _ 256 b j && eq-eqb _ 256 c j && eq-eqb _ n d j && eqb (length w.recs) m)

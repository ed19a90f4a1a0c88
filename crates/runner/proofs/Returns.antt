-- The three ways in which a run ends. Assumes nothing.
use Prim.Native.Nat.{ℕ, ◌*◌, ◌<◌, ◌≤◌}
use mathlib.Core.Bool.{Bool, cond}
use mathlib.Core.List.{List}
use mathlib.Core.Path.{◌≡◌, refl}
use lib.Dec.{ltb}
use lib.ListN.{length}
use borrow.Author.Tests.{le-ltb, lt-ltb}
use Rattle.steps.specs.Decoding.{steps_of}
use Rattle.runner.specs.Run.{answers_to, run_on, written}

module _ (n m : ℕ) (file out : List ℕ) where
  -- by the two tests
  ways : Bool → Bool → ℕ × List ℕ
  ways a b = cond a (65536 * 11, out) (cond b (65536 * 12, out) (written n m (steps_of file) out))

  tested : {a b : Bool} → ltb 8192 (length file) ≡ a → ltb (length out) (5 * length (answers_to n m (steps_of file))) ≡ b → run_on n m file out ≡ ways a b
  unfolding run_on ways
  tested p q = λ j. ways (p j) (q j)

  pub too_long : 8192 < length file → run_on n m file out ≡ (65536 * 11, out)
  unfolding ways
  too_long l = tested (lt-ltb _ _ l) refl

  module _ (l : length file ≤ 8192) where
    pub no_room : length out < 5 * length (answers_to n m (steps_of file)) → run_on n m file out ≡ (65536 * 12, out)
    unfolding ways
    no_room r = tested (le-ltb _ _ l) (lt-ltb _ _ r)

    pub all-written : 5 * length (answers_to n m (steps_of file)) ≤ length out → run_on n m file out ≡ written n m (steps_of file) out
    unfolding ways
    all-written r = tested (le-ltb _ _ l) (le-ltb _ _ r)

-- Whether a ring passes through a row, by where the row is found. Assumes nothing.
use Rattle.std.proofs.Common.{arith, ℕ, ◌<◌, ◌≤◌, ◌≡◌, ap, ◌∙◌, Bool, false, ◌&&◌, List, length, eqb, position, Some, None}
use borrow.Author.Tests.{le-ltb, lt-ltb}
use lib.Dec.{ltb}
use Rattle.terms.specs.declared.Row.{Row}
use Rattle.terms.specs.Words.{num}
use Rattle.graph.specs.Reach.{ringed}
use Rattle.graph.specs.Sets.{edges as in_table}
use Rattle.taking.specs.Leaving.{place_of}
use Rattle.taking.proofs.Places.{found, not-found}
use Rattle.ending.specs.Told.{ring_at}

module _ (n : ℕ) (g : List ℕ) (rs : List Row) (t : ℕ) where
  pub ring_found : {i : ℕ} → position (λ r. eqb (num r) t) rs ≡ Some i → i < n → ring_at n g rs t ≡ ringed n (in_table g) i
  unfolding ring_at
  ring_found {i} e l =
      (λ j. ltb (found rs t e j) n && ringed n (in_table g) (found rs t e j))
      ∙ ap (λ (b : Bool). b && ringed n (in_table g) i) (lt-ltb i n l)

  pub ring_missing : position (λ r. eqb (num r) t) rs ≡ None → n ≤ length rs → ring_at n g rs t ≡ false
  unfolding ring_at
  ring_missing e l =
      let past = not-found rs t e in
      ap (λ (b : Bool). b && ringed n (in_table g) (place_of rs t)) (le-ltb (place_of rs t) n (omega arith))

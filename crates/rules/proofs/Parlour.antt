-- P1 to P8 hold of the definitions, on both machines, by computation; and along them the tables are the pruned history, and sound. Assumes nothing.
use mathlib.Core.Path.{◌≡◌, refl}
use mathlib.Core.Bool.{Bool, true, ◌&&◌, ◌||◌}
use mathlib.Core.List.{map}
use lib.ListN.{length}
use lib.Dec.{eqb}
use Rattle.rules.specs.Lists.{any, all, sames}
use Rattle.terms.specs.Words.{active, key}
use Rattle.rules.specs.State.{State, closed}
use Rattle.rules.specs.Spent.{prune}
use Rattle.rules.specs.Sound.{sound}
use Rattle.rules.specs.Machine.{history, tables, states}
use Rattle.rules.specs.Raw.{same_row}
use Rattle.rules.specs.Book.{book}
use Rattle.rules.specs.Parlour.{cases, calls_of, Meets, Always}

pub all-cases : Meets (history 32 256) cases × Meets (tables 32 256) cases
unfolding book
all-cases = (refl, refl)

-- two states are the same, as a test
abbrev same : State → State → Bool
same a b =
    eqb a.count b.count && eqb a.next b.next && eqb a.moment b.moment
    && sames eqb a.values b.values && sames eqb a.writers b.writers && sames same_row a.rows b.rows
    && sames (λ x y. eqb (key x) (key y) && eqb x.word y.word) a.recs b.recs

-- after each call the tables stand as the history pruned;
pub tables_pruned : all (λ c. sames same (states (tables 32 256) closed (calls_of c)) (map prune (states (history 32 256) closed (calls_of c)))) cases ≡ true
unfolding book
tables_pruned = refl

-- a pruned history stays under another pruning, the tables are sound, and with none active they have no rows
pub always_sound : Always (history 32 256) (λ s. same (prune (prune s)) (prune s)) cases
    × Always (tables 32 256) (sound 32 256) cases
    × Always (tables 32 256) (λ s. any active s.rows || eqb (length s.rows) 0) cases
unfolding book
always_sound = (refl, refl, refl)

-- What the records say so far: `Passing`. Assumes nothing.
use Rattle.sound.proofs.Passing.{Passing}
use Rattle.sound.proofs.items.has_items.Given as goal

abbrev pub invariant-loop-j : goal.invariant-loop-j
invariant-loop-j l = Passing 32 l.used l.filed l.owners l.writers l.wrote l.j

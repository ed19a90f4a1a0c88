-- What is left to look at. Assumes nothing.
use Rattle.std.proofs.Common.{map}
use Rattle.terms.specs.Words.{num}
use Rattle.rules.specs.Lists.{all}
use Rattle.lists.proofs.Scans.{Going}
use Rattle.sound.specs.Base.{fair}
use Rattle.sound.proofs.base.has_base.Given as goal

abbrev pub invariant-loop-w : goal.invariant-loop-w
invariant-loop-w l = Going l.writers (all (fair l.next (map num l.used))) (all (fair l.next (map num l.used)) l.writers) l.w-index

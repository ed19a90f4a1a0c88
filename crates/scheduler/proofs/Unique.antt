-- Two results that satisfy a call's statement are equal: the statement is an equation. Assumes nothing.
use mathlib.Core.Path.{◌∙◌, sym}
use Rattle.scheduler.specs.Promise.{OneResult}

pub one_result : OneResult
one_result n m x w a b p q = p ∙ sym q

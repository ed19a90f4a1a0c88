-- `sound::base::is_fair` meets its contract: a binary search finds what is there. Assumes nothing.
use Rattle.std.proofs.Common.{rules, arith}
use Rattle.std.proofs.lemmas.List.Sorted.{answers_always}
use Rattle.terms.specs.Words.{num}
use Rattle.sound.proofs.Search.{found}
use Rattle.sound.proofs.base.is_fair.Goals as goal

pub returns-then-w-next : goal.returns-then-w-next
returns-then-w-next c =
    let f = found c.args.used.now c.args.w c.requires c.binary_search_by_key.result (c.binary_search_by_key.ensures.position num (answers_always _ _ _ (λ f a r g called. search rules))) in
    grind (arith, f)

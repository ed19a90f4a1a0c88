-- `sound::head::commits` meets its contract: the rows are counted. Assumes nothing.
use Rattle.std.proofs.Common.{rules, ◌≡◌, not, sym, ◌∙◌}
use Rattle.std.specs.List.{count_by}
use Rattle.std.proofs.lemmas.Grind.{common_steps}
use Rattle.terms.specs.Words.{active}
use Rattle.sound.proofs.HeadTests.{kept}
use Rattle.sound.proofs.head.commits.Goals as goal

pub returns-clause-is : goal.returns-clause-is
returns-clause-is c =
    let e : c.count.result ≡ count_by (λ r. not (active r)) c.args.used.now = search (rules, common_steps) in
    e ∙ sym (kept c.args.used.now)

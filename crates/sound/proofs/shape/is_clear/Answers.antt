-- `sound::shape::is_clear` meets its contract: the fold. Assumes nothing.
use Rattle.std.proofs.Common.{rules, ◌≡◌, ◌∙◌, ◌&&◌, true, fold}
use Rattle.std.proofs.lemmas.Grind.{common_steps}
use Rattle.sound.proofs.Scans.{fold-all}
use Rattle.sound.proofs.shape.is_clear.Goals as goal

pub returns : goal.returns
returns g c =
    let e : c.fold.result ≡ fold (λ b x. b && g.T.PartialEq.eq x c.args.zero) true c.args.part.now = search (rules, common_steps) in
    e ∙ fold-all (λ x. g.T.PartialEq.eq x c.args.zero) c.args.part.now

-- `sound::base::are_below` meets its contract: the fold. Assumes nothing.
use Rattle.std.proofs.Common.{rules, ◌≡◌, ◌∙◌, ◌&&◌, true, fold, ltb}
use Rattle.std.proofs.lemmas.Grind.{common_steps}
use Rattle.sound.proofs.Scans.{fold-all}
use Rattle.sound.proofs.base.are_below.Goals as goal

pub returns : goal.returns
returns c =
    let e : c.fold.result ≡ fold (λ b w. b && ltb w c.args.low) true c.args.part.now = search (rules, common_steps) in
    e ∙ fold-all (λ w. ltb w c.args.low) c.args.part.now

-- `sound::base::lowest` meets its contract: `lowest_fair`. Assumes nothing.
use Rattle.std.proofs.Common.{rules}
use Rattle.std.proofs.lemmas.Grind.{common_steps}
use Rattle.sound.proofs.Search.{lowest_fair}
use Rattle.sound.proofs.base.lowest.Goals as goal

pub returns : goal.returns
returns c = lowest_fair c.args.next c.map_or.result c.args.used.now c.requires (search (rules, common_steps)) (λ l. search (rules, common_steps))

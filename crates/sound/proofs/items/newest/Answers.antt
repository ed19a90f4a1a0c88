-- `sound::items::newest` meets its contract. Assumes nothing.
use Rattle.std.proofs.Common.{rules, arith, ◌<◌, length}
use Rattle.sound.specs.Items.{top}
use Rattle.sound.proofs.ItemTests.{top_in}
use Rattle.sound.proofs.items.newest.Goals as goal

pub bounds-used-s : goal.bounds-used-s
bounds-used-s c =
    let l : top 32 c.args.s < length c.args.used.now = c.requires (top 32 c.args.s) (top_in 32 c.args.s (omega arith) (search rules)) in
    omega arith

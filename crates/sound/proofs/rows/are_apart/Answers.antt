-- `sound::rows::are_apart` meets its contract: each with every later one. Assumes nothing.
use Rattle.std.proofs.Common.{◌+◌}
use Rattle.std.proofs.lemmas.List.{take_rest}
use Rattle.sound.proofs.RowTests.{fine-rest}
use Rattle.sound.proofs.rows.are_apart.Goals as goal

pub is_apart_from-requires : goal.is_apart_from-requires
is_apart_from-requires c =
    let f = c.requires in
    let r = fine-rest f.0 f.1 0 0 c.args.used.now (c.loop-i.i + 1) f.2 in
    (f.0, f.1, r.0, r.1, rw take_rest r.2)

-- `runner::run` meets its contract. Assumes nothing.
use Rattle.std.proofs.Common.{arith, ◌∙◌, sym}
use Rattle.steps.specs.Decoding.{steps_of}
use Rattle.runner.proofs.Ranges.{answers_many}
use Rattle.runner.proofs.Returns.{all-written, no_room, too_long}
use Rattle.runner.proofs.run.Goals as goal

pub returns-then-file-gt8192-clause-out_after : goal.returns-then-file-gt8192-clause-out_after
returns-then-file-gt8192-clause-out_after c = sym (too_long 32 256 _ _ (omega arith))

pub returns-then-out-count-clause-out_after : goal.returns-then-out-count-clause-out_after
returns-then-out-count-clause-out_after c = sym (no_room 32 256 _ _ (omega arith) (omega (arith, c.if-out-count.true, c.count.ensures, answers_many 32 256 (steps_of c.args.file.now))))

pub play-requires : goal.play-requires
play-requires c = ((omega arith), omega (arith, c.if-out-count.false, c.count.ensures, answers_many 32 256 (steps_of c.args.file.now)))

pub returns-clause-out_after : goal.returns-clause-out_after
returns-clause-out_after c = c.play.ensures.out_after ∙ sym (all-written 32 256 _ _ (omega arith) (omega (arith, c.if-out-count.false, c.count.ensures, answers_many 32 256 (steps_of c.args.file.now))))

-- All the definitions, to be unfolded at once: a proof by computation says `unfolding book`. Assumes nothing.
use Rattle.rules.specs.State.{opened, closed, row_of, is_active, commits, recorded, word_in, insert, begun, committing, dropped}
use Rattle.rules.specs.Versions.{newest, installers, version_at, visible, read_value, after_read, after_write, latest}
use Rattle.rules.specs.Deps.{both_wrote, beaten, follows, reads_from, overwrites, read_before, dep, depends, spread, reached, ring}
use Rattle.rules.specs.Spent.{old, sift, unspent, is_spent, forget, prune}
use Rattle.rules.specs.Sound.{sized, ordered, headed, numbered, timed, owned, based, seen, unmixed, tested, lawful, lean, sound}
use Rattle.rules.specs.Machine.{call_of, history, tables, openable, no_row, no_rec, tests, value, after, refused, lowest, outcome, step, lines, run, states, final}
use Rattle.rules.specs.Raw.{state_of, raw_of, same_raw, sound_raw}
use Rattle.rules.specs.Public.{fitting, on_sound, open_on, call_on, lines_on, raws_on}
use Rattle.rules.specs.Serial.{opens, opening, told, committer, act, committers, acts, in_turn, leaves, last_put, newest_put}

unfoldable pub book : Unit {0}
unfolding opened closed row_of is_active commits recorded word_in insert begun committing dropped newest installers version_at visible read_value after_read after_write latest both_wrote beaten follows reads_from overwrites read_before dep depends spread reached ring old sift unspent is_spent forget prune sized ordered headed numbered timed owned based seen unmixed tested lawful lean sound call_of history tables openable no_row no_rec tests value after refused lowest outcome step lines run states final state_of raw_of same_raw sound_raw fitting on_sound open_on call_on lines_on raws_on opens opening told committer act committers acts in_turn leaves last_put newest_put
book = tt

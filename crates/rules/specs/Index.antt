-- The index: every definition that a public promise rests on, one line for each. Read it from the top; each module has the sentences of
-- document 01 beside its definitions. Assumes nothing.

-- any, all: some element, every element passes a test
-- pairs: every element passes a test with every later one
-- keep, until: the elements that pass a test; those before the first that passes it
-- padded: a list filled up to a length
-- sames: two lists are equal, by a test on their elements
-- times, last_or, mem, upfrom: a function n times over; the last element; a number in a list; numbers in a row
pub use Rattle.rules.specs.Lists.{any, all, pairs, keep, until, padded, sames, times, last_or, mem, upfrom}
-- Nodes, Edges: a set of numbers, and edges between numbers, as tests
-- Way, Reaches, Cycle: along edges; along one or more; from a node back to it
-- Least: the least set with each old node all of whose incoming edges come from the set
pub use Rattle.rules.specs.Graph.{Nodes, Edges, Way, Reaches, Cycle, Least}
-- num, start, done, row: a row's number, start and commit, and a row of them
-- active, committed: the commit is 0, or is not
-- commit_at, stamp: the row committed at a moment; only if it is t's
-- goes_on, concurrent: active or committed after a moment; each goes on after the other's start
-- txn, item, rec, is_read, is_write, key: a record's transaction and item, a record, its kind, and what records are ordered by
-- writer, version: a version's writer, and a version
-- Answer: what a call answers, a value or a refusal
-- number_of, given, paper, accepted: a refusal's number; number and value; those of an answer; the number is 0
pub use Rattle.terms.specs.Words.{num, start, done, row, active, committed, commit_at, stamp, goes_on, concurrent, txn, item, rec, is_read, is_write, key, writer, version, Answer, number_of, given, paper, accepted}
-- State: count, next number, next moment, values, writers, rows, records
-- opened, closed: the state as it is opened with values, and before any opening
-- row_of, start_of, commit_of, is_active, commits: the row of a number, its moments, whether it is active, the committed ones
-- recorded, word_in, has_read, wrote, written: a transaction's record of an item, and what it says
-- insert: a record put to its place by key
-- begun, committing, dropped: the state with one more begun, with one committed, without one
pub use Rattle.rules.specs.State.{State, opened, closed, with_rows, with_recs, row_of, start_of, commit_of, is_active, commits, is_rec, recorded, word_in, has_read, wrote, written, insert, begun, committing, dropped}
-- newest, installers, base_of, version_at: the version of an item with the latest commit before a moment
-- visible, Visible: the version visible to a transaction, as a function and as a proposition
-- read_value, after_read, after_write, latest: what a read, a write and a look at the latest value give and leave
pub use Rattle.rules.specs.Versions.{newest, installers, base_of, version_at, visible, Installer, LatestBefore, Visible, read_value, after_read, after_write, latest}
-- both_wrote, beaten, Beaten: two wrote one item; a committed one after t's start wrote an item that t wrote
-- follows, reads_from, overwrites, read_before, dep: immediate successors, the three dependencies, and any of them
-- among, depends: edges between committed transactions, and the dependencies between them
-- Ring, ring: the committed transactions have a dependency cycle, as a proposition and as a test
pub use Rattle.rules.specs.Deps.{both_wrote, beaten, Beaten, follows, reads_from, overwrites, read_before, dep, among, depends, Ring, spread, reached, ring}
-- old, Spent, is_spent: committed before every active start; the least set of spent ones, as a proposition and as a test
-- forget, prune: the state without some transactions, their versions passed into the value tables; without the spent ones
pub use Rattle.rules.specs.Spent.{old, Spent, sift, unspent, is_spent, forget, prune}
-- sized, ordered, headed, numbered, timed, owned, based, seen, unmixed, lean: the sentences of "Sound tables"
-- tested, lawful, sound: what is tested before dependencies; with no ring; with lengths, and none spent
pub use Rattle.rules.specs.Sound.{sized, ordered, headed, numbered, timed, owned, based, seen, unmixed, tested, lawful, lean, sound}
-- Call, call_of: the seven calls, and the call that a step makes
-- Machine, history, tables: the machine that never forgets, and the one that keeps what the tables hold
-- tests, value, after, refused: a call's refusals with their tests, its accepted value, the state after it and after a refusal
-- lowest, outcome, step: the refusal with the lowest number; what it leaves; both
-- Line, lines, run, states, final: some calls one after the other
pub use Rattle.rules.specs.Machine.{Call, call_of, Machine, history, tables, openable, no_row, no_rec, access, tests, value, after, refused, lowest, outcome, step, Line, lines, run, states, final}
-- Active, Table, Gives, table: the table of answer numbers by propositions
pub use Rattle.rules.specs.Answers.{Active, Table, Gives, Unsound, NoRecord, Opens, table}
-- pack, unpack, Raw: a record as one number; the five tables as they are lent
-- state_of, raw_of: the state that tables hold, and the tables that hold a state
-- same_row, same_raw, sound_raw: tables are equal, as a test; sound tables
pub use Rattle.rules.specs.Raw.{pack, unpack, Raw, zero_row, used_rows, used_recs, state_of, raw_of, same_row, same_raw, sound_raw}
-- fitting: the tables have the board's lengths
-- open_on, begin_on, read_on, write_on, commit_on, abort_on, latest_on: what each public call does to lent tables
-- on_sound, call_on, lines_on, raws_on: a call that asks for sound tables, any of the seven, and some one after the other
-- in_range: the call writes no value above 4,294,967,295
pub use Rattle.rules.specs.Public.{fitting, lent, on_sound, open_on, begin_on, read_on, write_on, commit_on, abort_on, latest_on, call_on, lines_on, raws_on, in_range}
-- opens, opening, told, committers, acts, in_turn: accepted openings, committed transactions and their acts, by the lines
-- Store, leaves, Fits, newest_put, Serial: a serial run of them gives every value read and each item's newest value
pub use Rattle.rules.specs.Serial.{opens, opening, told, committer, Act, act, committers, acts, in_turn, Store, stored, leaves, Fits, last_put, newest_put, Serial}
-- cases, Meets, Always: P1 to P8 as one list, and what it is to meet them
pub use Rattle.rules.specs.Parlour.{cases, Meets, Always}

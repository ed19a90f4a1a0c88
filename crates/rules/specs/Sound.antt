-- Sound tables: document 01's section, sentence by sentence, of the state that the tables hold. Assumes nothing.
use Rattle.std.specs.Prelude.{ℕ, ◌+◌, ◌*◌, Bool, not, ◌&&◌, ◌||◌, map, length, eqb, ltb, leb}
use Rattle.rules.specs.Lists.{all, pairs, keep, mem}
use Rattle.terms.specs.Words.{num, start, done, active, committed, concurrent, txn, item, is_read, is_write, key, writer}
use Rattle.rules.specs.State.{State, commits}
use Rattle.rules.specs.Versions.{visible}
use Rattle.rules.specs.Deps.{both_wrote, ring}
use Rattle.rules.specs.Spent.{is_spent}

-- "the tables have the stated lengths,
unfoldable pub sized : ℕ → ℕ → State → Bool
sized max_rows max_recs s = leb (length s.rows) max_rows && leb (length s.recs) max_recs

-- order": a value and a writer for each item, the rows by number, the records by transaction, item and kind, "at most one of each kind
-- for a transaction and item"
unfoldable pub ordered : State → Bool
ordered s =
    eqb (length s.values) s.count && eqb (length s.writers) s.count
    && pairs (λ a b. ltb (num a) (num b)) s.rows && pairs (λ x y. ltb (key x) (key y)) s.recs

-- "count is in range; next number N is 1 to 65,536; next moment is at least N + kept committed rows and at most 2 × N − 1 − active rows"
unfoldable pub headed : State → Bool
headed s =
    leb 1 s.count && leb s.count 256
    && leb 1 s.next && leb s.next 65536
    && leb (s.next + length (commits s)) s.moment
    && leb (s.moment + 1 + length (keep active s.rows)) (2 * s.next)

-- "Row numbers are 1 to N − 1; starts ascend with them"
unfoldable pub numbered : State → Bool
numbered s = all (λ r. leb 1 (num r) && ltb (num r) s.next) s.rows && pairs (λ a b. ltb (start a) (start b)) s.rows

-- "all row moments, save the commit 0 of active rows, are distinct, from 1, below next moment; each commit follows its own start"
unfoldable pub timed : State → Bool
timed s =
    all (λ r. leb 1 (start r) && ltb (start r) s.moment) s.rows
    && all (λ r. ltb (start r) (done r) && ltb (done r) s.moment) (keep committed s.rows)
    && pairs (λ a b. not (eqb (done a) (done b))) (keep committed s.rows)
    && all (λ c. all (λ r. not (eqb (done c) (start r))) s.rows) (keep committed s.rows)

-- "Each used record is of kind 1 or 2 and belongs to a used row and an item below count"
unfoldable pub owned : State → Bool
owned s = all (λ x. (is_read x || is_write x) && mem (txn x) (map num s.rows) && ltb (item x) s.count) s.recs

-- "Each writer in the value tables is below N and has no row."
unfoldable pub based : State → Bool
based s = all (λ w. ltb w s.next && not (mem w (map num s.rows))) s.writers

-- "Each read word names the version visible to its transaction, kept write or value table."
unfoldable pub seen : State → Bool
seen s = all (λ x. not (is_read x) || eqb x.word (writer (visible s (txn x) (item x)))) s.recs

-- "No two kept committed writers of one item are concurrent."
unfoldable pub unmixed : State → Bool
unmixed s = pairs (λ a b. not (concurrent a b && both_wrote s (num a) (num b))) (keep committed s.rows)

-- what is tested before dependencies are looked at; and "Dependencies among kept committed rows have no ring": both hold of the tables,
-- and of a whole history too
unfoldable pub tested : State → Bool
tested s = ordered s && headed s && numbered s && timed s && owned s && based s && seen s && unmixed s

unfoldable pub lawful : State → Bool
lawful s = tested s && not (ring s)

-- "and none of these rows is spent"
unfoldable pub lean : State → Bool
lean s = all (λ t. not (is_spent s t)) (commits s)

unfoldable pub sound : ℕ → ℕ → State → Bool
sound max_rows max_recs s = sized max_rows max_recs s && lawful s && lean s

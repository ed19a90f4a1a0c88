-- Each call of the table machine on the pruned state is the history machine's, pruned. Assumes nothing.
use Prim.Native.Nat.{◌*◌, ◌+◌, ◌<◌, ◌≤◌, ℕ}
use mathlib.Core.Bool.{Bool, ◌&&◌, ◌||◌, cond, false, not, true}
use mathlib.Core.List.{List, [], ◌∷◌}
use mathlib.Core.Path.{◌∙◌, ◌≡◌, ap, refl, subst, sym}
use native.Mathlib.Omega.{arith}
use lib.Dec.{eqb, leb}
use lib.ListN.{length, length-append, length-map}
use borrow.Author.Tests.{leb-false, ne_eqb}
use Rattle.std.specs.Prelude.{Err, Ok}
use Rattle.terms.specs.declared.Refusal.TheVariants.{BadOpening, Beaten, ClosesRing, NotActive, NumbersUsedUp, RecordsFull, RowsFull, UnknownItem, UnsoundTables}
use Rattle.laws.proofs.Lists.{pairs-keep}
use Rattle.lists.proofs.Keeps.{length-keep}
use Rattle.laws.proofs.Records.{is_below, Sorted, insert_more, insert-same}
use Rattle.laws.proofs.Versions.{recorded_out}
use Rattle.rules.specs.Deps.{Ring, beaten, ring}
use Rattle.rules.specs.Machine.{Abort, Begin, Call, Commit, Latest, Open, Read, Write, after, history, lowest, no_rec, no_row, openable, outcome, refused, tables, tests, value}
use Rattle.rules.specs.Spent.{forget, prune}
use Rattle.rules.specs.State.{State, begun, committing, dropped, has_read, insert, is_active, with_recs, wrote}
use Rattle.rules.specs.Versions.{after_read, after_write, visible}
use Rattle.terms.specs.Words.{Answer, accepted, num, rec, row, stamp, txn, writer}
use Rattle.terms.specs.declared.ItemNo.{ItemNo}
use Rattle.terms.specs.declared.Rec.{Rec}
use Rattle.terms.specs.declared.TxnNo.{TxnNo}
use Rattle.theory.proofs.Actives.{Active, active_out}
use Rattle.theory.proofs.Facts.{Facts}
use Rattle.theory.proofs.PrunedBegin.{begin_pruned}
use Rattle.theory.proofs.PrunedCommit.{commit_pruned, ring_pruned}
use Rattle.theory.proofs.PrunedDrop.{drop_pruned}
use Rattle.theory.proofs.PrunedRecords.{latest_pruned, read_pruned, recorded_pruned, value_pruned, write_pruned}
use Rattle.theory.proofs.PrunedSound.{sound-kept}
use Rattle.theory.proofs.PrunedTests.{Good, Room, Same, active_pruned, beaten_pruned, fits_by, good_call, open_pruned, opened-fits, prune-recs, prune-rows}

-- an opening
call_open : (n m : ℕ) (s : State) (c : ℕ) (vs : List ℕ) → Room n m s → Same n m s (Open c vs)
unfolding tests
call_open n m s c vs f = good_call n m s (Open c vs) (go (openable c vs))
  where
    go : (a : Bool) → Good n m s (Open c vs) ((Err BadOpening, not a) ∷ []) ((Err BadOpening, not a) ∷ [])
    go false = unfold lowest outcome value after refused in (refl, f)
    go true = unfold lowest outcome value after refused in (λ j. (Ok 0, sym (open_pruned vs) j), opened-fits n m vs)

module _ (n m : ℕ) (s : State) (v : Facts s) (free : ¬ Ring s) (f : Room n m s) where
  -- neither machine refuses its state
  sane : (x : Call) (l r : List (Answer × Bool)) → Good n m s x l r → Good n m s x ((Err UnsoundTables, (tables n m).unsound (prune s)) ∷ l) ((Err UnsoundTables, (history n m).unsound s) ∷ r)
  unfolding lowest tables history
  sane x l r g =
      subst (λ (b : Bool). Good n m s x ((Err UnsoundTables, b) ∷ l) ((Err UnsoundTables, eqb s.count 0) ∷ r)) (sym (ap not (sound-kept s v free n m f.rows f.recs)))
      (subst (λ (b : Bool). Good n m s x l ((Err UnsoundTables, b) ∷ r)) (sym (ne_eqb s.count 0 (λ (e : s.count ≡ 0). omega (arith, v.counts.0)))) g)

  -- a refusal that leaves the state
  stay_good : (x : Call) (a : Answer) → accepted a ≡ false → refused (tables n m) (prune s) a x ≡ prune s → refused (history n m) s a x ≡ s → Good n m s x ((a, true) ∷ []) ((a, true) ∷ [])
  unfolding lowest outcome
  stay_good x a e p q =
      let h : (outcome (history n m) s x a).1 ≡ s = ap {B = State} (λ b. elim b [ true ↦ after (history n m) s x | false ↦ refused (history n m) s a x ]) e ∙ q in
      let k : (outcome (tables n m) (prune s) x a).1 ≡ prune s = ap {B = State} (λ b. elim b [ true ↦ after (tables n m) (prune s) x | false ↦ refused (tables n m) (prune s) a x ]) e ∙ p in
      (λ j. (a, (k ∙ ap prune (sym h)) j), subst (Room n m) (sym h) f)

  -- a begin
  begin_good : (a b : Bool) → leb n (length (prune s).rows) ≡ b → Good n m s Begin ((Err NumbersUsedUp, a) ∷ (Err RowsFull, b) ∷ []) ((Err NumbersUsedUp, a) ∷ (Err RowsFull, b) ∷ [])
  unfolding lowest outcome value after refused prune forget begun
  begin_good true b e = (refl, f)
  begin_good false true e = (refl, f)
  begin_good false false e = (
    λ j. (Ok s.next, begin_pruned s v j),
    fits_by n m (begun s) (begun (prune s)) (sym (begin_pruned s v)) (omega (arith, length-append (prune s).rows (row s.next s.moment 0 ∷ []), leb-false n (length (prune s).rows) e)) f.recs,
  )

  call_begin : Same n m s Begin
  unfolding tests no_row tables history prune forget
  call_begin = good_call n m s Begin (sane Begin _ _ (begin_good (eqb s.next 65536) (leb n (length (prune s).rows)) refl))

  -- a read or a write x of item i by t, which needs a new record in the tables or not, in the history or not
  module _ (x : Call) (t : TxnNo) (i : ItemNo) (new new' : Bool) (same : Active s t.0 → new ≡ new')
      (stays : (a : Answer) → accepted a ≡ false → Good n m s x ((a, true) ∷ []) ((a, true) ∷ []))
      (accepts : Active s t.0 → i.0 < s.count → new ≡ false → Good n m s x [] []) where
    last_good : Active s t.0 → i.0 < s.count → (c : Bool) → new ≡ c → Good n m s x ((Err RecordsFull, c) ∷ []) ((Err RecordsFull, c) ∷ [])
    last_good a l true e = stays (Err RecordsFull) refl
    last_good a l false e = unfold lowest in accepts a l e

    go : (a b : Bool) → leb s.count i.0 ≡ a → is_active s t.0 ≡ b
        → Good n m s x ((Err UnknownItem, a) ∷ (Err NotActive, not b) ∷ (Err RecordsFull, new) ∷ []) ((Err UnknownItem, a) ∷ (Err NotActive, not b) ∷ (Err RecordsFull, new') ∷ [])
    unfolding lowest
    go true b p q = stays (Err UnknownItem) refl
    go false false p q = stays (Err NotActive) refl
    go false true p q =
        let a = active_out s t.0 q in
        subst (λ (k : Bool). Good n m s x ((Err RecordsFull, new) ∷ []) ((Err RecordsFull, k) ∷ [])) (same a) (last_good a (leb-false s.count i.0 p) new refl)

    access_good : Good n m s x ((Err UnknownItem, leb s.count i.0) ∷ (Err NotActive, not (is_active (prune s) t.0)) ∷ (Err RecordsFull, new) ∷ [])
        ((Err UnknownItem, leb s.count i.0) ∷ (Err NotActive, not (is_active s t.0)) ∷ (Err RecordsFull, new') ∷ [])
    access_good =
        subst (λ (b : Bool). Good n m s x ((Err UnknownItem, leb s.count i.0) ∷ (Err NotActive, not b) ∷ (Err RecordsFull, new) ∷ [])
        ((Err UnknownItem, leb s.count i.0) ∷ (Err NotActive, not (is_active s t.0)) ∷ (Err RecordsFull, new') ∷ []))
        (sym (active_pruned s v t.0)) (go (leb s.count i.0) (is_active s t.0) refl refl)

  -- no record is free
  abbrev full : Bool
  full = leb m (length (prune s).recs)

  module _ (t : TxnNo) (i : ItemNo) where
    abbrev had : State → Bool
    had z = has_read z t.0 i.0 || wrote z t.0 i.0

    read_fits : (not (had (prune s)) && full) ≡ false → (length (after_read (prune s) t.0 i.0).recs ≤ m) × ((after_read (prune s) t.0 i.0).rows ≡ (prune s).rows)
    unfolding after_read
    read_fits e = go (had (prune s)) e
      where
        x : Rec
        x = rec t.0 i.0 1 (writer (visible (prune s) t.0 i.0))

        go : (b : Bool) → (not b && full) ≡ false
            → (length (cond b (prune s) (with_recs (prune s) (insert x (prune s).recs))).recs ≤ m) × ((cond b (prune s) (with_recs (prune s) (insert x (prune s).recs))).rows ≡ (prune s).rows)
        go true h = (f.recs, refl)
        go false h = (omega (arith, insert_more x (prune s).recs, leb-false m (length (prune s).recs) h), refl)

    call_read : Same n m s (Read t i)
    unfolding tests no_rec tables history prune forget
    call_read =
        good_call n m s (Read t i) (sane (Read t i) _ _ (access_good (Read t i) t i (not (had (prune s)) && full) (not (had s) && full)
        (λ a j. not (recorded_pruned s v t.0 a i.0 1 j || recorded_pruned s v t.0 a i.0 2 j) && full)
        (λ a e. unfold refused in stay_good (Read t i) a e refl refl) accepts))
      where
        accepts : Active s t.0 → i.0 < s.count → (not (had (prune s)) && full) ≡ false → Good n m s (Read t i) [] []
        accepts a l d = unfold lowest outcome value after in
            let u = read_fits d in (
              λ j. (Ok (value_pruned s v t.0 a i.0 l j), read_pruned s v t.0 a i.0 l j),
              fits_by n m (after_read s t.0 i.0) (after_read (prune s) t.0 i.0) (sym (read_pruned s v t.0 a i.0 l)) (omega (arith, ap length u.1, f.rows)) u.0,
            )

  module _ (t : TxnNo) (i : ItemNo) (w : ℕ) where
    sorted_pruned : Sorted (prune s).recs
    unfolding prune forget
    sorted_pruned = pairs-keep is_below _ s.recs v.sorted

    write-fits : (not (wrote (prune s) t.0 i.0) && full) ≡ false → length (insert (rec t.0 i.0 2 w) (prune s).recs) ≤ m
    write-fits e = go (wrote (prune s) t.0 i.0) refl e
      where
        go : (b : Bool) → wrote (prune s) t.0 i.0 ≡ b → (not b && full) ≡ false → length (insert (rec t.0 i.0 2 w) (prune s).recs) ≤ m
        go true q h =
            let u = recorded_out (prune s) t.0 i.0 2 q in
            omega (arith, insert-same (rec t.0 i.0 2 w) (prune s).recs sorted_pruned u.1 (λ j. (sym u.2 j * 256 + sym u.3 j) * 256 + sym u.4 j), f.recs)
        go false q h = omega (arith, insert_more (rec t.0 i.0 2 w) (prune s).recs, leb-false m (length (prune s).recs) h)

    call_write : Same n m s (Write t i w)
    unfolding tests no_rec tables history prune forget
    call_write =
        good_call n m s (Write t i w) (sane (Write t i w) _ _ (access_good (Write t i w) t i (not (wrote (prune s) t.0 i.0) && full) (not (wrote s t.0 i.0) && full)
        (λ a j. not (recorded_pruned s v t.0 a i.0 2 j) && full) (λ a e. unfold refused in stay_good (Write t i w) a e refl refl) accepts))
      where
        accepts : Active s t.0 → i.0 < s.count → (not (wrote (prune s) t.0 i.0) && full) ≡ false → Good n m s (Write t i w) [] []
        accepts a l d = unfold lowest outcome value after after_write in (
          λ j. (Ok 0, write_pruned s v t.0 a i.0 w l j),
          fits_by n m (after_write s t.0 i.0 w) (after_write (prune s) t.0 i.0 w) (sym (write_pruned s v t.0 a i.0 w l)) f.rows (write-fits d),
        )

  -- the end of a transaction
  module _ (t : TxnNo) where
    drop-fits : Active s t.0 → Room n m (dropped s t.0)
    unfolding dropped
    drop-fits a =
        let z : State = dropped (prune s) t.0 in
        fits_by n m (dropped s t.0) (prune z) (sym (drop_pruned s v t.0 a))
        (omega (arith, prune-rows z, length-keep (λ r. not (eqb (num r) t.0)) (prune s).rows, f.rows))
        (omega (arith, prune-recs z, length-keep (λ x. not (eqb (txn x) t.0)) (prune s).recs, f.recs))

    commit-fits : Active s t.0 → Room n m (committing s t.0)
    unfolding committing
    commit-fits a =
        let z : State = committing (prune s) t.0 in
        fits_by n m (committing s t.0) (prune z) (sym (commit_pruned s v t.0 a))
        (omega (arith, prune-rows z, length-map (prune s).rows (stamp t.0 (prune s).moment), f.rows)) (omega (arith, prune-recs z, f.recs))

    -- of an active one, whose further tests are l and r
    active_good : (x : Call) (l r : List (Answer × Bool)) → Good n m s x ((Err NotActive, true) ∷ []) ((Err NotActive, true) ∷ []) → (Active s t.0 → Good n m s x l r)
        → Good n m s x ((Err NotActive, not (is_active (prune s) t.0)) ∷ l) ((Err NotActive, not (is_active s t.0)) ∷ r)
    active_good x l r stays g =
        subst (λ (b : Bool). Good n m s x ((Err NotActive, not b) ∷ l) ((Err NotActive, not (is_active s t.0)) ∷ r)) (sym (active_pruned s v t.0)) (go (is_active s t.0) refl)
      where
        go : (b : Bool) → is_active s t.0 ≡ b → Good n m s x ((Err NotActive, not b) ∷ l) ((Err NotActive, not b) ∷ r)
        go false q = unfold lowest in stays
        go true q = unfold lowest in g (active_out s t.0 q)

    commit-last : Active s t.0 → (c d : Bool) → Good n m s (Commit t) ((Err Beaten, c) ∷ (Err ClosesRing, d) ∷ []) ((Err Beaten, c) ∷ (Err ClosesRing, d) ∷ [])
    unfolding lowest outcome value after refused tables history
    commit-last a true d = (λ j. (Err Beaten, drop_pruned s v t.0 a j), drop-fits a)
    commit-last a false true = (λ j. (Err ClosesRing, drop_pruned s v t.0 a j), drop-fits a)
    commit-last a false false = (λ j. (Ok (moment_pruned j), commit_pruned s v t.0 a j), commit-fits a)
      where
        moment_pruned : (prune s).moment ≡ s.moment
        moment_pruned = unfold prune forget in refl

    commit_good : Active s t.0 → Good n m s (Commit t) ((Err Beaten, beaten (prune s) t.0) ∷ (Err ClosesRing, ring (committing (prune s) t.0)) ∷ [])
        ((Err Beaten, beaten s t.0) ∷ (Err ClosesRing, ring (committing s t.0)) ∷ [])
    commit_good a =
        let e : ◌≡◌ {A = List (Answer × Bool)} ((Err Beaten, beaten (prune s) t.0) ∷ (Err ClosesRing, ring (committing (prune s) t.0)) ∷ []) ((Err Beaten, beaten s t.0) ∷ (Err ClosesRing, ring (committing s t.0)) ∷ [])
        = λ j. (Err Beaten, beaten_pruned s v t.0 a j) ∷ (Err ClosesRing, ring_pruned s v t.0 a j) ∷ [] in
        subst (λ (l : List (Answer × Bool)). Good n m s (Commit t) l ((Err Beaten, beaten s t.0) ∷ (Err ClosesRing, ring (committing s t.0)) ∷ [])) (sym e) (commit-last a (beaten s t.0) (ring (committing s t.0)))

    call_commit : Same n m s (Commit t)
    unfolding tests
    call_commit = good_call n m s (Commit t) (sane (Commit t) _ _ (active_good (Commit t) _ _ (unfold refused in stay_good (Commit t) (Err NotActive) refl refl refl) commit_good))

    abort_good : Active s t.0 → Good n m s (Abort t) [] []
    unfolding lowest outcome value after tables history
    abort_good a = (λ j. (Ok 0, drop_pruned s v t.0 a j), drop-fits a)

    call_abort : Same n m s (Abort t)
    unfolding tests
    call_abort = good_call n m s (Abort t) (sane (Abort t) _ _ (active_good (Abort t) _ _ (unfold refused in stay_good (Abort t) (Err NotActive) refl refl refl) abort_good))

  -- the latest value
  latest_good : (i : ItemNo) (b : Bool) → leb s.count i.0 ≡ b → Good n m s (Latest i) ((Err UnknownItem, b) ∷ []) ((Err UnknownItem, b) ∷ [])
  unfolding lowest outcome value after refused
  latest_good i true q = (refl, f)
  latest_good i false q = (λ j. (Ok (latest_pruned s v i.0 (leb-false s.count i.0 q) j), prune s), f)

  call_latest : (i : ItemNo) → Same n m s (Latest i)
  unfolding tests prune forget
  call_latest i = good_call n m s (Latest i) (sane (Latest i) _ _ (latest_good i (leb s.count i.0) refl))

  -- every call
  pub same_call : (x : Call) → Same n m s x
  same_call (Open c vs) = call_open n m s c vs f
  same_call Begin = call_begin
  same_call (Read t i) = call_read t i
  same_call (Write t i w) = call_write t i w
  same_call (Commit t) = call_commit t
  same_call (Abort t) = call_abort t
  same_call (Latest i) = call_latest i

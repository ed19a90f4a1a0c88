-- What a run has told stands in the state after every call that is no accepted opening. Assumes nothing.
use Prim.Native.Nat.{◌<◌, ◌≤◌, ℕ}
use mathlib.Core.Bool.{Bool, ◌||◌, cond, false, false≢true, not, true}
use mathlib.Core.List.Memᴰ
use mathlib.Core.List.{List, [], ◌++◌, ◌∷◌, append_assoc, append-nil}
use mathlib.Core.Logic.{inl, inr}
use mathlib.Core.Path.{◌∙◌, ◌≡◌, ap, refl, subst, sym}
use native.Mathlib.Omega.{arith}
use lib.Dec.{leb}
use lib.ListN.{length}
use borrow.Author.Tests.{eq-eqb, leb-false, ne_eqb, not-false}
use Rattle.std.specs.Prelude.{Err, Ok}
use Rattle.terms.specs.declared.Refusal.TheVariants.{BadOpening, Beaten, ClosesRing, NotActive, NumbersUsedUp, RecordsFull, RowsFull, UnknownItem, UnsoundTables}
use Rattle.laws.proofs.Lists.{◌∈◌}
use Rattle.laws.proofs.Versions.{commits_out}
use Rattle.rules.specs.Lists.{any}
use Rattle.rules.specs.Machine.{Abort, Begin, Call, Commit, Latest, Line, Open, Read, Write, after, final, history, lines, lowest, openable, outcome, refused, states, step, tests, value}
use Rattle.rules.specs.Serial.{Act, Store, act, acts, committer, committers, got, leaves, opening, opens, put, told}
use Rattle.rules.specs.Sound.{lawful}
use Rattle.rules.specs.State.{State, begun, commits, committing, dropped, has_read, insert, is_active, opened, recorded, with_recs, written, wrote}
use Rattle.rules.specs.Versions.{after_read, after_write, latest, read_value, visible}
use Rattle.terms.specs.Words.{Answer, accepted, committed, num, paper, rec, writer}
use Rattle.terms.specs.declared.ItemNo.{ItemNo}
use Rattle.terms.specs.declared.Rec.{Rec}
use Rattle.terms.specs.declared.Row.{Row}
use Rattle.terms.specs.declared.TxnNo.{TxnNo}
use Rattle.terms.specs.declared.Version.{Version}
use Rattle.theory.proofs.Acts.{Acts, tells}
use Rattle.theory.proofs.CallFrames.{begin_frame, begin_never, begin_unrecorded, commit_frame, commit-here, commit-visible, drop_frame, enter_frame, not-committed, row_gone, stay_frame}
use Rattle.theory.proofs.Facts.{lawful_facts, lawful-free, lawful_from}
use Rattle.theory.proofs.Frames.{Frame}
use Rattle.theory.proofs.LawfulCalls.{lasting, opened-lawful}
use Rattle.theory.proofs.Told.{Told, acted, acts_of, below_next, given_right, read_new, unmoved, write_new}

module _ (n k : ℕ) (vs : List ℕ) (ls : List Line) (s : State) (so : Told vs ls s) where
  abbrev Next : Call → List (Answer × Bool) → Type 0
  Next x l =
      let q : Answer × State = outcome (history n k) s x (lowest (Ok (value (history n k) s x)) l) in
      lawful q.1 ≡ true → Told vs (ls ++ ((x, q.0) ∷ [])) q.1

  refusal : (x : Call) (a : Answer) → accepted a ≡ false → Told vs (ls ++ ((x, a) ∷ [])) s
  refusal x a e = unmoved vs ls s so (x, a) (λ t. none (act t)) (none committer)
    where
      none : {A : Type 0} (f : Call → ℕ → List A) → tells f (x, a) ≡ []
      none {A} f = ap {B = List A} (λ b. elim b [ true ↦ f x (paper a).value | false ↦ [] ]) e

  begins : lawful (begun s) ≡ true → Told vs (ls ++ ((Begin, Ok s.next) ∷ [])) (begun s)
  unfolding act committer begun leaves
  begins f = acted vs ls s so (begun s) s.next (Begin, Ok s.next) (begin_frame s so.inv) f (omega arith) (λ u ne. refl)
      (λ r mr e. subst (λ (ds : List Act). Acts (begun s) s.next (ds ++ [])) (sym (so.fresh s.next (omega arith)))
      (record { fits = λ m h. tt; puts = λ m i h. absurd (begin_unrecorded s so.inv i 2 h); other = λ m i h. refl }))
      (λ m. let u = commits_out (begun s) m in absurd (begin_never s so.inv u.0 u.1 u.3 u.2))
      (λ u m. elim m [ ]) (inl refl)

  -- t is active
  module _ (t : ℕ) (on : is_active s t ≡ true) where
    -- a line of t's that commits nothing
    does : (z : State) (l : Line) → Frame s z t → lawful z ≡ true → s.next ≤ z.next → ((r : Row) → r ∈ z.rows → num r ≡ t → committed r ≡ true → ⊥)
        → ((u : ℕ) → (u ≡ t → ⊥) → tells (act u) l ≡ []) → tells committer l ≡ []
        → ((r : Row) → r ∈ z.rows → num r ≡ t → Acts z t (acts t ls ++ tells (act t) l)) → Told vs (ls ++ (l ∷ [])) z
    does z l fr inv more never others c mine =
        acted vs ls s so z t l fr inv (omega (arith, below_next vs ls s so t on)) others mine
        (λ m. let u = commits_out z m in absurd (never u.0 u.1 u.3 u.2))
        (λ u m. elim (subst (λ (q : List ℕ). u ∈ q) c m) [ ]) (inl c)

    never : (r : Row) → r ∈ s.rows → num r ≡ t → committed r ≡ true → ⊥
    never = not-committed s so.inv t on

    leaves_now : (l : Line) → ((u : ℕ) → tells (act u) l ≡ []) → tells committer l ≡ [] → lawful (dropped s t) ≡ true → Told vs (ls ++ (l ∷ [])) (dropped s t)
    unfolding dropped
    leaves_now l a c f = does (dropped s t) l (drop_frame s so.inv t on) f (omega arith)
        (λ r mr e h. (row_gone s so.inv t on r mr).1 e) (λ u e. a u) c (λ r mr e. absurd ((row_gone s so.inv t on r mr).1 e))

    -- t reads
    module _ (tn : TxnNo) (it : ItemNo) (is : tn.0 ≡ t) (within : it.0 < s.count) where
      read-act : (v : ℕ) → act t (Read tn it) v ≡ (got it.0 v ∷ [])
      unfolding act
      read-act v = rw (eq-eqb tn.0 t is) refl

      read_others : (v u : ℕ) → (u ≡ t → ⊥) → act u (Read tn it) v ≡ []
      unfolding act
      read_others v u ne = rw (ne_eqb tn.0 u (λ e. ne (sym e ∙ is))) refl

      write-act : (v w : ℕ) → act t (Write tn it w) v ≡ (put it.0 w ∷ [])
      unfolding act
      write-act v w = rw (eq-eqb tn.0 t is) refl

      write_others : (v w u : ℕ) → (u ≡ t → ⊥) → act u (Write tn it w) v ≡ []
      unfolding act
      write_others v w u ne = rw (ne_eqb tn.0 u (λ e. ne (sym e ∙ is))) refl

      -- without a new record
      rereads : (v : ℕ) → ((m : Store) → ((j : ℕ) → has_read s t j ≡ true → m j ≡ (visible s t j).value) → leaves m (acts t ls) it.0 ≡ v)
          → Told vs (ls ++ ((Read tn it, Ok v) ∷ [])) s
      unfolding committer
      rereads v h = does s (Read tn it, Ok v) (stay_frame s so.inv t on) (lawful_from s so.inv so.free) (omega arith) never (read_others v) refl
          (λ r mr e. subst (λ (ds : List Act). Acts s t (acts t ls ++ ds)) (sym (read-act v)) (given_right vs ls s so t on it.0 v h))

      reads : lawful (after_read s t it.0) ≡ true → Told vs (ls ++ ((Read tn it, Ok (read_value s t it.0)) ∷ [])) (after_read s t it.0)
      unfolding read_value after_read committer
      reads = go (has_read s t it.0) (wrote s t it.0) refl refl
        where
          a : Acts s t (acts t ls)
          a = acts_of vs ls s so t on

          fit : (it.0 < 256) × (1 < 256)
          fit = (omega (arith, so.inv.counts.1), omega arith)

          x1 : Rec
          x1 = rec t it.0 1 (writer (visible s t it.0))

          go : (b c : Bool) → has_read s t it.0 ≡ b → wrote s t it.0 ≡ c
              → lawful (cond (b || c) s (with_recs s (insert x1 s.recs))) ≡ true → Told vs (ls ++ ((Read tn it, Ok (cond c (written s t it.0) (visible s t it.0).value)) ∷ [])) (cond (b || c) s (with_recs s (insert x1 s.recs)))
          go true true p q f = rereads (written s t it.0) (λ m h. a.puts m it.0 q)
          go false true p q f = rereads (written s t it.0) (λ m h. a.puts m it.0 q)
          go true false p q f = rereads (visible s t it.0).value (λ m h. a.other m it.0 q ∙ h it.0 p)
          go false false p q f = does (with_recs s (insert x1 s.recs)) (Read tn it, Ok (visible s t it.0).value)
              (enter_frame s so.inv x1 fit on) f (omega arith) never (read_others (visible s t it.0).value) refl
              (λ r mr e. subst (λ (ds : List Act). Acts (with_recs s (insert x1 s.recs)) t (acts t ls ++ ds)) (sym (read-act (visible s t it.0).value))
              (read_new vs ls s so t it.0 on within q))

      writes : (w : ℕ) → lawful (after_write s t it.0 w) ≡ true → Told vs (ls ++ ((Write tn it w, Ok 0) ∷ [])) (after_write s t it.0 w)
      unfolding after_write committer
      writes w f = does (with_recs s (insert y1 s.recs)) (Write tn it w, Ok 0)
          (enter_frame s so.inv y1 fit on) f (omega arith) never (write_others 0 w) refl
          (λ r mr e. subst (λ (ds : List Act). Acts (with_recs s (insert y1 s.recs)) t (acts t ls ++ ds)) (sym (write-act 0 w))
          (write_new vs ls s so t it.0 on within w))
        where
          y1 : Rec
          y1 = rec t it.0 2 w

          fit : (it.0 < 256) × (2 < 256)
          fit = (omega (arith, so.inv.counts.1), omega arith)

    -- t commits
    committed-acts : Acts (committing s t) t (acts t ls)
    unfolding committing recorded
    committed-acts = record {
      fits = λ m h. a.fits m (λ i q. h i q ∙ same i);
      puts = λ m i q. a.puts m i q;
      other = λ m i q. a.other m i q;
    }
      where
        a : Acts s t (acts t ls)
        a = acts_of vs ls s so t on

        same : (i : ℕ) → (visible (committing s t) t i).value ≡ (visible s t i).value
        same i = ap (λ (p : Version). p.value) (commit-visible s so.inv t on i)

    commits_now : (l : Line) → ((u : ℕ) → tells (act u) l ≡ []) → tells committer l ≡ (t ∷ []) → lawful (committing s t) ≡ true → Told vs (ls ++ (l ∷ [])) (committing s t)
    unfolding committing
    commits_now l a c f = acted vs ls s so (committing s t) t l (commit_frame s so.inv t on) f (omega (arith, below_next vs ls s so t on)) (λ u e. a u)
        (λ r mr e. subst (λ (ds : List Act). Acts (committing s t) t (acts t ls ++ ds)) (sym (a t)) (subst (Acts (committing s t) t) (sym (append-nil (acts t ls))) committed-acts))
        (λ m. subst (λ (q : List ℕ). t ∈ q) (sym c) (Memᴰ.head refl))
        (λ u m. Memᴰ.cast (Memᴰ.eq_of_singleton (subst (λ (q : List ℕ). u ∈ q) c m)) (commit-here s so.inv t on)) (inr c)

  call_open : (c : ℕ) (vs' : List ℕ) (b : Bool) → opening (Open c vs', (outcome (history n k) s (Open c vs') (lowest (Ok 0) ((Err BadOpening, not b) ∷ []))).0) ≡ false
      → Next (Open c vs') ((Err BadOpening, not b) ∷ [])
  unfolding lowest outcome opening opens value after refused
  call_open c vs' false h f' = refusal (Open c vs') (Err BadOpening) refl
  call_open c vs' true h f' = absurd (false≢true (sym h))

  call_begin : (b1 b4 b5 : Bool) → Next Begin ((Err UnsoundTables, b1) ∷ (Err NumbersUsedUp, b4) ∷ (Err RowsFull, b5) ∷ [])
  unfolding lowest outcome value after refused
  call_begin true b4 b5 f' = refusal Begin (Err UnsoundTables) refl
  call_begin false true b5 f' = refusal Begin (Err NumbersUsedUp) refl
  call_begin false false true f' = refusal Begin (Err RowsFull) refl
  call_begin false false false f' = begins f'

  call_latest : (it : ItemNo) (b1 b2 : Bool) → Next (Latest it) ((Err UnsoundTables, b1) ∷ (Err UnknownItem, b2) ∷ [])
  unfolding lowest outcome value after refused act committer
  call_latest it true b2 f' = refusal (Latest it) (Err UnsoundTables) refl
  call_latest it false true f' = refusal (Latest it) (Err UnknownItem) refl
  call_latest it false false f' = unmoved vs ls s so (Latest it, Ok (latest s it.0)) (λ t. refl) refl

  module _ (tn : TxnNo) where
    call_abort : (b1 b3 : Bool) → not (is_active s tn.0) ≡ b3 → Next (Abort tn) ((Err UnsoundTables, b1) ∷ (Err NotActive, b3) ∷ [])
    unfolding lowest outcome value after refused history act committer
    call_abort true b3 e f' = refusal (Abort tn) (Err UnsoundTables) refl
    call_abort false true e f' = refusal (Abort tn) (Err NotActive) refl
    call_abort false false e f' = leaves_now tn.0 (not-false _ e) (Abort tn, Ok 0) (λ u. refl) refl f'

    call_commit : (b1 b3 b7 b8 : Bool) → not (is_active s tn.0) ≡ b3 → Next (Commit tn) ((Err UnsoundTables, b1) ∷ (Err NotActive, b3) ∷ (Err Beaten, b7) ∷ (Err ClosesRing, b8) ∷ [])
    unfolding lowest outcome value after refused history act committer
    call_commit true b3 b7 b8 e f' = refusal (Commit tn) (Err UnsoundTables) refl
    call_commit false true b7 b8 e f' = refusal (Commit tn) (Err NotActive) refl
    call_commit false false true b8 e f' = leaves_now tn.0 (not-false _ e) (Commit tn, (Err Beaten)) (λ u. refl) refl f'
    call_commit false false false true e f' = leaves_now tn.0 (not-false _ e) (Commit tn, (Err ClosesRing)) (λ u. refl) refl f'
    call_commit false false false false e f' = commits_now tn.0 (not-false _ e) (Commit tn, Ok s.moment) (λ u. refl) refl f'

    module _ (it : ItemNo) where
      call_read : (b1 b2 b3 b6 : Bool) → leb s.count it.0 ≡ b2 → not (is_active s tn.0) ≡ b3 → Next (Read tn it) ((Err UnsoundTables, b1) ∷ (Err UnknownItem, b2) ∷ (Err NotActive, b3) ∷ (Err RecordsFull, b6) ∷ [])
      unfolding lowest outcome value after refused
      call_read true b2 b3 b6 e f f' = refusal (Read tn it) (Err UnsoundTables) refl
      call_read false true b3 b6 e f f' = refusal (Read tn it) (Err UnknownItem) refl
      call_read false false true b6 e f f' = refusal (Read tn it) (Err NotActive) refl
      call_read false false false true e f f' = refusal (Read tn it) (Err RecordsFull) refl
      call_read false false false false e f f' = reads tn.0 (not-false _ f) tn it refl (leb-false _ _ e) f'

      call_write : (v : ℕ) (b1 b2 b3 b6 : Bool) → leb s.count it.0 ≡ b2 → not (is_active s tn.0) ≡ b3 → Next (Write tn it v) ((Err UnsoundTables, b1) ∷ (Err UnknownItem, b2) ∷ (Err NotActive, b3) ∷ (Err RecordsFull, b6) ∷ [])
      unfolding lowest outcome value after refused
      call_write v true b2 b3 b6 e f f' = refusal (Write tn it v) (Err UnsoundTables) refl
      call_write v false true b3 b6 e f f' = refusal (Write tn it v) (Err UnknownItem) refl
      call_write v false false true b6 e f f' = refusal (Write tn it v) (Err NotActive) refl
      call_write v false false false true e f f' = refusal (Write tn it v) (Err RecordsFull) refl
      call_write v false false false false e f f' = writes tn.0 (not-false _ f) tn it refl (leb-false _ _ e) v f'

  -- a call
  pub told_call : (x : Call) → opening (x, (step (history n k) s x).0) ≡ false → Told vs (ls ++ ((x, (step (history n k) s x).0) ∷ [])) (step (history n k) s x).1
  unfolding step tests
  told_call x h = go x h (lasting n k s (lawful_from s so.inv so.free) x)
    where
      go : (x : Call) → opening (x, (step (history n k) s x).0) ≡ false → lawful (step (history n k) s x).1 ≡ true
          → Told vs (ls ++ ((x, (step (history n k) s x).0) ∷ [])) (step (history n k) s x).1
      go (Open c vs') h = unfold value in call_open c vs' (openable c vs') h
      go Begin h = call_begin _ _ _
      go (Read t i) h = call_read t i _ _ _ _ refl refl
      go (Write t i v) h = call_write t i v _ _ _ _ refl refl
      go (Commit t) h = call_commit t _ _ _ _ refl
      go (Abort t) h = call_abort t _ _ refl
      go (Latest i) h = call_latest i _ _

-- a run
pub told-run : (n k : ℕ) (vs : List ℕ) (ls : List Line) (s : State) (xs : List Call) → Told vs ls s
    → any opening (lines (history n k) s xs) ≡ false → Told vs (ls ++ lines (history n k) s xs) (final (history n k) s xs)
unfolding lines states final
told-run n k vs ls s [] so h = subst (λ (q : List Line). Told vs q s) (sym (append-nil ls)) so
told-run n k vs ls s (x ∷ xs) so h =
    let r = step (history n k) s x in
    subst (λ (q : List Line). Told vs q (final (history n k) r.1 xs)) (append_assoc ls ((x, r.0) ∷ []) (lines (history n k) r.1 xs))
    (told-run n k vs (ls ++ ((x, r.0) ∷ [])) r.1 xs (told_call n k vs ls s so x (first (opening (x, r.0)) _ h)) (second (opening (x, r.0)) _ h))
  where
    first : (a b : Bool) → (a || b) ≡ false → a ≡ false
    first true b h = h
    first false b h = refl

    second : (a b : Bool) → (a || b) ≡ false → b ≡ false
    second true b h = absurd (false≢true (sym h))
    second false b h = h

-- nothing has been told at the opening
pub told-opened : (vs : List ℕ) → 1 ≤ length vs → length vs ≤ 256 → Told vs [] (opened vs)
unfolding opened acts committers told commits
told-opened vs l h = record {
  inv = lawful_facts (opened vs) (opened-lawful vs l h);
  free = lawful-free (opened vs) (opened-lawful vs l h);
  values = refl;
  told = λ r m. elim m [ ];
  fresh = λ t l. refl;
  there = λ t m. elim m [ ];
  back = λ t m. elim m [ ];
  by-commit = refl;
}

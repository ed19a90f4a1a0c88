-- The history machine keeps states lawful, from an opening on. Assumes nothing.
use Prim.Native.Nat.{◌<◌, ◌≤◌, ℕ}
use mathlib.Core.Bool.{Bool, ◌&&◌, ◌||◌, cond, false, not, true}
use mathlib.Core.List.{List, [], ◌∷◌}
use mathlib.Core.Logic.{◌⊎◌, inl, inr}
use mathlib.Core.Path.{◌∙◌, ◌≡◌, ap, refl}
use native.Mathlib.Omega.{arith}
use lib.Dec.{eqb, leb}
use lib.ListN.{length, length-replicate}
use borrow.Author.Tests.{eq-eqb, eqb-false, eqb-true, le-leb, leb-false, leb-true}
use Rattle.std.specs.Prelude.{Err, Ok}
use Rattle.terms.specs.declared.Refusal.TheVariants.{BadOpening, Beaten, ClosesRing, NotActive, NumbersUsedUp, RecordsFull, RowsFull, UnknownItem, UnsoundTables}
use Rattle.laws.proofs.Lists.{and_both, and_left, and_right}
use Rattle.laws.proofs.Rings.{ring-free}
use Rattle.laws.proofs.Tables.{all_replicate}
use Rattle.rules.specs.Deps.{Ring, beaten, ring}
use Rattle.rules.specs.Machine.{Abort, Begin, Call, Commit, Latest, Open, Read, Write, after, history, lowest, openable, outcome, refused, step, tests, value}
use Rattle.rules.specs.Sound.{based, headed, lawful, numbered, ordered, owned, seen, tested, timed, unmixed}
use Rattle.rules.specs.Spent.{forget}
use Rattle.rules.specs.State.{State, begun, commits, committing, dropped, has_read, insert, is_active, opened, with_recs, wrote}
use Rattle.rules.specs.Versions.{after_read, after_write, visible}
use Rattle.terms.specs.Words.{Answer, item, rec, txn, writer}
use Rattle.terms.specs.declared.ItemNo.{ItemNo}
use Rattle.terms.specs.declared.Rec.{Rec}
use Rattle.terms.specs.declared.TxnNo.{TxnNo}
use Rattle.theory.proofs.Actives.{Active, active_out}
use Rattle.theory.proofs.Bare.{dropped-is}
use Rattle.theory.proofs.Facts.{Facts, lawful_facts, lawful-free, lawful_from}
use Rattle.theory.proofs.FactsCommit.{facts_commit}
use Rattle.theory.proofs.FactsKept.{facts_begun, facts_dropped, facts_put, free-begun, free-dropped, free-put}
use Rattle.theory.proofs.PrunedDrop.{its_row}

-- an accepted opening has as many values as its count says, 1 to 256
pub openable_out : (c : ℕ) (vs : List ℕ) → openable c vs ≡ true → (1 ≤ length vs) × (length vs ≤ 256) × (length vs ≡ c)
unfolding openable
openable_out c vs h =
    let e = eqb-true (length vs) c (and_right (leb 1 c && leb c 256) _ h) in
    let k = and_left _ _ h in
    let l = leb-true 1 c (and_left _ _ k) in
    let r = leb-true c 256 (and_right (leb 1 c) _ k) in
    (omega arith, omega arith, e)

-- an opening is lawful
pub opened-lawful : (vs : List ℕ) → 1 ≤ length vs → length vs ≤ 256 → lawful (opened vs) ≡ true
unfolding lawful tested ordered headed numbered timed owned based seen unmixed ring commits opened
opened-lawful vs l r =
    and_both _ _ (and_both _ _ (and_both _ _ (and_both _ _ (and_both _ _ (and_both _ _ (and_both _ _ (and_both _ _
    (and_both _ _ (and_both _ _ (and_both _ _ (eq-eqb (length vs) (length vs) refl) (eq-eqb _ _ (length-replicate (length vs) 0))) refl) refl)
    (and_both _ _ (and_both _ _ (and_both _ _ (and_both _ _ (and_both _ _ (le-leb 1 (length vs) l) (le-leb (length vs) 256 r)) refl) refl) refl) refl)) refl) refl) refl)
    (all_replicate _ (length vs) 0 refl)) refl) refl) refl

module _ (n m : ℕ) (s : State) (h : lawful s ≡ true) where
  v : Facts s
  v = lawful_facts s h

  free : ¬ Ring s
  free = lawful-free s h

  abbrev Lasts : Call → List (Answer × Bool) → Type 0
  Lasts x l = lawful (outcome (history n m) s x (lowest (Ok (value (history n m) s x)) l)).1 ≡ true

  last_open : (c : ℕ) (vs : List ℕ) (b : Bool) → openable c vs ≡ b → Lasts (Open c vs) ((Err BadOpening, not b) ∷ [])
  unfolding lowest outcome value after refused
  last_open c vs false e = h
  last_open c vs true e = let u = openable_out c vs e in opened-lawful vs u.0 u.1

  last-begin : (u a b : Bool) → eqb s.next 65536 ≡ a → Lasts Begin ((Err UnsoundTables, u) ∷ (Err NumbersUsedUp, a) ∷ (Err RowsFull, b) ∷ [])
  unfolding lowest outcome value after refused
  last-begin true a b e = h
  last-begin false true b e = h
  last-begin false false true e = h
  last-begin false false false e = lawful_from (begun s) (facts_begun s v (eqb-false s.next 65536 e)) (free-begun s v free)

  -- a record of t is put in
  last-put : (t : ℕ) → is_active s t ≡ true → (x : Rec) → txn x ≡ t → item x < s.count → (x.kind ≡ 1) ⊎ (x.kind ≡ 2)
      → (x.kind ≡ 1 → x.word ≡ writer (visible s (txn x) (item x))) → lawful (with_recs s (insert x s.recs)) ≡ true
  last-put t on x own below kind sees =
      let a = active_out s t on in
      lawful_from (with_recs s (insert x s.recs)) (facts_put s v t a x own below kind sees) (free-put s v t a x own below kind sees free)

  last-read : (t : TxnNo) (i : ItemNo) (u a b c : Bool) → leb s.count i.0 ≡ a → is_active s t.0 ≡ b
      → Lasts (Read t i) ((Err UnsoundTables, u) ∷ (Err UnknownItem, a) ∷ (Err NotActive, not b) ∷ (Err RecordsFull, c) ∷ [])
  unfolding lowest outcome value after refused after_read
  last-read t i true a b c p q = h
  last-read t i false true b c p q = h
  last-read t i false false false c p q = h
  last-read t i false false true true p q = h
  last-read t i false false true false p q = go (has_read s t.0 i.0 || wrote s t.0 i.0)
    where
      go : (b : Bool) → lawful (cond b s (with_recs s (insert (rec t.0 i.0 1 (writer (visible s t.0 i.0))) s.recs))) ≡ true
      go true = h
      go false = last-put t.0 q (rec t.0 i.0 1 (writer (visible s t.0 i.0))) refl (leb-false s.count i.0 p) (inl refl) (λ e. refl)

  last-write : (t : TxnNo) (i : ItemNo) (w : ℕ) (u a b c : Bool) → leb s.count i.0 ≡ a → is_active s t.0 ≡ b
      → Lasts (Write t i w) ((Err UnsoundTables, u) ∷ (Err UnknownItem, a) ∷ (Err NotActive, not b) ∷ (Err RecordsFull, c) ∷ [])
  unfolding lowest outcome value after refused after_write
  last-write t i w true a b c p q = h
  last-write t i w false true b c p q = h
  last-write t i w false false false c p q = h
  last-write t i w false false true true p q = h
  last-write t i w false false true false p q = last-put t.0 q (rec t.0 i.0 2 w) refl (leb-false s.count i.0 p) (inr refl) (λ e. absurd (omega arith))

  -- a transaction ends, and leaves nothing
  pub last-drop : (t : ℕ) → Active s t → lawful (dropped s t) ≡ true
  last-drop t a =
      ap lawful (dropped-is s t v.sizes (its_row s v t a)) ∙ lawful_from (forget (λ k. eqb k t) s) (facts_dropped s v t a) (free-dropped s v t a free)

  last-commit : (t : TxnNo) (u b c d : Bool) → is_active s t.0 ≡ b → beaten s t.0 ≡ c → ring (committing s t.0) ≡ d
      → Lasts (Commit t) ((Err UnsoundTables, u) ∷ (Err NotActive, not b) ∷ (Err Beaten, c) ∷ (Err ClosesRing, d) ∷ [])
  unfolding lowest outcome value after refused history
  last-commit t true b c d p q r = h
  last-commit t false false c d p q r = h
  last-commit t false true true d p q r = last-drop t.0 (active_out s t.0 p)
  last-commit t false true false true p q r = last-drop t.0 (active_out s t.0 p)
  last-commit t false true false false p q r =
      lawful_from (committing s t.0) (facts_commit s v t.0 (active_out s t.0 p) q) ((ring-free (committing s t.0)).0 r)

  last-abort : (t : TxnNo) (u b : Bool) → is_active s t.0 ≡ b → Lasts (Abort t) ((Err UnsoundTables, u) ∷ (Err NotActive, not b) ∷ [])
  unfolding lowest outcome value after refused history
  last-abort t true b p = h
  last-abort t false false p = h
  last-abort t false true p = last-drop t.0 (active_out s t.0 p)

  last-latest : (i : ItemNo) (u b : Bool) → Lasts (Latest i) ((Err UnsoundTables, u) ∷ (Err UnknownItem, b) ∷ [])
  unfolding lowest outcome value after refused
  last-latest i true b = h
  last-latest i false true = h
  last-latest i false false = h

  pub lasting : (x : Call) → lawful (step (history n m) s x).1 ≡ true
  unfolding step tests
  lasting (Open c vs) = last_open c vs (openable c vs) refl
  lasting Begin = last-begin _ (eqb s.next 65536) _ refl
  lasting (Read t i) = last-read t i _ (leb s.count i.0) (is_active s t.0) _ refl refl
  lasting (Write t i w) = last-write t i w _ (leb s.count i.0) (is_active s t.0) _ refl refl
  lasting (Commit t) = last-commit t _ (is_active s t.0) (beaten s t.0) (ring (committing s t.0)) refl refl refl
  lasting (Abort t) = last-abort t _ (is_active s t.0) refl
  lasting (Latest i) = last-latest i _ _

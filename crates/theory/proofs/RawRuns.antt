-- Lent tables, call after call: the public calls do to them what the table machine does to the state that they hold. Assumes nothing.
use Prim.Native.Nat.{ℕ, ◌<◌, ◌^◌}
use mathlib.Core.Bool.{Bool, ◌&&◌, ◌||◌, cond, false, true}
use mathlib.Core.List.{List, [], ◌∷◌, map}
use mathlib.Core.Logic.{◌⊎◌, inl, inr, ⊎_elim}
use mathlib.Core.Path.{◌∙◌, ◌≡◌, ap, refl, sym}
use native.Mathlib.Omega.{arith}
use lib.Dec.{leb}
use lib.ListN.{length, length-map}
use borrow.Author.Tests.{eq-eqb, leb-true, ltb-true}
use Rattle.std.specs.Prelude.{Err, Ok}
use Rattle.terms.specs.declared.Refusal.TheVariants.{BadOpening}
use Rattle.terms.specs.declared.Rec.{Rec}
use Rattle.terms.specs.declared.Row.{Row}
use Rattle.terms.specs.Words.{Answer, accepted, item, paper, rec, txn, writer}
use Rattle.rules.specs.Lists.{all}
use Rattle.rules.specs.State.{State, begun, committing, dropped, has_read, insert, opened, start_of, with_recs, wrote}
use Rattle.rules.specs.Versions.{after_read, after_write, version_at, visible}
use Rattle.rules.specs.Spent.{forget, prune}
use Rattle.rules.specs.Sound.{sized, sound}
use Rattle.rules.specs.Machine.{Abort, Begin, Call, Commit, Latest, Line, Open, Read, Write, after, lines, openable, outcome, refused, states, step, tables}
use Rattle.rules.specs.Raw.{Raw, pack, raw_of, sound_raw, state_of, zero_row}
use Rattle.rules.specs.Public.{call_on, fitting, in_range, lent, lines_on, on_sound, open_on, raws_on}
use Rattle.laws.proofs.Lists.{◌∈◌, and_both, and_left, and_right, keep_out}
use Rattle.lists.proofs.Pads.{length-padded}
use Rattle.laws.proofs.Raw.{Fits, held_in, state-raw}
use Rattle.laws.proofs.Records.{insert_out}
use Rattle.laws.proofs.Versions.{Installed, Unwritten}
use Rattle.theory.proofs.Agreeing.{sound-lawful, still_sound}
use Rattle.theory.proofs.Consequences.{rowless, standing}
use Rattle.theory.proofs.Facts.{Facts, lawful_facts}
use Rattle.theory.proofs.Refusing.{opens_by}

-- every write record has room for its value
abbrev pub Narrow : State → Type 0
Narrow s = (x : Rec) → x ∈ s.recs → x.kind ≡ 2 → x.word < 2 ^ 32

-- ---- a call keeps that
module _ (s : State) (w : Narrow s) where
  narrow-insert : (y : Rec) → (y.kind ≡ 2 → y.word < 2 ^ 32) → Narrow (with_recs s (insert y s.recs))
  narrow-insert y h x m k = go (insert_out y s.recs m)
    where
      go : (x ≡ y) ⊎ (x ∈ s.recs) → x.word < 2 ^ 32
      go (inl e) = omega (arith, h (sym (ap (λ (z : Rec). z.kind) e) ∙ k), ap (λ (z : Rec). z.word) e)
      go (inr n) = w x n k

  narrow-read : (t i : ℕ) → Narrow (after_read s t i)
  unfolding after_read
  narrow-read t i = go (has_read s t i || wrote s t i)
    where
      go : (b : Bool) → Narrow (cond b s (with_recs s (insert (rec t i 1 (writer (visible s t i))) s.recs)))
      go true = w
      go false = narrow-insert (rec t i 1 (writer (visible s t i))) (λ e. absurd (omega arith))

  narrow-dropped : (t : ℕ) → Narrow (dropped s t)
  unfolding dropped
  narrow-dropped t x m k = w x (keep_out _ s.recs m).0 k

narrow_pruned : (s : State) → Narrow s → Narrow (prune s)
unfolding prune forget
narrow_pruned s w x m k = w x (keep_out _ s.recs m).0 k

module _ (n m : ℕ) (s : State) (w : Narrow s) where
  narrow-after : (x : Call) → in_range x ≡ true → Narrow (after (tables n m) s x)
  unfolding after tables in_range begun committing after_write opened
  narrow-after (Open c vs) h = λ y my. elim my [ ]
  narrow-after Begin h = w
  narrow-after (Read t i) h = narrow-read s w t.0 i.0
  narrow-after (Write t i v) h = narrow-insert s w (rec t.0 i.0 2 v) (λ e. ltb-true v (2 ^ 32) h)
  narrow-after (Commit t) h = narrow_pruned (committing s t.0) w
  narrow-after (Abort t) h = narrow_pruned (dropped s t.0) (narrow-dropped s w t.0)
  narrow-after (Latest i) h = w

  narrow-refused : (a : Answer) (x : Call) → Narrow (refused (tables n m) s a x)
  unfolding refused in_range
  narrow-refused a (Open c vs) = w
  narrow-refused a Begin = w
  narrow-refused a (Read t i) = w
  narrow-refused a (Write t i v) = w
  narrow-refused a (Commit t) = go (leb 7 (paper a).number)
    where
      go : (b : Bool) → Narrow (cond b (after (tables n m) s (Abort t)) s)
      go true = narrow-after (Abort t) refl
      go false = w
  narrow-refused a (Abort t) = w
  narrow-refused a (Latest i) = w

  narrow_step : (x : Call) → in_range x ≡ true → Narrow (step (tables n m) s x).1
  unfolding step outcome
  narrow_step x h = go (step (tables n m) s x).0
    where
      go : (a : Answer) → Narrow (elim (accepted a) [ true ↦ after (tables n m) s x | false ↦ refused (tables n m) s a x ])
      go a = pick (accepted a)
        where
          pick : (b : Bool) → Narrow (elim b [ true ↦ after (tables n m) s x | false ↦ refused (tables n m) s a x ])
          pick true = narrow-after x h
          pick false = narrow-refused a x

-- ---- a sound state with such records fits the tables
module _ (s : State) (f : Facts s) where
  -- the writer of a version was given its number
  pub writer-given : (i m : ℕ) → i < s.count → writer (version_at s i m) < s.next
  writer-given i m l = go (standing s f i m)
    where
      go : Unwritten s i m ⊎ ((c : Row) × Installed s i m c) → writer (version_at s i m) < s.next
      go (inl u) = omega (arith, ap writer u.is, (rowless s f i l).0)
      go (inr (c, u)) = omega (arith, ap writer u.is, (f.numbers u.by.here).1)

  narrow-fits : Narrow s → Fits s
  unfolding visible
  narrow-fits w = record {
    values = f.sizes.0;
    writers = f.sizes.1;
    numbers = λ m. (f.numbers m).0;
    packs = λ {x} m. record { item-fits = omega (arith, f.within m, f.counts.1); kind_fits = ⊎_elim (λ e. omega arith) (λ e. omega arith) (f.kinds m); word_fits = word x m (f.kinds m) };
    kinds = λ m. ⊎_elim (λ e. omega arith) (λ e. omega arith) (f.kinds m);
  }
    where
      word : (x : Rec) → x ∈ s.recs → (x.kind ≡ 1) ⊎ (x.kind ≡ 2) → x.word < 2 ^ 32
      word x m (inl e) = omega (arith, f.sees m e, writer-given (item x) (start_of s (txn x)) (f.within m), f.nexts.1)
      word x m (inr e) = w x m e

-- ---- one call, and some calls one after the other
module _ (n m : ℕ) where
  module _ (s : State) (h : sound n m s ≡ true) (w : Narrow s) where
    fits : Fits s
    fits = narrow-fits s (lawful_facts s (sound-lawful n m s h)) w

    again : state_of (raw_of n m s) ≡ s
    again = state-raw n m s fits

    pub raw-sound : sound_raw n m (raw_of n m s) ≡ true
    raw-sound = held_in n m (raw_of n m s) (ap (raw_of n m) again) (ap (sound n m) again ∙ h)

    -- rows and records have room
    room : (leb (length s.rows) n && leb (length s.recs) m) ≡ true
    unfolding sound sized
    room = and_left _ _ (and_left _ _ h)

    raw-fitting : fitting n m (raw_of n m s) ≡ true
    unfolding fitting raw_of
    raw-fitting =
        let c = (lawful_facts s (sound-lawful n m s h)).counts.1 in
        let v = length-padded 256 0 s.values (omega (arith, fits.values, c)) in
        let q = length-padded 256 0 s.writers (omega (arith, fits.writers, c)) in
        let r = length-padded n zero_row s.rows (leb-true _ _ (and_left _ _ room)) in
        let x = length-padded m 0 (map pack s.recs) (omega (arith, length-map s.recs pack, leb-true (length s.recs) m (and_right (leb (length s.rows) n) _ room))) in
        and_both _ _ (and_both _ _ (and_both _ _ (eq-eqb _ _ v) (eq-eqb _ _ q)) (eq-eqb _ _ r)) (eq-eqb _ _ x)

    on-sound : (x : Call) → on_sound n m x (raw_of n m s) ≡ lent n m (step (tables n m) s x)
    unfolding on_sound
    on-sound x = rw (raw-sound, on_sound) (ap (λ (z : State). lent n m (step (tables n m) z x)) again)

    pub call_raw : (x : Call) → call_on n m x (raw_of n m s) ≡ lent n m (step (tables n m) s x)
    unfolding call_on open_on
    call_raw (Open c vs) =
        ap (λ (b : Bool). opening (openable c vs && b)) raw-fitting ∙ by_test (openable c vs) ∙ sym (ap (lent n m) (opens_by (tables n m) s c vs (openable c vs) refl))
      where
        opening : Bool → Answer × Raw
        opening b = elim b [ true ↦ (Ok 0, raw_of n m (opened vs)) | false ↦ (Err BadOpening, raw_of n m s) ]

        by_test : (b : Bool) → opening (b && true) ≡ lent n m (elim b [ true ↦ (Ok 0, opened vs) | false ↦ (Err BadOpening, s) ])
        by_test true = refl
        by_test false = refl
    call_raw Begin = on-sound Begin
    call_raw (Read t i) = on-sound (Read t i)
    call_raw (Write t i v) = on-sound (Write t i v)
    call_raw (Commit t) = on-sound (Commit t)
    call_raw (Abort t) = on-sound (Abort t)
    call_raw (Latest i) = on-sound (Latest i)

  -- the answers are the table machine's, the tables hold its states, and they are sound
  pub record Follow (w : Raw) (s : State) (xs : List Call) : Type 0 where
    pub answers : lines_on n m w xs ≡ lines (tables n m) s xs
    pub stand : raws_on n m w xs ≡ map (raw_of n m) (states (tables n m) s xs)
    pub safe : all (sound_raw n m) (raws_on n m w xs) ≡ true

  pub follow : (s : State) → sound n m s ≡ true → Narrow s → (xs : List Call) → all in_range xs ≡ true → Follow (raw_of n m s) s xs
  unfolding lines_on raws_on lines states
  follow s h w [] r = record { answers = refl; stand = refl; safe = refl }
  follow s h w (x ∷ xs) r =
      let e = call_raw s h w x in
      let z : State = (step (tables n m) s x).1 in
      let hz = still_sound n m s h x in
      let wz : Narrow z = narrow_step n m s w x (and_left _ _ r) in
      let f = follow z hz wz xs (and_right (in_range x) _ r) in
      record {
        answers = ap {B = List Line} (λ (q : Answer × Raw). (x, q.0) ∷ lines_on n m q.1 xs) e ∙ ap {B = List Line} (λ l. (x, (step (tables n m) s x).0) ∷ l) f.answers;
        stand = ap {B = List Raw} (λ (q : Answer × Raw). q.1 ∷ raws_on n m q.1 xs) e ∙ ap {B = List Raw} (λ l. raw_of n m z ∷ l) f.stand;
        safe = ap {B = Bool} (λ (q : Answer × Raw). sound_raw n m q.1 && all (sound_raw n m) (raws_on n m q.1 xs)) e ∙ and_both _ _ (raw-sound z hz wz) f.safe;
      }

-- Both machines on some calls: from a lawful state, from sound tables, from an opening and from the closed state. Assumes nothing.
use Prim.Native.Nat.{◌≤◌, ℕ}
use mathlib.Core.Bool.{Bool, ◌&&◌, false, not, true}
use mathlib.Core.List.{List, [], ◌∷◌, map}
use mathlib.Core.Logic.{◌⊎◌, inl, inr}
use mathlib.Core.Path.{◌∙◌, ◌≡◌, ap, refl, subst, sym}
use native.Mathlib.Omega.{arith}
use lib.Dec.{leb}
use lib.ListN.{length}
use borrow.Author.Tests.{leb-true}
use Rattle.std.specs.Prelude.{Err, Ok}
use Rattle.terms.specs.Words.{Answer}
use Rattle.terms.specs.declared.Refusal.TheVariants.{BadOpening, UnsoundTables}
use Rattle.laws.proofs.Lists.{and_both, and_left, and_right, passed}
use Rattle.rules.specs.Book.{book}
use Rattle.rules.specs.Lists.{all}
use Rattle.rules.specs.Machine.{Abort, Begin, Call, Commit, Latest, Line, Open, Read, Write, final, history, lines, openable, states, step, tables}
use Rattle.rules.specs.Serial.{opens}
use Rattle.rules.specs.Sound.{lawful, lean, sized, sound}
use Rattle.rules.specs.Spent.{prune}
use Rattle.rules.specs.State.{State, closed, opened}
use Rattle.theory.proofs.Facts.{lawful_facts, lawful-free}
use Rattle.theory.proofs.LawfulCalls.{lasting, openable_out, opened-lawful}
use Rattle.theory.proofs.PrunedCalls.{same_call}
use Rattle.theory.proofs.PrunedSound.{sound-kept}
use Rattle.theory.proofs.PrunedTests.{Room, fits_by, open_pruned, opened-fits}
use Rattle.theory.proofs.Pruning.{lean_pruned}
use Rattle.theory.proofs.Refusing.{is_fine, answers_fine, opens_by}
use Rattle.laws.proofs.Refusals.{unsound_first}

-- the table machine on tables z and the history machine on a state s: the answers are the same, and the tables stand as the history
-- pruned, are sound and are never called unsound
pub record Agree (n m : ℕ) (z s : State) (xs : List Call) : Type 0 where
  pub answers : lines (tables n m) z xs ≡ lines (history n m) s xs
  pub stand : states (tables n m) z xs ≡ map prune (states (history n m) s xs)
  pub safe : all (sound n m) (states (tables n m) z xs) ≡ true
  pub fine : all (λ l. is_fine l.1) (lines (tables n m) z xs) ≡ true
  pub ends : final (tables n m) z xs ≡ prune (final (history n m) s xs)

module _ (n m : ℕ) where
  pub lawful-run : (s : State) → lawful s ≡ true → (xs : List Call) → lawful (final (history n m) s xs) ≡ true
  unfolding states final
  lawful-run s h [] = h
  lawful-run s h (x ∷ xs) = lawful-run (step (history n m) s x).1 (lasting n m s h x) xs

  -- from a lawful state whose pruned form fits
  agree : (s : State) → lawful s ≡ true → Room n m s → (xs : List Call) → Agree n m (prune s) s xs
  unfolding lines states final
  agree s h f [] = record { answers = refl; stand = refl; safe = refl; fine = refl; ends = refl }
  agree s h f (x ∷ xs) =
      let g = same_call n m s (lawful_facts s h) (lawful-free s h) f x in
      let z : State = (step (history n m) s x).1 in
      let k = lasting n m s h x in
      let r = agree z k g.fits xs in
      record {
        answers = ap {B = List Line} (λ (q : Answer × State). (x, q.0) ∷ lines (tables n m) q.1 xs) g.same ∙ ap {B = List Line} (λ l. (x, (step (history n m) s x).0) ∷ l) r.answers;
        stand = ap {B = List State} (λ (q : Answer × State). q.1 ∷ states (tables n m) q.1 xs) g.same ∙ ap {B = List State} (λ l. prune z ∷ l) r.stand;
        safe = ap {B = Bool} (λ (q : Answer × State). sound n m q.1 && all (sound n m) (states (tables n m) q.1 xs)) g.same
            ∙ and_both _ _ (sound-kept z (lawful_facts z k) (lawful-free z k) n m g.fits.rows g.fits.recs) r.safe;
        fine = and_both _ _ (answers_fine (tables n m) (prune s) (sound_now s h f) x)
            (ap {B = Bool} (λ (q : Answer × State). all (λ l. is_fine l.1) (lines (tables n m) q.1 xs)) g.same ∙ r.fine);
        ends = ap (λ (q : Answer × State). final (tables n m) q.1 xs) g.same ∙ r.ends;
      }
    where
      sound_now : (s : State) → lawful s ≡ true → Room n m s → (tables n m).unsound (prune s) ≡ false
      sound_now s h f = unfold tables in ap not (sound-kept s (lawful_facts s h) (lawful-free s h) n m f.rows f.recs)

  -- from a state that is pruned already
  agree_as : (s : State) → prune s ≡ s → lawful s ≡ true → Room n m s → (xs : List Call) → Agree n m s s xs
  agree_as s e h f xs = subst (λ (z : State). Agree n m z s xs) e (agree s h f xs)

  -- from an accepted opening
  pub from_opening : (vs : List ℕ) → 1 ≤ length vs → length vs ≤ 256 → (xs : List Call) → Agree n m (opened vs) (opened vs) xs
  from_opening vs l r xs = agree_as (opened vs) (open_pruned vs) (opened-lawful vs l r) (opened-fits n m vs) xs

-- ---- from any sound tables, also those that no history reaches
module _ (n m : ℕ) (s : State) (h : sound n m s ≡ true) where
  sound_parts : (leb (length s.rows) n ≡ true) × (leb (length s.recs) m ≡ true) × (lawful s ≡ true) × (lean s ≡ true)
  unfolding sound sized
  sound_parts =
      let k = and_left _ _ h in
      (and_left _ _ (and_left _ _ k), and_right (leb (length s.rows) n) _ (and_left _ _ k), and_right (sized n m s) _ k, and_right (sized n m s && lawful s) _ h)

  pub sound-lawful : lawful s ≡ true
  sound-lawful = sound_parts.2

  pub sound_pruned : prune s ≡ s
  sound_pruned = lean_pruned s (lawful_facts s sound-lawful).sizes sound_parts.3

  -- the same rules give the answers, and every call leaves sound tables
  pub from_sound : (xs : List Call) → Agree n m s s xs
  from_sound xs = agree_as n m s sound_pruned sound-lawful (fits_by n m s s sound_pruned (leb-true _ _ sound_parts.0) (leb-true _ _ sound_parts.1)) xs

  pub still_sound : (x : Call) → sound n m (step (tables n m) s x).1 ≡ true
  unfolding states
  still_sound x = and_left _ true (from_sound (x ∷ [])).safe

-- pruning twice is pruning once
pub prune_twice : (s : State) → lawful s ≡ true → prune (prune s) ≡ prune s
prune_twice s h =
    let f = sound-kept s (lawful_facts s h) (lawful-free s h) (length (prune s).rows) (length (prune s).recs) (omega arith) (omega arith) in
    sound_pruned (length (prune s).rows) (length (prune s).recs) (prune s) f

-- ---- from the closed state, in which a run of a step file begins
closed-unsound : (n m : ℕ) → sound n m closed ≡ false
unfolding closed
closed-unsound n m = pick (passed (sound n m closed))
  where
    pick : (sound n m closed ≡ true) ⊎ (sound n m closed ≡ false) → sound n m closed ≡ false
    pick (inr f) = f
    pick (inl t) = let v = lawful_facts closed (sound-lawful n m closed t) in absurd (omega (arith, v.counts.0))

closed_pruned : prune closed ≡ closed
unfolding book
closed_pruned = refl

module _ (n m : ℕ) where
  abbrev Both : State → List Call → Type 0
  Both z xs = (lines (tables n m) z xs ≡ lines (history n m) z xs) × (states (tables n m) z xs ≡ map prune (states (history n m) z xs))

  -- one call more, after which both go on from the same state
  onward : (x : Call) (xs : List Call) (a : Answer) (z : State) → step (tables n m) closed x ≡ (a, z) → step (history n m) closed x ≡ (a, z) → prune z ≡ z → Both z xs → Both closed (x ∷ xs)
  unfolding lines states
  onward x xs a z p q e r = (
    ap {B = List Line} (λ (k : Answer × State). (x, k.0) ∷ lines (tables n m) k.1 xs) p ∙ ap {B = List Line} (λ l. (x, a) ∷ l) r.0
        ∙ ap {B = List Line} (λ (k : Answer × State). (x, k.0) ∷ lines (history n m) k.1 xs) (sym q),
    ap {B = List State} (λ (k : Answer × State). k.1 ∷ states (tables n m) k.1 xs) p ∙ (λ j. sym e j ∷ r.1 j)
        ∙ ap {B = List State} (λ (k : Answer × State). prune k.1 ∷ map prune (states (history n m) k.1 xs)) (sym q),
  )

  by-opening : (c : ℕ) (vs : List ℕ) (xs : List Call) (b : Bool) → openable c vs ≡ b → Both closed xs → Both closed (Open c vs ∷ xs)
  by-opening c vs xs true e r =
      let u = openable_out c vs e in
      let g = from_opening n m vs u.0 u.1 xs in
      onward (Open c vs) xs (Ok 0) (opened vs) (opens_by (tables n m) closed c vs true e) (opens_by (history n m) closed c vs true e) (open_pruned vs) (g.answers, g.stand)
  by-opening c vs xs false e r =
      onward (Open c vs) xs (Err BadOpening) closed (opens_by (tables n m) closed c vs false e) (opens_by (history n m) closed c vs false e) closed_pruned r

  by_refusal : (x : Call) (xs : List Call) → opens x ≡ false → Both closed xs → Both closed (x ∷ xs)
  unfolding tables history closed
  by_refusal x xs o r =
      onward x xs (Err UnsoundTables) closed (unsound_first (tables n m) closed x o (ap not (closed-unsound n m))) (unsound_first (history n m) closed x o refl) closed_pruned r

  pub from_closed : (xs : List Call) → Both closed xs
  unfolding lines states opens
  from_closed [] = (refl, refl)
  from_closed (Open c vs ∷ xs) = by-opening c vs xs (openable c vs) refl (from_closed xs)
  from_closed (Begin ∷ xs) = by_refusal Begin xs refl (from_closed xs)
  from_closed (Read t i ∷ xs) = by_refusal (Read t i) xs refl (from_closed xs)
  from_closed (Write t i w ∷ xs) = by_refusal (Write t i w) xs refl (from_closed xs)
  from_closed (Commit t ∷ xs) = by_refusal (Commit t) xs refl (from_closed xs)
  from_closed (Abort t ∷ xs) = by_refusal (Abort t) xs refl (from_closed xs)
  from_closed (Latest i ∷ xs) = by_refusal (Latest i) xs refl (from_closed xs)

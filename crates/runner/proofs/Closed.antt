-- Calls from the closed tables, in which a run begins: what one does to them, that all tables of a run are closed or sound, and that the answers are the history
-- machine's. Assumes nothing.
use Prim.Native.Nat.{ℕ, ◌≤◌}
use mathlib.Core.Bool.{false, true}
use mathlib.Core.List.{List, [], ◌∷◌}
use mathlib.Core.Logic.{◌⊎◌, inl, inr}
use mathlib.Core.Path.{◌≡◌, ◌∙◌, ap, refl, subst, sym}
use native.Mathlib.Omega.{arith}
use lib.ListN.{get_or, length, replicate}
use Rattle.std.specs.Prelude.{Err, Ok}
use Rattle.terms.specs.Words.{Answer}
use Rattle.terms.specs.declared.Refusal.TheVariants.{BadOpening, UnsoundTables}
use Rattle.terms.specs.declared.Row.{Row}
use Rattle.rules.specs.Lists.{all}
use Rattle.rules.specs.Machine.{Abort, Begin, Call, Commit, Latest, Line, Open, Read, Write, history, lines, openable, step}
use Rattle.rules.specs.Public.{call_on, fitting, in_range, lines_on, open_on, raws_on}
use Rattle.rules.specs.Raw.{Raw, raw_of, sound_raw, state_of, zero_row}
use Rattle.rules.specs.Serial
use Rattle.rules.specs.Sound.{sound}
use Rattle.rules.specs.State.{State, closed, opened}
use Rattle.laws.proofs.Lists.{and_both, and_left, and_right, passed}
use Rattle.laws.proofs.Refusals.{unsound_first, unsound-raw}
use Rattle.bridge.proofs.Holds.{holds, recs_long, rows_long, values_long, writers_long}
use Rattle.calls.specs.Lent.{Sound, raw}
use Rattle.calls.proofs.Opens.{Long, open_count}
use Rattle.calls.proofs.Tables.{head_long}
use Rattle.theory.proofs.Facts.{lawful_facts, lawful-free}
use Rattle.theory.proofs.LawfulCalls.{openable_out, opened-lawful}
use Rattle.theory.proofs.LentRuns.{lent-opened, lent-sound}
use Rattle.theory.proofs.PrunedSound.{sound-kept}
use Rattle.theory.proofs.PrunedTests.{open_pruned, opened-fits}
use Rattle.theory.proofs.RawRuns.{raw-sound}
use Rattle.theory.proofs.Refusing.{opens_by}
use Rattle.runner.specs.Ready.{Closed, Ready}

-- ---- closed tables have a count of 0, and sound ones have not

some_item : (w : Raw) → Sound w → 1 ≤ get_or w.head 0 0
unfolding state_of
some_item w h = (holds 32 256 w h).facts.counts.0

pub closed-unsound : (w : Raw) → Closed w → sound_raw 32 256 w ≡ false
unfolding raw_of closed
closed-unsound w e = go (passed (sound_raw 32 256 w))
  where
    go : Sound w ⊎ (sound_raw 32 256 w ≡ false) → sound_raw 32 256 w ≡ false
    go (inl t) = absurd (omega (arith, some_item w t, ap (λ (v : Raw). get_or v.head 0 0) e))
    go (inr f) = f

-- their lengths
pub ready_long : (w : Raw) → Ready w → Long 32 256 w
unfolding raw_of closed
ready_long w (inl e) = subst (λ (v : Raw). Long 32 256 v) (sym e) (record { head = refl; values = refl; writers = refl; rows = refl; recs = refl })
ready_long w (inr h) =
    let k = holds 32 256 w h in
    record { head = head_long 32 256 w h; values = values_long 32 256 w k; writers = writers_long 32 256 w k; rows = rows_long 32 256 w k; recs = recs_long 32 256 w k }

pub ready_closed : (w : Raw) → Ready w → get_or w.head 0 0 ≡ 0 → Closed w
ready_closed w (inl e) z = e
ready_closed w (inr h) z = absurd (omega (arith, some_item w h))

pub ready_sound : (w : Raw) → Ready w → ¬ (get_or w.head 0 0 ≡ 0) → Sound w
unfolding raw_of closed
ready_sound w (inl e) z = absurd (z (ap (λ (v : Raw). get_or v.head 0 0) e))
ready_sound w (inr h) z = h

-- ---- one call on closed tables

abbrev start : Raw
start = raw_of 32 256 closed

-- tables of zeros are the closed ones
pub all-zero : {rows : List Row} → rows ≡ replicate 32 zero_row → Closed (raw (replicate 3 0) (replicate 256 0) (replicate 256 0) rows (replicate 256 0))
unfolding raw_of closed
all-zero e = ap (λ (rs : List Row). raw (replicate 3 0) (replicate 256 0) (replicate 256 0) rs (replicate 256 0)) e

start_fits : fitting 32 256 start ≡ true
unfolding fitting raw_of closed
start_fits = refl

-- an opening with 1 to 256 values is accepted, and leaves sound tables
open_accepted : (c : ℕ) (vs : List ℕ) → openable c vs ≡ true → call_on 32 256 (Open c vs) start ≡ (Ok 0, raw_of 32 256 (opened vs))
unfolding call_on open_on
open_accepted c vs h = rw (h, start_fits, open_on) refl

opened-sound : (vs : List ℕ) → 1 ≤ length vs → length vs ≤ 256 → Sound (raw_of 32 256 (opened vs))
unfolding opened
opened-sound vs l r =
    let h = opened-lawful vs l r in
    let f = opened-fits 32 256 vs in
    let k : sound 32 256 (opened vs) ≡ true = ap (sound 32 256) (sym (open_pruned vs)) ∙ sound-kept (opened vs) (lawful_facts (opened vs) h) (lawful-free (opened vs) h) 32 256 f.rows f.recs in
    raw-sound 32 256 (opened vs) k (λ x mx. elim mx [ ])

-- what a call does to the closed tables and to the closed history
data First (x : Call) : Type 0 where
  stays : (a : Answer) → call_on 32 256 x start ≡ (a, start) → step (history 32 256) closed x ≡ (a, closed) → First x
  opens : (c : ℕ) (vs : List ℕ) → x ≡ Open c vs → openable c vs ≡ true → First x

refusal : (x : Call) → Serial.opens x ≡ false → First x
unfolding history closed
refusal x o = stays (Err UnsoundTables) (unsound-raw 32 256 start x o (closed-unsound start refl)) (unsound_first (history 32 256) closed x o refl)

first_call : (x : Call) → First x
unfolding Serial.opens call_on
first_call (Open c vs) = go (passed (openable c vs))
  where
    go : (openable c vs ≡ true) ⊎ (openable c vs ≡ false) → First (Open c vs)
    go (inl t) = opens c vs refl t
    go (inr f) = stays (Err BadOpening) (open_count 32 256 c vs start f) (opens_by (history 32 256) closed c vs false f)
first_call Begin = refusal Begin refl
first_call (Read t i) = refusal (Read t i) refl
first_call (Write t i v) = refusal (Write t i v) refl
first_call (Commit t) = refusal (Commit t) refl
first_call (Abort t) = refusal (Abort t) refl
first_call (Latest i) = refusal (Latest i) refl

-- ---- every call leaves closed or sound tables

pub ready_after : (w : Raw) → Ready w → (x : Call) → in_range x ≡ true → Ready (call_on 32 256 x w).1
unfolding raws_on
ready_after w (inl e) x r = subst (λ (v : Raw). Ready (call_on 32 256 x v).1) (sym e) (go (first_call x))
  where
    go : First x → Ready (call_on 32 256 x start).1
    go (stays a p q) = inl (ap (λ (u : Answer × Raw). u.1) p)
    go (opens c vs p q) =
        let o = openable_out c vs q in
        inr (ap (λ (y : Call). sound_raw 32 256 (call_on 32 256 y start).1) p ∙ ap (λ (u : Answer × Raw). sound_raw 32 256 u.1) (open_accepted c vs q) ∙ opened-sound vs o.0 o.1)
ready_after w (inr h) x r = inr (and_left _ true (lent-sound 32 256 w h (x ∷ []) (and_both _ true r refl)).2)

-- ---- the answers to some calls on closed tables

one_more : (x : Call) (xs : List Call) (a : Answer) (w : Raw) (s : State) → call_on 32 256 x start ≡ (a, w) → step (history 32 256) closed x ≡ (a, s)
    → lines_on 32 256 w xs ≡ lines (history 32 256) s xs → lines_on 32 256 start (x ∷ xs) ≡ lines (history 32 256) closed (x ∷ xs)
unfolding lines_on lines
one_more x xs a w s p q e =
    ap {B = List Line} (λ (u : Answer × Raw). (x, u.0) ∷ lines_on 32 256 u.1 xs) p ∙ ap {B = List Line} (λ l. (x, a) ∷ l) e
    ∙ ap {B = List Line} (λ (u : Answer × State). (x, u.0) ∷ lines (history 32 256) u.1 xs) (sym q)

pub closed-lines : (xs : List Call) → all in_range xs ≡ true → lines_on 32 256 start xs ≡ lines (history 32 256) closed xs
unfolding lines_on lines call_on
closed-lines [] r = refl
closed-lines (x ∷ xs) r = go (first_call x) (closed-lines xs (and_right (in_range x) _ r))
  where
    go : First x → lines_on 32 256 start xs ≡ lines (history 32 256) closed xs → lines_on 32 256 start (x ∷ xs) ≡ lines (history 32 256) closed (x ∷ xs)
    go (stays a p q) e = one_more x xs a start closed p q e
    go (opens c vs p q) e =
        let o = open_accepted c vs q in
        let f = (lent-opened 32 256 start c vs (ap (λ (u : Answer × Raw). u.0) o) xs (and_right (in_range x) _ r)).0 in
        let after = sym (ap (λ (u : Answer × Raw). lines_on 32 256 u.1 xs) o) ∙ f in
        ap (λ (y : Call). lines_on 32 256 start (y ∷ xs)) p
        ∙ one_more (Open c vs) xs (Ok 0) (raw_of 32 256 (opened vs)) (opened vs) o (opens_by (history 32 256) closed c vs true q) after
        ∙ ap (λ (y : Call). lines (history 32 256) closed (y ∷ xs)) (sym p)

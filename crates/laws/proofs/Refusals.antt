-- What a refusal leaves: 1 to 6 and 9 change nothing, and 7 and 8 leave what an abort leaves. On unsound tables every call but an opening
-- answers 1. Assumes nothing.
use Prim.Native.Nat.{ℕ}
use mathlib.Core.Bool.{Bool, cond, false, false≢true, not, true}
use mathlib.Core.List.{List, [], ◌∷◌}
use mathlib.Core.Path.{◌∙◌, ◌≡◌, ap, refl, sym}
use lib.Dec.{leb}
use Rattle.std.specs.Prelude.{Err, Ok}
use Rattle.terms.specs.declared.Refusal.TheVariants.{NotActive, UnsoundTables}
use Rattle.terms.specs.declared.TxnNo.{TxnNo}
use Rattle.terms.specs.Words.{Answer, accepted, paper}
use Rattle.rules.specs.State.{State, is_active}
use Rattle.rules.specs.Machine.{Abort, Begin, Call, Commit, Latest, Machine, Open, Read, Write, after, lowest, outcome, refused, step, tests, value}
use Rattle.rules.specs.Raw.{Raw, sound_raw}
use Rattle.rules.specs.Public.{call_on, on_sound}
use Rattle.rules.specs.Serial.{opens}

-- the state after a call goes by its answer
pub after_answer : (m : Machine) (s : State) (x : Call) (r : Answer) → (step m s x).0 ≡ r
    → (step m s x).1 ≡ elim (accepted r) [ true ↦ after m s x | false ↦ refused m s r x ]
unfolding step outcome
after_answer m s x r e = ap (λ (a : Answer). elim (accepted a) [ true ↦ after m s x | false ↦ refused m s a x ]) e

module _ (m : Machine) (s : State) where
  -- "Refusals 1 to 6 and 9 leave the tables unchanged"
  refused-same : (r : Answer) (x : Call) → leb 7 (paper r).number ≡ false → refused m s r x ≡ s
  unfolding refused
  refused-same r (Open c vs) h = refl
  refused-same r Begin h = refl
  refused-same r (Read t i) h = refl
  refused-same r (Write t i v) h = refl
  refused-same r (Commit t) h = ap (λ (b : Bool). cond b (after m s (Abort t)) s) h
  refused-same r (Abort t) h = refl
  refused-same r (Latest i) h = refl

  pub unchanged : (x : Call) (r : Answer) → (step m s x).0 ≡ r → accepted r ≡ false → leb 7 (paper r).number ≡ false → (step m s x).1 ≡ s
  unchanged x r e a h =
      after_answer m s x r e ∙ ap (λ (b : Bool). elim b [ true ↦ after m s x | false ↦ refused m s r x ]) a ∙ refused-same r x h

  pub bad-opening : (c : ℕ) (vs : List ℕ) (r : Answer) → (step m s (Open c vs)).0 ≡ r → accepted r ≡ false → (step m s (Open c vs)).1 ≡ s
  unfolding refused
  bad-opening c vs r e a = after_answer m s (Open c vs) r e ∙ ap (λ (b : Bool). elim b [ true ↦ after m s (Open c vs) | false ↦ refused m s r (Open c vs) ]) a

  -- "7 and 8 end the transaction as abort does"
  pub as_abort : (t : TxnNo) (r : Answer) → (step m s (Commit t)).0 ≡ r → accepted r ≡ false → leb 7 (paper r).number ≡ true → (step m s (Commit t)).1 ≡ after m s (Abort t)
  unfolding refused
  as_abort t r e a h =
      after_answer m s (Commit t) r e ∙ ap (λ (b : Bool). elim b [ true ↦ after m s (Commit t) | false ↦ refused m s r (Commit t) ]) a
      ∙ ap (λ (b : Bool). cond b (after m s (Abort t)) s) h

  -- an abort of an active transaction is accepted and leaves that
  pub aborted : (t : TxnNo) → m.unsound s ≡ false → is_active s t.0 ≡ true → step m s (Abort t) ≡ (Ok 0, after m s (Abort t))
  unfolding step outcome tests lowest value refused
  aborted t u a = λ j. outcome m s (Abort t) (elim (u j) [ true ↦ (Err UnsoundTables) | false ↦ lowest (Ok 0) ((Err NotActive, not (a j)) ∷ []) ])

  first : (x : Call) (ts : List (Answer × Bool)) → m.unsound s ≡ true → tests m s x ≡ (Err UnsoundTables, m.unsound s) ∷ ts → step m s x ≡ (Err UnsoundTables, s)
  unfolding step outcome lowest
  first x ts u e =
      ap (λ (l : List (Answer × Bool)). outcome m s x (lowest (Ok (value m s x)) l)) (e ∙ ap (λ (b : Bool). (Err UnsoundTables, b) ∷ ts) u)
      ∙ ap (λ (z : State). (Err UnsoundTables, z)) (refused-same (Err UnsoundTables) x refl)

  -- "tables unsound": 1, and nothing changed
  pub unsound_first : (x : Call) → opens x ≡ false → m.unsound s ≡ true → step m s x ≡ (Err UnsoundTables, s)
  unfolding step tests opens
  unsound_first (Open c vs) o u = absurd (false≢true (sym o))
  unsound_first Begin o u = first Begin _ u refl
  unsound_first (Read t i) o u = first (Read t i) _ u refl
  unsound_first (Write t i v) o u = first (Write t i v) _ u refl
  unsound_first (Commit t) o u = first (Commit t) _ u refl
  unsound_first (Abort t) o u = first (Abort t) _ u refl
  unsound_first (Latest i) o u = first (Latest i) _ u refl

pub on-unsound : (n m : ℕ) (w : Raw) (x : Call) → sound_raw n m w ≡ false → on_sound n m x w ≡ (Err UnsoundTables, w)
unfolding on_sound
on-unsound n m w x u = rw (u, on_sound) refl

-- the same of lent tables
pub unsound-raw : (n m : ℕ) (w : Raw) (x : Call) → opens x ≡ false → sound_raw n m w ≡ false → call_on n m x w ≡ (Err UnsoundTables, w)
unfolding call_on opens
unsound-raw n m w (Open c vs) o u = absurd (false≢true (sym o))
unsound-raw n m w Begin o u = on-unsound n m w Begin u
unsound-raw n m w (Read t i) o u = on-unsound n m w (Read t i) u
unsound-raw n m w (Write t i v) o u = on-unsound n m w (Write t i v) u
unsound-raw n m w (Commit t) o u = on-unsound n m w (Commit t) u
unsound-raw n m w (Abort t) o u = on-unsound n m w (Abort t) u
unsound-raw n m w (Latest i) o u = on-unsound n m w (Latest i) u

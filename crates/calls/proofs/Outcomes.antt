-- A call on sound tables, by the line of the table of answer numbers that holds: what it answers, and what it leaves. Assumes nothing.
use Prim.Native.Nat.{ℕ}
use mathlib.Core.Bool.{Bool, false, false≢true, not, true}
use mathlib.Core.Path.{◌∙◌, ◌≡◌, ap, refl, sym}
use lib.Dec.{leb}
use Rattle.terms.specs.declared.TxnNo.{TxnNo}
use Rattle.terms.specs.Words.{Answer, accepted, paper}
use Rattle.rules.specs.Machine.{Abort, Call, Commit, after, refused, step, tables}
use Rattle.rules.specs.Answers.{Gives, table}
use Rattle.rules.specs.Raw.{Raw, raw_of, sound_raw, state_of}
use Rattle.rules.specs.Public.{lent, on_sound}
use Rattle.laws.proofs.Answers.{given_exactly}
use Rattle.laws.proofs.Raw.{held}
use Rattle.laws.proofs.Refusals.{after_answer, as_abort, unchanged}

module _ (n m : ℕ) (w : Raw) (h : sound_raw n m w ≡ true) where
  on-sound : (x : Call) → on_sound n m x w ≡ lent n m (step (tables n m) (state_of w) x)
  unfolding on_sound
  on-sound x = rw (h, on_sound) refl

  module _ (x : Call) (r : Answer) (g : Gives (table (tables n m) (state_of w) x) r) where
    answered : (step (tables n m) (state_of w) x).0 ≡ r
    answered = (given_exactly (tables n m) (state_of w) x r).1 g

    -- a refusal below 7 leaves all tables
    pub refuse : accepted r ≡ false → leb 7 (paper r).number ≡ false → on_sound n m x w ≡ (r, w)
    refuse a l = on-sound x ∙ (λ j. (answered j, raw_of n m (unchanged (tables n m) (state_of w) x r answered a l j))) ∙ ap (λ (z : Raw). (r, z)) (held n m w h).0

    -- an accepted call leaves the tables of the state after it
    pub accept : accepted r ≡ true → on_sound n m x w ≡ (r, raw_of n m (after (tables n m) (state_of w) x))
    accept a =
        on-sound x
        ∙ (λ j. (answered j, raw_of n m (after_answer (tables n m) (state_of w) x r answered j)))
        ∙ ap (λ (b : Bool). (r, raw_of n m (elim b [ true ↦ after (tables n m) (state_of w) x | false ↦ refused (tables n m) (state_of w) r x ]))) a

  -- 7 and 8 leave what an abort leaves
  pub ended : (t : TxnNo) (r : Answer) → Gives (table (tables n m) (state_of w) (Commit t)) r → accepted r ≡ false → leb 7 (paper r).number ≡ true
      → on_sound n m (Commit t) w ≡ (r, raw_of n m (after (tables n m) (state_of w) (Abort t)))
  ended t r g a l =
      on-sound (Commit t) ∙ (λ j. (answered (Commit t) r g j, raw_of n m (as_abort (tables n m) (state_of w) t r (answered (Commit t) r g) a l j)))

  -- answer 1 is not given
  pub sane : ¬ ((tables n m).unsound (state_of w) ≡ true)
  unfolding tables
  sane u = false≢true (sym (ap not (held n m w h).1) ∙ u)

-- Four useless schedulers, each of which breaks the promise at a call that is shown. Assumes nothing.
use mathlib.Core.Bool.{false, false≢true}
use mathlib.Core.List.{[], ◌∷◌}
use mathlib.Core.Path.{◌∙◌, ◌≡◌, ap, refl, sym}
use native.Mathlib.Omega.{arith}
use lib.ListN.{get_or}
use Rattle.std.specs.Prelude.{Ok}
use Rattle.terms.specs.Words.{Answer, accepted, paper}
use Rattle.rules.specs.Book.{book}
use Rattle.rules.specs.Machine.{Begin, Call, Open}
use Rattle.rules.specs.Public.{call_on}
use Rattle.rules.specs.Raw.{Raw, raw_of}
use Rattle.rules.specs.State.{closed, opened}
use Rattle.rules.specs.Serial.{opens}
use Rattle.scheduler.specs.Promise.{Keeps, Scheduler}

-- tables before any opening; tables opened with two items; and those after a begin
abbrev shut : Raw
shut = raw_of 32 256 closed

abbrev two : Raw
two = raw_of 32 256 (opened (0 ∷ 0 ∷ []))

opening : (call_on 32 256 (Open 2 (0 ∷ 0 ∷ [])) shut).0 ≡ Ok 0
unfolding book
opening = refl

first_number : (paper (call_on 32 256 Begin two).0).value ≡ 1
unfolding book
first_number = refl

next-number : get_or (call_on 32 256 Begin two).1.head 1 0 ≡ 2
unfolding book
next-number = refl

second_number : (paper (call_on 32 256 Begin (call_on 32 256 Begin two).1).0).value ≡ 2
unfolding book
second_number = refl

was_number : get_or two.head 1 0 ≡ 1
unfolding book
was_number = refl

module _ (f : Scheduler) (keeps : Keeps 32 256 f) where
  -- it refuses everything: an opening of two items is accepted
  pub not_refusing : ((x : Call) (w : Raw) → accepted (f x w).0 ≡ false) → ⊥
  not_refusing h = false≢true (sym (h (Open 2 (0 ∷ 0 ∷ [])) shut) ∙ ap accepted (ap (λ (r : Answer × Raw). r.0) (keeps (Open 2 (0 ∷ 0 ∷ [])) shut) ∙ opening))

  -- it has a fixed reply: two begins have two numbers
  pub not_fixed : (a : Answer) → ((x : Call) (w : Raw) → (f x w).0 ≡ a) → ⊥
  not_fixed a h =
      let e = ap (λ (b : Answer). (paper b).value) (sym (h Begin two) ∙ ap (λ (r : Answer × Raw). r.0) (keeps Begin two)) ∙ first_number in
      let w = (call_on 32 256 Begin two).1 in
      let u = ap (λ (b : Answer). (paper b).value) (sym (h Begin w) ∙ ap (λ (r : Answer × Raw). r.0) (keeps Begin w)) ∙ second_number in
      omega (arith, e, u)

  -- it honours an opening, and then pretends, whatever it answers: a begin counts the next number on
  pub not_pretending : ((x : Call) (w : Raw) → opens x ≡ false → (f x w).1 ≡ w) → ⊥
  unfolding opens
  not_pretending h =
      let e = ap (λ (r : Answer × Raw). get_or r.1.head 1 0) (keeps Begin two) ∙ next-number in
      let u = ap (λ (w : Raw). get_or w.head 1 0) (h Begin two refl) ∙ was_number in
      omega (arith, e, u)

  -- it does nothing, so it pretends from the start
  pub not_idle : ((x : Call) (w : Raw) → (f x w).1 ≡ w) → ⊥
  not_idle h = not_pretending (λ x w o. h x w)

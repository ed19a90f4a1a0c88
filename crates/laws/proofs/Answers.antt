-- Each answer is given exactly when its line of the table says so, on every machine and state. Assumes nothing.
use Prim.Native.Nat.{ℕ, ◌≤◌}
use mathlib.Core.Bool.{Bool, ◌&&◌, ◌||◌, false, false≢true, not, true}
use mathlib.Core.List.{List, [], ◌∷◌}
use mathlib.Core.Logic.{◌↔◌, inl, inr}
use mathlib.Core.Path.{◌≡◌, ap, refl, sym}
use lib.Dec.{eqb, leb}
use lib.ListN.{length}
use borrow.Author.Tests.{eq-eqb, eqb-true, le-leb, leb-true, not-true}
use Rattle.std.specs.Prelude.{Ok}
use Rattle.terms.specs.Words.{Answer, num, active}
use Rattle.rules.specs.State.{State, committing, is_active}
use Rattle.rules.specs.Machine.{Abort, Begin, Call, Commit, Latest, Machine, Open, Read, Write, lowest, no_rec, no_row, openable, outcome, step, tests, value}
use Rattle.rules.specs.Answers.{Active, Gives, Table, line, otherwise, table}
use Rattle.laws.proofs.Lists.{and_both, and_left, and_right, any_in, any_out}
use Rattle.laws.proofs.Beating.{beaten_decides}
use Rattle.laws.proofs.Rings.{ring_decides}

-- the test b is passed exactly when P holds
abbrev Decides : Bool → Type 0 → Type 0
Decides b P = (b ≡ true) ↔ P

-- a list of tests, with the answer where none is passed, decides a table line by line
data Matches (ok : Answer) : List (Answer × Bool) → Table → Type 1 where
  done : Matches ok [] (otherwise ok)
  also : {a : Answer} {b : Bool} {P : Type 0} {ts : List (Answer × Bool)} {t : Table} → Decides b P → Matches ok ts t → Matches ok ((a, b) ∷ ts) (line a P t)

pick : (ok a : Answer) (b : Bool) (P : Type 0) (ts : List (Answer × Bool)) (t : Table) (r : Answer) → Decides b P → (lowest ok ts ≡ r) ↔ Gives t r
    → (lowest ok ((a, b) ∷ ts) ≡ r) ↔ Gives (line a P t) r
unfolding lowest
pick ok a true P ts t r d f = (λ e. inl (d.0 refl, sym e), λ g. elim g [ inl u ↦ sym u.1 | inr u ↦ absurd (u.0 (d.0 refl)) ])
pick ok a false P ts t r d f = (λ e. inr (λ p. false≢true (d.1 p), f.0 e), λ g. elim g [ inl u ↦ absurd (false≢true (d.1 u.0)) | inr u ↦ f.1 u.1 ])

by : {ok : Answer} {ts : List (Answer × Bool)} {t : Table} → Matches ok ts t → (r : Answer) → (lowest ok ts ≡ r) ↔ Gives t r
unfolding lowest
by done r = (λ e. sym e, λ e. sym e)
by {ok} (also {a} {b} {P} {ts} {t} d n) r = pick ok a b P ts t r d (by n r)

-- ---- the tests, one by one
itself : (b : Bool) → Decides b (b ≡ true)
itself b = (λ h. h, λ h. h)

negated : (b : Bool) {P : Type 0} → Decides b P → Decides (not b) (¬ P)
negated true d = (λ h. absurd (false≢true h), λ n. absurd (n (d.0 refl)))
negated false d = (λ h p. false≢true (d.1 p), λ n. refl)

absent : (b : Bool) → Decides (not b) (b ≡ false)
absent b = (λ h. not-true b h, λ h. ap not h)

both : (a b : Bool) {P Q : Type 0} → Decides a P → Decides b Q → Decides (a && b) (P × Q)
both a b d e = (λ h. (d.0 (and_left a b h), e.0 (and_right a b h)), λ u. and_both a b (d.1 u.0) (e.1 u.1))

then : (a b : Bool) {P Q R : Type 0} → Decides a (P × Q) → Decides b R → Decides (a && b) (P × Q × R)
then a b d e = let f = both a b d e in (λ h. let u = f.0 h in (u.0.0, u.0.1, u.1), λ u. f.1 ((u.0, u.1), u.2))

at_least : (a b : ℕ) → Decides (leb a b) (a ≤ b)
at_least a b = (leb-true a b, le-leb a b)

equal : (a b : ℕ) → Decides (eqb a b) (a ≡ b)
equal a b = (eqb-true a b, eq-eqb a b)

neither : (a b : Bool) → Decides (not (a || b)) ((a ≡ false) × (b ≡ false))
neither true b = (λ h. absurd (false≢true h), λ u. absurd (false≢true (sym u.0)))
neither false true = (λ h. absurd (false≢true h), λ u. absurd (false≢true (sym u.1)))
neither false false = (λ h. (refl, refl), λ u. refl)

pub active_decides : (s : State) (t : ℕ) → (is_active s t ≡ true) ↔ Active s t
unfolding is_active
active_decides s t = (
  λ h.
      let u = any_out (λ r. eqb (num r) t && active r) s.rows h in
      record { row = u.0; here = u.1; named = eqb-true _ _ (and_left _ _ u.2); open_ended = eqb-true _ _ (and_right (eqb (num u.0) t) _ u.2) },
  λ a. any_in _ a.here (and_both _ _ (eq-eqb _ _ a.named) (eq-eqb _ _ a.open_ended)),
)

-- ---- the table
module _ (m : Machine) (s : State) where
  matched : (x : Call) → Matches (Ok (value m s x)) (tests m s x) (table m s x)
  unfolding tests value openable no_row no_rec
  matched (Open c vs) =
      also (negated _ (then _ _ (both _ _ (at_least 1 c) (at_least c 256)) (equal (length vs) c))) done
  matched Begin = also (itself _) (also (equal _ _) (also (at_least _ _) done))
  matched (Read t i) =
      also (itself _) (also (at_least _ _) (also (negated _ (active_decides s t.0))
      (also (then _ _ (neither _ _) (at_least _ _)) done)))
  matched (Write t i v) =
      also (itself _) (also (at_least _ _) (also (negated _ (active_decides s t.0)) (also (both _ _ (absent _) (at_least _ _)) done)))
  matched (Commit t) =
      also (itself _) (also (negated _ (active_decides s t.0)) (also (beaten_decides s t.0)
      (also (ring_decides (committing s t.0)) done)))
  matched (Abort t) = also (itself _) (also (negated _ (active_decides s t.0)) done)
  matched (Latest i) = also (itself _) (also (at_least _ _) done)

  -- "Given exactly when"
  pub given_exactly : (x : Call) (r : Answer) → ((step m s x).0 ≡ r) ↔ Gives (table m s x) r
  unfolding step outcome
  given_exactly x r = by (matched x) r

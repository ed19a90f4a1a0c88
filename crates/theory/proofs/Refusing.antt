-- Sound tables are never called unsound; and what an opening is answered and leaves. Assumes nothing.
use Prim.Native.Nat.{ℕ}
use mathlib.Core.Bool.{Bool, false, not, true}
use mathlib.Core.List.{List, [], ◌∷◌}
use mathlib.Core.Path.{◌∙◌, ◌≡◌, ap, refl}
use lib.Dec.{eqb}
use Rattle.std.specs.Prelude.{Err, Ok}
use Rattle.terms.specs.declared.Refusal.TheVariants.{BadOpening, UnsoundTables}
use Rattle.laws.proofs.Lists.{and_left, and_right}
use Rattle.rules.specs.Lists.{all}
use Rattle.rules.specs.Machine.{Abort, Begin, Call, Commit, Latest, Machine, Open, Read, Write, after, lowest, openable, outcome, refused, step, tests, value}
use Rattle.rules.specs.State.{State, opened}
use Rattle.terms.specs.Words.{Answer, paper}

-- the answer is not that the tables are unsound
abbrev pub is_fine : Answer → Bool
is_fine a = not (eqb (paper a).number 1)

-- ---- on sound tables
behind : (a : Answer) (l : List (Answer × Bool)) → is_fine a ≡ true → all (λ p. is_fine p.0) l ≡ true → is_fine (lowest a l) ≡ true
unfolding lowest
behind a [] e h = e
behind a (p ∷ l) e h = pick p.1 (behind a l e (and_right (is_fine p.0) _ h))
  where
    pick : (b : Bool) → is_fine (lowest a l) ≡ true → is_fine (elim b [ true ↦ p.0 | false ↦ lowest a l ]) ≡ true
    pick true r = and_left _ _ h
    pick false r = r

module _ (c : Machine) (s : State) (h : c.unsound s ≡ false) where
  first : (v : ℕ) (l : List (Answer × Bool)) → all (λ p. is_fine p.0) l ≡ true → is_fine (lowest (Ok v) ((Err UnsoundTables, c.unsound s) ∷ l)) ≡ true
  unfolding lowest
  first v l k = ap {B = Bool} (λ b. is_fine (lowest (Ok v) ((Err UnsoundTables, b) ∷ l))) h ∙ behind (Ok v) l refl k

  pub answers_fine : (x : Call) → is_fine (step c s x).0 ≡ true
  unfolding step outcome tests
  answers_fine (Open n vs) = behind _ _ refl refl
  answers_fine Begin = first _ _ refl
  answers_fine (Read t i) = first _ _ refl
  answers_fine (Write t i w) = first _ _ refl
  answers_fine (Commit t) = first _ _ refl
  answers_fine (Abort t) = first _ _ refl
  answers_fine (Latest i) = first _ _ refl

-- ---- an opening, of any machine and from any state
pub opens_by : (m : Machine) (s : State) (c : ℕ) (vs : List ℕ) (b : Bool) → openable c vs ≡ b → step m s (Open c vs) ≡ elim b [ true ↦ (Ok 0, opened vs) | false ↦ (Err BadOpening, s) ]
unfolding step outcome tests lowest value after refused
opens_by m s c vs b e = ap {B = Answer × State} (λ k. outcome m s (Open c vs) (lowest (Ok 0) ((Err BadOpening, not k) ∷ []))) e ∙ pick b
  where
    pick : (b : Bool) → outcome m s (Open c vs) (lowest (Ok 0) ((Err BadOpening, not b) ∷ [])) ≡ elim b [ true ↦ (Ok 0, opened vs) | false ↦ (Err BadOpening, s) ]
    pick true = refl
    pick false = refl

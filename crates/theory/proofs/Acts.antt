-- The acts of a transaction, as they stand in the state, and the acts of some lines and one more. Assumes nothing.
use Prim.Native.Nat.{ℕ}
use mathlib.Core.Bool.{Bool, false, true}
use mathlib.Core.List.{List, [], ◌++◌, ◌∷◌, append_assoc, append-nil}
use mathlib.Core.Path.{◌∙◌, ◌≡◌, ap, refl, sym}
use Rattle.rules.specs.Machine.{Call, Line}
use Rattle.rules.specs.Serial.{Act, Fits, Store, act, acts, committer, committers, got, leaves, put, stored, told}
use Rattle.rules.specs.State.{State, has_read, written, wrote}
use Rattle.rules.specs.Versions.{visible}
use Rattle.terms.specs.Words.{accepted, paper}

-- the acts of t fit a store that has the version visible to t of each item that t has read, and leave in it the values that t wrote
pub record Acts (s : State) (t : ℕ) (ds : List Act) : Type 0 where
  pub fits : (m : Store) → ((i : ℕ) → has_read s t i ≡ true → m i ≡ (visible s t i).value) → Fits m ds
  pub puts : (m : Store) (i : ℕ) → wrote s t i ≡ true → leaves m ds i ≡ written s t i
  pub other : (m : Store) (i : ℕ) → wrote s t i ≡ false → leaves m ds i ≡ m i

-- ---- acts in a row
pub leaves-append : (m : Store) (a b : List Act) → leaves m (a ++ b) ≡ leaves (leaves m a) b
unfolding leaves
leaves-append m [] b = refl
leaves-append m (got i v ∷ a) b = leaves-append m a b
leaves-append m (put i v ∷ a) b = leaves-append (stored m i v) a b

pub fits-append : (m : Store) (a b : List Act) → Fits m a → Fits (leaves m a) b → Fits m (a ++ b)
unfolding leaves
fits-append m [] b f g = g
fits-append m (got i v ∷ a) b f g = (f.0, fits-append m a b f.1 g)
fits-append m (put i v ∷ a) b f g = fits-append (stored m i v) a b f g

-- ---- one line more

-- what a line tells
abbrev pub tells : {A : Type 0} → (Call → ℕ → List A) → Line → List A
tells f l = elim (accepted l.1) [ true ↦ f l.0 (paper l.1).value | false ↦ [] ]

told_snoc : {A : Type 0} (f : Call → ℕ → List A) (ls : List Line) (l : Line) → told f (ls ++ (l ∷ [])) ≡ told f ls ++ tells f l
unfolding told
told_snoc {A} f [] l = go (accepted l.1)
  where
    go : (b : Bool) → ◌≡◌ {A = List A} (elim b [ true ↦ f l.0 (paper l.1).value ++ [] | false ↦ [] ]) (elim b [ true ↦ f l.0 (paper l.1).value | false ↦ [] ])
    go true = append-nil _
    go false = refl
told_snoc {A} f (k ∷ ls) l = go (accepted k.1) (told_snoc f ls l)
  where
    go : (b : Bool) → told f (ls ++ (l ∷ [])) ≡ told f ls ++ tells f l
        → ◌≡◌ {A = List A} (elim b [ true ↦ f k.0 (paper k.1).value ++ told f (ls ++ (l ∷ [])) | false ↦ told f (ls ++ (l ∷ [])) ])
        (elim b [ true ↦ f k.0 (paper k.1).value ++ told f ls | false ↦ told f ls ] ++ tells f l)
    go true e = ap (λ (r : List A). f k.0 (paper k.1).value ++ r) e ∙ sym (append_assoc (f k.0 (paper k.1).value) (told f ls) (tells f l))
    go false e = e

pub acts_snoc : (t : ℕ) (ls : List Line) (l : Line) → acts t (ls ++ (l ∷ [])) ≡ acts t ls ++ tells (act t) l
unfolding acts
acts_snoc t ls l = told_snoc (act t) ls l

pub acts-same : (t : ℕ) (ls : List Line) (l : Line) → tells (act t) l ≡ [] → acts t (ls ++ (l ∷ [])) ≡ acts t ls
acts-same t ls l e = acts_snoc t ls l ∙ ap (λ (r : List Act). acts t ls ++ r) e ∙ append-nil _

pub committers_snoc : (ls : List Line) (l : Line) → committers (ls ++ (l ∷ [])) ≡ committers ls ++ tells committer l
unfolding committers
committers_snoc ls l = told_snoc committer ls l

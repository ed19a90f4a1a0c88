-- Serial runs: the words of demand 3, over the lines of some calls and answers. Assumes nothing.
use Rattle.std.specs.Prelude.{ℕ, ◌≡◌, Bool, true, false, not, ◌&&◌, cond, List, [], ◌∷◌, ◌++◌, get_or, eqb}
use Rattle.rules.specs.Lists.{pairs, mem}
use Rattle.terms.specs.Words.{paper, accepted}
use Rattle.rules.specs.Machine.{Call, Open, Begin, Read, Write, Commit, Abort, Latest, Line}

-- the line is an accepted opening
unfoldable pub opens : Call → Bool
opens (Open c vs) = true
opens Begin = false
opens (Read t i) = false
opens (Write t i v) = false
opens (Commit t) = false
opens (Abort t) = false
opens (Latest i) = false

unfoldable pub opening : Line → Bool
opening l = accepted l.1 && opens l.0

-- what the accepted lines tell, one after the other, each by its call and its value
unfoldable pub told : {A : Type 0} → (Call → ℕ → List A) → List Line → List A
told f [] = []
told f (l ∷ ls) = elim (accepted l.1) [ true ↦ f l.0 (paper l.1).value ++ told f ls | false ↦ told f ls ]

-- the transaction that an accepted call commits
unfoldable pub committer : Call → ℕ → List ℕ
committer (Open c vs) v = []
committer Begin v = []
committer (Read t i) v = []
committer (Write t i w) v = []
committer (Commit t) v = t.0 ∷ []
committer (Abort t) v = []
committer (Latest i) v = []

-- an act of a transaction: it was given a value of an item, or it put a value there
pub data Act : Type 0 where
  got : ℕ → ℕ → Act
  put : ℕ → ℕ → Act

-- the act of transaction t in an accepted call
unfoldable pub act : ℕ → Call → ℕ → List Act
act t (Open c vs) v = []
act t Begin v = []
act t (Read u i) v = cond (eqb u.0 t) (got i.0 v ∷ []) []
act t (Write u i w) v = cond (eqb u.0 t) (put i.0 w ∷ []) []
act t (Commit u) v = []
act t (Abort u) v = []
act t (Latest i) v = []

-- the committed transactions of some lines, in the order of their commits; the acts of t on them, in order
unfoldable pub committers : List Line → List ℕ
committers ls = told committer ls

unfoldable pub acts : ℕ → List Line → List Act
acts t ls = told (act t) ls

-- the acts of some transactions, one transaction after another
unfoldable pub in_turn : List Line → List ℕ → List Act
in_turn ls [] = []
in_turn ls (t ∷ ts) = acts t ls ++ in_turn ls ts

-- a store has a value for each item; with one put into it
abbrev pub Store : Type 0
Store = ℕ → ℕ

abbrev pub stored : Store → ℕ → ℕ → Store
stored m i v j = cond (eqb i j) v (m j)

-- what some acts leave in a store; and that each value given was the one that stood there
unfoldable pub leaves : Store → List Act → Store
leaves m [] = m
leaves m (got i v ∷ ds) = leaves m ds
leaves m (put i v ∷ ds) = leaves (stored m i v) ds

abbrev pub Fits : Store → List Act → Type 0
Fits m [] = Unit {0}
Fits m (got i v ∷ ds) = (m i ≡ v) × Fits m ds
Fits m (put i v ∷ ds) = Fits (stored m i v) ds

-- the last value that some acts put into item i, or else v
unfoldable pub last_put : ℕ → ℕ → List Act → ℕ
last_put i v [] = v
last_put i v (got j w ∷ ds) = last_put i v ds
last_put i v (put j w ∷ ds) = last_put i (cond (eqb j i) w v) ds

-- the last value that the last of some transactions with a put into item i put there, or else v
unfoldable pub newest_put : List Line → ℕ → ℕ → List ℕ → ℕ
newest_put ls i v [] = v
newest_put ls i v (t ∷ ts) = newest_put ls i (last_put i v (acts t ls)) ts

-- The order has each committed transaction of the lines once, and its run one after another from the opening values gives
-- each of them the values that it was given, and each item its newest committed value: that of the transaction that committed last
-- of those that put one there, or else the opening value.
pub record Serial (vs : List ℕ) (ls : List Line) (order : List ℕ) : Type 0 where
  pub once : pairs (λ a b. not (eqb a b)) order ≡ true
  pub whole : (t : ℕ) → mem t order ≡ mem t (committers ls)
  pub fits : Fits (λ i. get_or vs i 0) (in_turn ls order)
  pub newest : (i : ℕ) → leaves (λ i. get_or vs i 0) (in_turn ls order) i ≡ newest_put ls i (get_or vs i 0) (committers ls)

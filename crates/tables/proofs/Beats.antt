-- Whether a transaction is beaten is found in one pass over the records. Assumes nothing.
use Prim.Native.Nat.{ℕ, ◌<◌}
use native.Mathlib.Omega.{arith}
use mathlib.Core.Bool.{Bool, true, false, not, ◌&&◌, ◌||◌, and-eq-true_iff}
use mathlib.Core.List.{List, [], ◌∷◌, map}
use mathlib.Core.Path.{◌∙◌, ◌≡◌, ap, refl, sym}
use lib.Dec.{ltb}
use lib.ListN.{get_or}
use borrow.Author.Tests.{eq-eqb, eqb-true, ltb-true, ne_eqb}
use Rattle.std.specs.List.{list_any}
use Rattle.terms.specs.declared.Row.{Row}
use Rattle.terms.specs.declared.Rec.{Rec}
use Rattle.terms.specs.Words.{committed, done, is_write, item, num, start, txn}
use Rattle.rules.specs.Lists.{any}
use Rattle.rules.specs.State.{State, commit_of, commits, recorded, row_of, start_of, wrote}
use Rattle.rules.specs.Deps.{beaten, both_wrote}
use Rattle.rules.specs.Raw.{unpack, used_recs, used_rows}
use Rattle.laws.proofs.Beating.{both_in, both_out}
use Rattle.laws.proofs.Lists.{and_both, and_left, and_right, any_in, any_out, both_ways}
use Rattle.laws.proofs.Versions.{commits_in, recorded_in, recorded_out}
use Rattle.bridge.specs.Whole.{used_of}
use Rattle.tables.specs.Marks.{Marked}
use Rattle.tables.proofs.Best.{row_in}

-- one of the records is a write of an item that t wrote, by a transaction that committed after t's start
unfoldable beats : State → ℕ → List Rec → Bool
beats s t xs = any (λ y. is_write y && recorded s t (item y) 2 && ltb (start_of s t) (commit_of s (txn y))) xs

-- ---- the two definitions agree, on any state
module _ (s : State) (t : ℕ) where
  there : beaten s t ≡ true → beats s t s.recs ≡ true
  unfolding beaten beats
  there h =
      let u = any_out (λ c. ltb (start_of s t) (commit_of s c) && both_wrote s t c) (commits s) h in
      let v = both_out s t u.0 (and_right (ltb (start_of s t) (commit_of s u.0)) _ u.2) in
      let y = recorded_out s u.0 v.0 2 v.2 in
      any_in _ y.1
      (and_both _ _ (and_both _ _ (eq-eqb _ _ y.4) (ap (λ (i : ℕ). wrote s t i) y.3 ∙ v.1))
      (ap (λ (c : ℕ). ltb (start_of s t) (commit_of s c)) y.2 ∙ and_left _ _ u.2))

  back : beats s t s.recs ≡ true → beaten s t ≡ true
  unfolding beaten beats
  back h =
      let u = any_out (λ y. is_write y && recorded s t (item y) 2 && ltb (start_of s t) (commit_of s (txn y))) s.recs h in
      let p = simp and-eq-true_iff at u.2 in
      let l : start_of s t < commit_of s (txn u.0) = ltb-true _ _ p.1 in
      let r = row_in s.rows (txn u.0) (omega arith) in
      let c : committed (row_of s.rows (txn u.0)) ≡ true = ap not (ne_eqb (done (row_of s.rows (txn u.0))) 0 (λ z. omega arith)) in
      let n : num (row_of s.rows (txn u.0)) ≡ txn u.0 = r.1 in
      any_in _ (commits_in s r.0 c)
      (and_both _ _ (ap (λ (k : ℕ). ltb (start_of s t) (commit_of s k)) n ∙ p.1)
      (both_in s t (num (row_of s.rows (txn u.0))) (item u.0) p.0.1 (recorded_in s _ (item u.0) 2 u.1 (sym n) refl (eqb-true _ _ p.0.0))))

  beaten_pass : beaten s t ≡ beats s t s.recs
  beaten_pass = both_ways _ _ there back

-- ---- the same by marks: a write of a marked item, by a transaction that committed after moment b
abbrev pub hits : List Row → List Bool → ℕ → ℕ → Bool
hits rows marks b p = is_write (unpack p) && get_or marks (item (unpack p)) false && ltb b (done (row_of (used_rows rows) (txn (unpack p))))

module _ (rows : List Row) (recs : List ℕ) (t : ℕ) (marks : List Bool) (mk : Marked marks recs t) (own : Row) (eo : own ≡ row_of (used_rows rows) t) where
  abbrev the_state : State
  the_state = used_of rows recs [] []

  marked : (p : ℕ) → get_or marks (item (unpack p)) false ≡ recorded the_state t (item (unpack p)) 2
  unfolding recorded
  marked p = mk.mark (item (unpack p)) (omega arith)

  hits_beats : (ps : List ℕ) → list_any (hits rows marks (start own)) ps ≡ beats the_state t (map unpack ps)
  unfolding beats
  hits_beats [] = refl
  hits_beats (p ∷ ps) = λ j. is_write (unpack p) && marked p j && ltb (start (eo j)) (commit_of the_state (txn (unpack p))) || hits_beats ps j

  pub hits-beaten : list_any (hits rows marks (start own)) (used_recs recs) ≡ beaten the_state t
  hits-beaten = hits_beats (used_recs recs) ∙ sym (beaten_pass the_state t)

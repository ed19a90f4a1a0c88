-- The tests one after another are all tests but those of dependencies, of lent tables. Assumes nothing.
use Prim.Native.Nat.{ℕ, ◌≤◌}
use native.Mathlib.Omega.{arith}
use mathlib.Core.Bool.{Bool, true, false, ◌&&◌, and-eq-true_iff}
use mathlib.Core.Path.{◌≡◌, refl, sym, ap, ap₂, subst, ◌∙◌}
use mathlib.Core.List.{[]}
use lib.Dec.{eqb, ltb}
use lib.ListN.{get_or, length, take, length-take}
use borrow.Author.Tests.{eq-eqb, eqb-true, leb-true}
use Rattle.terms.specs.Words.{key}
use Rattle.rules.specs.Lists.{pairs}
use Rattle.rules.specs.State.{State, commits}
use Rattle.rules.specs.Sound.{based, headed, numbered, ordered, owned, seen, sized, tested, timed, unmixed}
use Rattle.rules.specs.Raw.{Raw, raw_of, same_raw, state_of}
use Rattle.lists.specs.Tables.{first_index}
use Rattle.lists.proofs.Untils.{until_first}
use Rattle.laws.proofs.Lists.{and_both, and_left, and_right, both_ways}
use Rattle.laws.proofs.Raw.{same_in, same_out}
use Rattle.sound.specs.Parts.{held}
use Rattle.sound.specs.Records.{sorted}
use Rattle.sound.specs.Rows.{ascends}
use Rattle.sound.specs.Shape.{is_zero, no_row, shaped}
use Rattle.sound.specs.Told.{LinksTold, tested_raw}
use Rattle.sound.proofs.Chains.{on, off}
use Rattle.sound.proofs.Shapes.{shape_in, shape_same, shape_sized}

-- what two of the sentences say
ordered_out : (s : State) → ordered s ≡ true → (ascends s.rows ≡ true) × (pairs (λ x y. ltb (key x) (key y)) s.recs ≡ true)
unfolding ordered
ordered_out s h = let v = simp and-eq-true_iff at h in (v.0.1, v.1)

headed_out : (s : State) → headed s ≡ true → s.count ≤ 256
unfolding headed
headed_out s h = let v = simp and-eq-true_iff at h in leb-true s.count 256 v.0.0.0.0.1

module _ (n m : ℕ) (w : Raw) (used filed : ℕ) (eu : used ≡ first_index no_row w.rows) (ef : filed ≡ first_index is_zero w.recs) where
  abbrev count : ℕ
  count = get_or w.head 0 0

  abbrev the_state : State
  the_state = held count (get_or w.head 1 0) (get_or w.head 2 0) (take count w.values) (take count w.writers) (take used w.rows) (take filed w.recs)

  state-is : state_of w ≡ the_state
  unfolding state_of
  state-is =
      let rs = until_first no_row w.rows ∙ ap (λ (k : ℕ). take k w.rows) (sym eu) in
      let ps = until_first is_zero w.recs ∙ ap (λ (k : ℕ). take k w.recs) (sym ef) in
      λ j. held count (get_or w.head 1 0) (get_or w.head 2 0) (take count w.values) (take count w.writers) (rs j) (ps j)

  shape_at : shaped 256 n m used filed w ≡ shaped 256 n m (first_index no_row w.rows) (first_index is_zero w.recs) w
  shape_at = ap₂ (λ (a b : ℕ). shaped 256 n m a b w) eu ef

  record Lengths : Type 0 where
    small : get_or w.head 0 0 ≤ 256
    values : length w.values ≡ 256
    writers : length w.writers ≡ 256

  lengths : shaped 256 n m used filed w ≡ true → Lengths
  unfolding shaped
  lengths h =
      let v = simp and-eq-true_iff at h in
      record { small = leb-true (get_or w.head 0 0) 256 v.1.1.1.1.1.0; values = eqb-true _ _ v.1.0; writers = eqb-true _ _ v.1.1.0 }

  abbrev rest : Bool
  rest = headed the_state && ((ascends the_state.rows && (numbered the_state && timed the_state)) && (sorted (take filed w.recs) && (owned the_state && (based the_state && (unmixed the_state && seen the_state)))))

  passes : shaped 256 n m used filed w ≡ true → rest ≡ true → tested the_state ≡ true
  unfolding tested ordered
  passes hs hr =
      let z = lengths hs in
      let v = simp and-eq-true_iff at hr in
      let vs : eqb (length (take count w.values)) count ≡ true = eq-eqb _ _ (length-take count w.values ∙ omega (arith, z.small, z.values)) in
      let us : eqb (length (take count w.writers)) count ≡ true = eq-eqb _ _ (length-take count w.writers ∙ omega (arith, z.small, z.writers)) in
      let o : ordered the_state ≡ true = and_both _ _ (and_both _ _ (and_both _ _ vs us) v.1.0.0) v.1.1.0 in
      and_both _ _ (and_both _ _ (and_both _ _ (and_both _ _ (and_both _ _ (and_both _ _ (and_both (ordered the_state) _ o v.0) v.1.0.1.0) v.1.0.1.1) v.1.1.1.0) v.1.1.1.1.0) v.1.1.1.1.1.1)
      v.1.1.1.1.1.0

  parts : tested the_state ≡ true → (rest ≡ true) × (get_or w.head 0 0 ≤ 256)
  unfolding tested
  parts h =
      let v = simp and-eq-true_iff at h in
      let q = orders v.0.0.0.0.0.0.0 in (
        and_both _ _ v.0.0.0.0.0.0.1
            (and_both _ _ (and_both _ _ q.0 (and_both _ _ v.0.0.0.0.0.1 v.0.0.0.0.1))
            (and_both _ _ q.1 (and_both _ _ v.0.0.0.1 (and_both _ _ v.0.0.1 (and_both _ _ v.1 v.0.1))))),
        counts v.0.0.0.0.0.0.1,
      )
    where
      orders : ordered the_state ≡ true → (ascends the_state.rows ≡ true) × (sorted (take filed w.recs) ≡ true)
      orders h = ordered_out the_state h

      counts : headed the_state ≡ true → get_or w.head 0 0 ≤ 256
      counts h = headed_out the_state h

  -- the equation
  chain_is : (shaped 256 n m used filed w && rest) ≡ tested_raw n m w
  unfolding tested_raw
  chain_is =
      both_ways _ _
      (λ h.
      let hs = and_left (shaped 256 n m used filed w) rest h in
      let ht = passes hs (and_right (shaped 256 n m used filed w) rest h) in
      let hz = sym shape_at ∙ hs in
      and_both _ _ (ap (λ (v : Raw). same_raw v w) (shape_same n m w hz) ∙ same_in w) (and_both _ _ (shape_sized n m w hz) (ap tested state-is ∙ ht)))
      (λ h.
      let e = same_out _ _ (and_left (same_raw (raw_of n m (state_of w)) w) _ h) in
      let r = and_right (same_raw (raw_of n m (state_of w)) w) _ h in
      let u = parts (sym (ap tested state-is) ∙ and_right (sized n m (state_of w)) _ r) in
      and_both _ _ (shape_at ∙ shape_in n m w e (and_left (sized n m (state_of w)) _ r) (fit u.1)) u.0)
    where
      fit : get_or w.head 0 0 ≤ 256 → (state_of w).count ≤ 256
      fit b = subst (λ (k : ℕ). k ≤ 256) (sym (ap (λ (s : State). s.count) state-is)) b

  -- ---- where each test fails, and where all pass
  head-same : headed (held count (get_or w.head 1 0) (get_or w.head 2 0) [] [] (take used w.rows) []) ≡ headed the_state
  unfolding headed commits
  head-same = refl

  rows_same : (ascends (take used w.rows) && (numbered (held 0 (get_or w.head 1 0) (get_or w.head 2 0) [] [] (take used w.rows) []) && timed (held 0 (get_or w.head 1 0) (get_or w.head 2 0) [] [] (take used w.rows) [])))
      ≡ (ascends the_state.rows && (numbered the_state && timed the_state))
  unfolding numbered timed
  rows_same = refl

  pub tested_unshaped : shaped 256 n m used filed w ≡ false → false ≡ tested_raw n m w
  tested_unshaped f = off _ f ∙ chain_is

  module _ (hs : shaped 256 n m used filed w ≡ true) where
    pub tested_unheaded : headed (held count (get_or w.head 1 0) (get_or w.head 2 0) [] [] (take used w.rows) []) ≡ false → false ≡ tested_raw n m w
    tested_unheaded f = on hs (off _ (sym head-same ∙ f)) ∙ chain_is

    module _ (hh : headed (held count (get_or w.head 1 0) (get_or w.head 2 0) [] [] (take used w.rows) []) ≡ true) where
      pub tested_unrowed : (ascends (take used w.rows) && (numbered (held 0 (get_or w.head 1 0) (get_or w.head 2 0) [] [] (take used w.rows) []) && timed (held 0 (get_or w.head 1 0) (get_or w.head 2 0) [] [] (take used w.rows) []))) ≡ false
          → false ≡ tested_raw n m w
      tested_unrowed f = on hs (on (sym head-same ∙ hh) (off _ (sym rows_same ∙ f))) ∙ chain_is

      pub tested_linked : {b : Bool} → (ascends (take used w.rows) && (numbered (held 0 (get_or w.head 1 0) (get_or w.head 2 0) [] [] (take used w.rows) []) && timed (held 0 (get_or w.head 1 0) (get_or w.head 2 0) [] [] (take used w.rows) []))) ≡ true
          → LinksTold count (get_or w.head 1 0) w.writers (take used w.rows) (take filed w.recs) b → b ≡ tested_raw n m w
      tested_linked f k =
          let g = sym rows_same ∙ f in
          let h = and_right (ascends the_state.rows) (numbered the_state && timed the_state) g in
          on hs (on (sym head-same ∙ hh) (on g (k.is (get_or w.head 2 0) (take count w.values) (and_left (numbered the_state) (timed the_state) h) (and_right (numbered the_state) (timed the_state) h)))) ∙ chain_is

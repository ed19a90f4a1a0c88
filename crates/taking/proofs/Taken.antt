-- The tables after the rows that pass a test are taken out are those of the state that forgets them. Assumes nothing.
use Prim.Native.Nat.{ℕ, ◌≤◌}
use native.Mathlib.Nat.{zero-add}
use native.Mathlib.Omega.{arith}
use mathlib.Core.Bool.{Bool, true, false, not}
use mathlib.Core.List.Memᴰ
use mathlib.Core.List.{List, map}
use mathlib.Core.Logic.{◌⊎◌, inl, inr}
use mathlib.Core.Path.{◌≡◌, refl, sym, ap, ◌∙◌}
use lib.Dec.{eqb}
use lib.ListN.{length, get_or-eq_default}
use borrow.Author.Tests.{ne_eqb}
use Rattle.rules.specs.Lists.{keep, padded}
use Rattle.rules.specs.Raw.{pack, unpack, raw_of, used_recs, zero_row}
use Rattle.rules.specs.Spent.{forget}
use Rattle.rules.specs.State.{State, commits}
use Rattle.terms.specs.Words.{num, txn}
use Rattle.terms.specs.declared.Row.{Row}
use Rattle.terms.specs.declared.Rec.{Rec}
use Rattle.lists.proofs.Keeps.{map-keep}
use Rattle.lists.proofs.Pads.{until-padded}
use Rattle.laws.proofs.Keeping.{any_none}
use Rattle.laws.proofs.Lists.{◌∈◌, keep_same, passed}
use Rattle.laws.proofs.Raw.{Packs, unpack-pack}
use Rattle.laws.proofs.Versions.{commits_out}
use Rattle.graph.specs.Sets.{member}
use Rattle.theory.proofs.Facts.{Facts}
use Rattle.edges.specs.Blocks.{at}
use Rattle.edges.proofs.Places.{in_place}
use Rattle.taking.specs.Leaving.{leaving, place_of, stays}
use Rattle.taking.proofs.Leaves.{leaving-keep, leaving-padded}
use Rattle.taking.proofs.Placed.{place_is}

-- g is a test that only committed transactions pass, and gone the set of the places of those that pass
module _ (n m : ℕ) (s : State) (v : Facts s) (fits : (x : Rec) → x ∈ s.recs → Packs x) (room : length s.rows ≤ n) (g : ℕ → Bool) (only : (t : ℕ) → g t ≡ true → t ∈ commits s)
    (gone : ℕ) (is : (i : ℕ) → member gone i ≡ g (num (at s.rows i))) where
  none_passes : (i : ℕ) → length s.rows ≤ i → member gone i ≡ false
  none_passes i l = is i ∙ ap (λ (r : Row). g (num r)) (get_or-eq_default s.rows zero_row {n = i} l) ∙ zero-stays (passed (g 0))
    where
      zero-stays : (g 0 ≡ true) ⊎ (g 0 ≡ false) → g 0 ≡ false
      zero-stays (inr f) = f
      zero-stays (inl t) = let u = commits_out s (only 0 t) in absurd (omega (arith, (v.numbers u.1).0, u.3))

  pub rows_taken : padded n zero_row (leaving (member gone) 0 (padded n zero_row s.rows)) ≡ (raw_of n m (forget g s)).rows
  unfolding raw_of forget
  rows_taken =
      leaving-padded (member gone) n zero_row s.rows room none_passes
      ∙ ap (padded n zero_row) (leaving-keep (member gone) (λ r. not (g (num r))) zero_row 0 s.rows (λ i l. ap (member gone) (zero-add i) ∙ is i ∙ twice (g (num (at s.rows i)))))
    where
      twice : (b : Bool) → b ≡ not (not b)
      twice true = refl
      twice false = refl

  -- the used records are those of the state
  pub used : used_recs (padded m 0 (map pack s.recs)) ≡ map pack s.recs
  used = until-padded (λ p. eqb p 0) m 0 (map pack s.recs) refl (any_none _ (map pack s.recs) some)
    where
      some : (p : ℕ) → p ∈ map pack s.recs → eqb p 0 ≡ false
      some p k = let u = Memᴰ.of_map pack s.recs k in ne_eqb p 0 (λ e. positive u.0 (v.kinds u.1) (u.2 ∙ e))
        where
          positive : (x : Rec) → (x.kind ≡ 1) ⊎ (x.kind ≡ 2) → pack x ≡ 0 → ⊥
          positive x (inl k) e = omega arith
          positive x (inr k) e = omega arith

  -- whether a record's row goes
  pub goes : {x : Rec} → x ∈ s.recs → member gone (place_of (padded n zero_row s.rows) (txn (unpack (pack x)))) ≡ g (txn x)
  goes {x} k =
      let o = v.owner k in
      let w = in_place zero_row s.rows o.1 in
      let e = ap num w.2 ∙ o.2 in
      ap (λ (y : Rec). member gone (place_of (padded n zero_row s.rows) (txn y))) (unpack-pack x (fits x k))
      ∙ ap (λ (t : ℕ). member gone (place_of (padded n zero_row s.rows) t)) (sym e)
      ∙ ap (member gone) (place_is n s v room w.0 w.1) ∙ is w.0 ∙ ap g e

  pub recs_taken : padded m 0 (keep (stays gone (padded n zero_row s.rows)) (used_recs (padded m 0 (map pack s.recs)))) ≡ (raw_of n m (forget g s)).recs
  unfolding raw_of forget
  recs_taken =
      ap (λ (l : List ℕ). padded m 0 (keep (stays gone (padded n zero_row s.rows)) l)) used
      ∙ ap (padded m 0) (sym (map-keep pack (stays gone (padded n zero_row s.rows)) s.recs)
      ∙ ap (map pack) (keep_same _ _ s.recs (λ x k. ap not (goes k))))

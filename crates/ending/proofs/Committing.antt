-- A transaction commits: the tables are then those of the state with it, and a ring passes through its row exactly if there is one. Assumes nothing.
use Prim.Native.Nat.{ℕ, ◌≤◌, ◌<◌}
use native.Mathlib.Omega.{arith}
use mathlib.Core.Bool.{Bool, ◌&&◌, false, true}
use mathlib.Core.List.{List}
use mathlib.Core.Path.{◌∙◌, ◌≡◌, ap, subst, sym}
use lib.Dec.{ltb}
use lib.ListN.{length, length-map}
use borrow.Author.Tests.{lt-ltb}
use Rattle.terms.specs.declared.Row.{Row}
use Rattle.terms.specs.declared.Rec.{Rec}
use Rattle.terms.specs.Words.{num, stamp}
use Rattle.rules.specs.Deps.{beaten, ring}
use Rattle.rules.specs.Graph.{Reaches}
use Rattle.rules.specs.Raw.{raw_of}
use Rattle.rules.specs.State.{State, commits, committing, is_active}
use Rattle.laws.proofs.Lists.{T_in, T_out, ◌∈◌, both_ways}
use Rattle.laws.proofs.Raw.{Fits, Packs}
use Rattle.laws.proofs.Rings.{ring_decides, ring-free}
use Rattle.laws.proofs.Versions.{commits_in}
use Rattle.theory.specs.Edges.{edges}
use Rattle.theory.proofs.Actives.{Active, active_out}
use Rattle.theory.proofs.EdgesRings.{rings_through}
use Rattle.theory.proofs.Facts.{Facts, lawful_facts, lawful_from, tested_from}
use Rattle.theory.proofs.FactsCommit.{facts_commit}
use Rattle.theory.proofs.PrunedCommit.{mine-committed, mine_in}
use Rattle.bridge.proofs.Holds.{fits_of}
use Rattle.graph.specs.Sets.{edges as in_table}
use Rattle.graph.specs.Reach.{ringed}
use Rattle.edges.specs.Blocks.{at}
use Rattle.edges.specs.Told.{EdgesTold}
use Rattle.edges.proofs.Rowed.{place_of_lem}
use Rattle.edges.proofs.Ways.{ringed-at}
use Rattle.taking.specs.Leaving.{place_of}
use Rattle.taking.proofs.Placed.{place_is}
use Rattle.ending.specs.Told.{Roomy, Stand, ring_at}
use Rattle.ending.proofs.Standing.{holding}

module _ (n m : ℕ) (s : State) (k : Roomy n m s) (t : ℕ) (on : is_active s t ≡ true) (fine : beaten s t ≡ false) where
  abbrev z : State
  z = committing s t

  a : Active s t
  a = active_out s t on

  v : Facts (committing s t)
  v = facts_commit s (lawful_facts s k.lawful-is) t a fine

  packs : (x : Rec) → x ∈ (committing s t).recs → Packs x
  unfolding committing
  packs x h = k.fits.packs h

  few_rows : length (committing s t).rows ≤ n
  unfolding committing
  few_rows = omega (arith, length-map s.rows (stamp t s.moment), k.rows_few)

  few_recs : length (committing s t).recs ≤ m
  unfolding committing
  few_recs = k.recs_few

  fits : Fits (committing s t)
  fits = fits_of (committing s t) v packs

  pub roomy_commit : ring (committing s t) ≡ false → Roomy n m (committing s t)
  roomy_commit r = record { lawful-is = lawful_from (committing s t) v ((ring-free (committing s t)).0 r); fits = fits; rows_few = few_rows; recs_few = few_recs }

  -- t is committed, so it has a place
  there : t ∈ commits (committing s t)
  there = subst (λ (b : ℕ). b ∈ commits (committing s t)) a.2 (commits_in (committing s t) (mine_in s (lawful_facts s k.lawful-is) t a) (mine-committed s (lawful_facts s k.lawful-is) t a))

  module _ {values writers : List ℕ} {rows : List Row} {recs : List ℕ} (st : Stand n m (committing s t) values writers rows recs) {g : List ℕ} (et : EdgesTold n rows recs g) where
    placed : (i : ℕ) → i < length (committing s t).rows → num (at (committing s t).rows i) ≡ t → place_of rows t ≡ i
    unfolding raw_of
    placed i l e = (λ j. place_of (st.rows_are j) (sym e j)) ∙ place_is n (committing s t) v few_rows i l

    pub ring-at : ring_at n g rows t ≡ ring (committing s t)
    unfolding ring_at
    ring-at =
        let i = place_of_lem (committing s t) v there in
        let p = placed i.0 i.1 i.2 in
        let is = et.is (committing s t) (tested_from (committing s t) v) (holding n m (committing s t) fits st) in
        (λ j. ltb (p j) n && ringed n (in_table g) (p j))
        ∙ ap (λ (b : Bool). b && ringed n (in_table g) i.0) (lt-ltb i.0 n (omega (arith, i.1, few_rows)))
        ∙ both_ways _ _
        (λ h. (ring_decides (committing s t)).1 ((rings_through s k.lawful-is t on fine).1 (subst (λ (b : ℕ). Reaches (edges (committing s t)) b b) i.2 ((ringed-at (committing s t) v g is n few_rows i.0 i.1).0 (T_in h)))))
        (λ h. T_out _ ((ringed-at (committing s t) v g is n few_rows i.0 i.1).1 (subst (λ (b : ℕ). Reaches (edges (committing s t)) b b) (sym i.2) ((rings_through s k.lawful-is t on fine).0 ((ring_decides (committing s t)).0 h)))))

-- Commits and aborts on sound tables: each of their outcomes. What the code has found goes in by equations. Assumes nothing.
use Prim.Native.Nat.{ℕ, ◌+◌, ◌≤◌}
use mathlib.Core.Bool.{false, false≢true, true}
use mathlib.Core.List.{List, [], map}
use mathlib.Core.Logic.{inl, inr}
use mathlib.Core.Path.{◌∙◌, ◌≡◌, ap, refl, subst, sym}
use native.Mathlib.Omega.{arith}
use lib.ListN.{get_or, length, set}
use Rattle.std.specs.Prelude.{Err, Ok}
use Rattle.terms.specs.declared.Refusal.{Refusal}
use Rattle.terms.specs.declared.Refusal.TheVariants.{ClosesRing, NotActive}
use Rattle.terms.specs.declared.Row.{Row}
use Rattle.terms.specs.declared.TxnNo.{TxnNo}
use Rattle.terms.specs.Words.{stamp}
use Rattle.rules.specs.State.{State, committing, dropped, is_active}
use Rattle.rules.specs.Deps.{Beaten, Ring, beaten, ring}
use Rattle.rules.specs.Spent.{forget, prune}
use Rattle.rules.specs.Machine.{Abort, Commit, after, tables}
use Rattle.rules.specs.Answers.{Active}
use Rattle.rules.specs.Raw.{Raw, raw_of, sound_raw, state_of}
use Rattle.rules.specs.Public.{on_sound}
use Rattle.laws.proofs.Answers.{active_decides}
use Rattle.laws.proofs.Beating.{beaten_decides}
use Rattle.laws.proofs.Raw.{held}
use Rattle.laws.proofs.Rings.{ring_decides}
use Rattle.theory.proofs.Agreeing.{sound-lawful}
use Rattle.bridge.specs.Whole.{used_of}
use Rattle.bridge.proofs.HeldChanges.{committing-held}
use Rattle.bridge.proofs.Holds.{Holds, active_used, beaten_used, head-is, holds, recs_long}
use Rattle.edges.specs.Told.{EdgesTold}
use Rattle.ending.specs.Told.{Becomes, Ended, Roomy, Stand, Tidied, ring_at}
use Rattle.ending.proofs.Committing.{ring-at, roomy_commit}
use Rattle.calls.specs.Lent.{raw}
use Rattle.calls.proofs.Outcomes.{accept, ended, refuse, sane}

-- what becomes of tables that are lent on as arrays is what becomes of the tables
pub on_arrays : {n m : ℕ} {f : State → State} {asked : State → Type 0} {v v' w w' : List ℕ} {r r' : List Row} {p : List ℕ} {values writers : List ℕ} {rows : List Row} {recs : List ℕ}
    → v' ≡ v → w' ≡ w → r' ≡ r → Becomes n m f asked v' w' r' p values writers rows recs → Becomes n m f asked v w r p values writers rows recs
on_arrays ev ew er b s roomy a k =
    b s roomy a (record { values_are = ev ∙ k.values_are; writers_are = ew ∙ k.writers_are; rows_are = er ∙ k.rows_are; recs_are = k.recs_are })

module _ (n m : ℕ) (w : Raw) (h : sound_raw n m w ≡ true) (t : TxnNo) where
  k : Holds n m w
  k = holds n m w h

  roomy : Roomy n m (state_of w)
  roomy = record { lawful-is = sound-lawful n m (state_of w) (held n m w h).1; fits = k.fits; rows_few = k.rows_few; recs_few = k.recs_few }

  stand : Stand n m (state_of w) w.values w.writers w.rows w.recs
  stand = let e = sym k.same in record {
    values_are = ap (λ (u : Raw). u.values) e;
    writers_are = ap (λ (u : Raw). u.writers) e;
    rows_are = ap (λ (u : Raw). u.rows) e;
    recs_are = ap (λ (u : Raw). u.recs) e;
  }

  -- ---- no active transaction has the number
  module _ (f : is_active (used_of w.rows [] [] []) t.0 ≡ false) where
    inactive : ¬ Active (state_of w) t.0
    inactive a = false≢true (sym f ∙ active_used w [] [] [] t.0 ∙ (active_decides (state_of w) t.0).1 a)

    pub abort_inactive : on_sound n m (Abort t) w ≡ (Err NotActive, w)
    abort_inactive = refuse n m w h (Abort t) (Err NotActive) (inr (sane n m w h, inl (inactive, refl))) refl refl

    pub commit_inactive : on_sound n m (Commit t) w ≡ (Err NotActive, w)
    commit_inactive = refuse n m w h (Commit t) (Err NotActive) (inr (sane n m w h, inl (inactive, refl))) refl refl

  -- ---- the transaction is active
  module _ (f : is_active (used_of w.rows [] [] []) t.0 ≡ true) where
    on : is_active (state_of w) t.0 ≡ true
    on = sym (active_used w [] [] [] t.0) ∙ f

    active : ¬ ¬ Active (state_of w) t.0
    active n = n ((active_decides (state_of w) t.0).0 on)

    -- what is left where it ends
    module _ {values writers : List ℕ} {rows : List Row} {recs : List ℕ} (e : Ended n (length w.recs) t.0 w.values w.writers w.rows w.recs values writers rows recs) where
      left : raw_of n m (after (tables n m) (state_of w) (Abort t)) ≡ raw w.head values writers rows recs
      unfolding after tables prune forget dropped raw_of
      left =
          let u = subst (λ (b : ℕ). Ended n b t.0 w.values w.writers w.rows w.recs values writers rows recs) (recs_long n m w k) e (state_of w) roomy on stand in
          λ j. record {
            head = sym (head-is n m w k) j;
            values = sym u.values_are j;
            writers = sym u.writers_are j;
            rows = sym u.rows_are j;
            recs = sym u.recs_are j;
          }

      pub abort-done : on_sound n m (Abort t) w ≡ (Ok 0, raw w.head values writers rows recs)
      abort-done = accept n m w h (Abort t) (Ok 0) (inr (sane n m w h, inr (active, refl))) refl ∙ ap (λ (u : Raw). (Ok 0, u)) left

      pub commit-beaten : beaten (used_of w.rows w.recs [] []) t.0 ≡ true → on_sound n m (Commit t) w ≡ (Err Refusal.Beaten, raw w.head values writers rows recs)
      commit-beaten b =
          ended n m w h t (Err Refusal.Beaten) (inr (sane n m w h, inr (active, inl ((beaten_decides (state_of w) t.0).0 (sym (beaten_used w [] [] t.0) ∙ b), refl)))) refl refl
          ∙ ap (λ (u : Raw). (Err Refusal.Beaten, u)) left

    -- ---- it is not beaten
    module _ (b : beaten (used_of w.rows w.recs [] []) t.0 ≡ false) where
      fine : beaten (state_of w) t.0 ≡ false
      fine = sym (beaten_used w [] [] t.0) ∙ b

      unbeaten : ¬ Beaten (state_of w) t.0
      unbeaten u = false≢true (sym fine ∙ (beaten_decides (state_of w) t.0).1 u)

      named : 1 ≤ t.0
      named = let a = (active_decides (state_of w) t.0).0 on in omega (arith, (k.facts.numbers a.here).0, a.named)

      -- the rows with it committed, and the edges between them
      module _ (rows : List Row) (er : rows ≡ map (stamp t.0 (get_or w.head 2 0)) w.rows) (g : List ℕ) (et : EdgesTold n rows w.recs g) where
        stands : Stand n m (committing (state_of w) t.0) w.values w.writers rows w.recs
        unfolding state_of
        stands = let e = sym (committing-held n m w k t.0 named) in record {
          values_are = ap (λ (u : Raw). u.values) e;
          writers_are = ap (λ (u : Raw). u.writers) e;
          rows_are = er ∙ ap (λ (u : Raw). u.rows) e;
          recs_are = ap (λ (u : Raw). u.recs) e;
        }

        ring-is : ring_at n g rows t.0 ≡ ring (committing (state_of w) t.0)
        ring-is = ring-at n m (state_of w) roomy t.0 on fine stands et

        pub commit-ring : ring_at n g rows t.0 ≡ true → {values writers : List ℕ} {rows' : List Row} {recs : List ℕ}
            → Ended n (length w.recs) t.0 w.values w.writers w.rows w.recs values writers rows' recs
            → on_sound n m (Commit t) w ≡ (Err ClosesRing, raw w.head values writers rows' recs)
        commit-ring r e =
            ended n m w h t (Err ClosesRing) (inr (sane n m w h, inr (active, inr (unbeaten, inl ((ring_decides (committing (state_of w) t.0)).0 (sym ring-is ∙ r), refl))))) refl refl
            ∙ ap (λ (u : Raw). (Err ClosesRing, u)) (left e)

        module _ (r : ring_at n g rows t.0 ≡ false) where
          ringless : ¬ Ring (committing (state_of w) t.0)
          ringless u = false≢true (sym (sym ring-is ∙ r) ∙ (ring_decides (committing (state_of w) t.0)).1 u)

          module _ {values writers : List ℕ} {rows' : List Row} {recs : List ℕ} (e : Tidied n (length w.recs) w.values w.writers rows w.recs values writers rows' recs) where
            kept : raw_of n m (after (tables n m) (state_of w) (Commit t)) ≡ raw (set w.head 2 (get_or w.head 2 0 + 1)) values writers rows' recs
            unfolding raw_of state_of after prune tables forget committing
            kept =
                let u = subst (λ (b : ℕ). Tidied n b w.values w.writers rows w.recs values writers rows' recs) (recs_long n m w k) e (committing (state_of w) t.0) (roomy_commit n m (state_of w) roomy t.0 on fine (sym ring-is ∙ r)) tt stands in
                λ j. record {
                  head = set (sym (head-is n m w k) j) 2 (get_or w.head 2 0 + 1);
                  values = sym u.values_are j;
                  writers = sym u.writers_are j;
                  rows = sym u.rows_are j;
                  recs = sym u.recs_are j;
                }

            pub commit-done : on_sound n m (Commit t) w ≡ (Ok (get_or w.head 2 0), raw (set w.head 2 (get_or w.head 2 0 + 1)) values writers rows' recs)
            unfolding state_of
            commit-done =
                accept n m w h (Commit t) (Ok (get_or w.head 2 0)) (inr (sane n m w h, inr (active, inr (unbeaten, inr (ringless, refl))))) refl
                ∙ ap (λ (u : Raw). (Ok (get_or w.head 2 0), u)) kept

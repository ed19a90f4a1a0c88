-- What the answers of a machine mean, in a state that passes the tests and that it does not refuse. Assumes nothing.
use Rattle.std.specs.Prelude.{Err, Ok}
use Rattle.terms.specs.declared.Refusal.TheVariants.{Beaten, ClosesRing, NotActive, UnsoundTables}
use Rattle.rules.specs.Deps
use Prim.Native.Nat.{ℕ}
use mathlib.Core.Bool.{Bool, cond, false, false≢true, not, true}
use mathlib.Core.List.{List, [], ◌∷◌}
use mathlib.Core.Logic.{◌⊎◌, inl, inr}
use mathlib.Core.Path.{◌∙◌, ◌≡◌, ap, refl, sym}
use native.Mathlib.Omega.{arith}
use borrow.Author.Tests.{not-true}
use Rattle.laws.proofs.Beating.{beaten_decides}
use Rattle.laws.proofs.Lists.{and_left, and_right, passed}
use Rattle.laws.proofs.Rings.{ring_decides, ring-free}
use Rattle.laws.proofs.Versions.{latest_decides, visible_decides}
use Rattle.rules.specs.Deps.{beaten, ring}
use Rattle.rules.specs.Lists.{all}
use Rattle.rules.specs.Machine.{Commit, Latest, Machine, Read, lowest, outcome, step, tests, value}
use Rattle.rules.specs.State.{State, committing, is_active, written, wrote}
use Rattle.rules.specs.Versions.{Visible, latest, read_value, version_at, visible}
use Rattle.terms.specs.Words.{Answer, accepted}
use Rattle.terms.specs.declared.TxnNo.{TxnNo}
use Rattle.terms.specs.declared.Version.{Version}
use Rattle.theory.proofs.Consequences.{known}
use Rattle.theory.proofs.Facts.{Facts}
use Rattle.theory.specs.Demand2.{CommitsSo, LatestSo, Means, ReadsSo}

module _ (c : Machine) (s : State) (v : Facts s) (sane : c.unsound s ≡ false) where
  -- an accepted value is the value of the call
  accepts : (a : ℕ) (l : List (Answer × Bool)) → all (λ p. not (accepted p.0)) l ≡ true → (w : ℕ) → lowest (Ok a) l ≡ Ok w → a ≡ w
  unfolding lowest
  accepts a [] h w e = cc
  accepts a (p ∷ l) h w e = go p.1 e (accepts a l (and_right (not (accepted p.0)) _ h) w)
    where
      go : (b : Bool) → ◌≡◌ {A = Answer} (elim b [ true ↦ p.0 | false ↦ lowest (Ok a) l ]) (Ok w) → (lowest (Ok a) l ≡ Ok w → a ≡ w) → a ≡ w
      go true q r = absurd (false≢true (sym (not-true _ (and_left _ _ h)) ∙ ap accepted q))
      go false q r = r q

  pub reads_so : ReadsSo c s
  unfolding step outcome tests value read_value
  reads_so t i w e = go (wrote s t.0 i.0) refl (sym (accepts (read_value s t.0 i.0) (tests c s (Read t i)) refl w e))
    where
      go : (b : Bool) → wrote s t.0 i.0 ≡ b → w ≡ cond (wrote s t.0 i.0) (written s t.0 i.0) (visible s t.0 i.0).value
          → ((wrote s t.0 i.0 ≡ true) × (w ≡ written s t.0 i.0))
          ⊎ ((wrote s t.0 i.0 ≡ false) × ((v : Version) × Visible s t.0 i.0 v × (w ≡ v.value)))
      go true q k = inl (q, k ∙ ap {B = ℕ} (λ b. cond b (written s t.0 i.0) (visible s t.0 i.0).value) q)
      go false q k =
          inr (q, (visible s t.0 i.0, (visible_decides s (known s v) t.0 i.0 _).0 refl, k ∙ ap {B = ℕ} (λ b. cond b (written s t.0 i.0) (visible s t.0 i.0).value) q))

  pub latest_so : LatestSo c s
  unfolding step outcome tests value latest
  latest_so i w e =
      (version_at s i.0 s.moment, (latest_decides s (known s v) i.0 s.moment _).0 refl, sym (accepts (latest s i.0) (tests c s (Latest i)) refl w e))

  -- a commit, by its tests
  commits-by : (t : TxnNo) → is_active s t.0 ≡ true
      → (step c s (Commit t)).0 ≡ lowest (Ok s.moment) ((Err Beaten, beaten s t.0) ∷ (Err ClosesRing, ring (committing s t.0)) ∷ [])
  unfolding step outcome tests value lowest
  commits-by t on =
      λ j. lowest (Ok s.moment) ((Err UnsoundTables, sane j) ∷ (Err NotActive, not (on j)) ∷ (Err Beaten, beaten s t.0) ∷ (Err ClosesRing, ring (committing s t.0)) ∷ [])

  pub commits_so : CommitsSo c s
  unfolding lowest
  commits_so t on = (
    (λ e. (beaten_decides s t.0).0 (was_beaten (beaten s t.0) (ring (committing s t.0)) (sym (commits-by t on) ∙ e)), λ b. commits-by t on ∙ (λ j. by_tests ((beaten_decides s t.0).1 b j) (ring (committing s t.0)))),
    λ n. (
      λ e. (ring_decides (committing s t.0)).0 (closed-ring (ring (committing s t.0)) (sym (by-beaten n) ∙ e)),
      λ r. by-beaten n ∙ (λ j. by_tests false ((ring_decides (committing s t.0)).1 r j)),
    ),
    λ n f. by-beaten n ∙ (λ j. by_tests false ((ring-free (committing s t.0)).1 f j)),
  )
    where
      by_tests : Bool → Bool → Answer
      by_tests a b = lowest (Ok s.moment) ((Err Beaten, a) ∷ (Err ClosesRing, b) ∷ [])

      by-beaten : ¬ Deps.Beaten s t.0 → (step c s (Commit t)).0 ≡ by_tests false (ring (committing s t.0))
      by-beaten n = commits-by t on ∙ go (passed (beaten s t.0))
        where
          go : (beaten s t.0 ≡ true) ⊎ (beaten s t.0 ≡ false) → by_tests (beaten s t.0) (ring (committing s t.0)) ≡ by_tests false (ring (committing s t.0))
          go (inl h) = absurd (n ((beaten_decides s t.0).0 h))
          go (inr f) = λ j. by_tests (f j) (ring (committing s t.0))

      was_beaten : (a b : Bool) → by_tests a b ≡ (Err Beaten) → a ≡ true
      was_beaten true b e = refl
      was_beaten false true e = let z : ◌≡◌ {A = ℕ} 0 1 = cc in absurd (omega arith)
      was_beaten false false e = let z : ◌≡◌ {A = ℕ} 0 1 = cc in absurd (omega arith)

      closed-ring : (b : Bool) → by_tests false b ≡ (Err ClosesRing) → b ≡ true
      closed-ring true e = refl
      closed-ring false e = let z : ◌≡◌ {A = ℕ} 0 1 = cc in absurd (omega arith)

  pub means : Means c s
  means = (reads_so, latest_so, commits_so)

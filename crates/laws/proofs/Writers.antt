-- The committed writers of an item, one after another: each has a dependency to the next, and one before a spent one is spent. Assumes nothing.
use Prim.Native.Nat.{◌<◌, ◌≤◌, ℕ}
use mathlib.Core.Bool.{false, not, true}
use mathlib.Core.Logic.{◌⊎◌, inl, inr}
use mathlib.Core.Path.{◌∙◌, ◌≡◌, ap, refl, subst}
use native.Mathlib.Omega.{arith}
use lib.Dec.{T, ltb}
use borrow.Author.Tests.{eq-eqb, ltb-false, ltb-true, ne_eqb}
use Rattle.laws.proofs.Lists.{◌∈◌, and_both, any_in, or_left, or_right, passed}
use Rattle.laws.proofs.Rings.{depends_in}
use Rattle.laws.proofs.Rows.{Known, row_at}
use Rattle.laws.proofs.Spending.{spent_commits}
use Rattle.laws.proofs.Versions.{Installed, Unwritten, Writer, commits_in, recorded_out, stands, writer_in}
use Rattle.rules.specs.Deps.{dep, depends, follows, overwrites, reads_from}
use Rattle.rules.specs.Graph.{Least}
use Rattle.rules.specs.Spent.{Spent}
use Rattle.rules.specs.State.{State, commit_of, wrote}
use Rattle.rules.specs.Versions.{version_at}
use Rattle.terms.specs.Words.{done, num, writer}
use Rattle.terms.specs.declared.Row.{Row}

module _ (s : State) (k : Known s) where
  commit-row : {r : Row} → r ∈ s.rows → commit_of s (num r) ≡ done r
  commit-row m = ap done (row_at s k m)

  -- the newest installer before r's commit has a dependency to r
  follows-newest : (i : ℕ) {c r : Row} → Installed s i (done r) c → r ∈ s.rows → wrote s (num r) i ≡ true → follows s i (num c) (num r) ≡ true
  unfolding follows
  follows-newest i n mr wr = and_both _ _ wr (eq-eqb _ _ (ap (λ (m : ℕ). writer (version_at s i m)) (commit-row mr) ∙ ap writer n.is))

  overwrite_dep : (i : ℕ) {c r : Row} → c ∈ s.rows → r ∈ s.rows → wrote s (num r) i ≡ true
      → follows s i (num c) (num r) ≡ true → done c < done r → dep s (num c) (num r) ≡ true
  unfolding dep overwrites
  overwrite_dep i {c} {r} mc mr wr f l =
      let u = recorded_out s (num r) i 2 wr in
      and_both _ _ (ap not (ne_eqb (num c) (num r) (λ e. omega (arith, commit-row mc, commit-row mr, ap (commit_of s) e))))
      (or_left _ _ (or_right (reads_from s (num c) (num r)) _
      (any_in _ u.1 (and_both _ _ (and_both _ _ (eq-eqb _ _ u.2) (eq-eqb _ _ u.4)) (rw u.3 f)))))

  -- the later of two has a dependency from one that is the earlier, or later than it
  pub predecessor : (i : ℕ) {q r : Row} → Writer s i q → r ∈ s.rows → wrote s (num r) i ≡ true → done q < done r
      → (c : Row) × Writer s i c × (done q ≤ done c) × (done c < done r) × (dep s (num c) (num r) ≡ true)
  predecessor i {q} {r} wq mr wr l = go (stands s k i (done r))
    where
      go : Unwritten s i (done r) ⊎ ((c : Row) × Installed s i (done r) c)
          → (c : Row) × Writer s i c × (done q ≤ done c) × (done c < done r) × (dep s (num c) (num r) ≡ true)
      go (inl n) = absurd (n.none q (writer_in s i (done r) wq l))
      go (inr (c, n)) = (c, n.by, n.last q (writer_in s i (done r) wq l), n.early, overwrite_dep i n.by.here mr wr (follows-newest i n mr wr) n.early)

  -- what was installed before a spent transaction's version is spent
  pub before_spent : (i : ℕ) {b : ℕ} → Spent s b → {q r : Row} → num r ≡ b → Writer s i q → r ∈ s.rows → wrote s (num r) i ≡ true → done q < done r → Spent s (num q)
  before_spent i {b} (Least.least o f) {q} {r} e wq mr wr l =
      let u = predecessor i wq mr wr l in
      let h : T (depends s (num u.0) b) = depends_in s (commits_in s u.1.here u.1.ended) (spent_commits s (Least.least o f)) (subst (λ (k : ℕ). dep s (num u.0) k ≡ true) e u.4) in
      go u.0 u.1 u.2 (f (num u.0) h) (λ d. before_spent i (f (num u.0) h) refl wq u.1.here u.1.wrote d) (passed (ltb (done q) (done u.0)))
    where
      go : (c : Row) → Writer s i c → done q ≤ done c → Spent s (num c) → (done q < done c → Spent s (num q))
          → (ltb (done q) (done c) ≡ true) ⊎ (ltb (done q) (done c) ≡ false) → Spent s (num q)
      go c w le p h (inl t) = h (ltb-true _ _ t)
      go c w le p h (inr f) = rw (k.distinct wq.here wq.ended w.here w.ended (omega (arith, ltb-false))) p

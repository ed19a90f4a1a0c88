-- A commit of one that is not beaten keeps the facts. Assumes nothing.
use Prim.Native.Nat.{◌+◌, ◌<◌, suc, ℕ}
use mathlib.Core.Bool.{false, false≢true, true}
use mathlib.Core.List.Memᴰ
use mathlib.Core.List.{Memᴰ, map}
use mathlib.Core.Logic.{◌⊎◌, inl, inr}
use mathlib.Core.Path.{◌∙◌, ◌≡◌, ap, refl, subst, sym}
use native.Mathlib.Omega.{arith}
use lib.Dec.{eqb}
use lib.ListN.{length, length-map}
use borrow.Author.Tests.{eqb-true}
use Rattle.laws.proofs.Beating.{beaten_decides}
use Rattle.laws.proofs.Lists.{◌∈◌, passed}
use Rattle.laws.proofs.Rows.{num-stamp, nums_same, one_more, parted, row_at}
use Rattle.laws.proofs.Versions.{Writer, commits_in}
use Rattle.rules.specs.Deps.{beaten}
use Rattle.rules.specs.Lists.{keep}
use Rattle.rules.specs.State.{State, commits, committing, recorded, row_of, start_of, wrote}
use Rattle.rules.specs.Versions.{version_at, visible}
use Rattle.terms.specs.Words.{active, committed, done, item, num, stamp, start, txn, writer}
use Rattle.terms.specs.declared.Rec.{Rec}
use Rattle.terms.specs.declared.Row.{Row}
use Rattle.theory.proofs.Actives.{Active}
use Rattle.theory.proofs.Consequences.{one_row, row_is, row_of_lem}
use Rattle.theory.proofs.Facts.{Facts}
use Rattle.theory.proofs.PrunedCommit.{Was, ascend_commit, begun-before, mine, mine_in, rowed_commit, rows-commit, rows-commit_in, version-commit, writer-commit}

module _ (s : State) (v : Facts s) (t : ℕ) (a : Active s t) (fine : beaten s t ≡ false) where
  abbrev own : Row
  own = mine s v t a

  -- a row after the commit is another's or its own, and starts as before
  was : (q : Row) → Was s v t a q → (r : Row) × (r ∈ s.rows) × (num r ≡ num q) × (start r ≡ start q)
  was q (inl x) = (q, x.0, refl, refl)
  was q (inr e) = (a.0, a.1, sym (ap num e), sym (ap start e))

  more_commits : length (commits (committing s t)) ≡ suc (length (commits s))
  unfolding commits committing
  more_commits =
      length-map (keep committed (map (stamp t s.moment) s.rows)) num
      ∙ one_more s.moment t s.rows (begun-before s v t a) v.ascend a.1 a.2 a.3 ∙ ap suc (sym (length-map (keep committed s.rows) num))

  fewer_active : suc (length (keep active (committing s t).rows)) ≡ length (keep active s.rows)
  unfolding committing
  fewer_active =
      omega (
        arith,
        one_more s.moment t s.rows (begun-before s v t a) v.ascend a.1 a.2 a.3,
        parted s.rows,
        parted (map (stamp t s.moment) s.rows),
        length-map s.rows (stamp t s.moment),
      )

  same_nums : map num (committing s t).rows ≡ map num s.rows
  unfolding committing
  same_nums = nums_same _ (num-stamp t s.moment) s.rows

  -- who wrote an item that t wrote did not commit after t's start
  unbeaten : (i : ℕ) {c : Row} → Writer s i c → wrote s t i ≡ true → start a.0 < done c → ⊥
  unbeaten i {c} w k l =
      false≢true (sym fine ∙ (beaten_decides s t).1 (record {
        winner = num c;
        here = commits_in s w.here w.ended;
        after = omega (arith, ap start (row_is s v a.1 a.2), ap done (row_of_lem s v w.here));
        item = i;
        mine = k;
        theirs = w.wrote;
      }))

  start-commit : {r : Row} → r ∈ s.rows → start (row_of (committing s t).rows (num r)) ≡ start r
  start-commit {r} m = go (passed (eqb (num r) t))
    where
      go : (eqb (num r) t ≡ true) ⊎ (eqb (num r) t ≡ false) → start (row_of (committing s t).rows (num r)) ≡ start r
      go (inr n) = ap start (row_at (committing s t) (rowed_commit s v t a).known (rows-commit_in s v t a m n))
      go (inl h) =
          let e : num r ≡ num own = eqb-true _ _ h ∙ sym a.2 in
          ap (λ (k : ℕ). start (row_of (committing s t).rows k)) e ∙ ap start (row_at (committing s t) (rowed_commit s v t a).known (mine_in s v t a))
          ∙ ap start (one_row s v a.1 m (sym e))

  visible-commit : (x : Rec) → x ∈ s.recs → visible (committing s t) (txn x) (item x) ≡ visible s (txn x) (item x)
  unfolding visible
  visible-commit x m =
      let o = v.owner m in
      let p : start_of (committing s t) (txn x) ≡ start o.0 = ap (λ (k : ℕ). start (row_of (committing s t).rows k)) (sym o.2) ∙ start-commit o.1 in
      let q : start_of s (txn x) ≡ start o.0 = ap (λ (k : ℕ). start (row_of s.rows k)) (sym o.2) ∙ ap start (row_of_lem s v o.1) in
      ap (version_at (committing s t) (item x)) p ∙ version-commit s v t a (item x) (start o.0) (omega (arith, (v.started o.1).1)) ∙ ap (version_at s (item x)) (sym q)

  go_ends : {q : Row} → Was s v t a q → committed q ≡ true → (start q < done q) × (done q < s.moment + 1)
  go_ends (inl x) c = let u = v.ends x.0 c in (u.0, omega (arith, u.1))
  go_ends (inr e) c = (omega (arith, ap start e, ap done e, (v.started a.1).1), omega (arith, ap done e))

  go_cross : {c : Row} (r : Row) → Was s v t a c → committed c ≡ true → (k : Row) → k ∈ s.rows → start k ≡ start r → done c ≡ start r → ⊥
  go_cross r (inl x) h k mk e d = v.cross x.0 h mk (d ∙ sym e)
  go_cross r (inr q) h k mk e d = omega (arith, ap done q, (v.started mk).1)

  go_mixed : (i : ℕ) {p q : Row} → Writer s i p ⊎ ((p ≡ own) × (wrote s t i ≡ true)) → Writer s i q ⊎ ((q ≡ own) × (wrote s t i ≡ true))
      → num p < num q → start p < done q → start q < done p → ⊥
  go_mixed i (inl x) (inl y) l e d = v.unmixed i x y l e d
  go_mixed i (inr x) (inr y) l e d = omega (arith, ap num x.0, ap num y.0)
  go_mixed i (inr x) (inl y) l e d = unbeaten i y x.1 (omega (arith, ap start x.0))
  go_mixed i (inl x) (inr y) l e d = unbeaten i x y.1 (omega (arith, ap start y.0))

  pub facts_commit : Facts (committing s t)
  unfolding committing recorded
  facts_commit = record {
    sizes = v.sizes;
    ascend = ascend_commit s v t a;
    sorted = v.sorted;
    counts = v.counts;
    nexts = v.nexts;
    low = omega (arith, more_commits, v.low);
    high = omega (arith, fewer_active, v.high);
    numbers = λ {r} m. let o = was r (rows-commit s v t a m) in let u = v.numbers o.1 in (omega (arith, u.0, o.2), omega (arith, u.1, o.2));
    starts = λ {a = p} {b = q} ma mb l. let o = was p (rows-commit s v t a ma) in let u = was q (rows-commit s v t a mb) in omega (arith, v.starts o.1 u.1 (omega (arith, o.2, u.2)), o.3, u.3);
    started = λ {r} m. let o = was r (rows-commit s v t a m) in let u = v.started o.1 in (omega (arith, u.0, o.3), omega (arith, u.1, o.3));
    ends = λ m c. go_ends (rows-commit s v t a m) c;
    distinct = λ ma ca mb cb e. (rowed_commit s v t a).known.distinct ma ca mb cb e;
    cross = λ {c} {r} mc h mr e. let o = was r (rows-commit s v t a mr) in go_cross r (rows-commit s v t a mc) h o.0 o.1 o.3 e;
    kinds = λ m. v.kinds m;
    owner = λ {x} m. let o = v.owner m in let u = Memᴰ.map (stamp t s.moment) o.1 in (stamp t s.moment o.0, u, num-stamp t s.moment o.0 ∙ o.2);
    within = λ m. v.within m;
    based = λ {w} m. let u = v.based m in (u.0, λ k. u.1 (subst (Memᴰ w) same_nums k));
    sees = λ {x} m h. v.sees m h ∙ ap writer (sym (visible-commit x m));
    unmixed = λ i wa wb l. go_mixed i (writer-commit s v t a i wa) (writer-commit s v t a i wb) l;
  }

-- The edges without immediate successors lead where the dependencies lead, on states that pass the tests. Assumes nothing.
use Prim.Native.Nat.{◌<◌, ℕ}
use mathlib.Core.Bool.{◌&&◌, ◌||◌, and-eq-true_iff, false, not, true}
use mathlib.Core.Logic.{◌⊎◌, inl, inr}
use mathlib.Core.Path.{◌∙◌, ◌≡◌, ap, refl, subst, subst₂, sym}
use native.Mathlib.Omega.{arith}
use lib.Dec.{T, eqb, ltb}
use borrow.Author.Tests.{eq-eqb, eqb-false, eqb-true, lt-ltb, ltb-false, ltb-true, not-true}
use Rattle.laws.proofs.Lists.{◌∈◌, and_both, and_left, and_right, any_in, any_out, or_cases, or_left, or_right, passed}
use Rattle.laws.proofs.Rings.{among_in, among_out, depends_out}
use Rattle.laws.proofs.Versions.{Installed, Unwritten, Writer, commits_out, recorded_in, recorded_out}
use Rattle.rules.specs.Deps.{dep, depends, follows, overwrites, read_before, reads_from}
use Rattle.rules.specs.Graph.{Reaches}
use Rattle.rules.specs.State.{State, commit_of, commits, start_of, wrote}
use Rattle.rules.specs.Versions.{version_at}
use Rattle.terms.specs.Words.{committed, done, is_read, is_write, item, num, start, txn, writer}
use Rattle.terms.specs.declared.Rec.{Rec}
use Rattle.terms.specs.declared.Row.{Row}
use Rattle.theory.proofs.Actives.{moved}
use Rattle.theory.proofs.Consequences.{one_row, row_of_lem, rowless, standing}
use Rattle.theory.proofs.Facts.{Facts}
use Rattle.theory.proofs.Ways.{from_writer, read_of, to_later, to_writer}
use Rattle.theory.specs.Edges.{edge, edges, touches}

module _ (s : State) where
  touch_in : (a b : ℕ) {x : Rec} → x ∈ s.recs → txn x ≡ a → wrote s b (item x) ≡ true → touches s a b ≡ true
  unfolding touches
  touch_in a b m e w = any_in (λ x. eqb (txn x) a && wrote s b (item x)) m (and_both _ _ (eq-eqb _ _ e) w)

  touch_out : (a b : ℕ) → touches s a b ≡ true → (x : Rec) × (x ∈ s.recs) × (txn x ≡ a) × (wrote s b (item x) ≡ true)
  unfolding touches
  touch_out a b h =
      let u = any_out (λ x. eqb (txn x) a && wrote s b (item x)) s.recs h in
      (u.0, u.1, eqb-true _ _ (and_left _ _ u.2), and_right (eqb (txn u.0) a) _ u.2)

  pub edges_in : {a b : ℕ} → a ∈ commits s → b ∈ commits s → edge s a b ≡ true → T (edges s a b)
  unfolding edges
  edges_in ma mb d = among_in s (edge s) ma mb d

  pub edges_out : (a b : ℕ) → T (edges s a b) → (a ∈ commits s) × (b ∈ commits s) × (edge s a b ≡ true)
  unfolding edges
  edges_out a b t = among_out s (edge s) a b t

-- ---- each edge is a way of dependencies
module _ (s : State) (v : Facts s) where
  -- of two writers of an item the one that started before the other's commit committed first
  first_writer : (i : ℕ) {a b : Row} → Writer s i a → Writer s i b → (num a ≡ num b → ⊥) → start a < done b → done a < done b
  first_writer i {a} {b} wa wb n l = pick (passed (ltb (start b) (done a))) (passed (ltb (num a) (num b)))
    where
      pick : (ltb (start b) (done a) ≡ true) ⊎ (ltb (start b) (done a) ≡ false) → (ltb (num a) (num b) ≡ true) ⊎ (ltb (num a) (num b) ≡ false) → done a < done b
      pick (inr f) o = omega (arith, ltb-false (start b) (done a) f, (v.ends wb.here wb.ended).0)
      pick (inl t) (inl o) = absurd (v.unmixed i wa wb (ltb-true _ _ o) l (ltb-true _ _ t))
      pick (inl t) (inr o) = absurd (v.unmixed i wb wa (omega (arith, ltb-false (num a) (num b) o)) (ltb-true _ _ t) l)

  edge_row : {a b : Row} → a ∈ s.rows → committed a ≡ true → b ∈ s.rows → committed b ≡ true → edge s (num a) (num b) ≡ true → Reaches (depends s) (num a) (num b)
  unfolding edge
  edge_row {a} {b} ma ca mb cb h = go (or_cases _ _ (and_right (not (eqb (num a) (num b))) _ h))
    where
      differ : num a ≡ num b → ⊥
      differ = eqb-false _ _ (not-true _ (and_left _ _ h))

      forward : (x : Rec) → x ∈ s.recs → txn x ≡ num a → wrote s (num b) (item x) ≡ true → start a < done b → (x.kind ≡ 1) ⊎ (x.kind ≡ 2) → Reaches (depends s) (num a) (num b)
      forward x m e w l (inl k) = to_writer s v (item x) ma ca (recorded_in s (num a) (item x) 1 m e refl k) (record { here = mb; ended = cb; wrote = w }) differ l
      forward x m e w l (inr k) =
          let wa : Writer s (item x) a = record { here = ma; ended = ca; wrote = recorded_in s (num a) (item x) 2 m e refl k } in
          let wb : Writer s (item x) b = record { here = mb; ended = cb; wrote = w } in
          to_later s v (item x) wa wb (first_writer (item x) wa wb differ l)

      backward : (x : Rec) → x ∈ s.recs → txn x ≡ num b → wrote s (num a) (item x) ≡ true → done a < start b → (x.kind ≡ 1) ⊎ (x.kind ≡ 2) → Reaches (depends s) (num a) (num b)
      backward x m e w l (inl k) = from_writer s v (item x) mb cb (recorded_in s (num b) (item x) 1 m e refl k) (record { here = ma; ended = ca; wrote = w }) l
      backward x m e w l (inr k) =
          to_later s v (item x) (record { here = ma; ended = ca; wrote = w }) (record { here = mb; ended = cb; wrote = recorded_in s (num b) (item x) 2 m e refl k })
          (omega (arith, (v.ends mb cb).0))

      go : ((touches s (num a) (num b) && ltb (start_of s (num a)) (commit_of s (num b))) ≡ true) ⊎ ((touches s (num b) (num a) && ltb (commit_of s (num a)) (start_of s (num b))) ≡ true)
          → Reaches (depends s) (num a) (num b)
      go (inl p) =
          let u = touch_out s (num a) (num b) (and_left _ _ p) in
          let l = ltb-true (start_of s (num a)) (commit_of s (num b)) (and_right (touches s (num a) (num b)) _ p) in
          forward u.0 u.1 u.2 u.3 (omega (arith, l, ap start (row_of_lem s v ma), ap done (row_of_lem s v mb))) (v.kinds u.1)
      go (inr p) =
          let u = touch_out s (num b) (num a) (and_left _ _ p) in
          let l = ltb-true (commit_of s (num a)) (start_of s (num b)) (and_right (touches s (num b) (num a)) _ p) in
          backward u.0 u.1 u.2 u.3 (omega (arith, l, ap done (row_of_lem s v ma), ap start (row_of_lem s v mb))) (v.kinds u.1)

  -- ---- each dependency is an edge

  -- a version of a committed transaction's is a kept one
  own : (i m : ℕ) → i < s.count → {a : Row} → a ∈ s.rows → writer (version_at s i m) ≡ num a → (done a < m) × (wrote s (num a) i ≡ true)
  own i m l {a} ma e = go (standing s v i m)
    where
      go : Unwritten s i m ⊎ ((c : Row) × Installed s i m c) → (done a < m) × (wrote s (num a) i ≡ true)
      go (inl k) = absurd ((rowless s v i l).1 a ma (sym e ∙ ap writer k.is))
      go (inr (r, k)) =
          let z : r ≡ a = one_row s v k.by.here ma (sym (ap writer k.is) ∙ e) in
          (subst (λ (c : Row). done c < m) z k.early, subst (λ (c : Row). wrote s (num c) i ≡ true) z k.by.wrote)

  abbrev Joins : ℕ → ℕ → Type 0
  Joins a b = ((touches s a b && ltb (start_of s a) (commit_of s b)) || (touches s b a && ltb (commit_of s a) (start_of s b))) ≡ true

  dep-row : {a b : Row} → a ∈ s.rows → committed a ≡ true → b ∈ s.rows → committed b ≡ true → dep s (num a) (num b) ≡ true → edge s (num a) (num b) ≡ true
  unfolding edge dep reads_from overwrites read_before follows
  dep-row {a} {b} ma ca mb cb h =
      and_both (not (eqb (num a) (num b))) _ (and_left (not (eqb (num a) (num b))) (reads_from s (num a) (num b) || overwrites s (num a) (num b) || read_before s (num a) (num b)) h)
      (go (or_cases _ _ (and_right (not (eqb (num a) (num b))) _ h)))
    where
      forward : {x : Rec} → x ∈ s.recs → txn x ≡ num a → wrote s (num b) (item x) ≡ true → start a < done b → Joins (num a) (num b)
      forward m e w l = or_left _ _ (and_both _ _ (touch_in s (num a) (num b) m e w) (lt-ltb (start_of s (num a)) (commit_of s (num b)) (omega (arith, ap start (row_of_lem s v ma), ap done (row_of_lem s v mb)))))

      backward : {x : Rec} → x ∈ s.recs → txn x ≡ num b → wrote s (num a) (item x) ≡ true → done a < start b → Joins (num a) (num b)
      backward m e w l = or_right (touches s (num a) (num b) && ltb (start_of s (num a)) (commit_of s (num b))) _
          (and_both _ _ (touch_in s (num b) (num a) m e w) (lt-ltb (commit_of s (num a)) (start_of s (num b)) (omega (arith, ap done (row_of_lem s v ma), ap start (row_of_lem s v mb)))))

      go : ((reads_from s (num a) (num b) || overwrites s (num a) (num b)) ≡ true) ⊎ (read_before s (num a) (num b) ≡ true) → Joins (num a) (num b)
      go (inr d) =
          let u = any_out (λ x. eqb (txn x) (num a) && is_read x && follows s (item x) x.word (num b)) s.recs d in
          let z = simp and-eq-true_iff at u.2 in
          let e = eqb-true _ _ z.0.0 in
          let same : writer (version_at s (item u.0) (done b)) ≡ writer (version_at s (item u.0) (start a))
          = ap (λ (r : Row). writer (version_at s (item u.0) (done r))) (sym (row_of_lem s v mb)) ∙ eqb-true _ _ z.1.1 ∙ read_of s v ma u.1 e (eqb-true _ _ z.0.1) in
          let no = v.cross mb cb ma in
          let never : done b < start a → ⊥ = λ l. moved s v (item u.0) (start a) (v.within u.1) (record { here = mb; ended = cb; wrote = z.1.0 }) l same in
          forward u.1 e z.1.0 (after never no (passed (ltb (done b) (start a))))
        where
          after : (done b < start a → ⊥) → (done b ≡ start a → ⊥) → (ltb (done b) (start a) ≡ true) ⊎ (ltb (done b) (start a) ≡ false) → start a < done b
          after n e (inl t) = absurd (n (ltb-true _ _ t))
          after n e (inr f) = omega (arith, ltb-false (done b) (start a) f)
      go (inl d) = either (or_cases _ _ d)
        where
          either : (reads_from s (num a) (num b) ≡ true) ⊎ (overwrites s (num a) (num b) ≡ true) → Joins (num a) (num b)
          either (inl d) =
              let u = any_out (λ x. eqb (txn x) (num b) && is_read x && eqb x.word (num a)) s.recs d in
              let z = simp and-eq-true_iff at u.2 in
              let e = eqb-true _ _ z.0.0 in
              let o = own (item u.0) (start b) (v.within u.1) ma (sym (read_of s v mb u.1 e (eqb-true _ _ z.0.1)) ∙ eqb-true _ _ z.1) in
              backward u.1 e o.1 o.0
          either (inr d) =
              let u = any_out (λ x. eqb (txn x) (num b) && is_write x && follows s (item x) (num a) (num b)) s.recs d in
              let z = simp and-eq-true_iff at u.2 in
              let o = own (item u.0) (done b) (v.within u.1) ma (ap (λ (r : Row). writer (version_at s (item u.0) (done r))) (sym (row_of_lem s v mb)) ∙ eqb-true _ _ z.1.1) in
              let y = recorded_out s (num a) (item u.0) 2 o.1 in
              forward y.1 y.2 (ap (λ (i : ℕ). wrote s (num b) i) y.3 ∙ z.1.0) (omega (arith, o.0, (v.ends ma ca).0))

  -- ---- of transactions by their numbers
  pub edge_reaches : (a b : ℕ) → T (edges s a b) → Reaches (depends s) a b
  edge_reaches a b t =
      let h = edges_out s a b t in
      let p = commits_out s h.0 in
      let q = commits_out s h.1 in
      subst₂ (λ (x y : ℕ). Reaches (depends s) x y) p.3 q.3
      (edge_row p.1 p.2 q.1 q.2 (subst₂ (λ (x y : ℕ). edge s x y ≡ true) (sym p.3) (sym q.3) h.2))

  pub dep-edge : (a b : ℕ) → T (depends s a b) → T (edges s a b)
  dep-edge a b t =
      let h = depends_out s a b t in
      let p = commits_out s h.0 in
      let q = commits_out s h.1 in
      edges_in s h.0 h.1 (subst₂ (λ (x y : ℕ). edge s x y ≡ true) p.3 q.3
      (dep-row p.1 p.2 q.1 q.2 (subst₂ (λ (x y : ℕ). dep s x y ≡ true) (sym p.3) (sym q.3) h.2)))

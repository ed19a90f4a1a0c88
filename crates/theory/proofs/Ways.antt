-- Ways of dependencies between the committed writers and readers of an item. Assumes nothing.
use Prim.Native.Nat.{◌<◌, ◌≤◌, suc, zero, ℕ}
use mathlib.Core.Bool.{◌&&◌, ◌||◌, false, not, true}
use mathlib.Core.Logic.{◌⊎◌, inl, inr}
use mathlib.Core.Path.{◌∙◌, ◌≡◌, ap, subst, sym}
use native.Mathlib.Omega.{arith}
use lib.Dec.{T, eqb, ltb}
use borrow.Author.Tests.{eq-eqb, eqb-false, eqb-true, ltb-false, ltb-true, ne_eqb}
use Rattle.laws.proofs.Graph.{join, more}
use Rattle.laws.proofs.Lists.{◌∈◌, and_both, any_in, or_left, or_right, passed}
use Rattle.laws.proofs.Rings.{depends_in, rank, rises}
use Rattle.laws.proofs.Versions.{Installed, Unwritten, Writer, between, commits_in, installers_out, recorded_out, writer_in}
use Rattle.laws.proofs.Writers.{predecessor}
use Rattle.rules.specs.Deps.{Ring, dep, depends, follows, overwrites, read_before, reads_from}
use Rattle.rules.specs.Graph.{Reaches, Way}
use Rattle.rules.specs.State.{State, commit_of, has_read, wrote}
use Rattle.rules.specs.Versions.{installers, version_at, visible}
use Rattle.terms.specs.Words.{committed, done, item, num, start, txn, writer}
use Rattle.terms.specs.declared.Rec.{Rec}
use Rattle.terms.specs.declared.Row.{Row}
use Rattle.theory.proofs.Consequences.{known, one_row, row_is, row_of_lem, standing}
use Rattle.theory.proofs.Facts.{Facts}

module _ (s : State) (v : Facts s) where
  dependency : {a b : Row} → a ∈ s.rows → committed a ≡ true → b ∈ s.rows → committed b ≡ true → dep s (num a) (num b) ≡ true → T (depends s (num a) (num b))
  dependency ma ca mb cb d = depends_in s (commits_in s ma ca) (commits_in s mb cb) d

  -- from a writer to every later one
  chain : (n i : ℕ) {q r : Row} → done r ≤ n → Writer s i q → Writer s i r → done q < done r → Reaches (depends s) (num q) (num r)
  chain zero i h wq wr l = absurd (omega arith)
  chain (suc n) i {q} {r} h wq wr l =
      let u = predecessor s (known s v) i wq wr.here wr.wrote l in
      go u.0 u.1 u.2 (dependency u.1.here u.1.ended wr.here wr.ended u.4) (λ d. chain n i (omega (arith, u.3)) wq u.1 d) (passed (ltb (done q) (done u.0)))
    where
      go : (c : Row) → Writer s i c → done q ≤ done c → T (depends s (num c) (num r)) → (done q < done c → Reaches (depends s) (num q) (num c))
          → (ltb (done q) (done c) ≡ true) ⊎ (ltb (done q) (done c) ≡ false) → Reaches (depends s) (num q) (num r)
      go c w le d way (inl t) = let r = way (ltb-true _ _ t) in (r.0, r.1, more r.2 d)
      go c w le d way (inr f) =
          let e : q ≡ c = v.distinct wq.here wq.ended w.here w.ended (omega (arith, ltb-false)) in
          (num r, subst (λ (z : Row). T (depends s (num z) (num r))) (sym e) d, Way.end)

  pub to_later : (i : ℕ) {q r : Row} → Writer s i q → Writer s i r → done q < done r → Reaches (depends s) (num q) (num r)
  to_later i {r = r} wq wr l = chain (done r) i (omega arith) wq wr l

  -- the word of a read record
  pub read_of : {a : Row} {x : Rec} → a ∈ s.rows → x ∈ s.recs → txn x ≡ num a → x.kind ≡ 1 → x.word ≡ writer (version_at s (item x) (start a))
  unfolding visible
  read_of {a} {x} ma mx e t = v.sees mx t ∙ ap (λ (r : Row). writer (version_at s (item x) (start r))) (row_is s v ma (sym e))

  -- t has read item i
  module _ (i : ℕ) {t : Row} (mt : t ∈ s.rows) (ct : committed t ≡ true) (rt : has_read s (num t) i ≡ true) where
    -- the version visible to t
    pub visible-at : visible s (num t) i ≡ version_at s i (start t)
    unfolding visible
    visible-at = ap (λ (r : Row). version_at s i (start r)) (row_of_lem s v mt)

    x : (x : Rec) × (x ∈ s.recs) × (txn x ≡ num t) × (item x ≡ i) × (x.kind ≡ 1)
    x = recorded_out s (num t) i 1 rt

    word : x.0.word ≡ writer (version_at s i (start t))
    word = read_of mt x.1 x.2 x.4 ∙ ap (λ (j : ℕ). writer (version_at s j (start t))) x.3

    -- to the writer of the version after the one that t read
    read-before : {r : Row} → Writer s i r → (num t ≡ num r → ⊥) → version_at s i (done r) ≡ version_at s i (start t) → T (depends s (num t) (num r))
    unfolding dep read_before follows
    read-before {r} w n e = dependency mt ct w.here w.ended (and_both _ _ (ap not (ne_eqb _ _ n)) (or_right (reads_from s (num t) (num r) || overwrites s (num t) (num r)) _
        (any_in _ x.1 (and_both _ _ (and_both _ _ (eq-eqb _ _ x.2) (eq-eqb _ _ x.4)) succ))))
      where
        succ : (wrote s (num r) (item x.0) && eqb (writer (version_at s (item x.0) (commit_of s (num r)))) x.0.word) ≡ true
        succ = and_both _ _ (ap (λ (j : ℕ). wrote s (num r) j) x.3 ∙ w.wrote)
            (eq-eqb _ _ (ap (λ (j : ℕ). writer (version_at s j (commit_of s (num r)))) x.3 ∙ ap (λ (q : Row). writer (version_at s i (done q))) (row_of_lem s v w.here) ∙ ap writer e ∙ sym word))

    -- and to every writer that committed after t's start
    onward : (n : ℕ) {r : Row} → done r ≤ n → Writer s i r → (num t ≡ num r → ⊥) → start t < done r → Reaches (depends s) (num t) (num r)
    onward zero h w ne l = absurd (omega arith)
    onward (suc n) {r} h w ne l = go (standing s v i (done r)) (λ c p q. onward n p q)
      where
        direct : ((p : Row) → p ∈ installers s i (done r) → done p < start t) → Reaches (depends s) (num t) (num r)
        direct before = (num r, read-before w ne (between s i (start t) (done r) (omega arith) before), Way.end)

        after : (c : Row) → Installed s i (done r) c → ((num t ≡ num c → ⊥) → Reaches (depends s) (num t) (num c)) → (eqb (num t) (num c) ≡ true) ⊎ (eqb (num t) (num c) ≡ false) → Reaches (depends s) (num t) (num r)
        after c k way (inl e) = subst (λ (a : ℕ). Reaches (depends s) a (num r)) (sym (eqb-true _ _ e)) (to_later i k.by w k.early)
        after c k way (inr e) = let p = way (eqb-false _ _ e) in let q = to_later i k.by w k.early in (p.0, p.1, join p.2 (Way.step q.1 q.2))

        below : (c : Row) → Installed s i (done r) c → ((num t ≡ num c → ⊥) → start t < done c → Reaches (depends s) (num t) (num c))
            → (ltb (start t) (done c) ≡ true) ⊎ (ltb (start t) (done c) ≡ false) → Reaches (depends s) (num t) (num r)
        below c k ih (inl q) = after c k (λ e. ih e (ltb-true _ _ q)) (passed (eqb (num t) (num c)))
        below c k ih (inr q) = direct (λ p mp.
            let u = installers_out s i (done r) mp in
            let no : done p ≡ start t → ⊥ = v.cross u.0 u.1 mt in
            omega (arith, k.last p mp, ltb-false (start t) (done c) q))

        go : Unwritten s i (done r) ⊎ ((c : Row) × Installed s i (done r) c)
            → ((c : Row) → done c ≤ n → Writer s i c → (num t ≡ num c → ⊥) → start t < done c → Reaches (depends s) (num t) (num c)) → Reaches (depends s) (num t) (num r)
        go (inl k) ih = direct (λ p mp. absurd (k.none p mp))
        go (inr (c, k)) ih = below c k (ih c (omega (arith, k.early)) k.by) (passed (ltb (start t) (done c)))

    pub to_writer : {r : Row} → Writer s i r → (num t ≡ num r → ⊥) → start t < done r → Reaches (depends s) (num t) (num r)
    to_writer {r} w ne l = onward (done r) (omega arith) w ne l

    -- from every writer that committed before t's start
    reads_from_lem : {c : Row} → Installed s i (start t) c → T (depends s (num c) (num t))
    unfolding dep reads_from
    reads_from_lem {c} k = dependency k.by.here k.by.ended mt ct (and_both _ _ (ap not (ne_eqb _ _ differ)) (or_left _ _ (or_left _ _
        (any_in _ x.1 (and_both _ _ (and_both _ _ (eq-eqb _ _ x.2) (eq-eqb _ _ x.4)) (eq-eqb _ _ (word ∙ ap writer k.is)))))))
      where
        differ : num c ≡ num t → ⊥
        differ e = omega (arith, k.early, ap done (one_row s v k.by.here mt e), (v.ends mt ct).0)

    pub from_writer : {c : Row} → Writer s i c → done c < start t → Reaches (depends s) (num c) (num t)
    from_writer {c} w l = go (standing s v i (start t))
      where
        go : Unwritten s i (start t) ⊎ ((d : Row) × Installed s i (start t) d) → Reaches (depends s) (num c) (num t)
        go (inl k) = absurd (k.none c (writer_in s i (start t) w l))
        go (inr (d, k)) = pick (passed (ltb (done c) (done d)))
          where
            pick : (ltb (done c) (done d) ≡ true) ⊎ (ltb (done c) (done d) ≡ false) → Reaches (depends s) (num c) (num t)
            pick (inl h) = let r = to_later i w k.by (ltb-true _ _ h) in (r.0, r.1, more r.2 (reads_from_lem k))
            pick (inr f) =
                let e : d ≡ c = v.distinct k.by.here k.by.ended w.here w.ended (omega (arith, ltb-false (done c) (done d) f, k.last c (writer_in s i (start t) w l))) in
                (num t, subst (λ (z : Row). T (depends s (num z) (num t))) e (reads_from_lem k), Way.end)

-- with no ring, the rank rises along a way
pub climbs : (s : State) (free : ¬ Ring s) (a : ℕ) {b : ℕ} → Reaches (depends s) a b → rank s free a < rank s free b
climbs s free a r = omega (arith, rises s free a r.0 r.1, go r.2)
  where
    go : {a b : ℕ} → Way (depends s) a b → rank s free a ≤ rank s free b
    go Way.end = omega arith
    go (Way.step {a} {b} h w) = omega (arith, rises s free a b h, go w)

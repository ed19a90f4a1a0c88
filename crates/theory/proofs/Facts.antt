-- A state that passes the tests of sound tables, fact by fact; and a lawful one, which has no ring besides. Assumes nothing.
use Prim.Native.Nat.{◌*◌, ◌+◌, ◌<◌, ◌≤◌, ℕ}
use mathlib.Core.Bool.{Bool, ◌&&◌, ◌||◌, and-eq-true_iff, false, false≢true, not, true}
use mathlib.Core.List.Memᴰ
use mathlib.Core.List.{map}
use mathlib.Core.Logic.{◌⊎◌, inl, inr, ⊎_elim}
use mathlib.Core.Path.{◌∙◌, ◌≡◌, ap, sym}
use native.Mathlib.Omega.{arith}
use lib.Dec.{eqb, leb, ltb}
use lib.ListN.{length}
use borrow.Author.Tests.{eq-eqb, eqb-false, eqb-true, le-leb, leb-true, lt-ltb, ltb-true, ne_eqb, not-true}
use Rattle.laws.proofs.Beating.{both_in, both_out}
use Rattle.laws.proofs.Keeping.{mem-not, pairs_weaken}
use Rattle.laws.proofs.Lists.{◌∈◌, all_in, all_out, and_both, and_left, and_right, apart, keep_in, keep_out, mem_in, mem_out, or_cases, or_left, or_right, pairs-keep, passed}
use Rattle.laws.proofs.Records.{Sorted}
use Rattle.laws.proofs.Rings.{ring-free}
use Rattle.laws.proofs.Rows.{Ascend, concurrent-committed, pairs_out}
use Rattle.laws.proofs.Versions.{Writer}
use Rattle.rules.specs.Deps.{Ring, both_wrote}
use Rattle.rules.specs.Lists.{all, keep, mem, pairs}
use Rattle.rules.specs.Sound.{based, headed, lawful, numbered, ordered, owned, seen, tested, timed, unmixed}
use Rattle.rules.specs.State.{State, commits}
use Rattle.rules.specs.Versions.{visible}
use Rattle.terms.specs.Words.{active, committed, concurrent, done, is_read, is_write, item, num, start, txn, writer}
use Rattle.terms.specs.declared.Rec.{Rec}
use Rattle.terms.specs.declared.Row.{Row}
use Rattle.theory.proofs.Bare.{Sized}

-- the parts of `tested`
record Parts (s : State) : Type 0 where
  ordered : ordered s ≡ true
  headed : headed s ≡ true
  numbered : numbered s ≡ true
  timed : timed s ≡ true
  owned : owned s ≡ true
  based : based s ≡ true
  seen : seen s ≡ true
  unmixed : unmixed s ≡ true

parts : (s : State) → tested s ≡ true → Parts s
unfolding tested
parts s h =
    let v = simp and-eq-true_iff at h in
    record {
      ordered = v.0.0.0.0.0.0.0;
      headed = v.0.0.0.0.0.0.1;
      numbered = v.0.0.0.0.0.1;
      timed = v.0.0.0.0.1;
      owned = v.0.0.0.1;
      based = v.0.0.1;
      seen = v.0.1;
      unmixed = v.1;
    }

-- the facts
pub record Facts (s : State) : Type 0 where
  pub sizes : Sized s
  pub ascend : Ascend s.rows
  pub sorted : Sorted s.recs
  pub counts : (1 ≤ s.count) × (s.count ≤ 256)
  pub nexts : (1 ≤ s.next) × (s.next ≤ 65536)
  pub low : s.next + length (commits s) ≤ s.moment
  pub high : s.moment + 1 + length (keep active s.rows) ≤ 2 * s.next
  pub numbers : {r : Row} → r ∈ s.rows → (1 ≤ num r) × (num r < s.next)
  pub starts : {a b : Row} → a ∈ s.rows → b ∈ s.rows → num a < num b → start a < start b
  pub started : {r : Row} → r ∈ s.rows → (1 ≤ start r) × (start r < s.moment)
  pub ends : {r : Row} → r ∈ s.rows → committed r ≡ true → (start r < done r) × (done r < s.moment)
  pub distinct : {a b : Row} → a ∈ s.rows → committed a ≡ true → b ∈ s.rows → committed b ≡ true → done a ≡ done b → a ≡ b
  pub cross : {c r : Row} → c ∈ s.rows → committed c ≡ true → r ∈ s.rows → done c ≡ start r → ⊥
  pub kinds : {x : Rec} → x ∈ s.recs → (x.kind ≡ 1) ⊎ (x.kind ≡ 2)
  pub owner : {x : Rec} → x ∈ s.recs → (r : Row) × (r ∈ s.rows) × (num r ≡ txn x)
  pub within : {x : Rec} → x ∈ s.recs → item x < s.count
  pub based : {w : ℕ} → w ∈ s.writers → (w < s.next) × (w ∈ map num s.rows → ⊥)
  pub sees : {x : Rec} → x ∈ s.recs → x.kind ≡ 1 → x.word ≡ writer (visible s (txn x) (item x))
  pub unmixed : (i : ℕ) {a b : Row} → Writer s i a → Writer s i b → num a < num b → start a < done b → start b < done a → ⊥

-- ---- the tests, from the facts
module _ (s : State) (f : Facts s) where
  ascends : Ascend (keep committed s.rows)
  ascends = pairs-keep (λ a b. ltb (num a) (num b)) committed s.rows f.ascend

  -- a fact of two committed rows
  committed-pairs : (g : Row → Row → Bool) → ((a b : Row) → a ∈ s.rows → committed a ≡ true → b ∈ s.rows → committed b ≡ true → num a < num b → g a b ≡ true)
      → pairs g (keep committed s.rows) ≡ true
  committed-pairs g h =
      pairs_weaken (λ a b. ltb (num a) (num b)) g (keep committed s.rows)
      (λ a b ma mb l. let u = keep_out committed s.rows ma in let v = keep_out committed s.rows mb in h a b u.0 u.1 v.0 v.1 (ltb-true _ _ l)) ascends

  is-ordered : ordered s ≡ true
  unfolding ordered
  is-ordered = and_both _ _ (and_both _ _ (and_both _ _ (eq-eqb _ _ f.sizes.0) (eq-eqb _ _ f.sizes.1)) f.ascend) f.sorted

  is-headed : headed s ≡ true
  unfolding headed
  is-headed =
      and_both _ _ (and_both _ _ (and_both _ _ (and_both _ _ (and_both _ _ (le-leb _ _ f.counts.0) (le-leb _ _ f.counts.1)) (le-leb _ _ f.nexts.0)) (le-leb _ _ f.nexts.1))
      (le-leb _ _ f.low)) (le-leb _ _ f.high)

  is-numbered : numbered s ≡ true
  unfolding numbered
  is-numbered =
      and_both _ _ (all_in _ s.rows (λ r m. let u = f.numbers m in and_both _ _ (le-leb _ _ u.0) (lt-ltb _ _ u.1)))
      (pairs_weaken (λ a b. ltb (num a) (num b)) _ s.rows (λ a b ma mb l. lt-ltb _ _ (f.starts ma mb (ltb-true _ _ l))) f.ascend)

  is-timed : timed s ≡ true
  unfolding timed
  is-timed =
      and_both _ _ (and_both _ _ (and_both _ _ (all_in _ s.rows (λ r m. let u = f.started m in and_both _ _ (le-leb _ _ u.0) (lt-ltb _ _ u.1)))
      (all_in _ (keep committed s.rows) (λ r m. let k = keep_out committed s.rows m in let u = f.ends k.0 k.1 in and_both _ _ (lt-ltb _ _ u.0) (lt-ltb _ _ u.1))))
      (committed-pairs _ (λ a b ma ca mb cb l. ap not (ne_eqb _ _ (λ (e : done a ≡ done b). omega (arith, ap num (f.distinct ma ca mb cb e)))))))
      (all_in _ (keep committed s.rows) (λ c m. let k = keep_out committed s.rows m in all_in _ s.rows (λ r mr. ap not (ne_eqb _ _ (f.cross k.0 k.1 mr)))))

  is-owned : owned s ≡ true
  unfolding owned
  is-owned = all_in _ s.recs (λ x m. and_both ((is_read x || is_write x) && mem (txn x) (map num s.rows)) (ltb (item x) s.count)
      (and_both (is_read x || is_write x) (mem (txn x) (map num s.rows)) (kind x (f.kinds m)) (let o = f.owner m in mem_in _ _ (Memᴰ.cast (sym o.2) (Memᴰ.map num o.1)))) (lt-ltb _ _ (f.within m)))
    where
      kind : (x : Rec) → (x.kind ≡ 1) ⊎ (x.kind ≡ 2) → (is_read x || is_write x) ≡ true
      kind x (inl e) = or_left _ _ (eq-eqb _ _ e)
      kind x (inr e) = or_right (is_read x) _ (eq-eqb _ _ e)

  is-based : based s ≡ true
  unfolding based
  is-based = all_in _ s.writers (λ w m. let u = f.based m in and_both _ _ (lt-ltb _ _ u.0) (ap not (mem-not w _ u.1)))

  is_seen : seen s ≡ true
  unfolding seen
  is_seen = all_in _ s.recs (λ x m. go x m (passed (is_read x)))
    where
      go : (x : Rec) → x ∈ s.recs → (is_read x ≡ true) ⊎ (is_read x ≡ false) → (not (is_read x) || eqb x.word (writer (visible s (txn x) (item x)))) ≡ true
      go x m (inl t) = or_right (not (is_read x)) _ (eq-eqb _ _ (f.sees m (eqb-true _ _ t)))
      go x m (inr n) = or_left _ _ (ap not n)

  is-unmixed : unmixed s ≡ true
  unfolding unmixed
  is-unmixed = committed-pairs _ (λ a b ma ca mb cb l. ap not (go a b ma ca mb cb l (passed (concurrent a b && both_wrote s (num a) (num b)))))
    where
      go : (a b : Row) → a ∈ s.rows → committed a ≡ true → b ∈ s.rows → committed b ≡ true → num a < num b
          → ((concurrent a b && both_wrote s (num a) (num b)) ≡ true) ⊎ ((concurrent a b && both_wrote s (num a) (num b)) ≡ false) → (concurrent a b && both_wrote s (num a) (num b)) ≡ false
      go a b ma ca mb cb l (inr n) = n
      go a b ma ca mb cb l (inl t) =
          let c = sym (concurrent-committed a b ca cb) ∙ and_left (concurrent a b) _ t in
          let u = both_out s (num a) (num b) (and_right (concurrent a b) _ t) in
          absurd (f.unmixed u.0 (record { here = ma; ended = ca; wrote = u.1 }) (record { here = mb; ended = cb; wrote = u.2 }) l
          (ltb-true _ _ (and_left _ _ c)) (ltb-true _ _ (and_right (ltb (start a) (done b)) _ c)))

  pub tested_from : tested s ≡ true
  unfolding tested
  tested_from =
      and_both _ _ (and_both _ _ (and_both _ _ (and_both _ _ (and_both _ _ (and_both _ _ (and_both _ _
      is-ordered is-headed) is-numbered) is-timed) is-owned) is-based) is_seen) is-unmixed

-- ---- the facts, from the tests
module _ (s : State) (p : Parts s) where
  ord : (length s.values ≡ s.count) × (length s.writers ≡ s.count) × Ascend s.rows × Sorted s.recs
  unfolding ordered
  ord = let v = simp and-eq-true_iff at p.ordered in (eqb-true _ _ v.0.0.0, eqb-true _ _ v.0.0.1, v.0.1, v.1)

  heads : (1 ≤ s.count) × (s.count ≤ 256) × (1 ≤ s.next) × (s.next ≤ 65536) × (s.next + length (commits s) ≤ s.moment) × (s.moment + 1 + length (keep active s.rows) ≤ 2 * s.next)
  unfolding headed
  heads =
      let h = simp and-eq-true_iff at p.headed in (
        leb-true 1 s.count h.0.0.0.0.0,
        leb-true s.count 256 h.0.0.0.0.1,
        leb-true 1 s.next h.0.0.0.1,
        leb-true s.next 65536 h.0.0.1,
        leb-true (s.next + length (commits s)) s.moment h.0.1,
        leb-true (s.moment + 1 + length (keep active s.rows)) (2 * s.next) h.1,
      )

  numbers : (r : Row) → r ∈ s.rows → (1 ≤ num r) × (num r < s.next)
  unfolding numbered
  numbers r m =
      let v = simp and-eq-true_iff at (all_out (λ r. leb 1 (num r) && ltb (num r) s.next) m (and_left _ _ p.numbered)) in
      (leb-true 1 (num r) v.0, ltb-true (num r) s.next v.1)

  rises : pairs (λ a b. ltb (start a) (start b)) s.rows ≡ true
  unfolding numbered
  rises = and_right (all (λ r. leb 1 (num r) && ltb (num r) s.next) s.rows) _ p.numbered

  times : (all (λ r. leb 1 (start r) && ltb (start r) s.moment) s.rows ≡ true)
      × (all (λ r. ltb (start r) (done r) && ltb (done r) s.moment) (keep committed s.rows) ≡ true)
      × (pairs (λ a b. not (eqb (done a) (done b))) (keep committed s.rows) ≡ true)
      × (all (λ c. all (λ r. not (eqb (done c) (start r))) s.rows) (keep committed s.rows) ≡ true)
  unfolding timed
  times =
      let h = p.timed in (
        and_left _ _ (and_left _ _ (and_left _ _ h)),
        and_right (all (λ r. leb 1 (start r) && ltb (start r) s.moment) s.rows) _ (and_left _ _ (and_left _ _ h)),
        and_right (all (λ r. leb 1 (start r) && ltb (start r) s.moment) s.rows && all (λ r. ltb (start r) (done r) && ltb (done r) s.moment) (keep committed s.rows)) _ (and_left _ _ h),
        and_right (all (λ r. leb 1 (start r) && ltb (start r) s.moment) s.rows && all (λ r. ltb (start r) (done r) && ltb (done r) s.moment) (keep committed s.rows) && pairs (λ a b. not (eqb (done a) (done b))) (keep committed s.rows)) _ h,
      )

  owns : (x : Rec) → x ∈ s.recs → (((is_read x || is_write x) ≡ true) × (mem (txn x) (map num s.rows) ≡ true)) × (ltb (item x) s.count ≡ true)
  unfolding owned
  owns x m =
      let h = all_out (λ x. (is_read x || is_write x) && mem (txn x) (map num s.rows) && ltb (item x) s.count) m p.owned in
      ((and_left _ _ (and_left _ _ h), and_right (is_read x || is_write x) _ (and_left _ _ h)), and_right ((is_read x || is_write x) && mem (txn x) (map num s.rows)) _ h)

  bases : (w : ℕ) → w ∈ s.writers → (w < s.next) × (mem w (map num s.rows) ≡ false)
  unfolding based
  bases w m =
      let h = all_out (λ w. ltb w s.next && not (mem w (map num s.rows))) m p.based in
      (ltb-true _ _ (and_left _ _ h), not-true _ (and_right (ltb w s.next) _ h))

  views : (x : Rec) → x ∈ s.recs → x.kind ≡ 1 → x.word ≡ writer (visible s (txn x) (item x))
  unfolding seen
  views x m t = pick (or_cases _ _ (all_out (λ x. not (is_read x) || eqb x.word (writer (visible s (txn x) (item x)))) m p.seen))
    where
      pick : (not (is_read x) ≡ true) ⊎ (eqb x.word (writer (visible s (txn x) (item x))) ≡ true) → x.word ≡ writer (visible s (txn x) (item x))
      pick (inl n) = absurd (false≢true (sym (ap not (eq-eqb _ _ t)) ∙ n))
      pick (inr e) = eqb-true _ _ e

  apart-pairs : pairs (λ a b. not (concurrent a b && both_wrote s (num a) (num b))) (keep committed s.rows) ≡ true
  unfolding unmixed
  apart-pairs = p.unmixed

  mixes : {a b : Row} → a ∈ s.rows → committed a ≡ true → b ∈ s.rows → committed b ≡ true → num a < num b → (concurrent a b && both_wrote s (num a) (num b)) ≡ false
  mixes ma ca mb cb l = not-true _ (pairs_out (λ a b. not (concurrent a b && both_wrote s (num a) (num b))) (keep committed s.rows)
      (pairs-keep (λ a b. ltb (num a) (num b)) committed s.rows ord.2) apart-pairs (keep_in committed ma ca) (keep_in committed mb cb) l)

  facts_of_parts : Facts s
  facts_of_parts = record {
    sizes = (ord.0, ord.1);
    ascend = ord.2;
    sorted = ord.3;
    counts = (heads.0, heads.1);
    nexts = (heads.2, heads.3);
    low = heads.4;
    high = heads.5;
    numbers = λ m. numbers _ m;
    starts = λ {a} {b} ma mb l. ltb-true (start a) (start b) (pairs_out (λ a b. ltb (start a) (start b)) s.rows ord.2 rises ma mb l);
    started = λ {r} m.
        let h = all_out (λ r. leb 1 (start r) && ltb (start r) s.moment) m times.0 in
        (leb-true 1 (start r) (and_left _ _ h), ltb-true (start r) s.moment (and_right (leb 1 (start r)) _ h));
    ends = λ {r} m c.
        let h = all_out (λ r. ltb (start r) (done r) && ltb (done r) s.moment) (keep_in committed m c) times.1 in
        (ltb-true (start r) (done r) (and_left _ _ h), ltb-true (done r) s.moment (and_right (ltb (start r) (done r)) _ h));
    distinct = λ ma ca mb cb e. apart done times.2 (keep_in committed ma ca) (keep_in committed mb cb) e;
    cross = λ {c} {r} mc cc' mr e.
        eqb-false (done c) (start r) (not-true _ (all_out (λ r. not (eqb (done c) (start r))) mr (all_out (λ c. all (λ r. not (eqb (done c) (start r))) s.rows) (keep_in committed mc cc') times.3))) e;
    kinds = λ {x} m. ⊎_elim (λ e. inl (eqb-true _ _ e)) (λ e. inr (eqb-true _ _ e)) (or_cases (is_read x) (is_write x) (owns _ m).0.0);
    owner = λ m. Memᴰ.of_map num s.rows (mem_out _ _ (owns _ m).0.1);
    within = λ m. ltb-true _ _ (owns _ m).1;
    based = λ m. let u = bases _ m in (u.0, λ k. false≢true (sym u.1 ∙ mem_in _ _ k));
    sees = λ m t. views _ m t;
    unmixed = λ i {a} {b} wa wb l p q. false≢true (sym (mixes wa.here wa.ended wb.here wb.ended l)
        ∙ and_both _ _ (concurrent-committed a b wa.ended wb.ended ∙ and_both _ _ (lt-ltb _ _ p) (lt-ltb _ _ q)) (both_in s (num a) (num b) i wa.wrote wb.wrote));
  }

pub facts_of : (s : State) → tested s ≡ true → Facts s
facts_of s h = facts_of_parts s (parts s h)

-- ---- a lawful state: the facts, and no ring
pub lawful_from : (s : State) → Facts s → ¬ Ring s → lawful s ≡ true
unfolding lawful
lawful_from s f free = and_both _ _ (tested_from s f) (ap not ((ring-free s).1 free))

pub lawful_facts : (s : State) → lawful s ≡ true → Facts s
unfolding lawful
lawful_facts s h = facts_of s (and_left _ _ h)

pub lawful-free : (s : State) → lawful s ≡ true → ¬ Ring s
unfolding lawful
lawful-free s h = (ring-free s).0 (not-true _ (and_right (tested s) _ h))

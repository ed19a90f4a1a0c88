-- The committed transactions run one after another: by rank each is given its values, and in commit order the newest value is left. Assumes nothing.
use Prim.Native.Nat.{◌<◌, ◌≤◌, ℕ}
use mathlib.Core.Bool.{Bool, false, false≢true, not, true}
use mathlib.Core.List.Memᴰ
use mathlib.Core.List.{List, [], ◌++◌, ◌∷◌}
use mathlib.Core.Logic.{◌⊎◌, inl, inr, ⊎_elim}
use mathlib.Core.Path.{◌∙◌, ◌≡◌, ap, refl, subst, sym}
use native.Mathlib.Omega.{arith}
use lib.Dec.{eqb, leb, ltb}
use lib.ListN.{get_or}
use borrow.Author.Tests.{eqb-false, le-leb, leb-true, ltb-false, ltb-true, ne_eqb, not-true}
use Rattle.laws.proofs.Keeping.{pairs_weaken}
use Rattle.laws.proofs.Lists.{◌∈◌, all_out, and_both, and_left, and_right, both_ways, mem_in, mem_out, pairs-keep, passed}
use Rattle.laws.proofs.Rings.{rank}
use Rattle.laws.proofs.Rows.{pairs-num}
use Rattle.laws.proofs.Versions.{Installed, Unwritten, Writer, commits_in, commits_out, writer_in}
use Rattle.rules.specs.Deps.{Ring}
use Rattle.rules.specs.Lists.{keep, mem, pairs}
use Rattle.rules.specs.Machine.{Line}
use Rattle.rules.specs.Serial.{Act, Fits, Store, acts, got, in_turn, last_put, leaves, newest_put, put, stored}
use Rattle.rules.specs.State.{State, commit_of, commits, has_read, written, wrote}
use Rattle.rules.specs.Versions.{latest, version_at, visible}
use Rattle.terms.specs.Words.{committed, done, num, start}
use Rattle.terms.specs.declared.Row.{Row}
use Rattle.terms.specs.declared.Version.{Version}
use Rattle.theory.proofs.Acts.{Acts, fits-append, leaves-append}
use Rattle.theory.proofs.Consequences.{row_of_lem, standing}
use Rattle.theory.proofs.Facts.{Facts}
use Rattle.theory.proofs.Sorting.{is_ordered, once_of, sort, sort_in, sort_ordered, sort_out}
use Rattle.theory.proofs.Ways.{climbs, from_writer, to_later, to_writer, visible-at}

pub commits_ascend : (s : State) → Facts s → pairs ltb (commits s) ≡ true
unfolding commits
commits_ascend s inv = pairs-num (keep committed s.rows) (pairs-keep _ committed s.rows inv.ascend)

-- ---- what a run leaves

-- a rank of the transactions by which the committed writers of each item go in commit order
module _ (s : State) (inv : Facts s) (rk : ℕ → ℕ) (rises : (i : ℕ) (q r : Row) → Writer s i q → Writer s i r → done q < done r → rk (num q) < rk (num r)) where
  -- m has the value of item i that the transactions of l leave there, run by rank
  pub Unset : List ℕ → Store → ℕ → Type 0
  Unset l m i = ((r : Row) → Writer s i r → num r ∈ l → ⊥) × (m i ≡ get_or s.values i 0)

  pub Set : List ℕ → Store → ℕ → Row → Type 0
  Set l m i r = Writer s i r × (num r ∈ l) × (m i ≡ written s (num r) i) × ((q : Row) → Writer s i q → num q ∈ l → rk (num q) ≤ rk (num r))

  abbrev pub Holds : List ℕ → Store → ℕ → Type 0
  Holds l m i = Unset l m i ⊎ ((r : Row) × Set l m i r)

  -- where the writers of item i before moment k have had their turn, and none after it, m has its version at that moment
  pub holds_at : (l : List ℕ) (m : Store) (i k : ℕ) → ((r : Row) → Writer s i r → num r ∈ l → done r < k)
      → ((c : Row) → Installed s i k c → num c ∈ l) → Holds l m i → m i ≡ (version_at s i k).value
  unfolding Unset Set
  holds_at l m i k before every h = go h (standing s inv i k)
    where
      go : Holds l m i → Unwritten s i k ⊎ ((c : Row) × Installed s i k c) → m i ≡ (version_at s i k).value
      go (inl u) (inl n) = u.1 ∙ sym (ap (λ (p : Version). p.value) n.is)
      go (inl u) (inr c) = absurd (u.0 c.0 c.1.by (every c.0 c.1))
      go (inr u) (inl n) = absurd (n.none u.0 (writer_in s i k u.1.0 (before u.0 u.1.0 u.1.1)))
      go (inr u) (inr c) = u.1.2 ∙ ap (λ (r : Row). written s (num r) i) (pick (passed (ltb (done r) (done c.0)))) ∙ sym (ap (λ (p : Version). p.value) c.1.is)
        where
          r : Row
          r = u.0

          le : done r ≤ done c.0
          le = c.1.last r (writer_in s i k u.1.0 (before r u.1.0 u.1.1))

          pick : (ltb (done r) (done c.0) ≡ true) ⊎ (ltb (done r) (done c.0) ≡ false) → r ≡ c.0
          pick (inl t) = absurd (omega (arith, rises i r c.0 u.1.0 c.1.by (ltb-true _ _ t), u.1.3 c.0 c.1.by (every c.0 c.1)))
          pick (inr f) = inv.distinct u.1.0.here u.1.0.ended c.1.by.here c.1.by.ended (omega (arith, le, ltb-false (done r) (done c.0) f))

  pub at-start : (i : ℕ) → Holds [] (λ i. get_or s.values i 0) i
  unfolding Unset
  at-start i = inl (λ r w mr. elim mr [ ], refl)

  at-end : (l : List ℕ) (m : Store) (i : ℕ) → ((u : ℕ) → u ∈ commits s → u ∈ l) → Holds l m i → m i ≡ latest s i
  unfolding latest
  at-end l m i every h = holds_at l m i s.moment (λ r w mr. (inv.ends w.here w.ended).1) (λ c n. every _ (commits_in s n.by.here n.by.ended)) h

  -- after t's turn, which comes after that of the transactions of l
  after_turn : (l : List ℕ) (t : Row) → t ∈ s.rows → committed t ≡ true → ((u : ℕ) → u ∈ l → rk u ≤ rk (num t)) → (m : Store) (ds : List Act) (i : ℕ)
      → Acts s (num t) ds → Holds l m i → Holds (num t ∷ l) (leaves m ds) i
  unfolding Unset Set
  after_turn l t mt ct lower m ds i a h = go (passed (wrote s (num t) i)) h
    where
      go : (wrote s (num t) i ≡ true) ⊎ (wrote s (num t) i ≡ false) → Holds l m i → Holds (num t ∷ l) (leaves m ds) i
      go (inl w) h = inr (t, (record { here = mt; ended = ct; wrote = w }, Memᴰ.head refl, a.puts m i w, top))
        where
          top : (q : Row) → Writer s i q → num q ∈ (num t ∷ l) → rk (num q) ≤ rk (num t)
          top q wq mq = ⊎_elim (λ e. omega (arith, ap rk e)) (λ k. lower (num q) k) (Memᴰ.cases_cons mq)
      go (inr w) (inl u) = inl (none, a.other m i w ∙ u.1)
        where
          none : (r : Row) → Writer s i r → num r ∈ (num t ∷ l) → ⊥
          none r wr mr = ⊎_elim (λ e. false≢true (sym w ∙ ap (λ (k : ℕ). wrote s k i) (sym e) ∙ wr.wrote)) (λ k. u.0 r wr k) (Memᴰ.cases_cons mr)
      go (inr w) (inr u) = inr (u.0, (u.1.0, Memᴰ.tail u.1.1, a.other m i w ∙ u.1.2, top))
        where
          top : (q : Row) → Writer s i q → num q ∈ (num t ∷ l) → rk (num q) ≤ rk (num u.0)
          top q wq mq = ⊎_elim (λ e. absurd (false≢true (sym w ∙ ap (λ (k : ℕ). wrote s k i) (sym e) ∙ wq.wrote))) (λ k. u.1.3 q wq k) (Memᴰ.cases_cons mq)

  -- the turn of x, whose row is t, after those of l and before those of k
  pub record Turn (l k : List ℕ) (x : ℕ) (t : Row) : Type 0 where
    pub here : t ∈ s.rows
    pub ended : committed t ≡ true
    pub number : num t ≡ x
    pub lower : (u : ℕ) → u ∈ l → (rk u ≤ rk x) × (u ≡ x → ⊥)
    pub others : (u : ℕ) → u ∈ commits s → rk u < rk x → u ∈ l

  -- what holds at the end, and of a turn if it holds after it, holds of a run by rank
  module _ (ls : List Line) (of : (t : Row) → t ∈ s.rows → Acts s (num t) (acts (num t) ls)) (R : Store → List ℕ → Type 0)
      (end : (m : Store) → ((i : ℕ) → m i ≡ latest s i) → R m [])
      (turn : (l k : List ℕ) (m : Store) (x : ℕ) (t : Row) → Turn l k x t → Acts s x (acts x ls) → ((i : ℕ) → Holds l m i) → R (leaves m (acts x ls)) k → R m (x ∷ k)) where
    pub turns : (l k : List ℕ) (m : Store) → pairs (is_ordered rk) k ≡ true → ((u : ℕ) → u ∈ k → u ∈ commits s) → ((u : ℕ) → u ∈ commits s → (u ∈ l) ⊎ (u ∈ k))
        → ((u v : ℕ) → u ∈ l → v ∈ k → (rk u ≤ rk v) × (u ≡ v → ⊥)) → ((i : ℕ) → Holds l m i) → R m k
    turns l [] m sorted some all less holds = end m (λ i. at-end l m i (λ u mu. ⊎_elim (λ h. h) (λ h. elim h [ ]) (all u mu)) (holds i))
    turns l (x ∷ k) m sorted some all less holds = go (commits_out s (some x (Memᴰ.head refl)))
        (λ h. turns (x ∷ l) k (leaves m (acts x ls)) (and_right (every x k) _ sorted) (λ u mu. some u (Memᴰ.tail mu)) all2 less2 h)
      where
        every : ℕ → List ℕ → Bool
        every a b = Rattle.rules.specs.Lists.all (is_ordered rk a) b

        front : (v : ℕ) → v ∈ k → (rk x ≤ rk v) × (x ≡ v → ⊥)
        front v mv = let t = all_out (is_ordered rk x) mv (and_left _ _ sorted) in
            (leb-true _ _ (and_left _ _ t), eqb-false x v (not-true _ (and_right (leb (rk x) (rk v)) _ t)))

        all2 : (u : ℕ) → u ∈ commits s → (u ∈ (x ∷ l)) ⊎ (u ∈ k)
        all2 u mu = ⊎_elim (λ h. inl (Memᴰ.tail h)) (λ h. ⊎_elim (λ e. inl (Memᴰ.head e)) (λ n. inr n) (Memᴰ.cases_cons h)) (all u mu)

        less2 : (u v : ℕ) → u ∈ (x ∷ l) → v ∈ k → (rk u ≤ rk v) × (u ≡ v → ⊥)
        less2 u v mu mv = ⊎_elim (λ e. rw e (front v mv)) (λ h. less u v h (Memᴰ.tail mv)) (Memᴰ.cases_cons mu)

        before : (u : ℕ) → u ∈ commits s → rk u < rk x → u ∈ l
        before u mu h = ⊎_elim (λ n. n) (λ n. ⊎_elim (λ e. absurd (omega (arith, ap rk e))) (λ n. absurd (omega (arith, (front u n).0))) (Memᴰ.cases_cons n)) (all u mu)

        go : (r : Row) × (r ∈ s.rows) × (committed r ≡ true) × (num r ≡ x) → (((i : ℕ) → Holds (x ∷ l) (leaves m (acts x ls)) i) → R (leaves m (acts x ls)) k) → R m (x ∷ k)
        go (r, mr, cr, e) rest =
            let a : Acts s x (acts x ls) = rw e at (of r mr) in
            let after : (i : ℕ) → Holds (x ∷ l) (leaves m (acts x ls)) i =
            λ i. subst (λ (y : ℕ). Holds (y ∷ l) (leaves m (acts y ls)) i) e (after_turn l r mr cr (λ u mu. rw e (less u x mu (Memᴰ.head refl)).0) m (acts (num r) ls) i (of r mr) (holds i)) in
            turn l k m x r (record { here = mr; ended = cr; number = e; lower = λ u mu. less u x mu (Memᴰ.head refl); others = before }) a holds (rest after)

-- ---- the committed transactions, in an order by which the dependencies rise

module _ (s : State) (inv : Facts s) (free : ¬ Ring s) (ls : List Line) (of : (t : Row) → t ∈ s.rows → Acts s (num t) (acts (num t) ls)) where
  in_rank : (i : ℕ) (q r : Row) → Writer s i q → Writer s i r → done q < done r → rank s free (num q) < rank s free (num r)
  in_rank i q r wq wr l = climbs s free (num q) (to_later s inv i wq wr l)

  -- at its turn a transaction finds the versions that it saw
  at_turn : (l k : List ℕ) (m : Store) (t : Row) (i : ℕ) → Turn s inv (rank s free) in_rank l k (num t) t → has_read s (num t) i ≡ true → Holds s inv (rank s free) in_rank l m i → m i ≡ (visible s (num t) i).value
  at_turn l k m t i n rt h =
      holds_at s inv (rank s free) in_rank l m i (start t) early (λ c p. n.others (num c) (commits_in s p.by.here p.by.ended) (climbs s free (num c) (from_writer s inv i n.here n.ended rt p.by p.early))) h
      ∙ sym (ap (λ (p : Version). p.value) (visible-at s inv i n.here n.ended rt))
    where
      early : (r : Row) → Writer s i r → num r ∈ l → done r < start t
      early r w mr = pick (passed (ltb (start t) (done r)))
        where
          pick : (ltb (start t) (done r) ≡ true) ⊎ (ltb (start t) (done r) ≡ false) → done r < start t
          pick (inl q) =
              let u = n.lower (num r) mr in
              absurd (omega (arith, u.0, climbs s free (num t) (to_writer s inv i n.here n.ended rt w (λ e. u.1 (sym e)) (ltb-true _ _ q))))
          pick (inr q) = let ne : done r ≡ start t → ⊥ = λ e. inv.cross w.here w.ended n.here e in omega (arith, ltb-false (start t) (done r) q)

  -- the committed transactions by rank
  pub order : List ℕ
  order = sort (rank s free) (commits s)

  pub order_once : pairs (λ a b. not (eqb a b)) order ≡ true
  unfolding order
  order_once = once_of (rank s free) order (sort_ordered (rank s free) (commits s) (commits_ascend s inv))

  pub order_whole : (t : ℕ) → mem t order ≡ mem t (commits s)
  unfolding order
  order_whole t = both_ways _ _ (λ h. mem_in _ _ (sort_out (rank s free) (commits s) (mem_out _ _ h))) (λ h. mem_in _ _ (sort_in (rank s free) (commits s) (mem_out _ _ h)))

  pub order_runs : Fits (λ i. get_or s.values i 0) (in_turn ls order) × ((i : ℕ) → leaves (λ i. get_or s.values i 0) (in_turn ls order) i ≡ latest s i)
  unfolding order in_turn leaves
  order_runs = turns s inv (rank s free) in_rank ls of (λ m k. Fits m (in_turn ls k) × ((i : ℕ) → leaves m (in_turn ls k) i ≡ latest s i)) (λ m e. (tt, e)) one_turn
      [] order (λ i. get_or s.values i 0) (sort_ordered (rank s free) (commits s) (commits_ascend s inv))
      (λ u mu. sort_out (rank s free) (commits s) mu) (λ u mu. inr (sort_in (rank s free) (commits s) mu)) (λ u v mu. elim mu [ ]) (at-start s inv (rank s free) in_rank)
    where
      one_turn : (l k : List ℕ) (m : Store) (x : ℕ) (t : Row) → Turn s inv (rank s free) in_rank l k x t → Acts s x (acts x ls) → ((i : ℕ) → Holds s inv (rank s free) in_rank l m i)
          → Fits (leaves m (acts x ls)) (in_turn ls k) × ((i : ℕ) → leaves (leaves m (acts x ls)) (in_turn ls k) i ≡ latest s i)
          → Fits m (acts x ls ++ in_turn ls k) × ((i : ℕ) → leaves m (acts x ls ++ in_turn ls k) i ≡ latest s i)
      one_turn l k m x t n a holds r =
          let own : Turn s inv (rank s free) in_rank l k (num t) t = subst (λ (y : ℕ). Turn s inv (rank s free) in_rank l k y t) (sym n.number) n in (
            fits-append m (acts x ls) (in_turn ls k)
                (a.fits m (λ i h. subst (λ (y : ℕ). m i ≡ (visible s y i).value) n.number (at_turn l k m t i own (ap (λ (y : ℕ). has_read s y i) n.number ∙ h) (holds i)))) r.0,
            λ i. ap (λ (f : Store). f i) (leaves-append m (acts x ls) (in_turn ls k)) ∙ r.1 i,
          )

-- ---- the committed transactions, in commit order

-- what a run in commit order leaves is the newest committed value
module _ (s : State) (inv : Facts s) (ls : List Line) (of : (t : Row) → t ∈ s.rows → Acts s (num t) (acts (num t) ls)) where
  in_order : (i : ℕ) (q r : Row) → Writer s i q → Writer s i r → done q < done r → commit_of s (num q) < commit_of s (num r)
  in_order i q r wq wr l = omega (arith, ap done (row_of_lem s inv wq.here), ap done (row_of_lem s inv wr.here))

  pub commit_order : (k : List ℕ) → pairs (λ a b. ltb (commit_of s a) (commit_of s b)) k ≡ true → ((u : ℕ) → u ∈ k → u ∈ commits s) → ((u : ℕ) → u ∈ commits s → u ∈ k)
      → (i : ℕ) → leaves (λ i. get_or s.values i 0) (in_turn ls k) i ≡ latest s i
  unfolding in_turn leaves
  commit_order k sorted some every =
      turns s inv (commit_of s) in_order ls of (λ m k. (i : ℕ) → leaves m (in_turn ls k) i ≡ latest s i) (λ m e. e)
      (λ l k m x t n a holds r i. ap (λ (f : Store). f i) (leaves-append m (acts x ls) (in_turn ls k)) ∙ r i)
      [] k (λ i. get_or s.values i 0)
      (pairs_weaken (λ a b. ltb (commit_of s a) (commit_of s b)) (is_ordered (commit_of s)) k (λ a b ma mb h. let l = ltb-true (commit_of s a) (commit_of s b) h in
      and_both _ _ (le-leb (commit_of s a) (commit_of s b) (omega arith)) (ap not (ne_eqb a b (λ e. omega (arith, ap (commit_of s) e))))) sorted)
      some (λ u mu. inr (every u mu)) (λ u v mu. elim mu [ ]) (at-start s inv (commit_of s) in_order)

-- by the lines alone
pub last_left : (i : ℕ) (m : Store) (ds : List Act) → leaves m ds i ≡ last_put i (m i) ds
unfolding leaves last_put
last_left i m [] = refl
last_left i m (got j w ∷ ds) = last_left i m ds
last_left i m (put j w ∷ ds) = last_left i (stored m j w) ds

pub newest_left : (ls : List Line) (i : ℕ) (m : Store) (ts : List ℕ) → leaves m (in_turn ls ts) i ≡ newest_put ls i (m i) ts
unfolding leaves in_turn newest_put
newest_left ls i m [] = refl
newest_left ls i m (t ∷ ts) =
    ap (λ (f : Store). f i) (leaves-append m (acts t ls) (in_turn ls ts)) ∙ newest_left ls i (leaves m (acts t ls)) ts
    ∙ ap (λ (v : ℕ). newest_put ls i v ts) (last_left i m (acts t ls))

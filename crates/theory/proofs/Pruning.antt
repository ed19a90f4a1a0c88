-- Pruning after some spent transactions are forgotten is pruning, and keeps every ring. Assumes nothing.
use Prim.Native.Nat.{◌<◌, ℕ}
use mathlib.Core.Bool.{Bool, ◌&&◌, ◌||◌, false, not, true}
use mathlib.Core.List.{map}
use mathlib.Core.Logic.{◌⊎◌, inl, inr}
use mathlib.Core.Path.{◌∙◌, ◌≡◌, ap, refl, sym}
use lib.Dec.{T, ltb}
use borrow.Author.Tests.{not-false, not-true}
use Rattle.laws.proofs.Graph.{cycle_map, join, least_from, least_no_cycle, more}
use Rattle.laws.proofs.Keeping.{all-kept, keep-once, keep_twice}
use Rattle.laws.proofs.Lists.{◌∈◌, all_out, both_ways, keep_out, or_cases, or_left, or_right, passed}
use Rattle.laws.proofs.Rings.{depends_in, depends_out}
use Rattle.laws.proofs.Spending.{spent_commits, spent_decides, spent_made, spent_old}
use Rattle.laws.proofs.Tables.{map-zero}
use Rattle.laws.proofs.Versions.{Writer}
use Rattle.rules.specs.Deps.{Ring, depends}
use Rattle.rules.specs.Graph.{Least, Reaches, Way}
use Rattle.rules.specs.Lists.{keep, upfrom}
use Rattle.rules.specs.Sound.{lean}
use Rattle.rules.specs.Spent.{Spent, forget, is_spent, old, prune}
use Rattle.rules.specs.State.{State, commit_of, recorded, with_rows}
use Rattle.rules.specs.Versions.{version_at}
use Rattle.terms.specs.Words.{committed, done, num, start, txn, writer}
use Rattle.terms.specs.declared.Row.{Row}
use Rattle.terms.specs.declared.Version.{Version}
use Rattle.theory.proofs.Bare.{Sized, forget-none}
use Rattle.theory.proofs.Forgetting.{Behind, Rowed, commits-forget_in, commits-forget_out, dep-forget, gone_of, row-forget, rowed_gone, version-forget}

-- ---- forgetting some, and then others
pub forget_ext : {g h : ℕ → Bool} (s : State) → ((n : ℕ) → g n ≡ h n) → forget g s ≡ forget h s
forget_ext s e = λ j. forget (λ n. e n j) s

bools₁ : (a b : Bool) → (not a && b) ≡ ((a || b) && not a)
bools₁ true true = refl
bools₁ true false = refl
bools₁ false true = refl
bools₁ false false = refl

bools₂ : (a b : Bool) → ((a || b) && a) ≡ a
bools₂ true b = refl
bools₂ false true = refl
bools₂ false false = refl

bools₃ : (a b : Bool) → (not a && not b) ≡ not (a || b)
bools₃ true b = refl
bools₃ false b = refl

module _ (g h : ℕ → Bool) (s : State) (w : Rowed s) (b : Behind g s) where
  -- the forgotten alone
  abbrev alone : State
  alone = gone_of (λ n. g n || h n) s

  behind_alone : Behind g alone
  unfolding recorded
  behind_alone i q r wq wr t l = b i q r (whole wq) (whole wr) t l
    where
      whole : {c : Row} → Writer alone i c → Writer s i c
      whole v = record { here = (keep_out _ s.rows v.here).0; ended = v.ended; wrote = v.wrote }

  alone_same : gone_of h (forget g s) ≡ forget g alone
  unfolding forget
  alone_same =
      let p : keep (λ r. g (num r)) s.rows ≡ keep (λ r. g (num r)) (keep (λ r. g (num r) || h (num r)) s.rows)
      = sym (keep-once _ _ _ s.rows (λ r. bools₂ (g (num r)) (h (num r)))) in
      let q : keep (λ r. h (num r)) (keep (λ r. not (g (num r))) s.rows) ≡ keep (λ r. not (g (num r))) (keep (λ r. g (num r) || h (num r)) s.rows)
      = keep_twice _ _ _ _ s.rows (λ r. bools₁ (g (num r)) (h (num r))) in
      λ j. record {
        count = s.count;
        next = s.next;
        moment = s.moment;
        values = map (λ i. (version_at (with_rows s (p j)) i s.moment).value) (upfrom 0 s.count);
        writers = map (λ i. writer (version_at (with_rows s (p j)) i s.moment)) (upfrom 0 s.count);
        rows = q j;
        recs = keep (λ x. not (g (txn x))) s.recs;
      }

  alone_version : (i : ℕ) → i < s.count → version_at (gone_of h (forget g s)) i s.moment ≡ version_at alone i s.moment
  alone_version i l =
      ap (λ (z : State). version_at z i s.moment) alone_same
      ∙ version-forget g alone (rowed_gone (λ n. g n || h n) s w) behind_alone i s.moment l (λ r v t. w.early (keep_out _ s.rows v.here).0 v.ended)

  pub forget-forget : forget h (forget g s) ≡ forget (λ n. g n || h n) s
  unfolding forget
  forget-forget =
      let p = map-zero (λ i. (version_at (gone_of h (forget g s)) i s.moment).value) (λ i. (version_at alone i s.moment).value) s.count (λ i l. ap (λ (v : Version). v.value) (alone_version i l)) in
      let q = map-zero (λ i. writer (version_at (gone_of h (forget g s)) i s.moment)) (λ i. writer (version_at alone i s.moment)) s.count (λ i l. ap writer (alone_version i l)) in
      let u = keep-once (λ r. not (h (num r))) (λ r. not (g (num r))) (λ r. not (g (num r) || h (num r))) s.rows (λ r. bools₃ (g (num r)) (h (num r))) in
      let v = keep-once (λ x. not (h (txn x))) (λ x. not (g (txn x))) (λ x. not (g (txn x) || h (txn x))) s.recs (λ x. bools₃ (g (txn x)) (h (txn x))) in
      λ j. record { count = s.count; next = s.next; moment = s.moment; values = p j; writers = q j; rows = u j; recs = v j }

pub prune-is : (s : State) → prune s ≡ forget (is_spent s) s
unfolding prune
prune-is s = refl

-- ---- dependencies and rings after forgetting
module _ (g : ℕ → Bool) (s : State) (w : Rowed s) (b : Behind g s) where
  pub depends-forget_out : (x y : ℕ) → T (depends (forget g s) x y) → T (depends s x y)
  depends-forget_out x y h =
      let u = depends_out (forget g s) x y h in
      let p = commits-forget_out g s u.0 in
      let q = commits-forget_out g s u.1 in
      depends_in s p.0 q.0 (sym (dep-forget g s w b q.0 p.1 q.1) ∙ u.2)

  pub depends-forget_in : (x y : ℕ) → T (depends s x y) → g x ≡ false → g y ≡ false → T (depends (forget g s) x y)
  depends-forget_in x y h p q =
      let u = depends_out s x y h in
      depends_in (forget g s) (commits-forget_in g s u.0 p) (commits-forget_in g s u.1 q) (dep-forget g s w b u.1 p q ∙ u.2)

  pub ring_out : Ring (forget g s) → Ring s
  ring_out = cycle_map (λ x y h. (y, depends-forget_out x y h, Way.end))

-- ---- some spent ones are forgotten
module _ (g : ℕ → Bool) (s : State) (w : Rowed s) (b : Behind g s)
    (idle : (r : Row) → r ∈ s.rows → g (num r) ≡ true → committed r ≡ true) (sub : (n : ℕ) → g n ≡ true → Spent s n) where
  old-forget : (t : ℕ) → g t ≡ false → old (forget g s) t ≡ old s t
  unfolding old forget
  old-forget t f =
      all-kept (λ r. committed r || ltb (commit_of (forget g s) t) (start r)) (λ r. committed r || ltb (commit_of s t) (start r)) (λ r. not (g (num r))) s.rows
      (λ r m q. ap (λ (k : Row). committed r || ltb (done k) (start r)) (row-forget g s t f))
      (λ r m q. or_left _ _ (idle r m (not-false _ q)))

  pub spent_forget_out : {n : ℕ} → Spent (forget g s) n → Spent s n
  spent_forget_out {n} (Least.least o f) =
      let p : Spent (forget g s) n = Least.least o f in
      let u = commits-forget_out g s (spent_commits (forget g s) p) in
      spent_made s u.0 (sym (old-forget n u.1) ∙ spent_old (forget g s) p)
      (λ a ma d. pick a (passed (g a)) (λ k. spent_forget_out (f a (depends-forget_in g s w b a n (depends_in s ma u.0 d) k u.1))))
    where
      pick : (a : ℕ) → (g a ≡ true) ⊎ (g a ≡ false) → (g a ≡ false → Spent s a) → Spent s a
      pick a (inl t) r = sub a t
      pick a (inr k) r = r k

  spent_forget_in : {n : ℕ} → Spent s n → g n ≡ false → Spent (forget g s) n
  spent_forget_in {n} (Least.least o f) k =
      let p : Spent s n = Least.least o f in
      spent_made (forget g s) (commits-forget_in g s (spent_commits s p) k) (old-forget n k ∙ spent_old s p)
      (λ a ma d. let u = commits-forget_out g s ma in spent_forget_in (f a (depends_in s u.0 (spent_commits s p) (sym (dep-forget g s w b (spent_commits s p) u.1 k) ∙ d))) u.1)

  is_spent-forget : (n : ℕ) → (g n || is_spent (forget g s) n) ≡ is_spent s n
  is_spent-forget n = both_ways _ _ (λ t. (spent_decides s n).1 (there (or_cases _ _ t))) (λ t. back (passed (g n)) ((spent_decides s n).0 t))
    where
      there : (g n ≡ true) ⊎ (is_spent (forget g s) n ≡ true) → Spent s n
      there (inl t) = sub n t
      there (inr t) = spent_forget_out ((spent_decides (forget g s) n).0 t)

      back : (g n ≡ true) ⊎ (g n ≡ false) → Spent s n → (g n || is_spent (forget g s) n) ≡ true
      back (inl t) p = or_left _ _ t
      back (inr f) p = or_right (g n) _ ((spent_decides (forget g s) n).1 (spent_forget_in p f))

  -- pruning after some spent ones are forgotten is pruning
  pub prune-forget : prune (forget g s) ≡ prune s
  prune-forget = prune-is (forget g s) ∙ forget-forget g (is_spent (forget g s)) s w b ∙ forget_ext s is_spent-forget ∙ sym (prune-is s)

  -- what lies on a ring is kept
  spent_off : (x : ℕ) → (Spent s x → ⊥) → g x ≡ false
  spent_off x n = pick (passed (g x))
    where
      pick : (g x ≡ true) ⊎ (g x ≡ false) → g x ≡ false
      pick (inl t) = absurd (n (sub x t))
      pick (inr f) = f

  kept-edge : (x y : ℕ) → T (depends s x y) → Way (depends s) y x → T (depends (forget g s) x y)
  kept-edge x y h v = depends-forget_in g s w b x y h (spent_off x turn) (spent_off y (λ p. turn (least_from p h)))
    where
      turn : Spent s x → ⊥
      turn p = least_no_cycle p (y, h, v)

  round : (x y : ℕ) {z : ℕ} → T (depends s x y) → Way (depends s) y z → Way (depends s) z x → Reaches (depends (forget g s)) x z
  round x y h Way.end u = (y, kept-edge x y h u, Way.end)
  round x y h (Way.step {b = z} k v) u = let r = round y z k v (more u h) in (y, kept-edge x y h (Way.step k (join v u)), Way.step r.1 r.2)

  pub ring_in : Ring s → Ring (forget g s)
  ring_in (x, (y, h, v)) = (x, round x y h v Way.end)

-- what is lean is pruned already
pub lean_pruned : (s : State) → Sized s → lean s ≡ true → prune s ≡ s
unfolding lean
lean_pruned s sizes h = prune-is s ∙ forget_ext s (λ t. none t (passed (is_spent s t))) ∙ forget-none s sizes
  where
    none : (t : ℕ) → (is_spent s t ≡ true) ⊎ (is_spent s t ≡ false) → is_spent s t ≡ false
    none t (inr f) = f
    none t (inl p) = not-true _ (all_out (λ t. not (is_spent s t)) (spent_commits s ((spent_decides s t).0 p)) h)

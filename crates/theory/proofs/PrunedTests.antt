-- The tests of a call and the sizes that it needs, of the pruned state. Assumes nothing.
use Rattle.std.specs.Prelude.{Ok}
use Rattle.rules.specs.Deps
use Prim.Native.Nat.{◌≤◌, ℕ}
use mathlib.Core.Bool.{Bool, ◌&&◌, false, false≢true, not, true}
use mathlib.Core.List.{List}
use mathlib.Core.Logic.{◌⊎◌, inl, inr}
use mathlib.Core.Path.{◌∙◌, ◌≡◌, ap, refl, sym}
use native.Mathlib.Omega.{arith}
use lib.Dec.{eqb}
use lib.ListN.{length}
use Rattle.laws.proofs.Beating.{beaten_decides}
use Rattle.laws.proofs.Keeping.{any-kept}
use Rattle.laws.proofs.Lists.{◌∈◌, and_right, both_ways, passed}
use Rattle.lists.proofs.Keeps.{length-keep}
use Rattle.laws.proofs.Versions.{commits_out}
use Rattle.rules.specs.Deps.{beaten}
use Rattle.rules.specs.Machine.{Call, history, lowest, outcome, step, tables, tests, value}
use Rattle.rules.specs.Spent.{forget, is_spent, prune}
use Rattle.rules.specs.State.{State, is_active, opened, start_of}
use Rattle.terms.specs.Words.{Answer, active, done, num, start}
use Rattle.terms.specs.declared.Row.{Row}
use Rattle.theory.proofs.Actives.{Active, active-kept, idle, past}
use Rattle.theory.proofs.Bare.{forget_opened}
use Rattle.theory.proofs.Consequences.{row_is}
use Rattle.theory.proofs.Facts.{Facts}
use Rattle.theory.proofs.Forgetting.{commits-forget_in, commits-forget_out, recorded-forget, row-forget}
use Rattle.theory.proofs.Pruning.{prune-is}

-- ---- who is active, and who is beaten
pub active_pruned : (s : State) → Facts s → (t : ℕ) → is_active (prune s) t ≡ is_active s t
unfolding is_active forget
active_pruned s v t =
    ap (λ (z : State). is_active z t) (prune-is s)
    ∙ any-kept (λ r. eqb (num r) t && active r) (λ r. eqb (num r) t && active r) (λ r. not (is_spent s (num r))) s.rows
    (λ r m h. refl) (λ r m h. go r m (and_right (eqb (num r) t) _ h) (passed (is_spent s (num r))))
  where
    go : (r : Row) → r ∈ s.rows → active r ≡ true → (is_spent s (num r) ≡ true) ⊎ (is_spent s (num r) ≡ false) → not (is_spent s (num r)) ≡ true
    go r m h (inr f) = ap not f
    go r m h (inl t) = absurd (false≢true (sym (ap not h) ∙ idle s v r m t))

pub beaten_pruned : (s : State) → Facts s → (t : ℕ) → Active s t → beaten (prune s) t ≡ beaten s t
beaten_pruned s v t a =
    ap (λ (z : State). beaten z t) (prune-is s)
    ∙ both_ways _ _ (λ h. (beaten_decides s t).1 (there ((beaten_decides p t).0 h)))
    (λ h. let b = (beaten_decides s t).0 h in (beaten_decides p t).1 (back b (passed (is_spent s b.winner))))
  where
    p : State
    p = forget (is_spent s) s

    left : is_spent s t ≡ false
    left = active-kept s v a

    began : start_of p t ≡ start_of s t
    began = ap start (row-forget (is_spent s) s t left)

    there : Deps.Beaten p t → Deps.Beaten s t
    there b =
        let u = commits-forget_out (is_spent s) s b.here in
        let e = ap done (row-forget (is_spent s) s b.winner u.1) in
        record {
          winner = b.winner;
          here = u.0;
          after = omega (arith, b.after, began, e);
          item = b.item;
          mine = sym (recorded-forget (is_spent s) s t b.item 2 left) ∙ b.mine;
          theirs = sym (recorded-forget (is_spent s) s b.winner b.item 2 u.1) ∙ b.theirs;
        }

    back : (b : Deps.Beaten s t) → (is_spent s b.winner ≡ true) ⊎ (is_spent s b.winner ≡ false) → Deps.Beaten p t
    back b (inr f) =
        let e = ap done (row-forget (is_spent s) s b.winner f) in
        record {
          winner = b.winner;
          here = commits-forget_in (is_spent s) s b.here f;
          after = omega (arith, b.after, began, e);
          item = b.item;
          mine = recorded-forget (is_spent s) s t b.item 2 left ∙ b.mine;
          theirs = recorded-forget (is_spent s) s b.winner b.item 2 f ∙ b.theirs;
        }
    back b (inl k) =
        let u = commits_out s b.here in
        absurd (omega (arith, past s v u.1 (ap (is_spent s) u.3 ∙ k) a, b.after, ap done (row_is s v u.1 u.3), ap start (row_is s v a.1 a.2)))

-- ---- how much stands in the tables
pub record Room (n m : ℕ) (s : State) : Type 0 where
  pub rows : length (prune s).rows ≤ n
  pub recs : length (prune s).recs ≤ m

-- a pruned state has no more than the state
pub prune-rows : (s : State) → length (prune s).rows ≤ length s.rows
unfolding prune forget
prune-rows s = length-keep _ s.rows

pub prune-recs : (s : State) → length (prune s).recs ≤ length s.recs
unfolding prune forget
prune-recs s = length-keep _ s.recs

pub fits_by : (n m : ℕ) (z w : State) → prune z ≡ w → length w.rows ≤ n → length w.recs ≤ m → Room n m z
fits_by n m z w e a b = record { rows = omega (arith, ap (λ (k : State). length k.rows) e); recs = omega (arith, ap (λ (k : State). length k.recs) e) }

-- the two machines' calls are the same, and what stands in the tables still fits
pub record Same (n m : ℕ) (s : State) (x : Call) : Type 0 where
  pub same : step (tables n m) (prune s) x ≡ ((step (history n m) s x).0, prune (step (history n m) s x).1)
  pub fits : Room n m (step (history n m) s x).1

-- the same of the outcomes by the tests l of the one and r of the other
abbrev pub Good : ℕ → ℕ → State → Call → List (Answer × Bool) → List (Answer × Bool) → Type 0
Good n m s x l r =
    let q : Answer × State = outcome (history n m) s x (lowest (Ok (value (history n m) s x)) r) in
    (outcome (tables n m) (prune s) x (lowest (Ok (value (tables n m) (prune s) x)) l) ≡ (q.0, prune q.1)) × Room n m q.1

pub good_call : (n m : ℕ) (s : State) (x : Call) → Good n m s x (tests (tables n m) (prune s) x) (tests (history n m) s x) → Same n m s x
unfolding step
good_call n m s x g = record { same = g.0; fits = g.1 }

-- ---- an opening
pub open_pruned : (vs : List ℕ) → prune (opened vs) ≡ opened vs
open_pruned vs = prune-is (opened vs) ∙ forget_opened (is_spent (opened vs)) vs

pub opened-fits : (n m : ℕ) (vs : List ℕ) → Room n m (opened vs)
unfolding opened
opened-fits n m vs = fits_by n m (opened vs) (opened vs) (open_pruned vs) (omega arith) (omega arith)

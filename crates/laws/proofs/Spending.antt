-- Spent transactions: the test for them finds the least set. Assumes nothing.
use Prim.Native.Nat.{ℕ}
use mathlib.Core.Bool.{◌&&◌, false, false≢true, not, true}
use mathlib.Core.List.{List, Memᴰ}
use mathlib.Core.Logic.{◌↔◌, ◌⊎◌, inl, inr}
use mathlib.Core.Path.{◌∙◌, ◌≡◌, ap, subst, sym}
use native.Mathlib.Omega.{arith}
use lib.ListN.{length}
use borrow.Author.Tests.{not-true}
use Rattle.laws.proofs.Graph.{least_founded, least_from, least-old, least_there}
use Rattle.laws.proofs.Keeping.{mem-not}
use Rattle.laws.proofs.Lists.{T_in, T_out, ◌∈◌, all_in, all_out, and_both, and_left, and_right, any_in, any_out, both_ways, keep_in, keep_less, keep_out, mem_in, mem_out, or_cases, or_left, or_right, passed, times_keeps, times-rest}
use Rattle.laws.proofs.Rings.{depends_in, depends_out, founded}
use Rattle.rules.specs.Deps.{Ring, dep, depends}
use Rattle.rules.specs.Graph.{Least, Way}
use Rattle.rules.specs.Lists.{all, any, mem}
use Rattle.rules.specs.Spent.{Spent, is_spent, old, sift, unspent}
use Rattle.rules.specs.State.{State, commits}
use Rattle.terms.specs.Words.{committed}

-- ---- spent transactions, one by one
module _ (s : State) where
  pub spent_commits : {b : ℕ} → Spent s b → b ∈ commits s
  spent_commits {b} p = mem_out b (commits s) (and_left _ (old s b) (T_out _ (least-old p)))

  pub spent_old : {b : ℕ} → Spent s b → old s b ≡ true
  spent_old {b} p = and_right (mem b (commits s)) (old s b) (T_out _ (least-old p))

  pub spent_from : {a b : ℕ} → Spent s b → a ∈ commits s → dep s a b ≡ true → Spent s a
  spent_from p m d = least_from p (depends_in s m (spent_commits p) d)

  pub spent_made : {b : ℕ} → b ∈ commits s → old s b ≡ true → ((a : ℕ) → a ∈ commits s → dep s a b ≡ true → Spent s a) → Spent s b
  spent_made {b} m o f = Least.least (T_in (and_both _ _ (mem_in _ _ m) o)) (λ a h. let u = depends_out s a b h in f a u.0 u.2)

-- spent ones are spent in another state, where they are committed and old and no dependency to them is new
pub spent_there : (s z : State) → ((b : ℕ) → Spent s b → b ∈ commits z) → ((b : ℕ) → Spent s b → old z b ≡ true)
    → ((a b : ℕ) → Spent s b → a ∈ commits z → dep z a b ≡ true → (a ∈ commits s) × (dep s a b ≡ true)) → {b : ℕ} → Spent s b → Spent z b
spent_there s z c o d =
    least_there (λ b p. T_in (and_both _ _ (mem_in _ _ (c b p)) (o b p)))
    (λ a b p h. let u = depends_out z a b h in let v = d a b p u.0 u.2 in depends_in s v.0 (spent_commits s p) v.1)

-- ---- the test
module _ (s : State) where
  -- a pass leaves one that is not old, or has a dependency from one that is left; another it finds spent, if all that are not left are
  sift_or_spent : (l : List ℕ) → ((b : ℕ) → b ∈ commits s → (b ∈ l) ⊎ Spent s b)
      → (b : ℕ) → b ∈ commits s → (b ∈ sift s l) ⊎ Spent s b
  unfolding sift
  sift_or_spent l h b mc = go (h b mc) (passed (old s b)) (passed (any (λ a. dep s a b) l))
    where
      from : any (λ a. dep s a b) l ≡ false → (a : ℕ) → dep s a b ≡ true → (a ∈ l) ⊎ Spent s a → Spent s a
      from f a d (inl m) = absurd (false≢true (sym f ∙ any_in (λ c. dep s c b) m d))
      from f a d (inr t) = t

      go : (b ∈ l) ⊎ Spent s b → (old s b ≡ true) ⊎ (old s b ≡ false) → (any (λ a. dep s a b) l ≡ true) ⊎ (any (λ a. dep s a b) l ≡ false)
          → (b ∈ sift s l) ⊎ Spent s b
      go (inr t) o f = inr t
      go (inl m) (inr o) f = inl (keep_in _ m (or_left _ _ (ap not o)))
      go (inl m) (inl o) (inl f) = inl (keep_in _ m (or_right (not (old s b)) _ f))
      go (inl m) (inl o) (inr f) = inr (spent_made s mc o (λ a ma d. from f a d (h a ma)))

  -- what is not left is spent
  unspent_or_spent : (b : ℕ) → b ∈ commits s → (b ∈ unspent s) ⊎ Spent s b
  unfolding unspent
  unspent_or_spent =
      times_keeps (sift s) (λ l. (b : ℕ) → b ∈ commits s → (b ∈ l) ⊎ Spent s b) sift_or_spent (length (commits s)) _
      (λ b m. inl m)

  -- the passes come to rest
  unspent-rest : sift s (unspent s) ≡ unspent s
  unfolding unspent sift
  unspent-rest = times-rest (sift s) length (λ l. Unit {0}) (λ l i. tt) (λ l i. keep_less _ l) (length (commits s)) _ tt (omega arith)

  unspent-commits : {b : ℕ} → b ∈ unspent s → b ∈ commits s
  unfolding unspent sift
  unspent-commits {b} =
      times_keeps (sift s) (λ l. (b ∈ l) → b ∈ commits s) (λ l h m. h (keep_out _ l m).0) (length (commits s)) _ (λ m. m)

  -- what is left and old has a dependency from what is left
  left_behind : {b : ℕ} → b ∈ unspent s → old s b ≡ true → (a : ℕ) × (a ∈ unspent s) × (dep s a b ≡ true)
  unfolding sift
  left_behind {b} m o = go (or_cases _ _ (keep_out _ (unspent s) (subst (Memᴰ b) (sym unspent-rest) m)).1)
    where
      go : (not (old s b) ≡ true) ⊎ (any (λ a. dep s a b) (unspent s) ≡ true) → (a : ℕ) × (a ∈ unspent s) × (dep s a b ≡ true)
      go (inl n) = absurd (false≢true (sym (not-true _ n) ∙ o))
      go (inr f) = any_out _ (unspent s) f

  -- what is spent is not left
  not_left : {b : ℕ} → Spent s b → b ∈ unspent s → ⊥
  not_left {b} (Least.least o f) m =
      let u = left_behind m (spent_old s (Least.least o f)) in
      not_left (f u.0 (depends_in s (unspent-commits u.1) (unspent-commits m) u.2)) u.1

  pub spent_decides : (t : ℕ) → (is_spent s t ≡ true) ↔ Spent s t
  unfolding is_spent
  spent_decides t = (
    λ h. out h (unspent_or_spent t (mem_out _ _ (and_left _ _ h))),
    λ p. and_both _ _ (mem_in _ _ (spent_commits s p)) (ap not (mem-not t (unspent s) (not_left p))),
  )
    where
      out : (mem t (commits s) && not (mem t (unspent s))) ≡ true → (t ∈ unspent s) ⊎ Spent s t → Spent s t
      out h (inr p) = p
      out h (inl m) = absurd (false≢true (sym (ap not (mem_in _ _ m)) ∙ and_right (mem t (commits s)) _ h))

  -- "With none active, all are spent."
  pub with_none-active : all committed s.rows ≡ true → ¬ Ring s → {t : ℕ} → t ∈ commits s → Spent s t
  unfolding old
  with_none-active idle free m =
      (least_founded (founded s free _)).1 (λ a w. T_in (and_both _ _ (mem_in _ _ (start a w m)) (all_in _ s.rows (λ r k. or_left _ _ (all_out committed k idle)))))
    where
      start : (a : ℕ) {b : ℕ} → Way (depends s) a b → b ∈ commits s → a ∈ commits s
      start a Way.end n = n
      start a (Way.step {b = c} h w) n = (depends_out s a c h).0

-- where two states have the same committed transactions, dependencies and old ones, the same are spent
pub same_spent : (s z : State) → commits z ≡ commits s → ((b : ℕ) → b ∈ commits s → old z b ≡ old s b)
    → ((c b : ℕ) → c ∈ commits s → b ∈ commits s → dep z c b ≡ dep s c b) → (n : ℕ) → is_spent s n ≡ is_spent z n
same_spent s z e o d n =
    both_ways _ _
    (λ h. (spent_decides z n).1 (spent_there s z (λ b p. subst (Memᴰ b) (sym e) (spent_commits s p)) (λ b p. o b (spent_commits s p) ∙ spent_old s p)
    (λ c b p m h. let k = subst (Memᴰ c) e m in (k, sym (d c b k (spent_commits s p)) ∙ h)) ((spent_decides s n).0 h)))
    (λ h. (spent_decides s n).1 (spent_there z s (λ b p. subst (Memᴰ b) e (spent_commits z p)) (λ b p. sym (o b (subst (Memᴰ b) e (spent_commits z p))) ∙ spent_old z p)
    (λ c b p m h. (subst (Memᴰ c) (sym e) m, d c b m (subst (Memᴰ b) e (spent_commits z p)) ∙ h)) ((spent_decides z n).0 h)))

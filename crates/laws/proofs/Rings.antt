-- Dependencies between committed transactions, and the ring test: it is passed exactly if there is a dependency cycle. Assumes nothing.
use Prim.Native.Nat.{◌-◌, ◌<◌, ◌≤◌, ℕ}
use mathlib.Core.Bool.{Bool, ◌&&◌, ◌||◌, false, false≢true, true}
use mathlib.Core.List.Memᴰ
use mathlib.Core.List.{List, Memᴰ}
use mathlib.Core.Logic.{◌↔◌, ◌⊎◌, inl, inr}
use mathlib.Core.Path.{◌∙◌, ◌≡◌, ap, refl, subst, sym}
use native.Mathlib.Omega.{arith}
use lib.Dec.{T, eqb}
use lib.ListN.{length}
use borrow.Author.Tests.{eq-eqb, eqb-true}
use Rattle.laws.proofs.Graph.{Founded, cycle_map, founded_by, last-edge, more}
use Rattle.laws.proofs.Lists.{T_in, T_out, ◌∈◌, and_both, and_left, and_right, any_in, any_out, keep_in, keep_more, keep_out, mem_in, mem_out, or_cases, or_left, or_right, passed, times_keeps, times-rest}
use Rattle.lists.proofs.Keeps.{length-keep}
use Rattle.rules.specs.Deps.{Ring, among, dep, depends, reached, ring, spread}
use Rattle.rules.specs.Graph.{Edges, Reaches, Way}
use Rattle.rules.specs.Lists.{any, keep, mem}
use Rattle.rules.specs.State.{State, commits}

-- edges between committed transactions, of any kind
module _ (s : State) (e : Edges) where
  pub among_in : {a b : ℕ} → a ∈ commits s → b ∈ commits s → e a b ≡ true → T (among s e a b)
  among_in ma mb d = T_in (and_both _ _ (and_both _ _ (mem_in _ _ ma) (mem_in _ _ mb)) d)

  pub among_out : (a b : ℕ) → T (among s e a b) → (a ∈ commits s) × (b ∈ commits s) × (e a b ≡ true)
  among_out a b t =
      let h = T_out (among s e a b) t in
      let m = and_left _ _ h in
      (mem_out a (commits s) (and_left _ _ m), mem_out b (commits s) (and_right (mem a (commits s)) _ m), and_right (mem a (commits s) && mem b (commits s)) _ h)

module _ (s : State) where
  pub depends_in : {a b : ℕ} → a ∈ commits s → b ∈ commits s → dep s a b ≡ true → T (depends s a b)
  unfolding depends
  depends_in ma mb d = among_in s (dep s) ma mb d

  pub depends_out : (a b : ℕ) → T (depends s a b) → (a ∈ commits s) × (b ∈ commits s) × (dep s a b ≡ true)
  unfolding depends
  depends_out a b t = among_out s (dep s) a b t

  -- a way starts and ends at committed ones
  pub starts : (a : ℕ) {b : ℕ} → Reaches (depends s) a b → a ∈ commits s
  starts a r = (depends_out a r.0 r.1).0

  pub arrives : (a : ℕ) {b : ℕ} → Reaches (depends s) a b → b ∈ commits s
  arrives a {b} r = let u = last-edge a r.0 r.1 r.2 in (depends_out u.0 b u.2).1

  -- a transaction is marked by a pass if it was marked, or one that was marked has a dependency to it
  spread-stays : {b : ℕ} (l : List ℕ) → b ∈ commits s → b ∈ l → b ∈ spread s l
  unfolding spread
  spread-stays {b} l mc m = keep_in _ mc (any_in _ m (or_left _ _ (eq-eqb b b refl)))

  spread_adds : {a b : ℕ} (l : List ℕ) → a ∈ l → b ∈ commits s → dep s a b ≡ true → b ∈ spread s l
  unfolding spread
  spread_adds {a} {b} l m mc d = keep_in _ mc (any_in _ m (or_right (eqb a b) _ d))

  spread_out : {b : ℕ} (l : List ℕ) → b ∈ spread s l
      → (b ∈ commits s) × ((b ∈ l) ⊎ ((a : ℕ) × (a ∈ l) × (dep s a b ≡ true)))
  unfolding spread
  spread_out {b} l m = let k = keep_out _ (commits s) m in (k.0, go (any_out _ l k.1))
    where
      pick : (a : ℕ) → a ∈ l → (eqb a b ≡ true) ⊎ (dep s a b ≡ true) → (b ∈ l) ⊎ ((a : ℕ) × (a ∈ l) × (dep s a b ≡ true))
      pick a n (inl e) = inl (Memᴰ.cast (sym (eqb-true a b e)) n)
      pick a n (inr d) = inr (a, n, d)

      go : (a : ℕ) × (a ∈ l) × ((eqb a b || dep s a b) ≡ true) → (b ∈ l) ⊎ ((a : ℕ) × (a ∈ l) × (dep s a b ≡ true))
      go u = pick u.0 u.1 (or_cases _ _ u.2)

  spread-length : (l : List ℕ) → length (spread s l) ≤ length (commits s)
  unfolding spread
  spread-length l = length-keep _ (commits s)

  module _ (a : ℕ) where
    -- the passes come to rest
    Marks : List ℕ → Type 0
    Marks l = (p : ℕ → Bool) × (l ≡ keep p (commits s))

    falls : (l : List ℕ) → Marks l → (spread s l ≡ l) ⊎ (length (commits s) - length (spread s l) < length (commits s) - length l)
    unfolding Marks spread
    falls l (p, e) = go (keep_more p _ (commits s) (λ x mc t. any_in _ (subst (Memᴰ x) (sym e) (keep_in p mc t)) (or_left _ _ (eq-eqb x x refl))))
      where
        go : (spread s l ≡ keep p (commits s)) ⊎ (length (keep p (commits s)) < length (spread s l))
            → (spread s l ≡ l) ⊎ (length (commits s) - length (spread s l) < length (commits s) - length l)
        go (inl f) = inl (cc)
        go (inr h) = inr (omega (arith, ap length e, spread-length l))

    reached-rest : spread s (reached s a) ≡ reached s a
    unfolding reached Marks spread
    reached-rest =
        times-rest (spread s) (λ l. length (commits s) - length l) Marks (λ l i. (_, refl)) falls (length (commits s)) _
        (dep s a, refl) (omega arith)

    reached-length : length (reached s a) ≤ length (commits s)
    reached-length = omega (arith, ap length reached-rest, spread-length (reached s a))

    -- what is reached is marked
    onward : {b c : ℕ} → b ∈ reached s a → Way (depends s) b c → c ∈ reached s a
    onward m Way.end = m
    onward m (Way.step {a = b} {b = c} h w) =
        let u = depends_out b c h in
        onward (subst (Memᴰ c) reached-rest (spread_adds (reached s a) m u.1 u.2)) w

    pub reached_in : {b : ℕ} → Reaches (depends s) a b → b ∈ reached s a
    unfolding reached
    reached_in (c, h, w) =
        let u = depends_out a c h in
        onward (times_keeps (spread s) (λ l. (c ∈ l)) (λ l m. spread-stays l u.1 m) (length (commits s)) _ (keep_in _ u.1 u.2)) w

    -- what is marked is reached
    module _ (ma : a ∈ commits s) where
      sound_pass : (l : List ℕ) → ((b : ℕ) → b ∈ l → Reaches (depends s) a b) → (b : ℕ) → b ∈ spread s l → Reaches (depends s) a b
      sound_pass l h b m = let u = spread_out l m in go u.0 u.1
        where
          go : b ∈ commits s → (b ∈ l) ⊎ ((c : ℕ) × (c ∈ l) × (dep s c b ≡ true)) → Reaches (depends s) a b
          go mc (inl n) = h b n
          go mc (inr v) = let r = h v.0 v.1 in (r.0, r.1, more r.2 (depends_in (arrives a r) mc v.2))

      pub reached_out : (b : ℕ) → b ∈ reached s a → Reaches (depends s) a b
      unfolding reached
      reached_out =
          times_keeps (spread s) (λ l. (b : ℕ) → b ∈ l → Reaches (depends s) a b) sound_pass (length (commits s)) _
          (λ b m. let k = keep_out (dep s a) (commits s) m in (b, depends_in ma k.0 k.1, Way.end))

  -- the ring test
  pub ring_decides : (ring s ≡ true) ↔ Ring s
  unfolding ring
  ring_decides = (
    λ h. let u = any_out _ (commits s) h in (u.0, reached_out u.0 u.1 u.0 (mem_out _ _ u.2)),
    λ u. any_in _ (starts u.0 u.1) (mem_in _ _ (reached_in u.0 u.1)),
  )

  pub ring-free : (ring s ≡ false) ↔ ¬ Ring s
  ring-free = (λ f r. false≢true (sym f ∙ ring_decides.1 r), λ n. go n (passed (ring s)))
    where
      go : ¬ Ring s → (ring s ≡ true) ⊎ (ring s ≡ false) → ring s ≡ false
      go n (inl t) = absurd (n (ring_decides.0 t))
      go n (inr f) = f

  -- ---- with no ring
  module _ (free : ¬ Ring s) where
    -- more is reached from further back
    grows : (a b : ℕ) → T (depends s a b) → length (reached s b) < length (reached s a)
    unfolding spread
    grows a b h = go (keep_more _ _ (commits s) wider)
      where
        d : (a ∈ commits s) × (b ∈ commits s) × (dep s a b ≡ true)
        d = depends_out a b h

        out : (c x : ℕ) → c ∈ commits s → x ∈ (keep (λ y. any (λ k. eqb k y || dep s k y) (reached s c)) (commits s)) → Reaches (depends s) c x
        out c x mc m = reached_out c mc x (subst (Memᴰ x) (reached-rest c) m)

        inside : (c x : ℕ) → Reaches (depends s) c x → x ∈ (keep (λ y. any (λ k. eqb k y || dep s k y) (reached s c)) (commits s))
        inside c x r = subst (Memᴰ x) (sym (reached-rest c)) (reached_in c r)

        wider : (x : ℕ) → x ∈ commits s → any (λ k. eqb k x || dep s k x) (reached s b) ≡ true → any (λ k. eqb k x || dep s k x) (reached s a) ≡ true
        wider x mx t = (keep_out _ (commits s) (inside a x (let r = out b x d.1 (keep_in _ mx t) in (b, h, Way.step r.1 r.2)))).1

        go : (spread s (reached s a) ≡ spread s (reached s b)) ⊎ (length (spread s (reached s b)) < length (spread s (reached s a))) → length (reached s b) < length (reached s a)
        go (inl e) = absurd (free (b, out b b d.1 (subst (Memᴰ b) e (inside a b (b, h, Way.end)))))
        go (inr l) = omega (arith, ap length (reached-rest a), ap length (reached-rest b))

    -- a rank by which the dependencies rise
    pub rank : ℕ → ℕ
    rank a = length (commits s) - length (reached s a)

    pub rises : (a b : ℕ) → T (depends s a b) → rank a < rank b
    unfolding rank
    rises a b h = omega (arith, grows a b h, reached-length a)

    pub founded : (b : ℕ) → Founded (depends s) b
    founded = founded_by rank rises

-- with no more dependencies there is no new ring
pub ring_less : (s z : State) → ((a b : ℕ) → T (depends z a b) → T (depends s a b)) → ¬ Ring s → ¬ Ring z
ring_less s z h n r = n (cycle_map (λ a b t. (b, h a b t, Way.end)) r)

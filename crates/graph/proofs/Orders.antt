-- Orders of nodes, as lists, in which every edge goes forward, and how a node is placed in one. Assumes nothing.
use mathlib.Core.Path.{◌≡◌, refl, sym, subst}
use mathlib.Core.Logic.{◌⊎◌, inl, inr, ⊎_elim}
use mathlib.Core.Bool.{Bool, true, false, not}
use mathlib.Core.List.Memᴰ
use mathlib.Core.List.{List, [], ◌∷◌, ◌++◌, Memᴰ}
use Prim.Native.Nat.{ℕ}
use lib.Dec.{T, eqb, eqb→eq, eqb_refl, T_not, not_T}
use Rattle.rules.specs.Lists.{keep}
use Rattle.rules.specs.Graph.{Nodes, Edges, Way, Reaches, Least}
use Rattle.graph.specs.Reach.{Reached}
use Rattle.graph.proofs.Ways.{turned, back}
use Rattle.laws.proofs.Graph.{Founded}
use Rattle.laws.proofs.Lists.{T_in}
use Rattle.laws.proofs.Lists as keeps
use Rattle.graph.proofs.Tests.{failed}

-- ---- the nodes of a list that pass a test

keep_out : (s : Nodes) (l : List ℕ) {y : ℕ} → Memᴰ y (keep s l) → Memᴰ y l × T (s y)
keep_out s l m = let u = keeps.keep_out s l m in (u.0, keeps.T_in u.1)

keep_in : (s : Nodes) (l : List ℕ) {y : ℕ} → Memᴰ y l → T (s y) → Memᴰ y (keep s l)
keep_in s l {y} m t = keeps.keep_in s m (keeps.T_out (s y) t)

-- ---- every edge goes forward

-- no edge leads from a node of l to x
abbrev pub NoneTo : Edges → List ℕ → ℕ → Type 0
NoneTo e l x = (y : ℕ) → Memᴰ y l → T (e y x) → ⊥

abbrev pub Forward : Edges → List ℕ → Type 0
Forward e [] = Unit {0}
Forward e (x ∷ l) = NoneTo e (x ∷ l) x × Forward e l

-- what passes goes before t, the rest behind it
abbrev pub placed : Nodes → ℕ → List ℕ → List ℕ
placed up t l = keep up l ++ t ∷ keep (λ x. not (up x)) l

module _ (e : Edges) where
  forward_keep : (s : Nodes) (l : List ℕ) → Forward e l → Forward e (keep s l)
  forward_keep s [] f = tt
  forward_keep s (x ∷ l) f = go (s x) (forward_keep s l f.1)
    where
      go : (b : Bool) → Forward e (keep s l) → Forward e (elim b [ true ↦ x ∷ keep s l | false ↦ keep s l ])
      go true g =
          (λ y m. ⊎_elim (λ q. f.0 y (Memᴰ.head q)) (λ k. f.0 y (Memᴰ.tail (keep_out s l k).0)) (Memᴰ.cases_cons m), g)
      go false g = g

  forward_append : (l r : List ℕ) → Forward e l → Forward e r → ((x : ℕ) → Memᴰ x l → NoneTo e r x) → Forward e (l ++ r)
  forward_append [] r f g h = g
  forward_append (x ∷ l) r f g h = (
    λ y m k. ⊎_elim (λ m. f.0 y m k) (λ m. h x (Memᴰ.head refl) y m k) (Memᴰ.append_cases (x ∷ l) m),
    forward_append l r f.1 g (λ z m. h z (Memᴰ.tail m)),
  )

  -- with `up` what leads to t, and no ring through t: every edge goes forward again
  module _ (up : Nodes) (t : ℕ) (l : List ℕ) (is : Reached (turned e) (eqb t) up) (none : Reaches e t t → ⊥) where
    to_t : (x : ℕ) → T (up x) → Way e x t
    to_t x h = let w = is.only x h in subst (Way e x) (sym (eqb→eq t w.0 w.1)) (back w.2)

    behind : (x : ℕ) → T (up x) → NoneTo e (t ∷ keep (λ x. not (up x)) l) x
    behind x h y m k =
        ⊎_elim (λ q. none (x, subst (λ (z : ℕ). T (e z x)) q k, to_t x h))
        (λ m. T_not (up y) (keep_out (λ x. not (up x)) l m).1 (is.closed x y h k)) (Memᴰ.cases_cons m)

    pub placed_forward : Forward e l → Forward e (placed up t l)
    placed_forward f =
        forward_append (keep up l) (t ∷ keep (λ x. not (up x)) l) (forward_keep up l f)
        (behind t (is.has t (eqb_refl t)), forward_keep (λ x. not (up x)) l f)
        (λ x m. behind x (keep_out up l m).1)

  -- ---- an order that has the start of each edge founds every node

  found : (l : List ℕ) → Forward e l → ((x y : ℕ) → Memᴰ x l → T (e y x) → Founded e y ⊎ Memᴰ y l) → (x : ℕ) → Memᴰ x l → Founded e x
  found (b ∷ l) f h x m = ⊎_elim (λ q. subst (Founded e) (sym q) head) (found l f.1 tail x) (Memᴰ.cases_cons m)
    where
      head : Founded e b
      head = Least.least tt (λ a k. ⊎_elim (λ d. d) (λ m. absurd (f.0 a m k)) (h b a (Memᴰ.head refl) k))

      tail : (x y : ℕ) → Memᴰ x l → T (e y x) → Founded e y ⊎ Memᴰ y l
      tail x y m k =
          ⊎_elim (λ d. inl d) (λ m. ⊎_elim (λ q. inl (subst (Founded e) (sym q) head)) (λ m. inr m) (Memᴰ.cases_cons m)) (h x y (Memᴰ.tail m) k)
  found [] f h x m = elim m [ ]

  pub ordered_founded : (l : List ℕ) → Forward e l → ((a b : ℕ) → T (e a b) → Memᴰ a l) → (x : ℕ) → Founded e x
  ordered_founded l f has x = Least.least tt (λ a k. found l f (λ x y m k. inr (has y x k)) a (has a x k))

-- ---- a placed order has what the order had, and t; and each node once

module _ (up : Nodes) (t : ℕ) (l : List ℕ) where
  pub placed-has : {y : ℕ} → Memᴰ y l → Memᴰ y (placed up t l)
  placed-has {y} m = go (up y) refl
    where
      go : (b : Bool) → up y ≡ b → Memᴰ y (placed up t l)
      go true e = Memᴰ.append_left (t ∷ keep (λ x. not (up x)) l) (keep_in up l m (T_in e))
      go false e = Memᴰ.append_right (keep up l) (Memᴰ.tail (keep_in (λ x. not (up x)) l m (not_T (up y) (failed e))))

  pub placed_new : Memᴰ t (placed up t l)
  placed_new = Memᴰ.append_right (keep up l) (Memᴰ.head refl)

  pub placed-only : {y : ℕ} → Memᴰ y (placed up t l) → (y ≡ t) ⊎ Memᴰ y l
  placed-only {y} m =
      ⊎_elim (λ m. inr (keep_out up l m).0) (λ m. ⊎_elim (λ e. inl e) (λ m. inr (keep_out (λ x. not (up x)) l m).0) (Memᴰ.cases_cons m))
      (Memᴰ.append_cases (keep up l) m)

abbrev pub Once : List ℕ → Type 0
Once [] = Unit {0}
Once (x ∷ l) = (Memᴰ x l → ⊥) × Once l

once-keep : (s : Nodes) (l : List ℕ) → Once l → Once (keep s l)
once-keep s [] o = tt
once-keep s (x ∷ l) o = go (s x) (once-keep s l o.1)
  where
    go : (b : Bool) → Once (keep s l) → Once (elim b [ true ↦ x ∷ keep s l | false ↦ keep s l ])
    go true p = (λ m. o.0 (keep_out s l m).0, p)
    go false p = p

once-append : (l r : List ℕ) → Once l → Once r → ((x : ℕ) → Memᴰ x l → Memᴰ x r → ⊥) → Once (l ++ r)
once-append [] r o p n = p
once-append (x ∷ l) r o p n =
    (λ m. ⊎_elim o.0 (n x (Memᴰ.head refl)) (Memᴰ.append_cases l m), once-append l r o.1 p (λ y m. n y (Memᴰ.tail m)))

pub placed-once : (up : Nodes) (t : ℕ) (l : List ℕ) → (Memᴰ t l → ⊥) → Once l → Once (placed up t l)
placed-once up t l n o =
    once-append (keep up l) (t ∷ keep (λ x. not (up x)) l) (once-keep up l o)
    (λ m. n (keep_out (λ x. not (up x)) l m).0, once-keep (λ x. not (up x)) l o) apart
  where
    apart : (x : ℕ) → Memᴰ x (keep up l) → Memᴰ x (t ∷ keep (λ x. not (up x)) l) → ⊥
    apart x m k =
        ⊎_elim (λ q. n (Memᴰ.cast (sym q) (keep_out up l m).0)) (λ k. T_not (up x) (keep_out (λ x. not (up x)) l k).1 (keep_out up l m).1) (Memᴰ.cases_cons k)

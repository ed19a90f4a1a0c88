-- Laws of the rows: the row of a number, rows that are known by their numbers and commits, and the rows after a commit. Assumes nothing.
use Prim.Native.Nat.{◌+◌, ◌<◌, ◌≤◌, suc, ℕ}
use mathlib.Core.Bool.{Bool, ◌&&◌, ◌||◌, cond, false, false≢true, not, true}
use mathlib.Core.List.Memᴰ
use mathlib.Core.List.{List, [], ◌++◌, ◌∷◌, map}
use mathlib.Core.Path.{◌∙◌, ◌≡◌, ap, refl, subst, sym}
use native.Mathlib.Omega.{arith}
use lib.Dec.{eqb, ltb}
use lib.ListN.{length}
use borrow.Author.Tests.{eq-eqb, eqb-true, ltb-true, ne_eqb, not-true}
use Rattle.laws.proofs.Lists.{◌∈◌, all_out, and_both, and_left, and_right}
use Rattle.rules.specs.Lists.{all, keep, pairs}
use Rattle.rules.specs.State.{State, row_of}
use Rattle.terms.specs.Words.{active, commit_at, committed, concurrent, done, num, stamp, start}
use Rattle.terms.specs.declared.Row.{Row}

-- the rows stand by ascending number
abbrev pub Ascend : List Row → Type 0
Ascend rs = pairs (λ a b. ltb (num a) (num b)) rs ≡ true

-- the row of a number is the one that has it
pub row_found : (rs : List Row) {r : Row} → Ascend rs → r ∈ rs → row_of rs (num r) ≡ r
unfolding row_of
row_found (q ∷ rs) {r} h (Memᴰ.head e) = rw (e, eq-eqb (num q) (num q) refl, row_of) refl
row_found (q ∷ rs) {r} h (Memᴰ.tail m) =
    let less : num q < num r = ltb-true _ _ (all_out (λ b. ltb (num q) (num b)) m (and_left _ _ h)) in
    rw (ne_eqb (num q) (num r) (λ e. omega arith), row_of) (row_found rs (and_right (all (λ b. ltb (num q) (num b)) rs) _ h) m)
row_found [] h m = elim m [ ]

-- the rows of a state are known by their numbers, which are positive, and once committed by their commits
pub record Known (s : State) : Type 0 where
  pub ascend : Ascend s.rows
  pub positive : {r : Row} → r ∈ s.rows → 1 ≤ num r
  pub distinct : {q r : Row} → q ∈ s.rows → committed q ≡ true → r ∈ s.rows → committed r ≡ true → done q ≡ done r → q ≡ r

module _ (s : State) (k : Known s) where
  pub row_at : {r : Row} → r ∈ s.rows → row_of s.rows (num r) ≡ r
  row_at m = row_found s.rows k.ascend m

  pub same_row : {q r : Row} → q ∈ s.rows → r ∈ s.rows → num q ≡ num r → q ≡ r
  same_row mq mr e = sym (row_at mq) ∙ ap (row_of s.rows) e ∙ row_at mr

-- two committed transactions are concurrent if neither committed before the other started
pub concurrent-committed : (a b : Row) → committed a ≡ true → committed b ≡ true → concurrent a b ≡ (ltb (start a) (done b) && ltb (start b) (done a))
concurrent-committed a b ca cb =
    let p : active a ≡ false = not-true _ ca in
    let q : active b ≡ false = not-true _ cb in
    λ j. (q j || ltb (start a) (done b)) && (p j || ltb (start b) (done a))

pub row_of-keep : (g : Row → Bool) (t : ℕ) (rs : List Row) → ((r : Row) → r ∈ rs → num r ≡ t → g r ≡ true) → row_of (keep g rs) t ≡ row_of rs t
unfolding row_of
row_of-keep g t [] h = refl
row_of-keep g t (r ∷ rs) h = go (eqb (num r) t) (g r) refl (λ e. h r (Memᴰ.head refl) (eqb-true _ _ e)) (row_of-keep g t rs (λ y m. h y (Memᴰ.tail m)))
  where
    go : (b c : Bool) → eqb (num r) t ≡ b → (eqb (num r) t ≡ true → c ≡ true) → row_of (keep g rs) t ≡ row_of rs t
        → row_of (elim c [ true ↦ r ∷ keep g rs | false ↦ keep g rs ]) t ≡ elim b [ true ↦ r | false ↦ row_of rs t ]
    go true true e f i = rw (e, row_of) refl
    go true false e f i = absurd (false≢true (f e))
    go false true e f i = rw (e, row_of) i
    go false false e f i = i

pub row_of_snoc : (x : Row) (t : ℕ) (rs : List Row) → eqb (num x) t ≡ false → row_of (rs ++ (x ∷ [])) t ≡ row_of rs t
unfolding row_of
row_of_snoc x t [] e = rw (e, row_of) refl
row_of_snoc x t (r ∷ rs) e = go (eqb (num r) t) (row_of_snoc x t rs e)
  where
    go : (b : Bool) → row_of (rs ++ (x ∷ [])) t ≡ row_of rs t → ◌≡◌ {A = Row} (elim b [ true ↦ r | false ↦ row_of (rs ++ (x ∷ [])) t ]) (elim b [ true ↦ r | false ↦ row_of rs t ])
    go true i = refl
    go false i = i

-- two of the rows' list, the later by number, stand so in the list
pub pairs_out : (f : Row → Row → Bool) (xs : List Row) {a b : Row} → Ascend xs → pairs f xs ≡ true → a ∈ xs → b ∈ xs → num a < num b → f a b ≡ true
pairs_out f (x ∷ xs) o h (Memᴰ.head p) (Memᴰ.head q) l = absurd (omega (arith, ap num p, ap num q))
pairs_out f (x ∷ xs) {a} {b} o h (Memᴰ.head p) (Memᴰ.tail m) l = subst (λ (k : Row). f k b ≡ true) (sym p) (all_out (f x) m (and_left _ _ h))
pairs_out f (x ∷ xs) {a} {b} o h (Memᴰ.tail k) (Memᴰ.head q) l =
    absurd (omega (arith, ltb-true (num x) (num a) (all_out (λ b. ltb (num x) (num b)) k (and_left _ _ o)), ap num q))
pairs_out f (x ∷ xs) o h (Memᴰ.tail k) (Memᴰ.tail m) l = pairs_out f xs (and_right (all (λ b. ltb (num x) (num b)) xs) _ o) (and_right (all (f x) xs) _ h) k m l
pairs_out f [] o h k m l = elim k [ ]

-- a commit leaves numbers and starts as they are
pub num-stamp : (t m : ℕ) (r : Row) → num (stamp t m r) ≡ num r
num-stamp t m r = go (eqb (num r) t)
  where
    go : (b : Bool) → num (cond b (commit_at m r) r) ≡ num r
    go true = refl
    go false = refl

pub nums_same : (h : Row → Row) → ((r : Row) → num (h r) ≡ num r) → (rs : List Row) → map num (map h rs) ≡ map num rs
nums_same h e [] = refl
nums_same h e (r ∷ rs) = λ j. e r j ∷ nums_same h e rs j

-- the rows of others are as they were
pub others_same : (m t : ℕ) (rs : List Row) → ((r : Row) → r ∈ rs → eqb (num r) t ≡ false) → map (stamp t m) rs ≡ rs
others_same m t [] h = refl
others_same m t (r ∷ rs) h =
    let p : stamp t m r ≡ r = rw (h r (Memᴰ.head refl)) refl in
    λ j. p j ∷ others_same m t rs (λ q k. h q (Memᴰ.tail k)) j

-- one more is committed
pub one_more : (m t : ℕ) (rs : List Row) {r : Row} → 0 < m → Ascend rs → r ∈ rs → num r ≡ t → active r ≡ true
    → length (keep committed (map (stamp t m) rs)) ≡ suc (length (keep committed rs))
one_more m t (q ∷ rs) {r} l o (Memᴰ.head e) n a =
    let here : eqb (num q) t ≡ true = eq-eqb (num q) t (ap num (sym e) ∙ n) in
    let idle : committed q ≡ false = ap not (ap (λ (k : Row). active k) (sym e) ∙ a) in
    let rest = others_same m t rs (λ k mk. ne_eqb (num k) t (λ (c : num k ≡ t). omega (arith, ltb-true (num q) (num k) (all_out (λ b. ltb (num q) (num b)) mk (and_left _ _ o)), ap num e))) in
    let now : committed (commit_at m q) ≡ true = ap not (ne_eqb m 0 (λ (c : m ≡ 0). omega arith)) in
    (λ j. length (keep committed (cond (here j) (commit_at m q) q ∷ rest j))) ∙ rw (now, keep) (rw (idle, keep) refl)
one_more m t (q ∷ rs) {r} l o (Memᴰ.tail k) n a =
    let other : eqb (num q) t ≡ false = ne_eqb (num q) t (λ (c : num q ≡ t). omega (arith, ltb-true (num q) (num r) (all_out (λ b. ltb (num q) (num b)) k (and_left _ _ o)))) in
    (λ j. length (keep committed (cond (other j) (commit_at m q) q ∷ map (stamp t m) rs)))
    ∙ go (committed q) (one_more m t rs l (and_right (all (λ b. ltb (num q) (num b)) rs) _ o) k n a)
  where
    go : (b : Bool) → length (keep committed (map (stamp t m) rs)) ≡ suc (length (keep committed rs))
        → length {A = Row} (elim b [ true ↦ q ∷ keep committed (map (stamp t m) rs) | false ↦ keep committed (map (stamp t m) rs) ])
        ≡ suc (length {A = Row} (elim b [ true ↦ q ∷ keep committed rs | false ↦ keep committed rs ]))
    go true i = ap suc i
    go false i = i
one_more m t [] l o k n a = elim k [ ]

-- each row is active or committed
pub parted : (rs : List Row) → length (keep active rs) + length (keep committed rs) ≡ length rs
parted [] = omega arith
parted (r ∷ rs) = go (active r) (parted rs)
  where
    go : (b : Bool) → length (keep active rs) + length (keep committed rs) ≡ length rs
        → length {A = Row} (elim b [ true ↦ r ∷ keep active rs | false ↦ keep active rs ]) + length {A = Row} (elim (not b) [ true ↦ r ∷ keep committed rs | false ↦ keep committed rs ]) ≡ suc (length rs)
    go true i = omega arith
    go false i = omega arith

pub pairs-num : (rs : List Row) → Ascend rs → pairs ltb (map num rs) ≡ true
pairs-num [] h = refl
pairs-num (r ∷ rs) h = and_both _ _ (go rs (and_left _ _ h)) (pairs-num rs (and_right (all (λ b. ltb (num r) (num b)) rs) _ h))
  where
    go : (qs : List Row) → all (λ b. ltb (num r) (num b)) qs ≡ true → all (ltb (num r)) (map num qs) ≡ true
    go [] t = refl
    go (q ∷ qs) t = and_both _ _ (and_left (ltb (num r) (num q)) (all (λ b. ltb (num r) (num b)) qs) t) (go qs (and_right (ltb (num r) (num q)) (all (λ b. ltb (num r) (num b)) qs) t))

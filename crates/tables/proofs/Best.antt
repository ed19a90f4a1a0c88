-- One pass over the records finds the version: where the pass leads, and that none is later. Assumes nothing.
use Prim.Native.Nat.{ℕ, zero, suc, ◌≤◌, ◌<◌}
use native.Mathlib.Omega.{arith}
use mathlib.Core.Bool.{Bool, true, false, not, ◌&&◌, false≢true, and-eq-true_iff}
use mathlib.Core.List.Memᴰ
use mathlib.Core.List.{List, [], ◌∷◌}
use mathlib.Core.Logic.{◌⊎◌, inl, inr}
use mathlib.Core.Path.{◌∙◌, ◌≡◌, ap, refl, subst, sym}
use lib.Dec.{eqb, ltb}
use Rattle.std.specs.Prelude.{Option, Some, unwrap_or}
use borrow.Author.Tests.{eq-eqb, eqb-false, eqb-true, lt-ltb, ltb-false, ltb-true, ne_eqb, not-true}
use Rattle.terms.specs.declared.Row.{Row}
use Rattle.terms.specs.declared.Rec.{Rec}
use Rattle.terms.specs.declared.Version.{Version}
use Rattle.terms.specs.Words.{committed, done, is_write, item, num, row, txn, version}
use Rattle.rules.specs.State.{State, is_rec, row_of, word_in, written}
use Rattle.rules.specs.Versions.{base_of, installers, newest, version_at}
use Rattle.laws.proofs.Lists.{◌∈◌, and_both, and_left, and_right, passed}
use Rattle.laws.proofs.Rows.{Known, row_at}
use Rattle.laws.proofs.Versions.{installers_in, installers_out, newest_in, newest-last, recorded_in, recorded_out, version-base, version-kept}
use Rattle.tables.specs.Best.{Best, best, best_of, better, chosen, none, version_in}
use Rattle.tables.proofs.Steps.{word_hit, word_skip}

-- a row that is found and committed stands in the table under its number
pub row_in : (rs : List Row) (t : ℕ) → 0 < done (row_of rs t) → (row_of rs t ∈ rs) × (num (row_of rs t) ≡ t)
unfolding row_of
row_in [] t h = absurd (omega arith)
row_in (r ∷ rs) t h = go (eqb (num r) t) refl h (row_in rs t)
  where
    go : (b : Bool) → eqb (num r) t ≡ b → 0 < done (elim b [ true ↦ r | false ↦ row_of rs t ]) → (0 < done (row_of rs t) → (row_of rs t ∈ rs) × (num (row_of rs t) ≡ t))
        → ((elim b [ true ↦ r | false ↦ row_of rs t ]) ∈ (r ∷ rs)) × (num (elim b [ true ↦ r | false ↦ row_of rs t ]) ≡ t)
    go true e l f = (Memᴰ.head refl, eqb-true _ _ e)
    go false e l f = let u = f l in (Memᴰ.tail u.0, u.1)

module _ (rows : List Row) (i m : ℕ) where
  abbrev at : ℕ → ℕ
  at t = done (row_of rows t)

  -- the record is a write of the item whose writer committed before m
  pub record Fits (x : Rec) : Type 0 where
    pub write : x.kind ≡ 2
    pub item : item x ≡ i
    pub before : at (txn x) < m

  -- ---- one turn, by its test
  pub better_other : (x : Rec) (b : Best) → (is_write x && eqb (item x) i) ≡ false → better rows i m x b ≡ b
  unfolding better
  better_other x b e = rw (e, better) refl

  pub better_no : (x : Rec) (b : Best) → (is_write x && eqb (item x) i) ≡ true → (ltb b.commit (at (txn x)) && ltb (at (txn x)) m) ≡ false → better rows i m x b ≡ b
  unfolding better
  better_no x b e f = rw (e, f, better) refl

  pub better_yes : (x : Rec) (b : Best) → (is_write x && eqb (item x) i) ≡ true → (ltb b.commit (at (txn x)) && ltb (at (txn x)) m) ≡ true → better rows i m x b ≡ best (at (txn x)) (txn x) x.word
  unfolding better
  better_yes x b e f = rw (e, f, better) refl

  -- a turn takes the record or leaves the best as it is, which is then late enough
  data Turn (x : Rec) (b : Best) : Best → Type 0 where
    took : Fits x → b.commit < at (txn x) → Turn x b (best (at (txn x)) (txn x) x.word)
    left : (Fits x → at (txn x) ≤ b.commit) → Turn x b b

  turn : (x : Rec) (b : Best) → Turn x b (better rows i m x b)
  turn x b = first (passed (is_write x && eqb (item x) i))
    where
      second : (is_write x && eqb (item x) i) ≡ true → (ltb b.commit (at (txn x)) && ltb (at (txn x)) m ≡ true) ⊎ (ltb b.commit (at (txn x)) && ltb (at (txn x)) m ≡ false) → Turn x b (better rows i m x b)
      second e (inl f) =
          rw (better_yes x b e f)
          (took (record { write = eqb-true _ _ (and_left _ _ e); item = eqb-true _ _ (and_right (is_write x) _ e); before = ltb-true _ _ (and_right (ltb b.commit (at (txn x))) _ f) }) (ltb-true _ _ (and_left _ _ f)))
      second e (inr f) = rw (better_no x b e f) (left (λ k. late (passed (ltb b.commit (at (txn x)))) k))
        where
          late : (ltb b.commit (at (txn x)) ≡ true) ⊎ (ltb b.commit (at (txn x)) ≡ false) → Fits x → at (txn x) ≤ b.commit
          late (inl g) k = absurd (false≢true (sym f ∙ and_both _ _ g (lt-ltb _ _ k.before)))
          late (inr g) k = ltb-false _ _ g

      first : ((is_write x && eqb (item x) i) ≡ true) ⊎ ((is_write x && eqb (item x) i) ≡ false) → Turn x b (better rows i m x b)
      first (inl e) = second e (passed (ltb b.commit (at (txn x)) && ltb (at (txn x)) m))
      first (inr e) = rw (better_other x b e) (left (λ k. absurd (false≢true (sym e ∙ and_both _ _ (eq-eqb _ _ k.write) (eq-eqb _ _ k.item)))))

  -- where the pass over xs leads from b: it stays, or there is a later one, with its word
  data Ended (xs : List Rec) (b : Best) : Best → Type 0 where
    stays : Ended xs b b
    later : (w : ℕ) → b.commit < at w → at w < m → (x : Rec) → x ∈ xs → Fits x → txn x ≡ w → Ended xs b (best (at w) w (word_in w i 2 xs))

  ended : (xs : List Rec) (b : Best) → Ended xs b (best_of rows i m xs b)
  unfolding best_of
  ended [] b = stays
  ended (x ∷ xs) b = go (turn x b) (ended xs (better rows i m x b))
    where
      skip : (w : ℕ) → (is_rec w i 2 x ≡ true → ⊥) → word_in w i 2 xs ≡ word_in w i 2 (x ∷ xs)
      skip w n = sym (word_skip w i 2 x (is_false (passed (is_rec w i 2 x)) n) xs)
        where
          is_false : {b : Bool} → (b ≡ true) ⊎ (b ≡ false) → (b ≡ true → ⊥) → b ≡ false
          is_false (inl t) n = absurd (n t)
          is_false (inr f) n = f

      go : {c d : Best} → Turn x b c → Ended xs c d → Ended (x ∷ xs) b d
      go (took k l) stays =
          subst (λ (v : ℕ). Ended (x ∷ xs) b (best (at (txn x)) (txn x) v))
          (word_hit (txn x) i 2 x (and_both _ _ (and_both _ _ (eq-eqb (txn x) (txn x) refl) (eq-eqb _ _ k.item)) (eq-eqb _ _ k.write)) xs)
          (later (txn x) l k.before x (Memᴰ.head refl) k refl)
      go (took k l) (later w g h y my ky ey) =
          rw (skip w (λ t. let e = eqb-true (txn x) w (and_left _ _ (and_left _ _ t)) in omega (arith, ap at e))) (later w (omega arith) h y (Memᴰ.tail my) ky ey)
      go (left f) stays = stays
      go (left f) (later w g h y my ky ey) =
          rw (skip w (λ t.
          let u = simp and-eq-true_iff at t in
          let e = eqb-true (txn x) w u.0.0 in
          let l : at (txn x) < m = rw e h in
          let o : at (txn x) ≤ b.commit = f (record { write = eqb-true _ _ u.1; item = eqb-true _ _ u.0.1; before = l }) in
          omega (arith, ap at e))) (later w g h y (Memᴰ.tail my) ky ey)

  -- and none that fits is later than it
  last : (xs : List Rec) (b : Best) → (b.commit ≤ (best_of rows i m xs b).commit) × ((x : Rec) → x ∈ xs → Fits x → at (txn x) ≤ (best_of rows i m xs b).commit)
  unfolding best_of
  last [] b = (omega arith, λ x k f. elim k [ ])
  last (y ∷ ys) b = let r = last ys (better rows i m y b) in go (best_of rows i m ys (better rows i m y b)) (turn y b) r.0 r.1
    where
      go : {c : Best} (d : Best) → Turn y b c → c.commit ≤ d.commit → ((x : Rec) → x ∈ ys → Fits x → at (txn x) ≤ d.commit)
          → (b.commit ≤ d.commit) × ((x : Rec) → x ∈ (y ∷ ys) → Fits x → at (txn x) ≤ d.commit)
      go d (took k l) h f = (omega arith, λ x n g. pick x n g)
        where
          pick : (x : Rec) → x ∈ (y ∷ ys) → Fits x → at (txn x) ≤ d.commit
          pick x (Memᴰ.head e) g = omega (arith, ap (λ (z : Rec). at (txn z)) e)
          pick x (Memᴰ.tail n) g = f x n g
      go d (left o) h f = (h, λ x n g. pick x n g)
        where
          pick : (x : Rec) → x ∈ (y ∷ ys) → Fits x → at (txn x) ≤ d.commit
          pick x (Memᴰ.head e) g = omega (arith, ap (λ (z : Rec). at (txn z)) e, o (rw e at g))
          pick x (Memᴰ.tail n) g = f x n g

-- ---- the version

pub version_in-some : (c w v : ℕ) → 0 < c → version_in (best c w v) ≡ Some (version w v)
version_in-some zero w v h = absurd (omega arith)
version_in-some (suc c) w v h = refl

module _ (s : State) (k : Known s) (i m : ℕ) where
  abbrev newest_one : Row
  newest_one = newest (installers s i m)

  -- an installer has a record that fits
  installed : {r : Row} → r ∈ installers s i m → (x : Rec) × (x ∈ s.recs) × Fits s.rows i m x × (done (row_of s.rows (txn x)) ≡ done r)
  installed {r} mr =
      let u = installers_out s i m mr in
      let v = recorded_out s (num r) i 2 u.3 in
      let e : done (row_of s.rows (txn v.0)) ≡ done r = ap (λ (t : ℕ). done (row_of s.rows t)) v.2 ∙ ap done (row_at s k u.0) in
      (v.0, v.1, record { write = v.4; item = v.3; before = omega (arith, u.2) }, e)

  best-version : chosen s i (best_of s.rows i m s.recs none) ≡ version_at s i m
  best-version = go (ended s.rows i m s.recs none) (last s.rows i m s.recs none).1
    where
      empty : ((x : Rec) → x ∈ s.recs → Fits s.rows i m x → done (row_of s.rows (txn x)) ≤ 0) → (newest_one ≡ row 0 0 0) ⊎ (newest_one ∈ installers s i m) → num newest_one ≡ 0
      empty f (inl e) = ap num e
      empty f (inr mn) =
          let y = installed mn in
          let u = installers_out s i m mn in
          absurd (eqb-false (done newest_one) 0 (not-true _ u.1) (omega (arith, f y.0 y.1 y.2, y.3)))

      some : {r : Row} → r ∈ s.rows → 0 < done r → r ∈ installers s i m → ((x : Rec) → x ∈ s.recs → Fits s.rows i m x → done (row_of s.rows (txn x)) ≤ done r)
          → (newest_one ≡ row 0 0 0) ⊎ (newest_one ∈ installers s i m) → version_at s i m ≡ version (num r) (written s (num r) i)
      some mr l mi f (inl e) = absurd (omega (arith, newest-last (installers s i m) mi, ap done e))
      some {r} mr l mi f (inr mn) =
          let y = installed mn in
          let u = installers_out s i m mn in
          let v = installers_out s i m mi in
          let d : done newest_one ≡ done r = omega (arith, newest-last (installers s i m) mi, f y.0 y.1 y.2, y.3) in
          let n : num newest_one ≡ num r = ap num (k.distinct u.0 u.1 v.0 v.1 d) in
          version-kept s i m (k.positive u.0) ∙ ap (λ (t : ℕ). version t (written s t i)) n

      go : {d : Best} → Ended s.rows i m s.recs none d → ((x : Rec) → x ∈ s.recs → Fits s.rows i m x → done (row_of s.rows (txn x)) ≤ d.commit) → chosen s i d ≡ version_at s i m
      go stays f = sym (version-base s i m (empty f (newest_in (installers s i m))))
      go (later w l h x mx fits e) f =
          let r = row_in s.rows w l in
          let c : committed (row_of s.rows w) ≡ true = ap not (ne_eqb (done (row_of s.rows w)) 0 (λ z. omega arith)) in
          let mi = installers_in s i m r.0 c h (recorded_in s (num (row_of s.rows w)) i 2 mx (e ∙ sym r.1) fits.item fits.write) in
          ap (λ (o : Option Version). unwrap_or o (base_of s i)) (version_in-some (done (row_of s.rows w)) w (written s w i) l)
          ∙ ap (λ (t : ℕ). version t (written s t i)) (sym r.1)
          ∙ sym (some r.0 l mi f (newest_in (installers s i m)))

-- ---- after the pass
module _ (s : State) (k : Known s) (i m : ℕ) where
  pub best-found : (o : Option Version) → o ≡ version_in (best_of s.rows i m s.recs none) → unwrap_or o (base_of s i) ≡ version_at s i m
  best-found o e = ap (λ (o : Option Version). unwrap_or o (base_of s i)) e ∙ best-version s k i m

-- The latest versions of the rows that go, record by record: the loop as one record. Assumes nothing.
use Prim.Native.Nat.{ℕ, ◌+◌, ◌≤◌, ◌<◌}
use native.Mathlib.Decide.{ℕ_discrete}
use native.Mathlib.Numerals.{add-one}
use native.Mathlib.Omega.{arith}
use mathlib.Core.Bool.{Bool, true, false, ◌&&◌, false≢true}
use mathlib.Core.List.Memᴰ
use mathlib.Core.List.{List, [], ◌∷◌, ◌++◌, Memᴰ}
use mathlib.Core.Logic.{◌⊎◌, inl, inr}
use mathlib.Core.Path.{◌≡◌, refl, sym, ap, subst, ◌∙◌}
use lib.ListN.{length, get_or, set, take, replicate, length-set, length-replicate}
use lib.Seq.{take-suc, get_or-set_same, get_or-set_other}
use borrow.Author.Tests.{eq-eqb, eqb-true}
use Rattle.std.proofs.Common.{Some, None, zero, suc, cond, eqb}
use Rattle.rules.specs.Raw.{unpack, used_recs}
use Rattle.terms.specs.declared.Moment.{Moment}
use Rattle.terms.specs.declared.Row.{Row}
use Rattle.terms.specs.Words.{done, txn, item, is_write}
use Rattle.laws.proofs.Lists.{◌∈◌, and_both, and_left, and_right}
use Rattle.graph.specs.Sets.{member}
use Rattle.graph.proofs.Sets.{member-zero}
use Rattle.edges.specs.Blocks.{at}
use Rattle.taking.specs.Leaving.{gone_at, place_of}
use Rattle.taking.specs.Passing.{writes, commit_at, Latest, Entry, Passed}

abbrev pub no_moment : Moment
no_moment = record { 0 = 0 }

none_yet : (n i : ℕ) → get_or (replicate n no_moment) i no_moment ≡ no_moment
none_yet zero i = refl
none_yet (suc n) zero = refl
none_yet (suc n) (suc i) = none_yet n i

-- whether a record's row goes, by what the place of its row is told as
goes : (gone : ℕ) (rows : List Row) (t : ℕ) {o : ℕ} → gone_at gone rows t ≡ Some o → (member gone (place_of rows t) ≡ true) × (place_of rows t ≡ o)
goes gone rows t {o} e = go (member gone (place_of rows t)) e
  where
    go : (b : Bool) → cond b (Some (place_of rows t)) None ≡ Some o → (b ≡ true) × (place_of rows t ≡ o)
    go true e = (refl, cc)
    go false e = absurd (cc)

remains : (gone : ℕ) (rows : List Row) (t : ℕ) → gone_at gone rows t ≡ None → member gone (place_of rows t) ≡ false
remains gone rows t e = go (member gone (place_of rows t)) e
  where
    go : (b : Bool) → cond b (Some (place_of rows t)) None ≡ None → b ≡ false
    go true e = absurd (cc)
    go false e = refl

-- what is known of item i: b is the commit of its latest write
pub data Best (gone : ℕ) (rows : List Row) (qs : List ℕ) (v₀ w₀ v w b : ℕ) (i : ℕ) : Type 0 where
  none : ((q : ℕ) → Memᴰ q qs → writes gone rows i q ≡ true → commit_at rows q ≡ 0) → b ≡ 0 → v ≡ v₀ → w ≡ w₀ → Best gone rows qs v₀ w₀ v w b i
  some : (p : ℕ) → Latest gone rows qs i p → b ≡ commit_at rows p → v ≡ (unpack p).word → w ≡ txn (unpack p) → Best gone rows qs v₀ w₀ v w b i

abbrev pub best_at : List Moment → ℕ → ℕ
best_at best i = (get_or best i no_moment).0

-- k records are looked at, on a board of n items
pub record PassingTo (n gone : ℕ) (rows : List Row) (ps v₀ w₀ v w : List ℕ) (best : List Moment) (k : ℕ) : Type 0 where
  pub values_len : length v ≡ length v₀
  pub writers-len : length w ≡ length w₀
  pub best-len : length best ≡ n
  pub each : (i : ℕ) → Best gone rows (take k ps) (get_or v₀ i 0) (get_or w₀ i 0) (get_or v i 0) (get_or w i 0) (best_at best i) i

no_member : {q : ℕ} → q ∈ [] → ⊥
no_member m = elim m [ ]

pub pass_start : (n gone : ℕ) (rows : List Row) (ps v w : List ℕ) {best : List Moment} → best ≡ replicate n no_moment → PassingTo n gone rows ps v w v w best 0
pass_start n gone rows ps v w {best} e =
    record {
      values_len = refl;
      writers-len = refl;
      best-len = ap length e ∙ length-replicate {A = Moment} n no_moment;
      each = λ i. none (λ q m h. absurd (no_member m)) (ap (λ (l : List Moment). best_at l i) e ∙ ap (λ (m : Moment). m.0) (none_yet n i)) refl refl;
    }

module _ {n gone : ℕ} {rows : List Row} {ps v₀ w₀ v w : List ℕ} {best : List Moment} {k : ℕ} (s : PassingTo n gone rows ps v₀ w₀ v w best k) where
  module _ (l : k < length ps) where
    longer : take (k + 1) ps ≡ take k ps ++ (get_or ps k 0 ∷ [])
    longer = ap (λ (n : ℕ). take n ps) (add-one k) ∙ take-suc ps k 0 l

    mem-next : {q : ℕ} → q ∈ take (k + 1) ps → (q ∈ take k ps) ⊎ (q ≡ get_or ps k 0)
    mem-next {q} m = go (Memᴰ.append_cases (take k ps) (subst (Memᴰ q) longer m))
      where
        go : (q ∈ take k ps) ⊎ (q ∈ (get_or ps k 0 ∷ [])) → (q ∈ take k ps) ⊎ (q ≡ get_or ps k 0)
        go (inl a) = inl a
        go (inr b) = inr (Memᴰ.eq_of_singleton b)

    mem_old : {q : ℕ} → q ∈ take k ps → q ∈ take (k + 1) ps
    mem_old {q} m = subst (Memᴰ q) (sym longer) (Memᴰ.append_left (get_or ps k 0 ∷ []) m)

    mem_new : get_or ps k 0 ∈ take (k + 1) ps
    mem_new = subst (Memᴰ (get_or ps k 0)) (sym longer) (Memᴰ.append_right (take k ps) (Memᴰ.head refl))

    -- an item that the record does not write, or not later
    same_best : {a b c d e : ℕ} (i : ℕ) → (writes gone rows i (get_or ps k 0) ≡ true → commit_at rows (get_or ps k 0) ≤ e) → Best gone rows (take k ps) a b c d e i → Best gone rows (take (k + 1) ps) a b c d e i
    same_best {e = e} i le (none f x y z) = none (λ q m h. go q h (mem-next m)) x y z
      where
        go : (q : ℕ) → writes gone rows i q ≡ true → (q ∈ take k ps) ⊎ (q ≡ get_or ps k 0) → commit_at rows q ≡ 0
        go q h (inl m) = f q m h
        go q h (inr w) = omega (arith, ap (commit_at rows) w, le (subst (λ (r : ℕ). writes gone rows i r ≡ true) w h))
    same_best i le (some r t x y z) = some r (record { here = mem_old t.here; is = t.is; last = λ q m h. go q h (mem-next m) }) x y z
      where
        go : (q : ℕ) → writes gone rows i q ≡ true → (q ∈ take k ps) ⊎ (q ≡ get_or ps k 0) → commit_at rows q ≤ commit_at rows r
        go q h (inl m) = t.last q m h
        go q h (inr w) = omega (arith, ap (commit_at rows) w, le (subst (λ (r : ℕ). writes gone rows i r ≡ true) w h))

    -- an item that the record writes last
    new_best : {a b c d e : ℕ} (i : ℕ) → writes gone rows i (get_or ps k 0) ≡ true → e < commit_at rows (get_or ps k 0) → Best gone rows (take k ps) a b c d e i → Latest gone rows (take (k + 1) ps) i (get_or ps k 0)
    new_best {e = e} i y lt old = record { here = mem_new; is = y; last = λ q m h. go q h old (mem-next m) }
      where
        go : {a b c d : ℕ} (q : ℕ) → writes gone rows i q ≡ true → Best gone rows (take k ps) a b c d e i → (q ∈ take k ps) ⊎ (q ≡ get_or ps k 0) → commit_at rows q ≤ commit_at rows (get_or ps k 0)
        go q h o (inr z) = omega (arith, ap (commit_at rows) z)
        go q h (none f x y z) (inl m) = omega (arith, f q m h)
        go q h (some r t x y z) (inl m) = omega (arith, t.last q m h)

    -- what a write of the record is
    module _ (j : ℕ) (h : writes gone rows j (get_or ps k 0) ≡ true) where
      by : (member gone (place_of rows (txn (unpack (get_or ps k 0)))) && is_write (unpack (get_or ps k 0))) ≡ true
      by = and_left _ (eqb (item (unpack (get_or ps k 0))) j) h

      of : item (unpack (get_or ps k 0)) ≡ j
      of = eqb-true _ _ (and_right (member gone (place_of rows (txn (unpack (get_or ps k 0)))) && is_write (unpack (get_or ps k 0))) _ h)

    pass_by : ((j : ℕ) → writes gone rows j (get_or ps k 0) ≡ true → commit_at rows (get_or ps k 0) ≤ best_at best j) → PassingTo n gone rows ps v₀ w₀ v w best (k + 1)
    pass_by le = record { values_len = s.values_len; writers-len = s.writers-len; best-len = s.best-len; each = λ j. same_best j (le j) (s.each j) }

    pub pass_over : gone_at gone rows (txn (unpack (get_or ps k 0))) ≡ None → PassingTo n gone rows ps v₀ w₀ v w best (k + 1)
    pass_over e = pass_by (λ j h. absurd (false≢true (sym (remains gone rows (txn (unpack (get_or ps k 0))) e) ∙ and_left _ (is_write (unpack (get_or ps k 0))) (by j h))))

    pub pass_read : is_write (unpack (get_or ps k 0)) ≡ false → PassingTo n gone rows ps v₀ w₀ v w best (k + 1)
    pass_read e = pass_by (λ j h. absurd (false≢true (sym e ∙ and_right (member gone (place_of rows (txn (unpack (get_or ps k 0))))) _ (by j h))))

    pub pass_low : (i : ℕ) {o : ℕ} → item (unpack (get_or ps k 0)) ≡ i → gone_at gone rows (txn (unpack (get_or ps k 0))) ≡ Some o → done (at rows o) ≤ best_at best i → PassingTo n gone rows ps v₀ w₀ v w best (k + 1)
    pass_low i e here low =
        pass_by (λ j h. subst (λ (b : ℕ). commit_at rows (get_or ps k 0) ≤ best_at best b) (sym e ∙ of j h)
        (subst (λ (a : ℕ). done (at rows a) ≤ best_at best i) (sym (goes gone rows (txn (unpack (get_or ps k 0))) here).1) low))

    pub pass_put : (i : ℕ) {o : ℕ} {c : Moment} {x t : ℕ} → item (unpack (get_or ps k 0)) ≡ i → i < n → length v₀ ≡ n → length w₀ ≡ n
        → gone_at gone rows (txn (unpack (get_or ps k 0))) ≡ Some o → is_write (unpack (get_or ps k 0)) ≡ true → c ≡ (at rows o).commit → best_at best i < c.0
        → x ≡ (unpack (get_or ps k 0)).word → t ≡ txn (unpack (get_or ps k 0)) → PassingTo n gone rows ps v₀ w₀ (set v i x) (set w i t) (set best i c) (k + 1)
    pass_put i {o} {c} {x} {t} e li lv lw here wr told lt ex et =
        record {
          values_len = length-set v i x ∙ s.values_len;
          writers-len = length-set w i t ∙ s.writers-len;
          best-len = length-set best i c ∙ s.best-len;
          each = λ j. go j (ℕ_discrete i j);
        }
      where
        ec : c.0 ≡ commit_at rows (get_or ps k 0)
        ec = ap (λ (m : Moment). m.0) told ∙ ap (λ (a : ℕ). done (at rows a)) (sym (goes gone rows (txn (unpack (get_or ps k 0))) here).1)

        y : writes gone rows i (get_or ps k 0) ≡ true
        y = and_both _ _ (and_both _ _ (goes gone rows (txn (unpack (get_or ps k 0))) here).0 wr) (eq-eqb _ _ e)

        go : (j : ℕ) → Dec (i ≡ j) → Best gone rows (take (k + 1) ps) (get_or v₀ j 0) (get_or w₀ j 0) (get_or (set v i x) j 0) (get_or (set w i t) j 0) (best_at (set best i c) j) j
        go j (yes q) =
            rw (← q, ap (λ (m : Moment). m.0) (get_or-set_same best i c no_moment (omega (arith, s.best-len))), get_or-set_same v i x 0 (omega (arith, s.values_len)), get_or-set_same w i t 0 (omega (arith, s.writers-len)))
            (some (get_or ps k 0) (new_best i y (omega (arith, ec)) (s.each i)) ec ex et)
        go j (no n) =
            rw (ap (λ (m : Moment). m.0) (get_or-set_other best i j c no_moment (λ z. n (sym z))), get_or-set_other w i j t 0 (λ z. n (sym z)), get_or-set_other v i j x 0 (λ z. n (sym z)))
            (same_best j (λ h. absurd (n (sym e ∙ of j h))) (s.each j))

  pub pass_end : used_recs ps ≡ take k ps → Passed gone rows ps v₀ w₀ v w
  pass_end us = record { values_len = s.values_len; writers-len = s.writers-len; entry = λ i. go i (s.each i) }
    where
      go : (i : ℕ) → Best gone rows (take k ps) (get_or v₀ i 0) (get_or w₀ i 0) (get_or v i 0) (get_or w i 0) (best_at best i) i → Entry gone rows (used_recs ps) (get_or v₀ i 0) (get_or w₀ i 0) (get_or v i 0) (get_or w i 0) i
      go i (none f x y z) = rw us (Entry.kept f y z)
      go i (some r t x y z) = rw us (Entry.passed r t y z)

-- where no row goes, nothing passes
pub pass_none : (gone : ℕ) (rows : List Row) (ps v w : List ℕ) → gone ≡ 0 → Passed gone rows ps v w v w
pass_none gone rows ps v w e =
    record { values_len = refl; writers-len = refl; entry = λ i. Entry.kept (λ q m h. absurd (false≢true (sym (ap (λ (g : ℕ). member g (place_of rows (txn (unpack q)))) e ∙ member-zero _) ∙ and_left _ (is_write (unpack q)) (and_left _ (eqb (item (unpack q)) i) h)))) refl refl }

-- Where the records stand by transaction and each has a row, the block of a row is its records. Assumes nothing.
use Prim.Native.Nat.{ℕ, zero, suc, ◌+◌, ◌≤◌, ◌<◌}
use native.Mathlib.Decide.{dec_lt, ℕ_discrete}
use native.Mathlib.Omega.{arith}
use mathlib.Core.Bool.{Bool, true, false, not, ◌&&◌}
use mathlib.Core.List.Memᴰ
use mathlib.Core.List.{List, [], ◌∷◌, Memᴰ}
use mathlib.Core.Path.{◌≡◌, refl, sym, ap, subst, ◌∙◌}
use lib.Dec.{eqb, ltb, leb}
use lib.ListN.{length, drop, length-drop}
use lib.Seq.{drop-drop}
use borrow.Author.Tests.{eqb-true, eqb-false, ne_eqb, ltb-true, le-leb, leb-true}
use Rattle.rules.specs.Lists.{all, keep, pairs}
use Rattle.rules.specs.Raw.{unpack, used_recs, zero_row}
use Rattle.rules.specs.State.{State}
use Rattle.terms.specs.Words.{num, txn, key}
use Rattle.terms.specs.declared.Row.{Row}
use Rattle.lists.specs.Tables.{first_index}
use Rattle.lists.proofs.Untils.{stop}
use Rattle.lists.proofs.Keeps.{put}
use Rattle.laws.proofs.Lists.{◌∈◌, all_in, all_out, and_both, and_left, and_right, both_ways, keep-keep, keep_out, keep_same, pairs-keep}
use Rattle.laws.proofs.Keeping.{keep_all, keep-none, pairs_weaken}
use Rattle.laws.proofs.Raw.{unpack_packs}
use Rattle.theory.proofs.Facts.{Facts}
use Rattle.edges.specs.Blocks.{at, foreign, front, begin, block}
use Rattle.edges.specs.Told.{Holds}
use Rattle.edges.proofs.Indexes.{first_most}
use Rattle.edges.proofs.Places.{in_place, pairs_mapped, place_in, first_until, until-until}
use Rattle.edges.proofs.Rowed.{at_of, rises}

abbrev pub own : ℕ → ℕ → Bool
own t p = eqb (txn (unpack p)) t

-- ---- a list of records by transaction, none before t's: first t's, and then the others
abbrev pub Grouped : List ℕ → Type 0
Grouped ps = pairs (λ p q. leb (txn (unpack p)) (txn (unpack q))) ps ≡ true

abbrev is_from : ℕ → ℕ → Bool
is_from t p = leb t (txn (unpack p))

later : (t p : ℕ) (ps : List ℕ) → Grouped (p ∷ ps) → is_from t p ≡ true → own t p ≡ false → (q : ℕ) → q ∈ ps → own t q ≡ false
later t p ps g f n q m =
    let a = leb-true t (txn (unpack p)) f in
    let b = leb-true (txn (unpack p)) (txn (unpack q)) (all_out (λ r. leb (txn (unpack p)) (txn (unpack r))) m (and_left _ _ g)) in
    let c = eqb-false (txn (unpack p)) t n in
    ne_eqb (txn (unpack q)) t (λ (e : txn (unpack q) ≡ t). c (omega arith))

pub span_front : (t : ℕ) (ps : List ℕ) → Grouped ps → all (is_from t) ps ≡ true → front t ps ≡ keep (own t) ps
span_front t [] g f = refl
span_front t (p ∷ ps) g f = go (own t p) refl (span_front t ps (and_right (all (λ r. leb (txn (unpack p)) (txn (unpack r))) ps) _ g) (and_right (is_from t p) _ f))
  where
    go : (b : Bool) → own t p ≡ b → front t ps ≡ keep (own t) ps → stop (not b) p (front t ps) ≡ put b p (keep (own t) ps)
    go true e r = ap (λ (l : List ℕ). p ∷ l) r
    go false e r = sym (keep-none (own t) ps (later t p ps g (and_left _ _ f) e))

pub span_rest : (t : ℕ) (ps : List ℕ) → Grouped ps → all (is_from t) ps ≡ true → drop (first_index (foreign t) ps) ps ≡ keep (foreign t) ps
unfolding first_index
span_rest t [] g f = refl
span_rest t (p ∷ ps) g f = go (own t p) refl (span_rest t ps (and_right (all (λ r. leb (txn (unpack p)) (txn (unpack r))) ps) _ g) (and_right (is_from t p) _ f))
  where
    go : (b : Bool) → own t p ≡ b → drop (first_index (foreign t) ps) ps ≡ keep (foreign t) ps
        → drop (mathlib.Core.Bool.cond (not b) zero (suc (first_index (foreign t) ps))) (p ∷ ps) ≡ put (not b) p (keep (foreign t) ps)
    go true e r = r
    go false e r = ap (λ (l : List ℕ). p ∷ l) (sym (keep_all (foreign t) ps (λ q m. ap not (later t p ps g (and_left _ _ f) e q m))))

-- ---- the tables hold a state that passes the tests
module _ (rs : List Row) (ps : List ℕ) (s : State) (v : Facts s) (holds : Holds rs ps s) where
  abbrev us : List ℕ
  us = used_recs ps

  -- the number of the row at a place
  abbrev nth_num : ℕ → ℕ
  nth_num i = num (at s.rows i)

  pub positive : (i : ℕ) → i < length s.rows → 1 ≤ nth_num i
  positive i l = (v.numbers (place_in zero_row s.rows i l)).0

  -- each record has a row
  pub owner_place : (p : ℕ) → p ∈ us → (i : ℕ) × (i < length s.rows) × (nth_num i ≡ txn (unpack p))
  owner_place p m =
      let u = v.owner (subst (Memᴰ (unpack p)) (sym holds.recs) (Memᴰ.map unpack m)) in
      let w = in_place zero_row s.rows u.1 in
      (w.0, w.1, ap num w.2 ∙ u.2)

  pub grouped : Grouped us
  grouped =
      pairs_weaken (λ p q. ltb (key (unpack p)) (key (unpack q))) (λ p q. leb (txn (unpack p)) (txn (unpack q))) us
      (λ p q mp mq h. le-leb (txn (unpack p)) (txn (unpack q)) (omega (arith, ltb-true (key (unpack p)) (key (unpack q)) h, (unpack_packs p).item-fits, (unpack_packs p).kind_fits, (unpack_packs q).item-fits, (unpack_packs q).kind_fits)))
      (sym (pairs_mapped unpack (λ x y. ltb (key x) (key y)) us) ∙ ap (pairs (λ x y. ltb (key x) (key y))) (sym holds.recs) ∙ v.sorted)

  -- a scan for what is not t's stops at the unused records
  unused : (t : ℕ) → 1 ≤ t → (p : ℕ) → eqb p 0 ≡ true → foreign t p ≡ true
  unused t h p e = ap not (ne_eqb (txn (unpack p)) t (λ (q : txn (unpack p) ≡ t). omega (arith, eqb-true p 0 e)))

  -- from where a block begins on stand the records of its row and of later ones
  record From-here (a : ℕ) : Type 0 where
    pub within : begin rs ps a ≤ length us
    pub rest : drop (begin rs ps a) us ≡ keep (is_from (nth_num a)) us

  front-is : (a : ℕ) → a < length s.rows → From-here a → block rs ps a ≡ keep (own (nth_num a)) us
  front-is a l h =
      ap (λ (r : Row). front (num r) (drop (begin rs ps a) ps)) (at_of rs s holds.rows a l)
      ∙ until-until (λ p. eqb p 0) (foreign (nth_num a)) (unused (nth_num a) (positive a l)) (begin rs ps a) ps h.within
      ∙ ap (front (nth_num a)) h.rest
      ∙ span_front (nth_num a) (keep (is_from (nth_num a)) us) (pairs-keep _ (is_from (nth_num a)) us grouped) (all_in (is_from (nth_num a)) _ (λ p m. (keep_out (is_from (nth_num a)) us m).1))
      ∙ keep-keep (own (nth_num a)) (is_from (nth_num a)) us
      ∙ keep_same _ _ us (λ p m. both_ways _ _ (and_right (is_from (nth_num a) p) _) (λ e. and_both _ _ (le-leb (nth_num a) (txn (unpack p)) (omega (arith, eqb-true (txn (unpack p)) (nth_num a) e))) e))

  from_next : (a : ℕ) → suc a < length s.rows → From-here a → From-here (suc a)
  unfolding begin
  from_next a l h =
      record {
        within = rw step (omega (arith, h.within, first_most (foreign (nth_num a)) (drop (begin rs ps a) us), length-drop (begin rs ps a) us));
        rest = ap (λ (n : ℕ). drop n us) step ∙ sym (drop-drop (first_index (foreign (nth_num a)) (drop (begin rs ps a) us)) (begin rs ps a) us)
            ∙ ap (λ (l : List ℕ). drop (first_index (foreign (nth_num a)) l) l) h.rest
            ∙ span_rest (nth_num a) (keep (is_from (nth_num a)) us) (pairs-keep _ (is_from (nth_num a)) us grouped) (all_in (is_from (nth_num a)) _ (λ p m. (keep_out (is_from (nth_num a)) us m).1))
            ∙ keep-keep (foreign (nth_num a)) (is_from (nth_num a)) us
            ∙ keep_same _ _ us (λ p m. both_ways _ _ (up p m) (down p));
      }
    where
      la : a < length s.rows
      la = omega arith

      step : begin rs ps (suc a) ≡ begin rs ps a + first_index (foreign (nth_num a)) (drop (begin rs ps a) us)
      step =
          ap (λ (r : Row). begin rs ps a + first_index (foreign (num r)) (drop (begin rs ps a) ps)) (at_of rs s holds.rows a la)
          ∙ ap (λ (n : ℕ). begin rs ps a + n) (first_until (λ p. eqb p 0) (foreign (nth_num a)) (unused (nth_num a) (positive a la)) (begin rs ps a) ps h.within)

      up : (p : ℕ) → p ∈ us → (is_from (nth_num a) p && foreign (nth_num a) p) ≡ true → is_from (nth_num (suc a)) p ≡ true
      up p m e =
          let o = owner_place p m in
          let x = leb-true (nth_num a) (txn (unpack p)) (and_left _ _ e) in
          let y = eqb-false (txn (unpack p)) (nth_num a) (borrow.Author.Tests.not-true _ (and_right (is_from (nth_num a) p) _ e)) in
          le-leb (nth_num (suc a)) (txn (unpack p)) (go p o x y (dec_lt a o.0) (ℕ_discrete (suc a) o.0))
        where
          go : (p : ℕ) (o : (i : ℕ) × (i < length s.rows) × (nth_num i ≡ txn (unpack p))) → nth_num a ≤ txn (unpack p) → (txn (unpack p) ≡ nth_num a → ⊥) → Dec (a < o.0) → Dec (suc a ≡ o.0) → nth_num (suc a) ≤ txn (unpack p)
          go p o x y (no n) d = absurd (early (ℕ_discrete o.0 a))
            where
              early : Dec (o.0 ≡ a) → ⊥
              early (yes q) = y (sym o.2 ∙ ap nth_num q)
              early (no q) = let k = rises s v o.0 a (omega arith) la in omega (arith, o.2)
          go p o x y (yes h) (yes q) = omega (arith, ap nth_num q, o.2)
          go p o x y (yes h) (no q) = omega (arith, rises s v (suc a) o.0 (omega arith) o.1, o.2)

      down : (p : ℕ) → is_from (nth_num (suc a)) p ≡ true → (is_from (nth_num a) p && foreign (nth_num a) p) ≡ true
      down p e =
          let x = leb-true (nth_num (suc a)) (txn (unpack p)) e in
          let k = rises s v a (suc a) (omega arith) l in
          and_both _ _ (le-leb (nth_num a) (txn (unpack p)) (omega arith)) (ap not (ne_eqb (txn (unpack p)) (nth_num a) (λ (q : txn (unpack p) ≡ nth_num a). omega arith)))

  from_here : (a : ℕ) → a < length s.rows → From-here a
  unfolding begin
  from_here zero l = record { within = omega arith; rest = sym (keep_all (is_from (nth_num 0)) us (λ p m. le-leb _ _ (first p (owner_place p m)))) }
    where
      first : (p : ℕ) → (i : ℕ) × (i < length s.rows) × (nth_num i ≡ txn (unpack p)) → nth_num 0 ≤ txn (unpack p)
      first p (zero, h, e) = omega arith
      first p (suc i, h, e) = omega (arith, rises s v 0 (suc i) (omega arith) h)
  from_here (suc a) l = from_next a l (from_here a (omega arith))

  pub block-is : (a : ℕ) → a < length s.rows → block rs ps a ≡ keep (own (nth_num a)) us
  block-is a l = front-is a l (from_here a l)

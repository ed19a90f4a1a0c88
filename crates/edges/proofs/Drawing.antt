-- Row after row: the index of those before, when they ended, and the edges between them. Assumes nothing.
use Prim.Native.Nat.{ℕ, suc, ◌+◌, ◌-◌, ◌≤◌, ◌<◌}
use native.Mathlib.Decide.{ℕ_discrete}
use native.Mathlib.Numerals.{add-one}
use native.Mathlib.Omega.{arith}
use mathlib.Core.Bool.{Bool, true, false, not, cond, ◌&&◌, ◌||◌, or-false, and-false, and-true, false≢true}
use mathlib.Core.List.{List}
use mathlib.Core.Logic.{◌⊎◌, inl, inr}
use mathlib.Core.Path.{◌≡◌, refl, sym, ap, subst, ◌∙◌}
use lib.Dec.{eqb, ltb}
use lib.ListN.{length, get_or, set, drop, take, replicate, length-set, length-replicate}
use Rattle.std.proofs.lemmas.List.{drop-drop}
use lib.Seq.{get_or-set_same, get_or-set_other}
use borrow.Author.Tests.{eq-eqb, ne_eqb, lt-ltb, le-ltb, ltb-true}
use Rattle.rules.specs.Lists.{any}
use Rattle.rules.specs.Raw.{unpack}
use Rattle.terms.specs.Words.{num, start, done, committed, item, is_write}
use Rattle.terms.specs.declared.Row.{Row}
use Rattle.lists.specs.Tables.{first_index}
use Rattle.laws.proofs.Lists.{and_left, passed}
use Rattle.graph.specs.Sets.{member}
use Rattle.graph.proofs.Sets.{member-zero}
use Rattle.edges.specs.Blocks.{at, used_count, foreign, front, begin, block, has, hits, marked}
use Rattle.edges.specs.Times.{ended, over, Rising}
use Rattle.edges.specs.Drawn.{meets, met_by, Met, Drawn}
use Rattle.edges.proofs.Indexes.{first_most, has_zeros, ltb_self, part_end}
use Rattle.edges.proofs.Places.{any_gated}
use Rattle.edges.proofs.Timings.{placed_other, placed_self, placed-not, placed_skip, placed-zero}

-- the row at i touched what the one at j wrote; it wrote what that one touched
abbrev pub touch : ℕ → List Row → List ℕ → ℕ → ℕ → Bool
touch w rs ps i j = meets w (marked w rs ps) (block rs ps i) j

abbrev pub touch_by : ℕ → List Row → List ℕ → ℕ → ℕ → Bool
touch_by w rs ps i j = met_by w (marked w rs ps) (block rs ps i) j

-- the edge from i to j, by which of the two started first
abbrev pub linked : ℕ → List Row → List ℕ → ℕ → ℕ → Bool
linked w rs ps i j = (ltb j i && (touch w rs ps i j && not (over rs j i))) || (ltb i j && (touch_by w rs ps j i || (touch w rs ps j i && over rs i j)))

-- the first a rows are drawn, and `rest` is left of the records. `before` has only rows that ended before whatever follows
pub record Drawing (w n : ℕ) (rs : List Row) (ps tab ends g rest : List ℕ) (before a : ℕ) : Type 0 where
  pub tab-len : length tab ≡ w + w
  pub ends_len : length ends ≡ n
  pub g_len : length g ≡ n
  pub place : rest ≡ drop (begin rs ps a) ps
  pub index : (e j : ℕ) → has tab e j ≡ (ended rs a j && marked w rs ps e j)
  pub commits : (j : ℕ) → ended rs a j ≡ true → get_or ends j 0 ≡ done (at rs j)
  pub early : Rising rs → (j : ℕ) → member before j ≡ true → (i : ℕ) → a ≤ i → i < used_count rs → over rs j i ≡ true
  pub is : Rising rs → (i j : ℕ) → has g i j ≡ ((ended rs a i && ended rs a j) && linked w rs ps i j)

pub draw_none : (w n : ℕ) (rs : List Row) (ps : List ℕ) {tab ends g : List ℕ} → tab ≡ replicate (w + w) 0 → length ends ≡ n → g ≡ replicate n 0 → Drawing w n rs ps tab ends g ps 0 0
unfolding begin
draw_none w n rs ps {tab} {ends} {g} zt le zg =
    record {
      tab-len = ap length zt ∙ length-replicate {A = ℕ} (w + w) 0;
      ends_len = le;
      g_len = ap length zg ∙ length-replicate {A = ℕ} n 0;
      place = refl;
      index = λ e j. ap (λ (t : List ℕ). has t e j) zt ∙ has_zeros (w + w) e j ∙ sym (ap (λ (b : Bool). b && marked w rs ps e j) (placed-zero committed rs j));
      commits = λ j h. absurd (false≢true (sym (placed-zero committed rs j) ∙ h));
      early = λ r j m. absurd (false≢true (sym (member-zero j) ∙ m));
      is = λ r i j. ap (λ (t : List ℕ). has t i j) zg ∙ has_zeros n i j ∙ sym (ap (λ (b : Bool). (b && ended rs 0 j) && linked w rs ps i j) (placed-zero committed rs i));
    }

module _ {w n : ℕ} {rs : List Row} {ps tab ends g rest : List ℕ} {before a : ℕ} (s : Drawing w n rs ps tab ends g rest before a) where
  begin-next : begin rs ps (suc a) ≡ begin rs ps a + first_index (foreign (num (at rs a))) (drop (begin rs ps a) ps)
  unfolding begin
  begin-next = refl

  -- the r records of the row at a, and what is left after them
  module _ {t r : ℕ} {rest' : List ℕ} (et : t ≡ num (at rs a)) (er : r ≡ first_index (foreign t) rest) (next : rest' ≡ take (length rest - r) (drop r rest)) where
    place_next : rest' ≡ drop (begin rs ps (a + 1)) ps
    place_next =
        next ∙ part_end r rest (omega (arith, er, first_most (foreign t) rest)) ∙ ap (drop r) s.place ∙ drop-drop r (begin rs ps a) ps
        ∙ ap (λ (k : ℕ). drop k ps) ((λ q. begin rs ps a + er q) ∙ (λ q. begin rs ps a + first_index (foreign (et q)) (s.place q)) ∙ sym begin-next ∙ ap (begin rs ps) (sym (add-one a)))

    mine : front t rest ≡ block rs ps a
    mine = λ q. front (et q) (s.place q)

    -- an active row
    pub draw_skip : committed (at rs a) ≡ false → Drawing w n rs ps tab ends g rest' before (a + 1)
    draw_skip c =
        record {
          tab-len = s.tab-len;
          ends_len = s.ends_len;
          g_len = s.g_len;
          place = place_next;
          index = λ e j. s.index e j ∙ ap (λ (b : Bool). b && marked w rs ps e j) (sym (skip j));
          commits = λ j h. s.commits j (sym (skip j) ∙ h);
          early = λ ρ j m i l. s.early ρ j m i (omega arith);
          is = λ ρ i j. s.is ρ i j ∙ (λ q. (sym (skip i) q && sym (skip j) q) && linked w rs ps i j);
        }
      where
        skip : (j : ℕ) → ended rs (a + 1) j ≡ ended rs a j
        skip j = placed_skip committed rs a c j

    -- a committed one: x and y are the rows that it meets, and all the ones known to have ended before its start
    module _ {d m : ℕ} {new g' : List ℕ} (x y all : ℕ) (c : committed (at rs a) ≡ true) (la : a < n) (used : a < used_count rs) (ed : d ≡ done (at rs a)) (em : m ≡ start (at rs a))
        (met : Met w a t rest tab new r x y) (past : (j : ℕ) → member all j ≡ (member before j || (member x j && ltb (get_or (set ends a d) j 0) m))) (dr : Drawn x y all a g g') where
      self : ended rs (a + 1) a ≡ true
      self = placed_self committed rs a ∙ c

      other : (j : ℕ) → (a ≡ j → ⊥) → ended rs (a + 1) j ≡ ended rs a j
      other j d = placed_other committed rs a j d

      -- what is met, of the rows before
      met_is : (f : Bool → ℕ → Bool) → ((p : ℕ) → f false p ≡ false) → (j : ℕ) → (not (eqb a j) && any (f (ended rs a j)) (front t rest)) ≡ (ended rs a j && any (f true) (block rs ps a))
      met_is f e j = (λ q. not (eqb a j) && any (f (ended rs a j)) (mine q)) ∙ ap (λ (b : Bool). not (eqb a j) && b) (any_gated f e (ended rs a j) (block rs ps a)) ∙ go (ℕ_discrete a j)
        where
          go : Dec (a ≡ j) → (not (eqb a j) && (ended rs a j && any (f true) (block rs ps a))) ≡ (ended rs a j && any (f true) (block rs ps a))
          go (yes q) = subst (λ (i : ℕ). (not (eqb a i) && (ended rs a i && any (f true) (block rs ps a))) ≡ (ended rs a i && any (f true) (block rs ps a))) q
              (ap (λ (b : Bool). not (eqb a a) && (b && any (f true) (block rs ps a))) (placed-not committed rs a) ∙ and-false (not (eqb a a))
              ∙ sym (ap (λ (b : Bool). b && any (f true) (block rs ps a)) (placed-not committed rs a)))
          go (no d) = ap (λ (b : Bool). not b && (ended rs a j && any (f true) (block rs ps a))) (ne_eqb a j d)

      touched-is : (j : ℕ) → member x j ≡ (ended rs a j && touch w rs ps a j)
      touched-is j =
          met.touched j ∙ (λ q. not (eqb a j) && any (λ p. s.index (w + item (unpack p)) j q) (front t rest))
          ∙ met_is (λ b p. b && marked w rs ps (w + item (unpack p)) j) (λ p. refl) j

      by-is : (j : ℕ) → member y j ≡ (ended rs a j && touch_by w rs ps a j)
      by-is j =
          met.by j ∙ (λ q. not (eqb a j) && any (λ p. is_write (unpack p) && (s.index (item (unpack p)) j q || s.index (w + item (unpack p)) j q)) (front t rest))
          ∙ met_is (λ b p. is_write (unpack p) && ((b && marked w rs ps (item (unpack p)) j) || (b && marked w rs ps (w + item (unpack p)) j))) (λ p. and-false (is_write (unpack p))) j

      -- where a row is met, it ended before a's start, or it is not in the set
      first : (j : ℕ) → ended rs a j ≡ true → j < a
      first j h = ltb-true j a (and_left _ _ h)

      ends_other : (j : ℕ) → (a ≡ j → ⊥) → get_or (set ends a d) j 0 ≡ get_or ends j 0
      ends_other j z = get_or-set_other ends a j d 0 (λ q. z (sym q))

      judged : Rising rs → (j : ℕ) → member x j ≡ true → member all j ≡ over rs j a
      judged ρ j h = past j ∙ (λ q. member before j || (h q && ltb (when q) (em q))) ∙ go (passed (member before j))
        where
          e : ended rs a j ≡ true
          e = and_left _ _ (sym (touched-is j) ∙ h)

          when : get_or (set ends a d) j 0 ≡ done (at rs j)
          when = ends_other j (λ z. omega (arith, first j e)) ∙ s.commits j e

          go : (member before j ≡ true) ⊎ (member before j ≡ false) → (member before j || over rs j a) ≡ over rs j a
          go (inl b) = ap (λ (b : Bool). b || over rs j a) b ∙ sym (s.early ρ j b a (omega arith) used)
          go (inr b) = ap (λ (b : Bool). b || over rs j a) b

      early_next : Rising rs → (j : ℕ) → member all j ≡ true → (i : ℕ) → a + 1 ≤ i → i < used_count rs → over rs j i ≡ true
      early_next ρ j h i l u = go (passed (member before j)) (passed (member x j))
        where
          go : (member before j ≡ true) ⊎ (member before j ≡ false) → (member x j ≡ true) ⊎ (member x j ≡ false) → over rs j i ≡ true
          go (inl b) q = s.early ρ j b i (omega arith) u
          go (inr b) (inl f) = lt-ltb (done (at rs j)) (start (at rs i)) (omega (arith, ltb-true (done (at rs j)) (start (at rs a)) (sym (judged ρ j f) ∙ h), ρ a i (omega arith) u))
          go (inr b) (inr f) = absurd (false≢true (sym (past j ∙ (λ q. b q || (f q && ltb (get_or (set ends a d) j 0) m))) ∙ h))

      -- a test of whether a met row ended before
      by_time : Rising rs → (f : Bool → Bool) (j : ℕ) → (member x j && f (member all j)) ≡ ((ended rs a j && touch w rs ps a j) && f (over rs j a))
      by_time ρ f j = go (passed (member x j)) ∙ ap (λ (b : Bool). b && f (over rs j a)) (touched-is j)
        where
          go : (member x j ≡ true) ⊎ (member x j ≡ false) → (member x j && f (member all j)) ≡ (member x j && f (over rs j a))
          go (inl h) = ap (λ (b : Bool). member x j && f b) (judged ρ j h)
          go (inr h) = rw h refl

      is-next : Rising rs → (i j : ℕ) → has g' i j ≡ ((ended rs (a + 1) i && ended rs (a + 1) j) && linked w rs ps i j)
      is-next ρ i j = dr.is i j ∙ go i j (ℕ_discrete a i) (ℕ_discrete a j)
        where
          is_from : ℕ → Bool
          is_from i = member y i || (member x i && member all i)

          from_is : (i : ℕ) → is_from i ≡ ((ended rs a i && touch_by w rs ps a i) || ((ended rs a i && touch w rs ps a i) && over rs i a))
          from_is i = λ q. by-is i q || by_time ρ (λ b. b) i q

          -- no edge to a is drawn yet
          none : (i : ℕ) → has g i a ≡ false
          none i = s.is ρ i a ∙ ap (λ (b : Bool). (ended rs a i && b) && linked w rs ps i a) (placed-not committed rs a) ∙ ap (λ (b : Bool). b && linked w rs ps i a) (and-false (ended rs a i))

          up : (e t o z l r : Bool) → (e ≡ true → l ≡ true) → (e ≡ true → r ≡ false) → ((e && t) && not o) ≡ (e && ((l && (t && not o)) || (r && z)))
          up true t o z l r hl hr = rw (hl refl, hr refl) (sym (or-false (t && not o)))
          up false t o z l r hl hr = refl

          down : (e b t o z l r : Bool) → (e ≡ true → l ≡ true) → (e ≡ true → r ≡ false) → ((e && b) || ((e && t) && o)) ≡ ((e && true) && ((r && z) || (l && (b || (t && o)))))
          down true b t o z l r hl hr = rw (hl refl, hr refl) refl
          down false b t o z l r hl hr = refl

          go : (i j : ℕ) → Dec (a ≡ i) → Dec (a ≡ j)
              → (cond (eqb a i) (member x j && not (member all j)) (has g i j) || (is_from i && eqb a j)) ≡ ((ended rs (a + 1) i && ended rs (a + 1) j) && linked w rs ps i j)
          go i j (yes p) (yes q) =
              subst (λ (u : ℕ). (cond (eqb a u) (member x j && not (member all j)) (has g u j) || (is_from u && eqb a j)) ≡ ((ended rs (a + 1) u && ended rs (a + 1) j) && linked w rs ps u j)) p
              (subst (λ (u : ℕ). (cond (eqb a a) (member x u && not (member all u)) (has g a u) || (is_from a && eqb a u)) ≡ ((ended rs (a + 1) a && ended rs (a + 1) u) && linked w rs ps a u)) q
              (rw (eq-eqb a a refl, by_time ρ not a, from_is a, placed-not committed rs a, ltb_self a) (sym (and-false (ended rs (a + 1) a && ended rs (a + 1) a)))))
          go i j (yes p) (no d) =
              subst (λ (u : ℕ). (cond (eqb a u) (member x j && not (member all j)) (has g u j) || (is_from u && eqb a j)) ≡ ((ended rs (a + 1) u && ended rs (a + 1) j) && linked w rs ps u j)) p
              (rw (eq-eqb a a refl, ne_eqb a j d, self, other j d, by_time ρ not j)
              (ap (λ (b : Bool). ((ended rs a j && touch w rs ps a j) && not (over rs j a)) || b) (and-false (is_from a)) ∙ or-false _
              ∙ up (ended rs a j) (touch w rs ps a j) (over rs j a) (touch_by w rs ps j a || (touch w rs ps j a && over rs a j)) (ltb j a) (ltb a j) (λ h. and_left _ _ h) (λ h. le-ltb a j (omega (arith, first j h)))))
          go i j (no d) (yes q) =
              subst (λ (u : ℕ). (cond (eqb a i) (member x u && not (member all u)) (has g i u) || (is_from i && eqb a u)) ≡ ((ended rs (a + 1) i && ended rs (a + 1) u) && linked w rs ps i u)) q
              (rw (eq-eqb a a refl, ne_eqb a i d, self, other i d, none i)
              (and-true (is_from i) ∙ from_is i
              ∙ down (ended rs a i) (touch_by w rs ps a i) (touch w rs ps a i) (over rs i a) (touch w rs ps i a && not (over rs a i)) (ltb i a) (ltb a i) (λ h. and_left _ _ h) (λ h. le-ltb a i (omega (arith, first i h)))))
          go i j (no p) (no q) = rw (ne_eqb a i p, ne_eqb a j q, other i p, other j q) (ap (λ (b : Bool). has g i j || b) (and-false (is_from i)) ∙ or-false (has g i j) ∙ s.is ρ i j)

      index_next : (e j : ℕ) → has new e j ≡ (ended rs (a + 1) j && marked w rs ps e j)
      index_next e j = met.is e j ∙ (λ q. s.index e j q || (eqb a j && any (hits w e) (mine q))) ∙ go (ℕ_discrete a j)
        where
          go : Dec (a ≡ j) → ((ended rs a j && marked w rs ps e j) || (eqb a j && marked w rs ps e a)) ≡ (ended rs (a + 1) j && marked w rs ps e j)
          go (yes q) = subst (λ (i : ℕ). ((ended rs a i && marked w rs ps e i) || (eqb a i && marked w rs ps e a)) ≡ (ended rs (a + 1) i && marked w rs ps e i)) q
              ((λ q. (placed-not committed rs a q && marked w rs ps e a) || (eq-eqb a a refl q && marked w rs ps e a)) ∙ ap (λ (b : Bool). b && marked w rs ps e a) (sym self))
          go (no d) = (λ q. (ended rs a j && marked w rs ps e j) || (ne_eqb a j d q && marked w rs ps e a)) ∙ or-false _ ∙ ap (λ (b : Bool). b && marked w rs ps e j) (sym (other j d))

      commits-next : (j : ℕ) → ended rs (a + 1) j ≡ true → get_or (set ends a d) j 0 ≡ done (at rs j)
      commits-next j h = go (ℕ_discrete a j)
        where
          go : Dec (a ≡ j) → get_or (set ends a d) j 0 ≡ done (at rs j)
          go (yes q) = subst (λ (i : ℕ). get_or (set ends a d) i 0 ≡ done (at rs i)) q (get_or-set_same ends a d 0 (omega (arith, s.ends_len)) ∙ ed)
          go (no z) = ends_other j z ∙ s.commits j (sym (other j z) ∙ h)

      pub draw_next : Drawing w n rs ps new (set ends a d) g' rest' all (a + 1)
      draw_next =
          record {
            tab-len = met.len ∙ s.tab-len;
            ends_len = length-set ends a d ∙ s.ends_len;
            g_len = dr.len ∙ s.g_len;
            place = place_next;
            index = index_next;
            commits = commits-next;
            early = early_next;
            is = is-next;
          }

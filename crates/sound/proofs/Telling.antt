-- What the tests of items, of records and of writers say together. Assumes nothing.
use Prim.Native.Nat.{ℕ, ◌≤◌, ◌<◌}
use native.Mathlib.Omega.{arith}
use native.Mathlib.Decide.{dec_lt}
use mathlib.Core.Bool.{Bool, true, false, not, ◌&&◌, ◌||◌, false≢true}
use mathlib.Core.Logic.{◌⊎◌, inl, inr}
use mathlib.Core.Path.{◌≡◌, refl, sym, ap, ◌∙◌}
use mathlib.Core.List.Memᴰ
use mathlib.Core.List.{List, [], map}
use lib.Bits.{bit_and}
use lib.Dec.{eqb, ltb}
use lib.ListN.{length, get_or, take}
use lib.Seq.{get_or-take}
use borrow.Author.Tests.{eq-eqb, eqb-true, ltb-true}
use Rattle.terms.specs.declared.Row.{Row}
use Rattle.terms.specs.Words.{committed, done, is_read, is_write, item, num, start, txn, writer}
use Rattle.rules.specs.Lists.{mem}
use Rattle.rules.specs.Sound.{based, owned, seen, unmixed}
use Rattle.rules.specs.Raw.{unpack, zero_row}
use Rattle.rules.specs.Versions.{visible}
use Rattle.laws.proofs.Lists.{T_out, all_in, all_out, and_both, and_left, and_right, any_in, passed}
use Rattle.laws.proofs.Rows.{Ascend}
use Rattle.laws.proofs.Versions.{recorded_in, recorded_out}
use Rattle.graph.specs.Fill.{Tabled}
use Rattle.graph.specs.Sets.{member}
use Rattle.graph.proofs.Tests.{fails}
use Rattle.sound.specs.Base.{based_on}
use Rattle.sound.specs.Items.{at, earlier_than, installs, is_install, newest_of}
use Rattle.sound.specs.Parts.{held}
use Rattle.sound.specs.Records.{Owners, sorted}
use Rattle.sound.specs.Told.{ItemsTold, LinksTold}
use Rattle.sound.proofs.Chains.{on, off, right_3}
use Rattle.sound.proofs.Earlier.{earlier_in, earlier_out}
use Rattle.sound.proofs.Installing.{Met}
use Rattle.sound.proofs.Passing.{Passing, early_at, installed, met_before, set_is}
use Rattle.sound.proofs.Places.{index_of, row_one, row_order, row_rising, stands_at}
use Rattle.sound.proofs.Search.{based-is}
use Rattle.sound.proofs.Seeing.{sees, sees_is}
use Rattle.sound.proofs.Standing.{Ranked, installs_in, installs_out, ranked, start_rising}
use Rattle.sound.proofs.Unmixing.{clashless, unmixed_from}

-- the test of a word, with the item and the set of writers by other names
pub word_at : (p : ℕ) (rs : List Row) (writers tab : List ℕ) (b : ℕ) {s e : ℕ} → s ≡ bit_and (get_or tab e 0) b → e ≡ item (unpack p)
    → (not (is_read (unpack p)) || eqb (unpack p).word (newest_of 32 (map num rs) s (get_or writers e 0)))
    ≡ (not (is_read (unpack p)) || eqb (unpack p).word (newest_of 32 (map num rs) (bit_and (get_or tab (item (unpack p)) 0) b) (get_or writers (item (unpack p)) 0)))
word_at p rs writers tab b {s} {e} f g =
    ap (λ (x : ℕ). not (is_read (unpack p)) || eqb (unpack p).word (newest_of 32 (map num rs) x (get_or writers e 0))) f
    ∙ ap (λ (x : ℕ). not (is_read (unpack p)) || eqb (unpack p).word (newest_of 32 (map num rs) (bit_and (get_or tab x 0) b) (get_or writers x 0))) g

module _ (w : ℕ) (rs : List Row) (ps os early writers : List ℕ) (few : length rs ≤ w) (asc : Ascend rs)
    (own : Owners (length ps) rs ps os) (ord : sorted ps ≡ true) (ea : Tabled (length rs) early (earlier_than rs)) where
  -- all records pass
  pub items_passed : {tab : List ℕ} {k : ℕ} → Passing w rs ps os writers tab k → length ps ≤ k → ItemsTold rs ps writers true
  unfolding seen
  items_passed {tab} {k} q lk =
      record {
        is = λ count next moment vs ws nu ti bases.
            let S = held count next moment vs ws rs ps in
            let r = ranked S asc nu ti in
            let un = unmixed_from S r (λ a b ma ca mb cb l x mx tx wx wb z.
            let i = index_of zero_row rs ma in
            let j = index_of zero_row rs mb in
            let y = recorded_out S (num b) (item x) 2 wb in
            let v = Memᴰ.of_map unpack ps y.1 in
            let t = index_of 0 ps v.1 in
            let e : unpack (get_or ps t.0 0) ≡ y.0 = ap unpack t.2 ∙ v.2 in
            let o = get_or os t.0 0 in
            let lt = t.1 in
            let same : o ≡ j.0 = row_one rs asc o j.0 (own.inside t.0 lt) j.1 (own.is t.0 lt ∙ ap txn e ∙ y.2 ∙ ap num (sym j.2)) in
            let row : at rs o ≡ b = ap (at rs) same ∙ j.2 in
            let w1 : is_write (unpack (get_or ps t.0 0)) ≡ true = ap is_write e ∙ eq-eqb _ _ y.4 in
            let before : i.0 < j.0 = row_order rs asc i.0 j.0 i.1 j.1 (omega (arith, l, ap num i.2, ap num j.2)) in
            let f = installs_in count next moment vs ws rs ps (item (unpack (get_or ps t.0 0))) i.0 i.1 (ap committed i.2 ∙ ca)
            (recorded_in S (num (at rs i.0)) (item (unpack (get_or ps t.0 0))) 2 mx (tx ∙ ap num (sym i.2)) (sym (ap item e ∙ y.3)) (eqb-true x.kind 2 wx)) in
            let d = (earlier_out rs o i.0 (q.clear t.0 i.0 (omega (arith, lt)) (and_both _ _ w1 (ap committed row ∙ cb)) (omega arith) f)).2 in
            omega (arith, z, d, ap done i.2, ap start row)) in
            sym (and_both _ _ un (all_in (sees S) (map unpack ps) (λ x mx.
            let v = Memᴰ.of_map unpack ps mx in
            let t = index_of 0 ps v.1 in
            ap (sees S) (sym (ap unpack t.2 ∙ v.2)) ∙ word count next moment vs ws r un bases t.0 t.1 (passed (is_read (unpack (get_or ps t.0 0)))))));
      }
    where
      word : (count next moment : ℕ) (vs ws : List ℕ) → Ranked (held count next moment vs ws rs ps) → unmixed (held count next moment vs ws rs ps) ≡ true
          → ((t : ℕ) → t < length ps → get_or ws (item (unpack (get_or ps t 0))) 0 ≡ get_or writers (item (unpack (get_or ps t 0))) 0) → (t : ℕ) → t < length ps
          → (is_read (unpack (get_or ps t 0)) ≡ true) ⊎ (is_read (unpack (get_or ps t 0)) ≡ false) → sees (held count next moment vs ws rs ps) (unpack (get_or ps t 0)) ≡ true
      word count next moment vs ws r un bases t lt (inl y) =
          let u = q.named t (omega arith) y in
          sees_is w count next moment vs ws writers rs ps os few r un own bases t lt u.0 u.1 y ∙ u.2
      word count next moment vs ws r un bases t lt (inr y) =
          let x = unpack (get_or ps t 0) in
          ap (λ (b : Bool). not b || eqb x.word (writer (visible (held count next moment vs ws rs ps) (txn x) (item x)))) y

  module _ (tab : List ℕ) (k : ℕ) (s : Met rs ps tab k) (lk : k < length ps) where
    -- a read does not name the newest
    pub items_unseen : (not (is_read (unpack (get_or ps k 0))) || eqb (unpack (get_or ps k 0)).word (newest_of w (map num rs) (bit_and (get_or tab (item (unpack (get_or ps k 0))) 0) (get_or early (get_or os k 0) 0)) (get_or writers (item (unpack (get_or ps k 0))) 0))) ≡ false
        → ItemsTold rs ps writers false
    unfolding seen
    items_unseen f =
        record {
          is = λ count next moment vs ws nu ti bases.
              let S = held count next moment vs ws rs ps in
              sym (fails (unmixed S && seen S) (λ t.
              let h = T_out (unmixed S && seen S) t in
              let un = and_left (unmixed S) (seen S) h in
              let v = all_out (sees S) (Memᴰ.map unpack (stands_at 0 ps k lk)) (and_right (unmixed S) (seen S) h) in
              bad (is_read (unpack (get_or ps k 0))) f (λ y.
              sym (sees_is w count next moment vs ws writers rs ps os few (ranked S asc nu ti) un own bases k lk
              (bit_and (get_or tab (item (unpack (get_or ps k 0))) 0) (get_or early (get_or os k 0) 0)) (set_is w rs ps os early asc own ord ea tab k s lk) y) ∙ v)));
        }
      where
        bad : (b : Bool) {c : Bool} → (not b || c) ≡ false → (b ≡ true → c ≡ true) → ⊥
        bad true e g = false≢true (sym e ∙ g refl)
        bad false e g = false≢true (sym e)

    -- a writer met has not ended before a write
    pub items_mixed : is_install (get_or ps k 0) (at rs (get_or os k 0)) ≡ true → (j : ℕ) → member (get_or tab (item (unpack (get_or ps k 0))) 0) j ≡ true → member (get_or early (get_or os k 0) 0) j ≡ false
        → ItemsTold rs ps writers false
    items_mixed f j inside late =
        record {
          is = λ count next moment vs ws nu ti bases.
              let S = held count next moment vs ws rs ps in
              let r = ranked S asc nu ti in
              let p = get_or ps k 0 in
              let o = get_or os k 0 in
              let lo = own.inside k lk in
              let v = and_left (is_write (unpack p)) _ f in
              let u = met_before w rs ps os early asc own ord ea tab k s lk v j inside in
              let t = u.0 in
              let g = installed w rs ps os early asc own ord ea (item (unpack p)) j t u.2 in
              let F = installs_out count next moment vs ws rs ps (item (unpack p)) j (any_in (installs rs (item (unpack p)) j) (stands_at 0 ps t u.1) u.2) in
              let mo = stands_at zero_row rs o lo in
              let mj = stands_at zero_row rs j F.0 in
              let co = and_right (is_write (unpack p)) _ f in
              let rise = start_rising count next moment vs ws rs ps r j o u.3 lo in
              let no-early = sym (early_at w rs ps os early asc own ord ea o j lo F.0) ∙ late in
              let q : start (at rs o) < done (at rs j) = later o j u.3 F.1 no-early (r.cross mj F.1 mo) (dec_lt (done (at rs j)) (start (at rs o))) (dec_lt (start (at rs o)) (done (at rs j))) in
              sym (fails (unmixed S && seen S) (λ z.
              clashless S r (and_left (unmixed S) (seen S) (T_out (unmixed S && seen S) z)) mj F.1 mo co (row_rising rs asc j o u.3 lo) (unpack (get_or ps t 0))
              (Memᴰ.map unpack (stands_at 0 ps t u.1)) (sym g.1) g.3
              (recorded_in S (num (at rs o)) (item (unpack (get_or ps t 0))) 2 (Memᴰ.map unpack (stands_at 0 ps k lk)) (sym (own.is k lk)) (sym g.2) (eqb-true _ 2 v))
              (omega (arith, rise, r.ends mo co)) q));
        }
      where
        later : (o j : ℕ) → j < o → committed (at rs j) ≡ true → earlier_than rs o j ≡ false → (done (at rs j) ≡ start (at rs o) → ⊥) → Dec (done (at rs j) < start (at rs o)) → Dec (start (at rs o) < done (at rs j)) → start (at rs o) < done (at rs j)
        later o j l c e x (yes d) y = absurd (false≢true (sym e ∙ earlier_in rs o j l c d))
        later o j l c e x (no d) (yes y) = y
        later o j l c e x (no d) (no y) = absurd (x (omega arith))

module _ (count next : ℕ) (writers : List ℕ) (rs : List Row) (ps : List ℕ) where
  -- the sentence on records says nothing of numbers, moments and values
  own_same : (moment : ℕ) (vs : List ℕ) → owned (held count 0 0 [] [] rs ps) ≡ owned (held count next moment vs (take count writers) rs ps)
  unfolding owned
  own_same moment vs = refl

  filed_same : (moment : ℕ) (vs : List ℕ) → (sorted ps && owned (held count 0 0 [] [] rs ps)) ≡ (sorted ps && owned (held count next moment vs (take count writers) rs ps))
  filed_same moment vs = ap (λ (b : Bool). sorted ps && b) (own_same moment vs)

  pub links_unfiled : (sorted ps && owned (held count 0 0 [] [] rs ps)) ≡ false → LinksTold count next writers rs ps false
  links_unfiled f = record { is = λ moment vs nu ti. off _ (sym (filed_same moment vs) ∙ f) ∙ right_3 (sorted ps) _ _ }

  module _ (g : (sorted ps && owned (held count 0 0 [] [] rs ps)) ≡ true) where
    based-same : (moment : ℕ) (vs : List ℕ) → based_on next (map num rs) (take count writers) ≡ based (held count next moment vs (take count writers) rs ps)
    based-same moment vs = based-is (held count next moment vs (take count writers) rs ps)

    pub links_unbased : based_on next (map num rs) (take count writers) ≡ false → LinksTold count next writers rs ps false
    links_unbased f =
        record {
          is = λ moment vs nu ti.
              on (sym (filed_same moment vs) ∙ g) (off _ (sym (based-same moment vs) ∙ f)) ∙ right_3 (sorted ps) _ _;
        }

    -- the items of the records are below the count
    bases : (moment : ℕ) (vs : List ℕ) (t : ℕ) → t < length ps → get_or (take count writers) (item (unpack (get_or ps t 0))) 0 ≡ get_or writers (item (unpack (get_or ps t 0))) 0
    unfolding owned
    bases moment vs t l =
        let h = and_right (sorted ps) _ g in
        let x = unpack (get_or ps t 0) in
        let z = all_out (λ x. (is_read x || is_write x) && mem (txn x) (map num rs) && ltb (item x) count) (Memᴰ.map unpack (stands_at 0 ps t l)) h in
        get_or-take count writers (item x) 0 (ltb-true (item x) count (and_right ((is_read x || is_write x) && mem (txn x) (map num rs)) _ z))

    pub links_told : {b : Bool} → based_on next (map num rs) (take count writers) ≡ true → ItemsTold rs ps writers b → LinksTold count next writers rs ps b
    links_told f i =
        record {
          is = λ moment vs nu ti.
              on (sym (filed_same moment vs) ∙ g) (on (sym (based-same moment vs) ∙ f) (i.is count next moment vs (take count writers) nu ti (bases moment vs))) ∙ right_3 (sorted ps) _ _;
        }

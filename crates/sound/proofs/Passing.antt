-- The pass over the records: the writers of an item met so far that stand before a record's row are all such writers; what the tests so far say. Assumes nothing.
use Prim.Native.Nat.{ℕ, zero, suc, ◌+◌, ◌^◌, ◌≤◌, ◌<◌}
use native.Mathlib.Omega.{arith}
use native.Mathlib.Decide.{dec_lt, ℕ_discrete}
use mathlib.Core.Bool.{Bool, true, false, not, ◌&&◌, ◌||◌, false≢true}
use mathlib.Core.Path.{◌≡◌, sym, ap, ◌∙◌}
use mathlib.Core.List.Memᴰ
use mathlib.Core.List.{List, [], ◌∷◌, map}
use lib.Bits.{bit_and, bit_or}
use lib.Dec.{eqb, ltb}
use lib.ListN.{length, get_or, set}
use borrow.Author.Tests.{eqb-true, ltb-true}
use Rattle.terms.specs.declared.Row.{Row}
use Rattle.terms.specs.Words.{committed, is_read, is_write, item, key, num, txn}
use Rattle.rules.specs.Lists.{all, any}
use Rattle.rules.specs.Raw.{unpack}
use Rattle.laws.proofs.Lists.{all_out, and_both, and_left, and_right, any_in, any_out, both_ways}
use Rattle.laws.proofs.Rows.{Ascend}
use Rattle.graph.specs.Fill.{Tabled}
use Rattle.graph.specs.Sets.{edges, member}
use Rattle.graph.proofs.Sets.{member_and}
use Rattle.sound.specs.Items.{at, earlier_than, installs, is_install, newest_of}
use Rattle.sound.specs.Records.{Owners, sorted}
use Rattle.sound.proofs.Earlier.{earlier_out}
use Rattle.sound.proofs.Filed.{key-is}
use Rattle.sound.proofs.Installing.{Met, met_put, met_skip}
use Rattle.sound.proofs.Places.{index_of, row_rising, stands_at}

-- keys ascend by index
sorted-at : (ps : List ℕ) → sorted ps ≡ true → (i j : ℕ) → i < j → j < length ps → key (unpack (get_or ps i 0)) < key (unpack (get_or ps j 0))
sorted-at [] o i j l b = absurd (omega arith)
sorted-at (p ∷ ps) o zero zero l b = absurd (omega arith)
sorted-at (p ∷ ps) o zero (suc j) l b = ltb-true _ _ (all_out (λ y. ltb (key (unpack p)) (key y)) (Memᴰ.map unpack (stands_at 0 ps j (omega arith))) (and_left _ _ o))
sorted-at (p ∷ ps) o (suc i) zero l b = absurd (omega arith)
sorted-at (p ∷ ps) o (suc i) (suc j) l b = sorted-at ps (and_right (all (λ y. ltb (key (unpack p)) (key y)) (map unpack ps)) _ o) i j (omega arith) (omega arith)

-- the first k records pass: a write's item has no writer before its row that did not end before, and a read's word is that of the newest which did
pub record Passing (w : ℕ) (rs : List Row) (ps os writers tab : List ℕ) (k : ℕ) : Type 0 where
  pub met : Met rs ps tab k
  pub clear : (t i : ℕ) → t < k → is_install (get_or ps t 0) (at rs (get_or os t 0)) ≡ true → i < get_or os t 0
      → any (installs rs (item (unpack (get_or ps t 0))) i) ps ≡ true → earlier_than rs (get_or os t 0) i ≡ true
  pub named : (t : ℕ) → t < k → is_read (unpack (get_or ps t 0)) ≡ true
      → (M : ℕ) × ((j : ℕ) → member M j ≡ (any (installs rs (item (unpack (get_or ps t 0))) j) ps && earlier_than rs (get_or os t 0) j))
      × (eqb (unpack (get_or ps t 0)).word (newest_of w (map num rs) M (get_or writers (item (unpack (get_or ps t 0))) 0)) ≡ true)

pub pass_start : (w : ℕ) (rs : List Row) (ps os writers tab : List ℕ) → Met rs ps tab 0 → Passing w rs ps os writers tab 0
pass_start w rs ps os writers tab s = record { met = s; clear = λ t i l. absurd (omega arith); named = λ t l. absurd (omega arith) }

module _ (w : ℕ) (rs : List Row) (ps os early : List ℕ) (asc : Ascend rs) (own : Owners (length ps) rs ps os)
    (ord : sorted ps ≡ true) (ea : Tabled (length rs) early (earlier_than rs)) where
  pub early_at : (i j : ℕ) → i < length rs → j < length rs → member (get_or early i 0) j ≡ earlier_than rs i j
  unfolding edges
  early_at i j a b = ea.is i j a b

  txn-rises : (i j : ℕ) → i < j → j < length ps → txn (unpack (get_or ps i 0)) ≤ txn (unpack (get_or ps j 0))
  txn-rises i j l b = omega (arith, sorted-at ps ord i j l b, key-is (get_or ps i 0), key-is (get_or ps j 0))

  -- a record that installs for the row at j
  pub installed : (e j t : ℕ) → installs rs e j (get_or ps t 0) ≡ true → (j < length rs) × (num (at rs j) ≡ txn (unpack (get_or ps t 0))) × (item (unpack (get_or ps t 0)) ≡ e) × (is_write (unpack (get_or ps t 0)) ≡ true)
  unfolding installs
  installed e j t g =
      let x = unpack (get_or ps t 0) in
      let a = and_left (ltb j (length rs) && committed (at rs j)) _ g in
      let b = and_right (ltb j (length rs) && committed (at rs j)) _ g in
      let c = and_right (eqb (num (at rs j)) (txn x)) _ b in
      (ltb-true j (length rs) (and_left _ _ a), eqb-true _ _ (and_left (eqb (num (at rs j)) (txn x)) _ b), eqb-true _ _ (and_left (eqb (item x) e) _ c), and_right (eqb (item x) e) _ c)

  module _ (tab : List ℕ) (k : ℕ) (s : Met rs ps tab k) (lk : k < length ps) where
    abbrev p : ℕ
    p = get_or ps k 0

    abbrev o : ℕ
    o = get_or os k 0

    small : item (unpack (get_or ps k 0)) < 256
    small = omega arith

    lo : o < length rs
    lo = own.inside k lk

    -- what is met stands in the records
    met_in : (e j : ℕ) → e < 256 → member (get_or tab e 0) j ≡ true → any (installs rs e j) ps ≡ true
    met_in e j l h = let u = s.from e j l h in any_in (installs rs e j) (stands_at 0 ps u.0 (omega (arith, u.1))) u.2

    -- and of the rows before the record's, all is met
    in_met : (e j : ℕ) → e < 256 → j < get_or os k 0 → any (installs rs e j) ps ≡ true → member (get_or tab e 0) j ≡ true
    in_met e j l b h =
        let u = any_out (installs rs e j) ps h in
        let t = index_of 0 ps u.1 in
        go t.0 t.1 (ap (installs rs e j) t.2 ∙ u.2) (dec_lt t.0 k) (ℕ_discrete t.0 k)
      where
        go : (t : ℕ) → t < length ps → installs rs e j (get_or ps t 0) ≡ true → Dec (t < k) → Dec (t ≡ k) → member (get_or tab e 0) j ≡ true
        go t lt g (yes q) z = s.into t e j q l g
        go t lt g (no q) (yes z) = absurd (omega (arith, row_rising rs asc j o b lo, own.is k lk, (installed e j t g).1, ap (λ (y : ℕ). txn (unpack (get_or ps y 0))) z))
        go t lt g (no q) (no z) = absurd (omega (arith, row_rising rs asc j o b lo, own.is k lk, (installed e j t g).1, txn-rises k t (omega arith) lt))

    pub set_is : (j : ℕ) → member (bit_and (get_or tab (item (unpack (get_or ps k 0))) 0) (get_or early (get_or os k 0) 0)) j ≡ (any (installs rs (item (unpack (get_or ps k 0))) j) ps && earlier_than rs (get_or os k 0) j)
    set_is j =
        let e = item (unpack (get_or ps k 0)) in
        member_and (get_or tab e 0) (get_or early o 0) j
        ∙ both_ways _ _
        (λ h.
        let a = and_left (member (get_or tab e 0) j) _ h in
        let u = s.from e j small a in
        and_both _ _ (met_in e j small a) (sym (early_at o j lo (installed e j u.0 u.2).0) ∙ and_right (member (get_or tab e 0) j) _ h))
        (λ h.
        let z = and_right (any (installs rs e j) ps) _ h in
        let b = (earlier_out rs o j z).0 in
        and_both _ _ (in_met e j small b (and_left _ _ h)) (early_at o j lo (omega (arith, b, lo)) ∙ z))

    -- so the set has rows of the table alone
    pub set_below : (j : ℕ) → member (bit_and (get_or tab (item (unpack (get_or ps k 0))) 0) (get_or early (get_or os k 0) 0)) j ≡ true → j < length rs
    set_below j h = let u = earlier_out rs o j (and_right (any (installs rs (item (unpack (get_or ps k 0))) j) ps) _ (sym (set_is j) ∙ h)) in omega (arith, u.0, lo)

    module _ (writers : List ℕ) (q : Passing w rs ps os writers tab k) where
      -- the next record is not installed: a read names the newest
      pub pass_read : is_install (get_or ps k 0) (at rs (get_or os k 0)) ≡ false
          → (not (is_read (unpack (get_or ps k 0))) || eqb (unpack (get_or ps k 0)).word (newest_of w (map num rs) (bit_and (get_or tab (item (unpack (get_or ps k 0))) 0) (get_or early (get_or os k 0) 0)) (get_or writers (item (unpack (get_or ps k 0))) 0))) ≡ true
          → Passing w rs ps os writers tab (k + 1)
      pass_read f g = record {
        met = met_skip rs ps asc tab k o s lo (own.is k lk) f;
        clear = λ t i l h. old t i l h (ℕ_discrete t k);
        named = λ t l h. new t l h (ℕ_discrete t k);
      }
        where
          old : (t i : ℕ) → t < k + 1 → is_install (get_or ps t 0) (at rs (get_or os t 0)) ≡ true → Dec (t ≡ k) → i < get_or os t 0
              → any (installs rs (item (unpack (get_or ps t 0))) i) ps ≡ true → earlier_than rs (get_or os t 0) i ≡ true
          old t i l h (yes z) = absurd (false≢true (sym f ∙ ap (λ (y : ℕ). is_install (get_or ps y 0) (at rs (get_or os y 0))) (sym z) ∙ h))
          old t i l h (no z) = q.clear t i (omega arith) h

          new : (t : ℕ) → t < k + 1 → is_read (unpack (get_or ps t 0)) ≡ true → Dec (t ≡ k)
              → (M : ℕ) × ((j : ℕ) → member M j ≡ (any (installs rs (item (unpack (get_or ps t 0))) j) ps && earlier_than rs (get_or os t 0) j))
              × (eqb (unpack (get_or ps t 0)).word (newest_of w (map num rs) M (get_or writers (item (unpack (get_or ps t 0))) 0)) ≡ true)
          new t l h (yes z) = rw z (bit_and (get_or tab (item (unpack (get_or ps k 0))) 0) (get_or early (get_or os k 0) 0), set_is, read (is_read (unpack (get_or ps k 0))) (ap (λ (y : ℕ). is_read (unpack (get_or ps y 0))) (sym z) ∙ h) g)
            where
              read : (b : Bool) {c : Bool} → b ≡ true → (not b || c) ≡ true → c ≡ true
              read true e v = v
              read false e v = absurd (false≢true e)
          new t l h (no z) = q.named t (omega arith) h

      -- it is: all writers met have ended
      pub pass_write : is_install (get_or ps k 0) (at rs (get_or os k 0)) ≡ true
          → ((j : ℕ) → member (get_or tab (item (unpack (get_or ps k 0))) 0) j ≡ true → member (get_or early (get_or os k 0) 0) j ≡ true) → (x : ℕ) → x ≡ item (unpack (get_or ps k 0)) → x < 256
          → Passing w rs ps os writers (set tab x (bit_or (get_or tab x 0) (2 ^ get_or os k 0))) (k + 1)
      pass_write f ended x ex lx = record {
        met = met_put rs ps asc tab k o s lo (own.is k lk) f x ex lx;
        clear = λ t i l h. new t i l h (ℕ_discrete t k);
        named = λ t l h. old t l h (ℕ_discrete t k);
      }
        where
          new : (t i : ℕ) → t < k + 1 → is_install (get_or ps t 0) (at rs (get_or os t 0)) ≡ true → Dec (t ≡ k) → i < get_or os t 0
              → any (installs rs (item (unpack (get_or ps t 0))) i) ps ≡ true → earlier_than rs (get_or os t 0) i ≡ true
          new t i l h (yes z) =
              rw z (λ b g.
              sym (early_at o i lo (omega (arith, b, lo)))
              ∙ ended i (in_met (item (unpack p)) i small b g))
          new t i l h (no z) = q.clear t i (omega arith) h

          old : (t : ℕ) → t < k + 1 → is_read (unpack (get_or ps t 0)) ≡ true → Dec (t ≡ k)
              → (M : ℕ) × ((j : ℕ) → member M j ≡ (any (installs rs (item (unpack (get_or ps t 0))) j) ps && earlier_than rs (get_or os t 0) j))
              × (eqb (unpack (get_or ps t 0)).word (newest_of w (map num rs) M (get_or writers (item (unpack (get_or ps t 0))) 0)) ≡ true)
          old t l h (yes z) =
              let r = eqb-true (unpack p).kind 1 (ap (λ (y : ℕ). is_read (unpack (get_or ps y 0))) (sym z) ∙ h) in
              let v = eqb-true (unpack p).kind 2 (and_left (is_write (unpack p)) _ f) in
              absurd (omega arith)
          old t l h (no z) = q.named t (omega arith) h

    -- a writer met that is not known to have ended stands before the record's row, where the record is a write
    pub met_before : is_write (unpack (get_or ps k 0)) ≡ true → (j : ℕ) → member (get_or tab (item (unpack (get_or ps k 0))) 0) j ≡ true
        → (t : ℕ) × (t < length ps) × (installs rs (item (unpack (get_or ps k 0))) j (get_or ps t 0) ≡ true) × (j < get_or os k 0)
    met_before v j h =
        let e = item (unpack (get_or ps k 0)) in
        let u = s.from e j small h in
        let g = installed e j u.0 u.2 in
        let up = sorted-at ps ord u.0 k u.1 lk in
        (u.0, omega (arith, u.1), u.2, go u.0 g up (txn-rises u.0 k u.1 lk) (dec_lt j o) (ℕ_discrete j o))
      where
        go : (t : ℕ) → (j < length rs) × (num (at rs j) ≡ txn (unpack (get_or ps t 0))) × (item (unpack (get_or ps t 0)) ≡ item (unpack (get_or ps k 0))) × (is_write (unpack (get_or ps t 0)) ≡ true)
            → key (unpack (get_or ps t 0)) < key (unpack (get_or ps k 0)) → txn (unpack (get_or ps t 0)) ≤ txn (unpack (get_or ps k 0)) → Dec (j < o) → Dec (j ≡ o) → j < o
        go t g up x (yes l) z = l
        go t g up x (no l) (yes z) =
            let same : txn (unpack (get_or ps t 0)) ≡ txn (unpack (get_or ps k 0)) = sym g.1 ∙ ap (λ (y : ℕ). num (at rs y)) z ∙ own.is k lk in
            let a = eqb-true (unpack (get_or ps t 0)).kind 2 g.3 in
            let b = eqb-true (unpack (get_or ps k 0)).kind 2 v in
            absurd (omega (arith, up, same, g.2, a, b))
        go t g up x (no l) (no z) = absurd (omega (arith, row_rising rs asc o j (omega arith) g.0, g.1, x, own.is k lk))

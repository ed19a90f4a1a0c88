-- Lent tables and the states that they hold: sound tables are the padded form of their own state, and a state that fits is found again. Assumes nothing.
use Prim.Native.Nat.{ℕ, ◌<◌, ◌≤◌, ◌^◌}
use mathlib.Core.Bool.{and-eq-true_iff, false, true}
use mathlib.Core.List.Memᴰ
use mathlib.Core.List.{map}
use mathlib.Core.Path.{◌∙◌, ◌≡◌, ap, refl, sym}
use native.Mathlib.Omega.{arith}
use lib.Dec.{eqb}
use lib.ListN.{length, take}
use borrow.Author.Tests.{eq-eqb, eqb-true, ne_eqb}
use Rattle.terms.specs.declared.Row.{Row}
use Rattle.terms.specs.declared.Rec.{Rec}
use Rattle.rules.specs.Lists.{padded, until}
use Rattle.terms.specs.Words.{done, item, num, start, txn}
use Rattle.rules.specs.State.{State}
use Rattle.rules.specs.Sound.{sound}
use Rattle.rules.specs.Raw.{Raw, pack, raw_of, same_raw, same_row, sound_raw, state_of, unpack, zero_row}
use Rattle.laws.proofs.Lists.{◌∈◌, and_both, and_left, and_right}
use Rattle.laws.proofs.Keeping.{any_none}
use Rattle.laws.proofs.Sames.{map_back, sames_in, sames_out}
use Rattle.lists.proofs.Pads.{take-padded, until-padded}

-- ---- records as numbers
pub pack-unpack : (p : ℕ) → pack (unpack p) ≡ p
pack-unpack p = omega arith

-- the record's item, kind and word have room in a packed one
pub record Packs (x : Rec) : Type 0 where
  pub item-fits : item x < 256
  pub kind_fits : x.kind < 256
  pub word_fits : x.word < 2 ^ 32

pub unpack_packs : (p : ℕ) → Packs (unpack p)
unpack_packs p = record { item-fits = omega arith; kind_fits = omega arith; word_fits = omega arith }

pub unpack-pack : (x : Rec) → Packs x → unpack (pack x) ≡ x
unpack-pack x f =
    let a : txn (unpack (pack x)) ≡ txn x = omega (arith, f.item-fits, f.kind_fits, f.word_fits) in
    let b : item (unpack (pack x)) ≡ item x = omega (arith, f.item-fits, f.kind_fits, f.word_fits) in
    let c : (unpack (pack x)).kind ≡ x.kind = omega (arith, f.item-fits, f.kind_fits, f.word_fits) in
    let d : (unpack (pack x)).word ≡ x.word = omega (arith, f.item-fits, f.kind_fits, f.word_fits) in
    λ j. record { txn = record { 0 = a j }; item = record { 0 = b j }; kind = c j; word = d j }

-- ---- the test for equal tables
pub row_same : (a b : Row) → same_row a b ≡ true → a ≡ b
row_same a b h =
    let v = simp and-eq-true_iff at h in
    λ j. record { number = record { 0 = eqb-true (num a) (num b) v.0.0 j }; start = record { 0 = eqb-true (start a) (start b) v.0.1 j }; commit = record { 0 = eqb-true (done a) (done b) v.1 j } }

pub same_out : (v w : Raw) → same_raw v w ≡ true → v ≡ w
unfolding same_raw
same_out v w h =
    let u = simp and-eq-true_iff at h in
    λ j. record {
      head = sames_out eqb eqb-true v.head w.head u.0.0.0.0 j;
      values = sames_out eqb eqb-true v.values w.values u.0.0.0.1 j;
      writers = sames_out eqb eqb-true v.writers w.writers u.0.0.1 j;
      rows = sames_out same_row row_same v.rows w.rows u.0.1 j;
      recs = sames_out eqb eqb-true v.recs w.recs u.1 j;
    }

pub same_in : (w : Raw) → same_raw w w ≡ true
unfolding same_raw
same_in w =
    let e : (n : ℕ) → eqb n n ≡ true = λ n. eq-eqb n n refl in
    let r : (a : Row) → same_row a a ≡ true = λ a. and_both _ _ (and_both _ _ (e (num a)) (e (start a))) (e (done a)) in
    and_both _ _ (and_both _ _ (and_both _ _ (and_both _ _ (sames_in eqb e w.head) (sames_in eqb e w.values)) (sames_in eqb e w.writers)) (sames_in same_row r w.rows))
    (sames_in eqb e w.recs)

-- ---- sound tables are the padded form of their own state
pub held : (n m : ℕ) (w : Raw) → sound_raw n m w ≡ true → (raw_of n m (state_of w) ≡ w) × (sound n m (state_of w) ≡ true)
unfolding sound_raw
held n m w h = (same_out _ _ (and_left _ _ h), and_right (same_raw (raw_of n m (state_of w)) w) _ h)

pub held_in : (n m : ℕ) (w : Raw) → raw_of n m (state_of w) ≡ w → sound n m (state_of w) ≡ true → sound_raw n m w ≡ true
unfolding sound_raw
held_in n m w e h = and_both _ _ (ap (λ (v : Raw). same_raw v w) e ∙ same_in w) h

-- ---- a state that fits the tables is found again
pub record Fits (s : State) : Type 0 where
  pub values : length s.values ≡ s.count
  pub writers : length s.writers ≡ s.count
  pub numbers : {r : Row} → r ∈ s.rows → 1 ≤ num r
  pub packs : {x : Rec} → x ∈ s.recs → Packs x
  pub kinds : {x : Rec} → x ∈ s.recs → 1 ≤ x.kind

pub state-raw : (n m : ℕ) (s : State) → Fits s → state_of (raw_of n m s) ≡ s
unfolding state_of raw_of
state-raw n m s f =
    let v : take s.count (padded 256 0 s.values) ≡ s.values = ap (λ (k : ℕ). take k (padded 256 0 s.values)) (sym f.values) ∙ take-padded 256 0 s.values in
    let w : take s.count (padded 256 0 s.writers) ≡ s.writers = ap (λ (k : ℕ). take k (padded 256 0 s.writers)) (sym f.writers) ∙ take-padded 256 0 s.writers in
    let r = until-padded (λ r. eqb (num r) 0) n zero_row s.rows refl (any_none _ s.rows (λ r k. ne_eqb (num r) 0 (λ e. omega (arith, f.numbers k)))) in
    let x : map unpack (until (λ p. eqb p 0) (padded m 0 (map pack s.recs))) ≡ s.recs
    = ap (map unpack) (until-padded (λ p. eqb p 0) m 0 (map pack s.recs) refl (any_none _ (map pack s.recs) used)) ∙ map_back pack unpack s.recs (λ y k. unpack-pack y (f.packs k)) in
    λ j. record { count = s.count; next = s.next; moment = s.moment; values = v j; writers = w j; rows = r j; recs = x j }
  where
    used : (p : ℕ) → p ∈ map pack s.recs → eqb p 0 ≡ false
    used p k = let u = Memᴰ.of_map pack s.recs k in ne_eqb p 0 (λ e. omega (arith, f.kinds u.1, u.2))

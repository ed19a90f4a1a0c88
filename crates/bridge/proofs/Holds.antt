-- Sound tables by facts: their lengths, their used parts, and that each definition reads the same in them as in the state that they hold. Assumes nothing.
use Prim.Native.Nat.{ℕ, zero, suc, ◌-◌, ◌≤◌, ◌<◌}
use mathlib.Core.Bool.{true, false}
use mathlib.Core.List.Memᴰ
use mathlib.Core.List.{List, [], ◌∷◌, map}
use mathlib.Core.Logic.{◌⊎◌, inl, inr, ⊎_elim}
use mathlib.Core.Path.{◌∙◌, ◌≡◌, ap, refl, subst, sym}
use native.Mathlib.Omega.{arith}
use lib.Dec.{eqb, leb, ltb}
use lib.ListN.{get_or, length, length-map}
use lib.Seq.{get_or-take}
use borrow.Author.Tests.{eqb-false, leb-true, ltb-false, ltb-true}
use Rattle.terms.specs.declared.Row.{Row}
use Rattle.terms.specs.declared.Rec.{Rec}
use Rattle.terms.specs.Words.{num, version}
use Rattle.rules.specs.Lists.{padded}
use Rattle.rules.specs.State.{State, commits, is_active, recorded, row_of, word_in}
use Rattle.rules.specs.Versions.{installers, newest, version_at}
use Rattle.rules.specs.Deps.{beaten, both_wrote}
use Rattle.rules.specs.Sound.{sized, sound}
use Rattle.rules.specs.Raw.{Raw, pack, raw_of, sound_raw, state_of, unpack, used_recs, used_rows, zero_row}
use Rattle.lists.proofs.Pads.{get_or-padded, length-padded, padded_full}
use Rattle.lists.proofs.Untils.{until-not}
use Rattle.laws.proofs.Lists.{◌∈◌, and_left, and_right, passed}
use Rattle.laws.proofs.Sames.{map_back}
use Rattle.laws.proofs.Raw.{Fits, Packs, held, pack-unpack, unpack_packs}
use Rattle.laws.proofs.Rows.{Known}
use Rattle.laws.proofs.Tables.{get_or-mem}
use Rattle.theory.proofs.Agreeing.{sound-lawful}
use Rattle.theory.proofs.Consequences.{known}
use Rattle.theory.proofs.Facts.{Facts, lawful_facts}
use Rattle.bridge.specs.Whole.{used_of, whole_of}
use Rattle.bridge.proofs.Wholes.{beaten-padded, recorded-padded, row-padded, version-padded, word_padded}

-- ---- whatever the tables hold, their used parts are what the state has
module _ (w : Raw) (values writers : List ℕ) where
  pub recorded_used : (rows : List Row) (t i k : ℕ) → recorded (used_of rows w.recs values writers) t i k ≡ recorded (state_of w) t i k
  unfolding recorded state_of
  recorded_used rows t i k = refl

  pub active_used : (recs : List ℕ) (t : ℕ) → is_active (used_of w.rows recs values writers) t ≡ is_active (state_of w) t
  unfolding is_active state_of
  active_used recs t = refl

  pub beaten_used : (t : ℕ) → beaten (used_of w.rows w.recs values writers) t ≡ beaten (state_of w) t
  unfolding beaten state_of both_wrote commits recorded
  beaten_used t = refl

pub word_used : (w : Raw) (t i k : ℕ) → word_in t i k (map unpack (used_recs w.recs)) ≡ word_in t i k (state_of w).recs
unfolding state_of
word_used w t i k = refl

pub row_used : (w : Raw) (t : ℕ) → row_of (used_rows w.rows) t ≡ row_of (state_of w).rows t
unfolding state_of
row_used w t = refl

pub rows_used : (w : Raw) → length (used_rows w.rows) ≡ length (state_of w).rows
unfolding state_of
rows_used w = refl

pub recs_used : (w : Raw) → length (used_recs w.recs) ≡ length (state_of w).recs
unfolding state_of
recs_used w = sym (length-map (used_recs w.recs) unpack)

-- an item that is there has its value and its writer in the used part of their tables
pub version_used : (w : Raw) (i b : ℕ) → i < (state_of w).count → version_at (used_of w.rows w.recs w.values w.writers) i b ≡ version_at (state_of w) i b
unfolding state_of version_at installers recorded
version_used w i b l =
    λ j. elim (num (newest (installers (state_of w) i b))) [
      | zero ↦ version (sym (get_or-take (get_or w.head 0 0) w.writers i 0 l) j) (sym (get_or-take (get_or w.head 0 0) w.values i 0 l) j)
      | suc v ↦ version (suc v) (word_in (suc v) i 2 (state_of w).recs)
    ]

-- a state of which the facts hold, and whose records have room in packed ones, has room in the tables
pub fits_of : (s : State) → Facts s → ((x : Rec) → x ∈ s.recs → Packs x) → Fits s
fits_of s v p = record {
  values = v.sizes.0;
  writers = v.sizes.1;
  numbers = λ k. (v.numbers k).0;
  packs = λ k. p _ k;
  kinds = λ k. ⊎_elim (λ e. omega arith) (λ e. omega arith) (v.kinds k);
}

-- ---- sound tables
pub record Holds (n m : ℕ) (w : Raw) : Type 0 where
  pub same : raw_of n m (state_of w) ≡ w
  pub rows_few : length (state_of w).rows ≤ n
  pub recs_few : length (state_of w).recs ≤ m
  pub facts : Facts (state_of w)
  pub fits : Fits (state_of w)

module _ (n m : ℕ) (w : Raw) (h : sound_raw n m w ≡ true) where
  facts_in : Facts (state_of w)
  facts_in = lawful_facts (state_of w) (sound-lawful n m (state_of w) (held n m w h).1)

  few : (length (state_of w).rows ≤ n) × (length (state_of w).recs ≤ m)
  unfolding sound sized
  few =
      let u = and_left _ _ (and_left _ _ (held n m w h).1) in
      (leb-true _ _ (and_left _ _ u), leb-true _ _ (and_right (leb (length (state_of w).rows) n) _ u))

  packs_in : (x : Rec) → x ∈ (state_of w).recs → Packs x
  unfolding state_of
  packs_in x k = let u = Memᴰ.of_map unpack (used_recs w.recs) k in subst (λ (y : Rec). Packs y) u.2 (unpack_packs u.0)

  pub holds : Holds n m w
  holds = record {
    same = (held n m w h).0;
    rows_few = few.0;
    recs_few = few.1;
    facts = facts_in;
    fits = fits_of (state_of w) facts_in packs_in;
  }

module _ (n m : ℕ) (w : Raw) (h : Holds n m w) where
  -- the tables are their used parts, padded
  pub rows_are : w.rows ≡ padded n zero_row (used_rows w.rows)
  unfolding raw_of state_of
  rows_are = sym (ap (λ (k : Raw). k.rows) h.same)

  pub recs_are : w.recs ≡ padded m 0 (used_recs w.recs)
  unfolding raw_of state_of
  recs_are = sym (ap (λ (k : Raw). k.recs) h.same) ∙ ap (padded m 0) (map_back unpack pack (used_recs w.recs) (λ p k. pack-unpack p))

  pub values_are : w.values ≡ padded 256 0 (state_of w).values
  unfolding raw_of
  values_are = sym (ap (λ (k : Raw). k.values) h.same)

  pub writers_are : w.writers ≡ padded 256 0 (state_of w).writers
  unfolding raw_of
  writers_are = sym (ap (λ (k : Raw). k.writers) h.same)

  pub head-is : w.head ≡ (state_of w).count ∷ (state_of w).next ∷ (state_of w).moment ∷ []
  unfolding raw_of
  head-is = sym (ap (λ (k : Raw). k.head) h.same)

  -- so their lengths are right
  pub rows_long : length w.rows ≡ n
  rows_long = ap length rows_are ∙ length-padded n zero_row (used_rows w.rows) (omega (arith, rows_used w, h.rows_few))

  pub recs_long : length w.recs ≡ m
  recs_long = ap length recs_are ∙ length-padded m 0 (used_recs w.recs) (omega (arith, recs_used w, h.recs_few))

  pub values_long : length w.values ≡ 256
  values_long = ap length values_are ∙ length-padded 256 0 (state_of w).values (omega (arith, h.facts.sizes.0, h.facts.counts.1))

  pub writers_long : length w.writers ≡ 256
  writers_long = ap length writers_are ∙ length-padded 256 0 (state_of w).writers (omega (arith, h.facts.sizes.1, h.facts.counts.1))

  -- the last record is free exactly where there is room for one more
  pub recs_room : 1 ≤ m → get_or w.recs (m - 1) 0 ≡ 0 → length (state_of w).recs < m
  recs_room pos z = go (passed (ltb (m - 1) (length (used_recs w.recs))))
    where
      go : (ltb (m - 1) (length (used_recs w.recs)) ≡ true) ⊎ (ltb (m - 1) (length (used_recs w.recs)) ≡ false) → length (state_of w).recs < m
      go (inl l) =
          absurd (eqb-false (get_or (used_recs w.recs) (m - 1) 0) 0 (until-not (λ p. eqb p 0) w.recs (get_or-mem (used_recs w.recs) (m - 1) (ltb-true _ _ l)))
          (sym (get_or-padded m (m - 1) 0 (used_recs w.recs)) ∙ ap (λ (ps : List ℕ). get_or ps (m - 1) 0) (sym recs_are) ∙ z))
      go (inr l) = omega (arith, ltb-false (m - 1) (length (used_recs w.recs)) l, recs_used w)

  pub recs_full : (get_or w.recs (m - 1) 0 ≡ 0 → ⊥) → m ≤ length (state_of w).recs
  recs_full n = go (passed (ltb (length (used_recs w.recs)) m))
    where
      past : (ps : List ℕ) (i : ℕ) → length ps ≤ i → get_or ps i 0 ≡ 0
      past [] i l = refl
      past (q ∷ ps) zero l = absurd (omega arith)
      past (q ∷ ps) (suc i) l = past ps i (omega arith)

      go : (ltb (length (used_recs w.recs)) m ≡ true) ⊎ (ltb (length (used_recs w.recs)) m ≡ false) → m ≤ length (state_of w).recs
      go (inl l) =
          absurd (n (ap (λ (ps : List ℕ). get_or ps (m - 1) 0) recs_are ∙ get_or-padded m (m - 1) 0 (used_recs w.recs)
          ∙ past (used_recs w.recs) (m - 1) (omega (arith, ltb-true (length (used_recs w.recs)) m l))))
      go (inr l) = omega (arith, ltb-false (length (used_recs w.recs)) m l, recs_used w)

  -- the used rows are known by their numbers and commits
  pub known_used : (recs values writers : List ℕ) → Known (used_of w.rows recs values writers)
  unfolding state_of
  known_used recs values writers = let k = known (state_of w) h.facts in record { ascend = k.ascend; positive = λ e. k.positive e; distinct = λ a b c d e. k.distinct a b c d e }

  -- ---- and so the whole tables read as the state
  pub row-whole : (t : ℕ) → row_of w.rows t ≡ row_of (state_of w).rows t
  row-whole t = ap (λ (rs : List Row). row_of rs t) rows_are ∙ row-padded n t (used_rows w.rows) ∙ row_used w t

  pub word_whole : (t i k : ℕ) → 0 < k → word_in t i k (map unpack w.recs) ≡ word_in t i k (state_of w).recs
  word_whole t i k pos = ap (λ (ps : List ℕ). word_in t i k (map unpack ps)) recs_are ∙ word_padded m t i k (used_recs w.recs) pos ∙ word_used w t i k

  -- the tables of values and writers as they are: nothing is added to them
  abbrev whole_state : State
  whole_state = whole_of w.rows w.recs w.values w.writers

  padding : whole_state ≡ whole_of (padded n zero_row (used_rows w.rows)) (padded m 0 (used_recs w.recs)) (padded 0 0 w.values) (padded 0 0 w.writers)
  padding = λ j. whole_of (rows_are j) (recs_are j) (sym (padded_full 0 0 w.values (omega arith)) j) (sym (padded_full 0 0 w.writers (omega arith)) j)

  pub recorded-whole : (t i k : ℕ) → 0 < k → recorded whole_state t i k ≡ recorded (state_of w) t i k
  recorded-whole t i k pos =
      ap (λ (s : State). recorded s t i k) padding
      ∙ recorded-padded n m 0 0 (used_rows w.rows) (used_recs w.recs) w.values w.writers t i k pos
      ∙ recorded_used w w.values w.writers w.rows t i k

  pub version-whole : (i b : ℕ) → i < (state_of w).count → version_at whole_state i b ≡ version_at (state_of w) i b
  version-whole i b l =
      ap (λ (s : State). version_at s i b) padding
      ∙ version-padded n m 0 0 (used_rows w.rows) (used_recs w.recs) w.values w.writers i b
      ∙ version_used w i b l

  pub beaten-whole : (t : ℕ) → beaten whole_state t ≡ beaten (state_of w) t
  beaten-whole t =
      ap (λ (s : State). beaten s t) padding
      ∙ beaten-padded n m 0 0 (used_rows w.rows) (used_recs w.recs) w.values w.writers t
      ∙ beaten_used w w.values w.writers t

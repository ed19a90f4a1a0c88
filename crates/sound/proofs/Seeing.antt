-- The highest row of an item's writers that ended before a row started is the one whose version the row sees. Assumes nothing.
use Prim.Native.Nat.{ℕ, zero, suc, ◌^◌, ◌≤◌, ◌<◌}
use native.Mathlib.Omega.{arith}
use native.Mathlib.Decide.{dec_lt, ℕ_discrete}
use native.Mathlib.Nat.{pow-suc}
use mathlib.Core.Bool.{Bool, true, false, not, ◌&&◌, ◌||◌, cond, false≢true}
use mathlib.Core.Logic.{◌⊎◌, inl, inr}
use mathlib.Core.Path.{◌≡◌, sym, ap, ◌∙◌}
use mathlib.Core.List.{List, map}
use lib.Dec.{eqb}
use lib.ListN.{length, get_or}
use lib.Count.{leading_top}
use lib.Pow.{pow_mono, pow_pos}
use borrow.Author.Tests.{eq-eqb, ne_eqb}
use Rattle.terms.specs.declared.Row.{Row}
use Rattle.terms.specs.declared.Rec.{Rec}
use Rattle.terms.specs.Words.{committed, done, is_read, item, num, start, txn, writer}
use Rattle.rules.specs.Lists.{any}
use Rattle.rules.specs.State.{State, row_of, start_of, wrote}
use Rattle.rules.specs.Versions.{version_at, visible}
use Rattle.rules.specs.Sound.{unmixed}
use Rattle.rules.specs.Raw.{unpack, zero_row}
use Rattle.laws.proofs.Lists.{and_both, and_left, and_right}
use Rattle.laws.proofs.Rows.{row_found}
use Rattle.laws.proofs.Versions.{Installed, Unwritten, Writer, recorded_out, stands, writer_in}
use Rattle.graph.specs.Sets.{member}
use Rattle.graph.proofs.Sets.{member-zero}
use Rattle.sound.specs.Items.{at, earlier_than, installs, newest_of, top}
use Rattle.sound.specs.Parts.{held}
use Rattle.sound.specs.Records.{Owners}
use Rattle.sound.proofs.Earlier.{earlier_in, earlier_out}
use Rattle.sound.proofs.ItemTests.{top_in, top-last}
use Rattle.sound.proofs.Places.{index_of, nums_at, row_rising, stands_at}
use Rattle.sound.proofs.Standing.{Ranked, installs_in, installs_out, start_rising}
use Rattle.sound.proofs.Unmixing.{clashless}

-- a number is below its power of two; so a set whose members are below w is
below_power : (m : ℕ) → m < 2 ^ m
below_power zero = omega arith
below_power (suc m) = let h = below_power m in omega (arith, pow-suc 2 m)

pub set_small : (w m : ℕ) → ((j : ℕ) → member m j ≡ true → j < w) → m < 2 ^ w
set_small w zero h = pow_pos w
set_small w (suc m) h =
    let u = leading_top (suc m) (suc m) (omega arith) (below_power (suc m)) in
    let t = top_in (suc m) (suc m) (omega arith) (below_power (suc m)) in
    let same : top (suc m) (suc m) ≡ u.0 = omega (arith, u.1) in
    let l : u.0 < w = h u.0 (ap (member (suc m)) (sym same) ∙ t) in
    omega (arith, u.3, pow_mono l)

-- the sentence on read words, of one record
abbrev pub sees : State → Rec → Bool
sees s x = not (is_read x) || eqb x.word (writer (visible s (txn x) (item x)))

module _ (w count next moment : ℕ) (vs ws writers : List ℕ) (rs : List Row) (ps os : List ℕ) (few : length rs ≤ w)
    (k : Ranked (held count next moment vs ws rs ps)) (un : unmixed (held count next moment vs ws rs ps) ≡ true)
    (own : Owners (length ps) rs ps os)
    (bases : (t : ℕ) → t < length ps → get_or ws (item (unpack (get_or ps t 0))) 0 ≡ get_or writers (item (unpack (get_or ps t 0))) 0) where
  abbrev the_state : State
  the_state = held count next moment vs ws rs ps

  -- M has the item's writers that ended before the record's row started
  module _ (t : ℕ) (lt : t < length ps) (M : ℕ) (is : (j : ℕ) → member M j ≡ (any (installs rs (item (unpack (get_or ps t 0))) j) ps && earlier_than rs (get_or os t 0) j)) where
    abbrev p : ℕ
    p = get_or ps t 0

    abbrev e : ℕ
    e = item (unpack (get_or ps t 0))

    abbrev o : ℕ
    o = get_or os t 0

    -- a row of the set is a writer that ended before
    in_out : (j : ℕ) → member M j ≡ true → (j < length rs) × (committed (at rs j) ≡ true) × (wrote the_state (num (at rs j)) e ≡ true) × (done (at rs j) < start (at rs o))
    in_out j h =
        let b = sym (is j) ∙ h in
        let u = installs_out count next moment vs ws rs ps e j (and_left _ _ b) in
        (u.0, u.1, u.2, (earlier_out rs o j (and_right (any (installs rs e j) ps) _ b)).2)

    out_in : (j : ℕ) → j < length rs → committed (at rs j) ≡ true → wrote the_state (num (at rs j)) e ≡ true → done (at rs j) < start (at rs o) → member M j ≡ true
    out_in j l c h b =
        is j ∙ and_both _ _ (installs_in count next moment vs ws rs ps e j l c h) (earlier_in rs o j (before (dec_lt o j) (ℕ_discrete o j)) c b)
      where
        before : Dec (o < j) → Dec (o ≡ j) → j < o
        before (yes q) z = absurd (omega (arith, b, k.ends (stands_at zero_row rs j l) c, start_rising count next moment vs ws rs ps k o j q l))
        before (no q) (yes z) = absurd (omega (arith, b, k.ends (stands_at zero_row rs j l) c, ap (λ (i : ℕ). start (at rs i)) z))
        before (no q) (no z) = omega arith

    fits : M < 2 ^ w
    fits = set_small w M (λ j h. omega (arith, (in_out j h).0))

    started : start_of the_state (txn (unpack p)) ≡ start (at rs o)
    started =
        ap (λ (x : ℕ). start (row_of rs x)) (sym (own.is t lt)) ∙ ap start (row_found rs k.ascend (stands_at zero_row rs o (own.inside t lt)))

    -- a writer that ended before is in the set
    standing : (c : Row) → Writer the_state e c → done c < start (at rs o) → (q : ℕ) × (q < length rs) × (at rs q ≡ c) × (member M q ≡ true)
    standing c y b =
        let q = index_of zero_row rs y.here in
        (q.0, q.1, q.2, out_in q.0 q.1 (ap committed q.2 ∙ y.ended) (ap (λ (r : Row). wrote the_state (num r) e) q.2 ∙ y.wrote) (omega (arith, ap done q.2)))

    seen-row : newest_of w (map num rs) M (get_or writers e 0) ≡ writer (version_at the_state e (start (at rs o)))
    unfolding newest_of
    seen-row = go (ℕ_discrete M 0) (stands the_state k.known e (start (at rs o)))
      where
        pick : (b : Bool) → eqb M 0 ≡ b → newest_of w (map num rs) M (get_or writers e 0) ≡ cond b (get_or writers e 0) (get_or (map num rs) (top w M) 0)
        pick b h = ap (λ (x : Bool). cond x (get_or writers e 0) (get_or (map num rs) (top w M) 0)) h

        -- of two writers in the set the higher ended later
        later : (q h : ℕ) → q < h → h < length rs → committed (at rs q) ≡ true → wrote the_state (num (at rs q)) e ≡ true → committed (at rs h) ≡ true → wrote the_state (num (at rs h)) e ≡ true → done (at rs h) ≤ done (at rs q) → ⊥
        later q h l b cq wq ch wh d =
            let mq = stands_at zero_row rs q (omega arith) in
            let mh = stands_at zero_row rs h b in
            let rise = start_rising count next moment vs ws rs ps k q h l b in
            let eh = k.ends mh ch in
            let x = recorded_out the_state (num (at rs q)) e 2 wq in
            clashless the_state k un mq cq mh ch (row_rising rs k.ascend q h l b) x.0 x.1 x.2 (eq-eqb _ _ x.4) (ap (λ (y : ℕ). wrote the_state (num (at rs h)) y) x.3 ∙ wh) (omega arith) (omega arith)

        order : (c : Row) (i : ℕ) → i < length rs → committed (at rs i) ≡ true → wrote the_state (num (at rs i)) e ≡ true → ((j : ℕ) → i < j → member M j ≡ false)
            → (q : ℕ) → q < length rs → at rs q ≡ c → member M q ≡ true → done (at rs i) ≤ done c → i ≡ q
        order c i li ci wi f q lq eq mq d = pair (dec_lt q i) (dec_lt i q)
          where
            pair : Dec (q < i) → Dec (i < q) → i ≡ q
            pair (yes l) r = let u = in_out q mq in absurd (later q i l li u.1 u.2 ci wi (omega (arith, ap done eq)))
            pair (no l) (yes r) = absurd (false≢true (sym (f q r) ∙ mq))
            pair (no l) (no r) = omega arith

        go : Dec (M ≡ 0) → Unwritten the_state e (start (at rs o)) ⊎ ((c : Row) × Installed the_state e (start (at rs o)) c) → newest_of w (map num rs) M (get_or writers e 0) ≡ writer (version_at the_state e (start (at rs o)))
        go (yes z) (inl u) = pick true (eq-eqb M 0 z) ∙ sym (bases t lt) ∙ sym (ap writer u.is)
        go (yes z) (inr (c, u)) =
            let q = standing c u.by u.early in
            absurd (false≢true (sym (member-zero q.0) ∙ ap (λ (y : ℕ). member y q.0) (sym z) ∙ q.3))
        go (no z) (inl u) =
            let h = in_out (top w M) (top_in w M (omega arith) fits) in
            absurd (u.none (at rs (top w M)) (writer_in the_state e (start (at rs o)) (record { here = stands_at zero_row rs (top w M) h.0; ended = h.1; wrote = h.2 }) h.3))
        go (no z) (inr (c, u)) =
            let i = top w M in
            let h = in_out i (top_in w M (omega arith) fits) in
            let q = standing c u.by u.early in
            let last = u.last (at rs i) (writer_in the_state e (start (at rs o)) (record { here = stands_at zero_row rs i h.0; ended = h.1; wrote = h.2 }) h.3) in
            pick false (ne_eqb M 0 z) ∙ nums_at rs i ∙ ap num (ap (at rs) (order c i h.0 h.1 h.2 (top-last w M (omega arith) fits) q.0 q.1 q.2 q.3 last) ∙ q.2) ∙ sym (ap writer u.is)

    -- the word of a read
    pub sees_is : is_read (unpack (get_or ps t 0)) ≡ true
        → sees (held count next moment vs ws rs ps) (unpack (get_or ps t 0)) ≡ eqb (unpack (get_or ps t 0)).word (newest_of w (map num rs) M (get_or writers (item (unpack (get_or ps t 0))) 0))
    unfolding visible
    sees_is r =
        ap (λ (b : Bool). not b || eqb (unpack p).word (writer (version_at the_state e (start_of the_state (txn (unpack p)))))) r
        ∙ ap (eqb (unpack p).word) (sym (seen-row ∙ ap (λ (x : ℕ). writer (version_at the_state e x)) (sym started)))

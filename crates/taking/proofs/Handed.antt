-- The value tables after the versions of the rows that go are passed on are those of the state that forgets them. Assumes nothing.
use Prim.Native.Nat.{ℕ, ◌≤◌, ◌<◌}
use native.Mathlib.Decide.{dec_lt}
use native.Mathlib.Omega.{arith}
use mathlib.Core.Bool.{Bool, true, ◌&&◌}
use mathlib.Core.List.Memᴰ
use mathlib.Core.List.{List, map}
use mathlib.Core.Path.{◌≡◌, sym, ap, subst, ◌∙◌}
use lib.Dec.{eqb}
use lib.ListN.{length, get_or, get_or-eq_default}
use lib.Seq.{ext_get_or}
use borrow.Author.Tests.{eq-eqb, eqb-true, eqb-false, not-true}
use Rattle.rules.specs.Lists.{padded, upfrom}
use Rattle.rules.specs.Raw.{pack, unpack, raw_of, zero_row}
use Rattle.rules.specs.Spent.{forget}
use Rattle.rules.specs.State.{State, commits}
use Rattle.rules.specs.Versions.{LatestBefore, version_at}
use Rattle.terms.specs.Words.{num, done, committed, txn, item, is_write, version, writer}
use Rattle.terms.specs.declared.Row.{Row}
use Rattle.terms.specs.declared.Rec.{Rec}
use Rattle.terms.specs.declared.Version.{Version}
use Rattle.lists.proofs.Pads.{get_or-padded, length-padded}
use Rattle.laws.proofs.Lists.{◌∈◌, and_both, and_left, and_right, keep_in, keep_out}
use Rattle.laws.proofs.Raw.{Packs, unpack-pack}
use Rattle.laws.proofs.Rows.{Known, row_at}
use Rattle.laws.proofs.Tables.{get_or-zero, length-table}
use Rattle.laws.proofs.Versions.{Writer, commits_out, installer_in, installer_out, latest_decides, recorded_in, recorded_out}
use Rattle.graph.specs.Sets.{member}
use Rattle.theory.proofs.Consequences.{rowed}
use Rattle.theory.proofs.Facts.{Facts}
use Rattle.theory.proofs.Forgetting.{gone_of, rowed_gone}
use Rattle.edges.specs.Blocks.{at}
use Rattle.edges.proofs.Places.{in_place}
use Rattle.taking.specs.Leaving.{place_of}
use Rattle.taking.specs.Passing.{writes, commit_at, Entry, Passed}
use Rattle.taking.proofs.Placed.{at-padded, place_is, word_in_lem}
use Rattle.taking.proofs.Taken.{goes, used}

module _ (n m : ℕ) (s : State) (v : Facts s) (fits : (x : Rec) → x ∈ s.recs → Packs x) (room : length s.rows ≤ n) (g : ℕ → Bool) (only : (t : ℕ) → g t ≡ true → t ∈ commits s)
    (gone : ℕ) (is : (i : ℕ) → member gone i ≡ g (num (at s.rows i))) where
  abbrev rows : List Row
  rows = padded n zero_row s.rows

  -- the rows that go
  abbrev the_state : State
  the_state = gone_of g s

  known : Known the_state
  known = (rowed_gone g s (rowed s v)).known

  -- when a record's row committed
  commit-is : {x : Rec} {r : Row} → x ∈ s.recs → r ∈ s.rows → num r ≡ txn x → commit_at rows (pack x) ≡ done r
  commit-is {x} {r} mx mr e =
      let w = in_place zero_row s.rows mr in
      ap (λ (y : Rec). done (at rows (place_of rows (txn y)))) (unpack-pack x (fits x mx))
      ∙ ap (λ (t : ℕ). done (at rows (place_of rows t))) (sym (ap num w.2 ∙ e))
      ∙ ap (λ (k : ℕ). done (at rows k)) (place_is n s v room w.0 w.1) ∙ ap done (at-padded n s v room w.0 ∙ w.2)

  -- a write of a row that goes, as a record of the tables
  writes_in : (i : ℕ) {x : Rec} → x ∈ s.recs → g (txn x) ≡ true → item x ≡ i → x.kind ≡ 2 → writes gone rows i (pack x) ≡ true
  writes_in i {x} mx t e k =
      let u = unpack-pack x (fits x mx) in
      and_both _ _ (and_both _ _ (goes n m s v fits room g only gone is mx ∙ t) (ap (λ (y : Rec). eqb y.kind 2) u ∙ eq-eqb _ _ k))
      (ap (λ (y : Rec). eqb (item y) i) u ∙ eq-eqb _ _ e)

  writes_out : (i : ℕ) {x : Rec} → x ∈ s.recs → writes gone rows i (pack x) ≡ true → (g (txn x) ≡ true) × (item x ≡ i) × (x.kind ≡ 2)
  writes_out i {x} mx h =
      let u = unpack-pack x (fits x mx) in
      let a = and_left (member gone (place_of rows (txn (unpack (pack x)))) && is_write (unpack (pack x))) _ h in (
        sym (goes n m s v fits room g only gone is mx) ∙ and_left _ (is_write (unpack (pack x))) a,
        ap (λ (y : Rec). item y) (sym u) ∙ eqb-true (item (unpack (pack x))) i (and_right (member gone (place_of rows (txn (unpack (pack x)))) && is_write (unpack (pack x))) _ h),
        ap (λ (y : Rec). y.kind) (sym u) ∙ eqb-true (unpack (pack x)).kind 2 (and_right (member gone (place_of rows (txn (unpack (pack x))))) _ a),
      )

  -- the record of a writer that goes
  of_writer : (i : ℕ) {r : Row} → Writer the_state i r → (x : Rec) × (x ∈ s.recs) × (txn x ≡ num r) × (writes gone rows i (pack x) ≡ true) × (commit_at rows (pack x) ≡ done r)
  of_writer i {r} w =
      let o = recorded_out the_state (num r) i 2 w.wrote in
      let k = keep_out (λ r. g (num r)) s.rows w.here in
      (o.0, o.1, o.2, writes_in i o.1 (ap g o.2 ∙ k.1) o.3 o.4, commit-is o.1 k.0 (sym o.2))

  module _ (i : ℕ) {a b x y : ℕ} where
    newest : Entry gone rows (map pack s.recs) a b x y i → a ≡ get_or s.values i 0 → b ≡ get_or s.writers i 0 → LatestBefore the_state i s.moment (version y x)
    newest (Entry.kept f ex ey) ea eb = LatestBefore.base (λ c h.
        let u = installer_out the_state known i s.moment h in
        let o = of_writer i u.1 in
        eqb-false (done u.0) 0 (not-true _ u.1.ended) (sym o.4 ∙ f (pack o.0) (Memᴰ.map pack o.1) o.3)) (λ q. version ((ey ∙ eb) q) ((ex ∙ ea) q))
    newest (Entry.passed p l ex ey) ea eb =
        let o = Memᴰ.of_map pack s.recs l.here in
        let z = o.0 in
        let w = writes_out i o.1 (subst (λ (k : ℕ). writes gone rows i k ≡ true) (sym o.2) l.is) in
        let c = commits_out s (only (txn z) w.0) in
        let r = c.0 in
        let wr = made r z c.1 c.2 c.3 o.1 w in
        let early = (v.ends c.1 c.2).1 in
        let own = installer_in the_state known i s.moment wr early in
        LatestBefore.installed (num r) own (λ d h.
        let u = installer_out the_state known i s.moment h in
        let q = of_writer i u.1 in
        omega (arith, u.4, ap done (row_at the_state known wr.here), q.4, l.last (pack q.0) (Memᴰ.map pack q.1) q.3, ap (commit_at rows) (sym o.2), commit-is o.1 c.1 c.3))
        (λ j. version ((ey ∙ ap (λ (k : ℕ). txn (unpack k)) (sym o.2) ∙ ap (λ (y : Rec). txn y) (unpack-pack z (fits z o.1)) ∙ sym c.3) j)
        ((ex ∙ ap (λ (k : ℕ). (unpack k).word) (sym o.2) ∙ ap (λ (y : Rec). y.word) (unpack-pack z (fits z o.1)) ∙ sym (word_in_lem (num r) i 2 s.recs v.sorted o.1 (named z r c.3 w))) j))
      where
        made : (r : Row) (z : Rec) → r ∈ s.rows → committed r ≡ true → num r ≡ txn z → z ∈ s.recs → (g (txn z) ≡ true) × (item z ≡ i) × (z.kind ≡ 2) → Writer the_state i r
        made r z mr ce e mz w = record { here = keep_in (λ r. g (num r)) mr (ap g e ∙ w.0); ended = ce; wrote = recorded_in the_state (num r) i 2 mz (sym e) w.1 w.2 }

        named : (z : Rec) (r : Row) → num r ≡ txn z → (g (txn z) ≡ true) × (item z ≡ i) × (z.kind ≡ 2) → Rattle.rules.specs.State.is_rec (num r) i 2 z ≡ true
        named z r e w = and_both _ _ (and_both _ _ (eq-eqb _ _ (sym e)) (eq-eqb _ _ w.1)) (eq-eqb _ _ w.2)

  -- no entry from count upward is written
  past : (i : ℕ) {a b x y : ℕ} → s.count ≤ i → Entry gone rows (map pack s.recs) a b x y i → (x ≡ a) × (y ≡ b)
  past i l (Entry.kept f ex ey) = (ex, ey)
  past i l (Entry.passed p t ex ey) =
      let o = Memᴰ.of_map pack s.recs t.here in
      let w = writes_out i o.1 (subst (λ (k : ℕ). writes gone rows i k ≡ true) (sym o.2) t.is) in
      absurd (omega (arith, v.within o.1, w.1))

  -- a table made of the versions, filled up to 256
  made_of : (base : List ℕ) (f : ℕ → ℕ) (l : List ℕ) → length l ≡ 256 → length base ≡ s.count → ((i : ℕ) → i < s.count → get_or l i 0 ≡ f i) → ((i : ℕ) → s.count ≤ i → get_or l i 0 ≡ get_or base i 0) → l ≡ padded 256 0 (map f (upfrom 0 s.count))
  made_of base f l e b lo hi =
      ext_get_or 0 l (padded 256 0 (map f (upfrom 0 s.count))) (e ∙ sym (length-padded 256 0 (map f (upfrom 0 s.count)) (omega (arith, length-table f s.count, v.counts.1))))
      (λ i h. pick i (dec_lt i s.count) ∙ sym (get_or-padded 256 i 0 (map f (upfrom 0 s.count))))
    where
      pick : (i : ℕ) → Dec (i < s.count) → get_or l i 0 ≡ get_or (map f (upfrom 0 s.count)) i 0
      pick i (yes h) = lo i h ∙ sym (get_or-zero f s.count i h)
      pick i (no h) =
          hi i (omega arith) ∙ get_or-eq_default base 0 {n = i} (omega (arith, b)) ∙ sym (get_or-eq_default (map f (upfrom 0 s.count)) 0 {n = i} (omega (arith, length-table f s.count)))

  module _ {values writers : List ℕ} (h : Passed gone rows (padded m 0 (map pack s.recs)) (padded 256 0 s.values) (padded 256 0 s.writers) values writers) where
    entry : (i : ℕ) → Entry gone rows (map pack s.recs) (get_or (padded 256 0 s.values) i 0) (get_or (padded 256 0 s.writers) i 0) (get_or values i 0) (get_or writers i 0) i
    entry i = subst (λ (l : List ℕ). Entry gone rows l (get_or (padded 256 0 s.values) i 0) (get_or (padded 256 0 s.writers) i 0) (get_or values i 0) (get_or writers i 0) i) (used n m s v fits room g only gone is) (h.entry i)

    at-moment : (i : ℕ) → version_at the_state i s.moment ≡ version (get_or writers i 0) (get_or values i 0)
    at-moment i = (latest_decides the_state known i s.moment _).1 (newest i (entry i) (get_or-padded 256 i 0 s.values) (get_or-padded 256 i 0 s.writers))

    pub values_taken : values ≡ (raw_of n m (forget g s)).values
    unfolding raw_of forget
    values_taken =
        made_of s.values (λ i. (version_at the_state i s.moment).value) values (h.values_len ∙ length-padded 256 0 s.values (omega (arith, v.sizes.0, v.counts.1))) v.sizes.0
        (λ i l. sym (ap (λ (w : Version). w.value) (at-moment i))) (λ i l. (past i l (entry i)).0 ∙ get_or-padded 256 i 0 s.values)

    pub writers_taken : writers ≡ (raw_of n m (forget g s)).writers
    unfolding raw_of forget
    writers_taken =
        made_of s.writers (λ i. writer (version_at the_state i s.moment)) writers (h.writers-len ∙ length-padded 256 0 s.writers (omega (arith, v.sizes.1, v.counts.1))) v.sizes.1
        (λ i l. sym (ap (λ (w : Version). writer w) (at-moment i))) (λ i l. (past i l (entry i)).1 ∙ get_or-padded 256 i 0 s.writers)

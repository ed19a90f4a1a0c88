-- Rows in order, by their index: what the sentences on rows say of them, and who wrote an item. Assumes nothing.
use Prim.Native.Nat.{ℕ, zero, suc, ◌+◌, ◌≤◌, ◌<◌}
use native.Mathlib.Omega.{arith}
use native.Mathlib.Decide.{dec_lt}
use mathlib.Core.Bool.{true, not, ◌&&◌, and-eq-true_iff}
use mathlib.Core.Path.{◌≡◌, sym, ap, ◌∙◌}
use mathlib.Core.List.Memᴰ
use mathlib.Core.List.{List, [], ◌∷◌}
use lib.Dec.{eqb, leb, ltb}
use lib.ListN.{length}
use borrow.Author.Tests.{eq-eqb, eqb-false, eqb-true, leb-true, lt-ltb, ltb-true, not-true}
use Rattle.terms.specs.declared.Row.{Row}
use Rattle.terms.specs.declared.Rec.{Rec}
use Rattle.terms.specs.Words.{committed, done, item, num, start, txn}
use Rattle.rules.specs.Lists.{all, any, upfrom}
use Rattle.rules.specs.State.{State, wrote}
use Rattle.rules.specs.Sound.{numbered, timed}
use Rattle.rules.specs.Raw.{unpack, zero_row}
use Rattle.laws.proofs.Lists.{◌∈◌, all_out, and_both, and_left, and_right, any_in, any_out, apart, keep_in}
use Rattle.laws.proofs.Rows.{Ascend, Known, pairs_out}
use Rattle.laws.proofs.Versions.{recorded_in, recorded_out}
use Rattle.sound.specs.Items.{at, installs}
use Rattle.sound.specs.Parts.{held}
use Rattle.sound.specs.Rows.{ascends, rises}
use Rattle.sound.proofs.Places.{row_rising, stands_at}

-- what is known of the rows of a state once the sentences on rows hold
pub record Ranked (s : State) : Type 0 where
  pub ascend : Ascend s.rows
  pub rising : rises s.rows ≡ true
  pub ends : {r : Row} → r ∈ s.rows → committed r ≡ true → start r < done r
  pub cross : {c r : Row} → c ∈ s.rows → committed c ≡ true → r ∈ s.rows → done c ≡ start r → ⊥
  pub known : Known s

starts_rise : (s : State) → numbered s ≡ true → rises s.rows ≡ true
unfolding numbered
starts_rise s h = and_right (all (λ r. leb 1 (num r) && ltb (num r) s.next) s.rows) _ h

pub ranked : (s : State) → Ascend s.rows → numbered s ≡ true → timed s ≡ true → Ranked s
unfolding numbered timed
ranked s o hn ht =
    let v = simp and-eq-true_iff at ht in
    let n = and_left (all (λ r. leb 1 (num r) && ltb (num r) s.next) s.rows) _ hn in
    record {
      ascend = o;
      rising = starts_rise s hn;
      ends = λ {r} m c. ltb-true (start r) (done r) (and_left _ _ (all_out (λ r. ltb (start r) (done r) && ltb (done r) s.moment) (keep_in committed m c) v.0.0.1));
      cross = λ {c} {r} mc e mr.
          eqb-false (done c) (start r) (not-true _ (all_out (λ r. not (eqb (done c) (start r))) mr (all_out (λ c. all (λ r. not (eqb (done c) (start r))) s.rows) (keep_in committed mc e) v.1)));
      known = record {
        ascend = o;
        positive = λ {r} m. leb-true 1 (num r) (and_left _ _ (all_out (λ r. leb 1 (num r) && ltb (num r) s.next) m n));
        distinct = λ mq cq mr cr e. apart done v.0.1 (keep_in committed mq cq) (keep_in committed mr cr) e;
      };
    }

pub rows_rise : (next moment : ℕ) (rs : List Row) → (ascends rs && (numbered (held 0 next moment [] [] rs []) && timed (held 0 next moment [] [] rs []))) ≡ true → rises rs ≡ true
rows_rise next moment rs h = starts_rise (held 0 next moment [] [] rs []) (and_left _ (timed (held 0 next moment [] [] rs [])) (and_right (ascends rs) _ h))

pub in_upfrom : (k n i : ℕ) → k ≤ i → i < k + n → i ∈ upfrom k n
in_upfrom k zero i a b = absurd (omega arith)
in_upfrom k (suc n) i a b = go (dec_lt k i) (λ l. in_upfrom (suc k) n i l (omega arith))
  where
    go : Dec (k < i) → (suc k ≤ i → i ∈ upfrom (suc k) n) → i ∈ (k ∷ upfrom (suc k) n)
    go (yes l) f = Memᴰ.tail (f (omega arith))
    go (no l) f = let e : i ≡ k = omega arith in Memᴰ.head e

module _ (count next moment : ℕ) (vs ws : List ℕ) (rs : List Row) (ps : List ℕ) where
  abbrev the_state : State
  the_state = held count next moment vs ws rs ps

  here : (i : ℕ) → i < length rs → at rs i ∈ rs
  here i l = stands_at zero_row rs i l

  pub start_rising : Ranked (held count next moment vs ws rs ps) → (i j : ℕ) → i < j → j < length rs → start (at rs i) < start (at rs j)
  start_rising k i j l b =
      ltb-true (start (at rs i)) (start (at rs j))
      (pairs_out (λ a b. ltb (start a) (start b)) rs k.ascend k.rising (here i (omega arith)) (here j b) (row_rising rs k.ascend i j l b))

  -- the row at j is in the index of an item: it is committed, and wrote the item
  pub installs_out : (e j : ℕ) → any (installs rs e j) ps ≡ true → (j < length rs) × (committed (at rs j) ≡ true) × (wrote (held count next moment vs ws rs ps) (num (at rs j)) e ≡ true)
  unfolding installs
  installs_out e j h =
      let u = any_out (installs rs e j) ps h in
      let p = u.0 in
      let v = simp and-eq-true_iff at u.2 in
      (ltb-true j (length rs) v.0.0, v.0.1, recorded_in the_state (num (at rs j)) e 2 (Memᴰ.map unpack u.1) (sym (eqb-true (num (at rs j)) (txn (unpack p)) v.1.0)) (eqb-true (item (unpack p)) e v.1.1.0) (eqb-true (unpack p).kind 2 v.1.1.1))

  pub installs_in : (e j : ℕ) → j < length rs → committed (at rs j) ≡ true → wrote (held count next moment vs ws rs ps) (num (at rs j)) e ≡ true → any (installs rs e j) ps ≡ true
  unfolding installs
  installs_in e j l c h =
      let u = recorded_out the_state (num (at rs j)) e 2 h in
      let v = Memᴰ.of_map unpack ps u.1 in
      any_in (installs rs e j) v.1
      (and_both _ _ (and_both _ _ (lt-ltb j (length rs) l) c)
      (and_both _ _ (eq-eqb (num (at rs j)) (txn (unpack v.0)) (sym (ap txn v.2 ∙ u.2)))
      (and_both _ _ (eq-eqb (item (unpack v.0)) e (ap item v.2 ∙ u.3)) (eq-eqb (unpack v.0).kind 2 (ap (λ (x : Rec). x.kind) v.2 ∙ u.4)))))

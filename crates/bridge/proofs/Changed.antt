-- The tables of a state after a change: a record put in, changed or taken out, a row added, committed or taken out. Assumes nothing.
use Prim.Native.Nat.{ℕ, suc, ◌+◌, ◌*◌, ◌-◌, ◌≤◌, ◌<◌}
use mathlib.Core.Bool.{Bool, true, false, cond, false≢true, not}
use mathlib.Core.List.{List, [], ◌∷◌, ◌++◌, map, append_assoc}
use mathlib.Core.Path.{◌∙◌, ◌≡◌, ap, ap₂, refl, sym}
use native.Mathlib.Omega.{arith}
use lib.Dec.{eqb}
use lib.ListN.{length, length-append, length-map, replicate, set}
use lib.Seq.{set-append_seam}
use borrow.Author.Tests.{ne_eqb}
use Rattle.terms.specs.declared.Row.{Row}
use Rattle.terms.specs.declared.Rec.{Rec}
use Rattle.terms.specs.Words.{item, key, num, stamp, txn}
use Rattle.rules.specs.Lists.{keep, padded}
use Rattle.rules.specs.State.{State, dropped, insert, recorded, with_recs, with_rows}
use Rattle.rules.specs.Raw.{Raw, pack, raw_of, unpack, used_rows, zero_row}
use Rattle.lists.specs.Tables.{first_index, insert_in}
use Rattle.lists.proofs.Pads.{first_padded, map-padded, padded-insert, padded-kept, padded-set}
use Rattle.laws.proofs.Lists.{◌∈◌}
use Rattle.lists.proofs.Pads.{until-padded}
use Rattle.laws.proofs.Keeping.{any_none}
use Rattle.laws.proofs.Raw.{Fits, Packs}
use Rattle.laws.proofs.Records.{Sorted, key_inj}
use Rattle.laws.proofs.Versions.{recorded_in, recorded_out}
use Rattle.bridge.specs.Whole.{key_of, other_rec, other_row, place_of, put_in, put_over, recs_in, rows_in, stops_at}
use Rattle.bridge.proofs.Packs.{Filed, Over, change_packed, insert_packed, keep_packed, key_of_lem}

first_most : {A : Type 0} (p : A → Bool) (xs : List A) → first_index p xs ≤ length xs
unfolding first_index
first_most p [] = omega arith
first_most p (x ∷ xs) = go (p x) (first_most p xs)
  where
    go : (b : Bool) → first_index p xs ≤ length xs → cond b 0 (suc (first_index p xs)) ≤ suc (length xs)
    go true l = omega arith
    go false l = omega arith

module _ (n m : ℕ) (s : State) (f : Fits s) where
  filed : Filed s.recs
  filed y k = ((f.packs k).word_fits, f.kinds k)

  -- ---- the records
  place_raw : (k : ℕ) → place_of k (raw_of n m s).recs ≡ place_of k (map pack s.recs)
  unfolding raw_of stops_at
  place_raw k = first_padded (stops_at k) m 0 (map pack s.recs) refl

  module _ (x : Rec) (p : Packs x) where
    over : Sorted s.recs → recorded s (txn x) (item x) x.kind ≡ true → Over x s.recs
    over o there =
        let u = recorded_out s (txn x) (item x) x.kind there in
        change_packed x s.recs filed o u.0 u.1 (λ j. (u.2 j * 256 + u.3 j) * 256 + u.4 j)

    place : place_of (key_of (pack x)) (raw_of n m s).recs ≡ place_of (key x) (map pack s.recs)
    place = ap (λ (k : ℕ). place_of k (raw_of n m s).recs) (key_of_lem x p.word_fits) ∙ place_raw (key x)

    -- x is put in where there is room and its key is new
    pub insert-raw : recorded s (txn x) (item x) x.kind ≡ false → length s.recs < m
        → raw_of n m (with_recs s (insert x s.recs)) ≡ recs_in (raw_of n m s) (put_in (pack x) (raw_of n m s).recs)
    unfolding raw_of
    insert-raw new room =
        let ps = map pack s.recs in
        sym (ap (λ (qs : List ℕ). recs_in (raw_of n m s) qs)
        (ap (λ (k : ℕ). insert_in k (pack x) (padded m 0 ps)) place
        ∙ padded-insert m (place_of (key x) ps) 0 (pack x) ps (first_most (stops_at (key x)) ps) (omega (arith, length-map s.recs pack))
        ∙ ap (padded m 0) (insert_packed x s.recs filed other)))
      where
        other : (y : Rec) → y ∈ s.recs → key x ≡ key y → ⊥
        other y k e =
            let v = key_inj x y (p.item-fits, p.kind_fits) ((f.packs k).item-fits, (f.packs k).kind_fits) e in
            false≢true (sym new ∙ recorded_in s (txn x) (item x) x.kind k (sym v.0) (sym v.1) (sym v.2))

    -- x goes over the record that has its key
    pub change_raw : Sorted s.recs → recorded s (txn x) (item x) x.kind ≡ true
        → raw_of n m (with_recs s (insert x s.recs)) ≡ recs_in (raw_of n m s) (put_over (pack x) (raw_of n m s).recs)
    unfolding raw_of
    change_raw o there =
        let ps = map pack s.recs in
        sym (ap (λ (qs : List ℕ). recs_in (raw_of n m s) qs)
        (ap (λ (k : ℕ). set (padded m 0 ps) k (pack x)) place
        ∙ padded-set m (place_of (key x) ps) 0 (pack x) ps (omega (arith, (over o there).inside, length-map s.recs pack))
        ∙ ap (padded m 0) (over o there).same))

  -- the records that pass a test stay
  pub keep-recs-raw : (g : Rec → Bool) → length s.recs ≤ m
      → raw_of n m (with_recs s (keep g s.recs)) ≡ recs_in (raw_of n m s) (padded m 0 (keep (λ q. g (unpack q)) (raw_of n m s).recs))
  unfolding raw_of
  keep-recs-raw g few =
      sym (ap (λ (qs : List ℕ). recs_in (raw_of n m s) qs)
      (padded-kept (λ q. g (unpack q)) m 0 (map pack s.recs) (omega (arith, length-map s.recs pack))
      ∙ ap (padded m 0) (keep_packed g s.recs (λ y k. f.packs k))))

  -- ---- the rows
  pub used_raw : used_rows (raw_of n m s).rows ≡ s.rows
  unfolding raw_of
  used_raw = until-padded (λ r. eqb (num r) 0) n zero_row s.rows refl (any_none _ s.rows (λ r k. ne_eqb (num r) 0 (λ e. omega (arith, f.numbers k))))

  pub add_raw : (r : Row) → length s.rows < n → raw_of n m (with_rows s (s.rows ++ (r ∷ []))) ≡ rows_in (raw_of n m s) (set (raw_of n m s).rows (length s.rows) r)
  unfolding raw_of
  add_raw r room =
      let rs = s.rows in
      let left : n - length rs ≡ suc (n - length (rs ++ (r ∷ []))) = omega (arith, length-append rs (r ∷ [])) in
      sym (ap (λ (qs : List Row). rows_in (raw_of n m s) qs)
      (ap (λ (k : ℕ). set (rs ++ replicate k zero_row) (length rs) r) left
      ∙ set-append_seam rs zero_row (replicate (n - length (rs ++ (r ∷ []))) zero_row) r
      ∙ sym (append_assoc rs (r ∷ []) (replicate (n - length (rs ++ (r ∷ []))) zero_row))))

  pub stamp-raw : (t b : ℕ) → 1 ≤ t → raw_of n m (with_rows s (map (stamp t b) s.rows)) ≡ rows_in (raw_of n m s) (map (stamp t b) (raw_of n m s).rows)
  unfolding raw_of
  stamp-raw t b pos =
      let z : stamp t b zero_row ≡ zero_row = rw (ne_eqb 0 t (λ e. omega arith)) refl in
      sym (ap (λ (qs : List Row). rows_in (raw_of n m s) qs) (map-padded (stamp t b) n zero_row s.rows ∙ ap (λ (r : Row). padded n r (map (stamp t b) s.rows)) z))

  pub keep-rows-raw : (g : Row → Bool) → length s.rows ≤ n → raw_of n m (with_rows s (keep g s.rows)) ≡ rows_in (raw_of n m s) (padded n zero_row (keep g (raw_of n m s).rows))
  unfolding raw_of
  keep-rows-raw g few = sym (ap (λ (qs : List Row). rows_in (raw_of n m s) qs) (padded-kept g n zero_row s.rows few))

  -- all of t is taken out
  pub dropped-raw : (t : ℕ) → length s.rows ≤ n → length s.recs ≤ m
      → raw_of n m (dropped s t) ≡ recs_in (rows_in (raw_of n m s) (padded n zero_row (keep (other_row t) (raw_of n m s).rows))) (padded m 0 (keep (other_rec t) (raw_of n m s).recs))
  unfolding raw_of dropped
  dropped-raw t few less =
      ap₂ (λ (rs : List Row) (ps : List ℕ). recs_in (rows_in (raw_of n m s) rs) ps) (ap (λ (v : Raw). v.rows) (keep-rows-raw (other_row t) few))
      (ap (λ (v : Raw). v.recs) (keep-recs-raw (λ x. not (eqb (txn x) t)) less))

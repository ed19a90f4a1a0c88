-- The lengths and zeros of lent tables are what makes them the padded form of their own state. Assumes nothing.
use Prim.Native.Nat.{ℕ, zero, suc, ◌-◌, ◌≤◌}
use native.Mathlib.Omega.{arith}
use mathlib.Core.Bool.{Bool, true, false, cond, ◌&&◌, and-eq-true_iff}
use mathlib.Core.Path.{◌≡◌, refl, sym, ap, ◌∙◌}
use mathlib.Core.List.{List, [], ◌∷◌, ◌++◌}
use lib.Dec.{eqb, leb}
use lib.ListN.{length, get_or, take, drop, replicate, length-take, length-drop, length-map, take-append-drop}
use borrow.Author.Tests.{eq-eqb, eqb-true, le-leb, leb-true}
use Rattle.std.proofs.lemmas.Bool.{false_from_ne_true}
use Rattle.terms.specs.declared.Row.{Row}
use Rattle.terms.specs.Words.{done, num, start}
use Rattle.rules.specs.Lists.{all, padded}
use Rattle.rules.specs.Sound.{sized}
use Rattle.rules.specs.Raw.{Raw, pack, raw_of, state_of, unpack, used_recs, zero_row}
use Rattle.lists.specs.Tables.{first_index}
use Rattle.lists.proofs.Pads.{length-padded}
use Rattle.lists.proofs.Untils.{length-until, until_first}
use Rattle.laws.proofs.Lists.{and_both, and_left, and_right}
use Rattle.laws.proofs.Raw.{pack-unpack}
use Rattle.laws.proofs.Sames.{map_back}
use Rattle.laws.proofs.Tables.{all_replicate}
use Rattle.sound.specs.Shape.{is_zero, no_row, shaped, zeroed}

pub first_most : {A : Type 0} (p : A → Bool) (xs : List A) → first_index p xs ≤ length xs
unfolding first_index
first_most p [] = omega arith
first_most p (x ∷ xs) = go (p x) (first_most p xs)
  where
    go : (b : Bool) → first_index p xs ≤ length xs → cond b zero (suc (first_index p xs)) ≤ suc (length xs)
    go true h = omega arith
    go false h = omega arith

-- ---- a list that is filled up with z from index k on
module _ {A : Type 0} (p : A → Bool) (z : A) (is : (x : A) → p x ≡ true → x ≡ z) (has : p z ≡ true) where
  filled : (xs : List A) → all p xs ≡ true → xs ≡ replicate (length xs) z
  filled [] h = refl
  filled (x ∷ xs) h = λ j. is x (and_left _ _ h) j ∷ filled xs (and_right (p x) _ h) j

  -- it is the padded form of its first k elements
  fills : (n k : ℕ) (xs : List A) → length xs ≡ n → k ≤ n → all p (drop k xs) ≡ true → padded n z (take k xs) ≡ xs
  fills n k xs l b h =
      let long : length (drop k xs) ≡ n - length (take k xs) = omega (arith, length-drop k xs, length-take k xs) in
      let rest : drop k xs ≡ replicate (n - length (take k xs)) z = filled (drop k xs) h ∙ ap (λ (i : ℕ). replicate i z) long in
      ap (λ (ys : List A). take k xs ++ ys) (sym rest) ∙ take-append-drop k xs

  filled_long : (n k : ℕ) (xs : List A) → k ≤ n → padded n z (take k xs) ≡ xs → length xs ≡ n
  filled_long n k xs b e = ap length (sym e) ∙ length-padded n z (take k xs) (omega (arith, length-take k xs))

  filled_out : (n k : ℕ) (xs : List A) → k ≤ n → padded n z (take k xs) ≡ xs → all p (drop k xs) ≡ true
  filled_out n k xs b e =
      let l = filled_long n k xs b e in
      let len : length (take k xs) ≡ k = omega (arith, length-take k xs) in
      ap (λ (ys : List A). all p (drop k ys)) (sym e)
      ∙ ap (λ (i : ℕ). all p (drop i (padded n z (take k xs)))) (sym len)
      ∙ ap (all p) (behind (take k xs) (replicate (n - length (take k xs)) z))
      ∙ all_replicate p (n - length (take k xs)) z has
    where
      behind : (ys zs : List A) → drop (length ys) (ys ++ zs) ≡ zs
      behind [] zs = refl
      behind (y ∷ ys) zs = behind ys zs

three : (l : List ℕ) → length l ≡ 3 → get_or l 0 0 ∷ get_or l 1 0 ∷ get_or l 2 0 ∷ [] ≡ l
three (a ∷ b ∷ c ∷ []) e = refl
three [] e = absurd (omega arith)
three (a ∷ []) e = absurd (omega arith)
three (a ∷ b ∷ []) e = absurd (omega arith)
three (a ∷ b ∷ c ∷ d ∷ l) e = absurd (omega arith)

zeroed_out : (r : Row) → zeroed r ≡ true → r ≡ zero_row
unfolding zeroed
zeroed_out r h =
    let v = simp and-eq-true_iff at h in
    λ j. record { number = record { 0 = eqb-true (num r) 0 v.0 j }; start = record { 0 = eqb-true (start r) 0 v.1.0 j }; commit = record { 0 = eqb-true (done r) 0 v.1.1 j } }

zero-zeroed : zeroed zero_row ≡ true
unfolding zeroed
zero-zeroed = refl

-- ---- the tables
module _ (n m : ℕ) (w : Raw) where
  abbrev used : ℕ
  used = first_index no_row w.rows

  abbrev filed : ℕ
  filed = first_index is_zero w.recs

  recs_back : (raw_of n m (state_of w)).recs ≡ padded m 0 (take filed w.recs)
  unfolding raw_of state_of
  recs_back = ap (padded m 0) (map_back unpack pack (used_recs w.recs) (λ p k. pack-unpack p) ∙ until_first is_zero w.recs)

  rows_back : (raw_of n m (state_of w)).rows ≡ padded n zero_row (take used w.rows)
  unfolding raw_of state_of
  rows_back = ap (padded n zero_row) (until_first no_row w.rows)

  pub few_rows : length (state_of w).rows ≡ used
  unfolding state_of
  few_rows = length-until no_row w.rows

  few_recs : length (state_of w).recs ≡ filed
  unfolding state_of
  few_recs = length-map (used_recs w.recs) unpack ∙ length-until is_zero w.recs

  pub shape_same : shaped 256 n m used filed w ≡ true → raw_of n m (state_of w) ≡ w
  unfolding shaped raw_of state_of
  shape_same h =
      let v = simp and-eq-true_iff at h in
      let count = leb-true (get_or w.head 0 0) 256 v.1.1.1.1.1.0 in
      let hd = three w.head (eqb-true _ _ v.0) in
      let vs = fills is_zero 0 (λ x e. eqb-true x 0 e) refl 256 (get_or w.head 0 0) w.values (eqb-true _ _ v.1.0) count v.1.1.1.1.1.1.0 in
      let ws = fills is_zero 0 (λ x e. eqb-true x 0 e) refl 256 (get_or w.head 0 0) w.writers (eqb-true _ _ v.1.1.0) count v.1.1.1.1.1.1.1.0 in
      let rs = rows_back ∙ fills zeroed zero_row zeroed_out zero-zeroed n used w.rows (eqb-true _ _ v.1.1.1.0) (omega (arith, first_most no_row w.rows, eqb-true (length w.rows) n v.1.1.1.0)) v.1.1.1.1.1.1.1.1.0 in
      let long : length w.recs ≡ m = eqb-true _ _ v.1.1.1.1.0 in
      let ps = recs_back ∙ fills is_zero 0 (λ x e. eqb-true x 0 e) refl m filed w.recs long (omega (arith, first_most is_zero w.recs)) v.1.1.1.1.1.1.1.1.1 in
      λ j. record { head = hd j; values = vs j; writers = ws j; rows = rs j; recs = ps j }

  pub shape_sized : shaped 256 n m used filed w ≡ true → sized n m (state_of w) ≡ true
  unfolding shaped sized
  shape_sized h =
      let v = simp and-eq-true_iff at h in
      let l : length w.rows ≡ n = eqb-true _ _ v.1.1.1.0 in
      let long : length w.recs ≡ m = eqb-true _ _ v.1.1.1.1.0 in
      and_both _ _ (le-leb (length (state_of w).rows) n (omega (arith, few_rows, first_most no_row w.rows))) (le-leb (length (state_of w).recs) m (omega (arith, few_recs, first_most is_zero w.recs)))

  pub shape_in : raw_of n m (state_of w) ≡ w → sized n m (state_of w) ≡ true → (state_of w).count ≤ 256 → shaped 256 n m used filed w ≡ true
  unfolding shaped sized state_of raw_of
  shape_in e z b =
      let count = get_or w.head 0 0 in
      let fr : used ≤ n = omega (arith, few_rows, leb-true (length (state_of w).rows) n (and_left _ _ z)) in
      let fp : filed ≤ m = omega (arith, few_recs, leb-true (length (state_of w).recs) m (and_right (leb (length (state_of w).rows) n) _ z)) in
      let vs : padded 256 0 (take count w.values) ≡ w.values = ap (λ (v : Raw). v.values) e in
      let ws : padded 256 0 (take count w.writers) ≡ w.writers = ap (λ (v : Raw). v.writers) e in
      let rs = sym rows_back ∙ ap (λ (v : Raw). v.rows) e in
      let ps = sym recs_back ∙ ap (λ (v : Raw). v.recs) e in
      let zero : (x : ℕ) → is_zero x ≡ true → x ≡ 0 = λ x q. eqb-true x 0 q in
      and_both _ _ (eq-eqb _ _ (sym (ap (λ (v : Raw). length v.head) e)))
      (and_both _ _ (eq-eqb _ _ (filled_long is_zero 0 zero refl 256 count w.values b vs))
      (and_both _ _ (eq-eqb _ _ (filled_long is_zero 0 zero refl 256 count w.writers b ws))
      (and_both _ _ (eq-eqb _ _ (filled_long zeroed zero_row zeroed_out zero-zeroed n used w.rows fr rs))
      (and_both _ _ (eq-eqb _ _ (filled_long is_zero 0 zero refl m filed w.recs fp ps))
      (and_both _ _ (le-leb _ _ b)
      (and_both _ _ (filled_out is_zero 0 zero refl 256 count w.values b vs)
      (and_both _ _ (filled_out is_zero 0 zero refl 256 count w.writers b ws)
      (and_both _ _ (filled_out zeroed zero_row zeroed_out zero-zeroed n used w.rows fr rs)
      (filled_out is_zero 0 zero refl m filed w.recs fp ps)))))))))

  -- they have none with another number of rows
  pub shape_not : (length w.rows ≡ n → ⊥) → shaped 256 n m used filed w ≡ false
  unfolding shaped
  shape_not h = false_from_ne_true _ (λ e. let v = simp and-eq-true_iff at e in h (eqb-true _ _ v.1.1.1.0))

  pub small : shaped 256 n m used filed w ≡ true → (state_of w).count ≤ 256
  unfolding shaped state_of
  small h = let v = simp and-eq-true_iff at h in leb-true (get_or w.head 0 0) 256 v.1.1.1.1.1.0

-- ---- the rows behind the used ones, compared with the free row
pub rows-clear : (z : Row) → z ≡ zero_row → (rs : List Row) → all (λ r. eqb (num r) (num z) && (eqb (start r) (start z) && eqb (done r) (done z))) rs ≡ all zeroed rs
unfolding zeroed
rows-clear z e rs = ap (λ (z : Row). all (λ r. eqb (num r) (num z) && (eqb (start r) (start z) && eqb (done r) (done z))) rs) e

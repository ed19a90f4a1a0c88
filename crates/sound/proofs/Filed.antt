-- The pass over the records: which rows it needs, and that it is the sentences on records. Assumes nothing.
use Prim.Native.Nat.{ℕ, ◌*◌, ◌≤◌, ◌<◌}
use native.Mathlib.Decide.{dec_lt}
use native.Mathlib.Omega.{arith}
use mathlib.Core.Bool.{Bool, true, false, ◌&&◌, ◌||◌, and-eq-true_iff}
use mathlib.Core.Logic.{◌⊎◌, inl, inr}
use mathlib.Core.Path.{◌≡◌, refl, sym, ap, ◌∙◌}
use mathlib.Core.List.{List, [], ◌∷◌, map}
use lib.Dec.{eqb, leb, ltb}
use borrow.Author.Tests.{eq-eqb, eqb-false, eqb-true, le-leb, leb-true, lt-ltb, ltb-true, ne_eqb}
use Rattle.terms.specs.declared.Row.{Row}
use Rattle.terms.specs.declared.Rec.{Rec}
use Rattle.terms.specs.Words.{is_read, is_write, item, key, num, txn}
use Rattle.rules.specs.Lists.{all, mem}
use Rattle.rules.specs.State.{State}
use Rattle.rules.specs.Sound.{owned}
use Rattle.rules.specs.Raw.{unpack}
use Rattle.laws.proofs.Lists.{all_in, all_out, and_both, and_left, and_right, both_ways, or_cases, or_left, or_right, passed}
use Rattle.laws.proofs.Rows.{Ascend}
use Rattle.sound.specs.Records.{filed_after, filed_from, key_of, sorted}

pub key-is : (p : ℕ) → key (unpack p) ≡ key_of p
key-is p = omega arith

and_shut : (a : Bool) {b : Bool} → b ≡ false → (a && b) ≡ false
and_shut true e = e
and_shut false e = refl

module _ (count : ℕ) where
  after : (k p : ℕ) → filed_after count k p ≡ true → k < key_of p
  unfolding filed_after
  after k p h = ltb-true k (key_of p) (and_left _ _ h)

  -- a row below all transactions that are left is not needed
  unneeded : (r : Row) (rs : List Row) (t k : ℕ) (ps : List ℕ) → num r < t → t * 65536 ≤ k → filed_from count (r ∷ rs) k ps ≡ filed_from count rs k ps
  unfolding filed_from
  unneeded r rs t k [] l b = refl
  unneeded r rs t k (p ∷ ps) l b = go (passed (filed_after count k p)) (λ q. unneeded r rs t (key_of p) ps l q)
    where
      go : (filed_after count k p ≡ true) ⊎ (filed_after count k p ≡ false)
          → (t * 65536 ≤ key_of p → filed_from count (r ∷ rs) (key_of p) ps ≡ filed_from count rs (key_of p) ps)
          → ((eqb (num r) (txn (unpack p)) || mem (txn (unpack p)) (map num rs)) && (filed_after count k p && filed_from count (r ∷ rs) (key_of p) ps))
          ≡ (mem (txn (unpack p)) (map num rs) && (filed_after count k p && filed_from count rs (key_of p) ps))
      go (inl a) f =
          let big : k < key_of p = after k p a in
          let other : eqb (num r) (txn (unpack p)) ≡ false = ne_eqb (num r) (txn (unpack p)) (λ e. omega arith) in
          let rest = f (omega arith) in
          λ j. (other j || mem (txn (unpack p)) (map num rs)) && (filed_after count k p && rest j)
      go (inr a) f =
          and_shut (eqb (num r) (txn (unpack p)) || mem (txn (unpack p)) (map num rs)) (ap (λ (b : Bool). b && filed_from count (r ∷ rs) (key_of p) ps) a)
          ∙ sym (and_shut (mem (txn (unpack p)) (map num rs)) (ap (λ (b : Bool). b && filed_from count rs (key_of p) ps) a))

  module _ (r : Row) (rs : List Row) (k p : ℕ) (ps : List ℕ) where
    -- the row is below the record's transaction
    filed_past : num r < txn (unpack p) → filed_from count (r ∷ rs) k (p ∷ ps) ≡ filed_from count rs k (p ∷ ps)
    unfolding filed_from
    filed_past l =
        let other : eqb (num r) (txn (unpack p)) ≡ false = ne_eqb (num r) (txn (unpack p)) (λ e. omega arith) in
        let rest = unneeded r rs (txn (unpack p)) (key_of p) ps l (omega arith) in
        λ j. (other j || mem (txn (unpack p)) (map num rs)) && (filed_after count k p && rest j)

    -- the record is this row's
    pub filed_own : num r ≡ txn (unpack p) → filed_from count (r ∷ rs) k (p ∷ ps) ≡ (filed_after count k p && filed_from count (r ∷ rs) (key_of p) ps)
    unfolding filed_from
    filed_own e =
        ap (λ (b : Bool). (b || mem (txn (unpack p)) (map num rs)) && (filed_after count k p && filed_from count (r ∷ rs) (key_of p) ps)) (eq-eqb (num r) (txn (unpack p)) e)

    -- the record is not this row's: it is of a later one, or of none
    pub filed_other : Ascend (r ∷ rs) → (num r ≡ txn (unpack p) → ⊥) → filed_from count (r ∷ rs) k (p ∷ ps) ≡ filed_from count rs k (p ∷ ps)
    unfolding filed_from
    filed_other o n = go (dec_lt (num r) (txn (unpack p)))
      where
        none : (qs : List Row) → txn (unpack p) < num r → all (λ b. ltb (num r) (num b)) qs ≡ true → mem (txn (unpack p)) (map num qs) ≡ false
        none [] l h = refl
        none (q ∷ qs) l h =
            ap (λ (b : Bool). b || mem (txn (unpack p)) (map num qs)) (ne_eqb (num q) (txn (unpack p)) (λ e. omega (arith, ltb-true (num r) (num q) (and_left _ _ h))))
            ∙ none qs l (and_right (ltb (num r) (num q)) _ h)

        go : Dec (num r < txn (unpack p)) → filed_from count (r ∷ rs) k (p ∷ ps) ≡ filed_from count rs k (p ∷ ps)
        go (yes l) = filed_past l
        go (no l) =
            let miss : mem (txn (unpack p)) (map num rs) ≡ false = none rs (omega arith) (and_left _ _ o) in
            rw (ne_eqb (num r) (txn (unpack p)) n, miss) refl

  pub filed_empty : (k p : ℕ) (ps : List ℕ) → filed_from count [] k (p ∷ ps) ≡ false
  unfolding filed_from
  filed_empty k p ps = refl

  -- ---- the sentences
  abbrev own : List Row → Rec → Bool
  own rs x = (is_read x || is_write x) && mem (txn x) (map num rs) && ltb (item x) count

  abbrev above : ℕ → Rec → Bool
  above k x = ltb k (key x)

  record Filed (rs : List Row) (k : ℕ) (ps : List ℕ) : Type 0 where
    high : all (above k) (map unpack ps) ≡ true
    sort : sorted ps ≡ true
    owns : all (own rs) (map unpack ps) ≡ true

  kind_out : (x : Rec) → leb 1 x.kind ≡ true → leb x.kind 2 ≡ true → (is_read x || is_write x) ≡ true
  kind_out x a b = go (passed (is_read x))
    where
      go : (is_read x ≡ true) ⊎ (is_read x ≡ false) → (is_read x || is_write x) ≡ true
      go (inl t) = or_left _ _ t
      go (inr f) =
          or_right (is_read x) _ (eq-eqb x.kind 2 (omega (arith, leb-true 1 x.kind a, leb-true x.kind 2 b, eqb-false x.kind 1 f)))

  kind_in : (x : Rec) → (is_read x || is_write x) ≡ true → (1 ≤ x.kind) × (x.kind ≤ 2)
  kind_in x h = go (or_cases (is_read x) _ h)
    where
      go : (is_read x ≡ true) ⊎ (is_write x ≡ true) → (1 ≤ x.kind) × (x.kind ≤ 2)
      go (inl t) = let e = eqb-true x.kind 1 t in (omega arith, omega arith)
      go (inr t) = let e = eqb-true x.kind 2 t in (omega arith, omega arith)

  filed_out : (rs : List Row) (k : ℕ) (ps : List ℕ) → filed_from count rs k ps ≡ true → Filed rs k ps
  unfolding filed_from filed_after
  filed_out rs k [] h = record { high = refl; sort = refl; owns = refl }
  filed_out rs k (p ∷ ps) h =
      let x = unpack p in
      let m = and_left (mem (txn x) (map num rs)) _ h in
      let t = and_right (mem (txn x) (map num rs)) _ h in
      let a = and_left (filed_after count k p) _ t in
      let f = filed_out rs (key_of p) ps (and_right (filed_after count k p) _ t) in
      let v = simp and-eq-true_iff at a in
      let big = after k p a in
      let rest : all (above (key x)) (map unpack ps) ≡ true = ap (λ (n : ℕ). all (above n) (map unpack ps)) (key-is p) ∙ f.high in
      record {
        high = and_both _ _ (lt-ltb k (key x) (omega (arith, key-is p)))
            (all_in _ (map unpack ps) (λ y k₁. lt-ltb k (key y) (omega (arith, ltb-true (key_of p) (key y) (all_out (above (key_of p)) k₁ f.high)))));
        sort = and_both _ _ rest f.sort;
        owns = and_both (own rs x) _ (and_both _ _ (and_both _ _ (kind_out x v.1.0 v.1.1.0) m) v.1.1.1) f.owns;
      }

  filed_in : (rs : List Row) (k : ℕ) (ps : List ℕ) → Filed rs k ps → filed_from count rs k ps ≡ true
  unfolding filed_from filed_after
  filed_in rs k [] f = refl
  filed_in rs k (p ∷ ps) f =
      let x = unpack p in
      let o = and_left (own rs x) (all (own rs) (map unpack ps)) f.owns in
      let om = and_left ((is_read x || is_write x) && mem (txn x) (map num rs)) (ltb (item x) count) o in
      let kd = kind_in x (and_left (is_read x || is_write x) (mem (txn x) (map num rs)) om) in
      let big = ltb-true k (key x) (and_left (above k x) (all (above k) (map unpack ps)) f.high) in
      and_both _ _ (and_right (is_read x || is_write x) _ om)
      (and_both (filed_after count k p) _
      (and_both _ _ (lt-ltb k (key_of p) (omega (arith, key-is p)))
      (and_both _ _ (le-leb 1 x.kind kd.0) (and_both _ _ (le-leb x.kind 2 kd.1) (and_right ((is_read x || is_write x) && mem (txn x) (map num rs)) _ o))))
      (filed_in rs (key_of p) ps
      (record {
        high = ap (λ (n : ℕ). all (above n) (map unpack ps)) (sym (key-is p)) ∙ and_left (all (above (key x)) (map unpack ps)) (sorted ps) f.sort;
        sort = and_right (all (above (key x)) (map unpack ps)) (sorted ps) f.sort;
        owns = and_right (own rs x) _ f.owns;
      })))

-- the equation
pub filed_is : (s : State) (ps : List ℕ) → s.recs ≡ map unpack ps → filed_from s.count s.rows 0 ps ≡ (sorted ps && owned s)
unfolding owned
filed_is s ps e =
    both_ways _ _
    (λ h. let f = filed_out s.count s.rows 0 ps h in and_both _ _ f.sort (ap (all (own s.count s.rows)) e ∙ f.owns))
    (λ h. let o = ap (all (own s.count s.rows)) (sym e) ∙ and_right (sorted ps) (owned s) h in
    filed_in s.count s.rows 0 ps (record {
      high = all_in _ (map unpack ps) (λ x m. lt-ltb 0 (key x) (omega (arith, (kind_in s.count x (and_left _ _ (and_left _ _ (all_out (own s.count s.rows) m o)))).0)));
      sort = and_left (sorted ps) (owned s) h;
      owns = o;
    }))

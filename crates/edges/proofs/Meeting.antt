-- The records of a row: what they meet in the index by item, and their marks in it. One record, and the loop over them. Assumes nothing.
use Prim.Native.Nat.{ℕ, ◌+◌, ◌^◌, ◌≤◌, ◌<◌}
use native.Mathlib.Decide.{ℕ_discrete}
use native.Mathlib.Numerals.{add-one}
use mathlib.Core.Bool.{Bool, true, false, not, cond, ◌&&◌, ◌||◌, or-false, and_comm, and-false, and-true}
use mathlib.Core.List.{List, []}
use mathlib.Core.Path.{◌≡◌, refl, sym, ap, subst, ◌∙◌}
use lib.Bits.{bit_or}
use lib.Dec.{eqb}
use lib.ListN.{length, get_or, set, drop, length-set, drop_of_length-le}
use lib.Seq.{drop-cons, get_or-set_same, get_or-set_other}
use borrow.Author.Tests.{eq-eqb, ne_eqb}
use Rattle.rules.specs.Lists.{any}
use Rattle.rules.specs.Raw.{unpack}
use Rattle.terms.specs.Words.{item, is_write}
use Rattle.lists.specs.Tables.{first_index}
use Rattle.lists.proofs.Scans.{Going, onwards, first_start, first_next, first_here, first_done}
use Rattle.lists.proofs.Untils.{stop}
use Rattle.graph.specs.Sets.{member}
use Rattle.graph.proofs.Sets.{member_one, member_or, member-zero}
use Rattle.edges.specs.Blocks.{foreign, front, has, hits, slot}
use Rattle.edges.specs.Drawn.{meets, met_by, Met}

-- a place put into a set of the table
pub has-put : (tab : List ℕ) (i at e j : ℕ) → i < length tab → has (set tab i (bit_or (get_or tab i 0) (2 ^ at))) e j ≡ (has tab e j || (eqb i e && eqb at j))
has-put tab i at e j l = go (ℕ_discrete i e)
  where
    go : Dec (i ≡ e) → has (set tab i (bit_or (get_or tab i 0) (2 ^ at))) e j ≡ (has tab e j || (eqb i e && eqb at j))
    go (yes q) = subst (λ (k : ℕ). has (set tab i (bit_or (get_or tab i 0) (2 ^ at))) k j ≡ (has tab k j || (eqb i k && eqb at j))) q
        (rw (get_or-set_same tab i (bit_or (get_or tab i 0) (2 ^ at)) 0 l, eq-eqb i i refl, member_or, member_one) refl)
    go (no n) = rw (get_or-set_other tab i e (bit_or (get_or tab i 0) (2 ^ at)) 0 (λ q. n (sym q)), ne_eqb i e n) (sym (or-false _))

-- one record is marked in the table
abbrev Marks : ℕ → ℕ → ℕ → List ℕ → List ℕ → Type 0
Marks w at p tab new = (e j : ℕ) → has new e j ≡ (has tab e j || (eqb at j && hits w e p))

marks : (w at p : ℕ) (tab : List ℕ) {i r : ℕ} → i ≡ slot w p → i < length tab → r ≡ bit_or (get_or tab i 0) (2 ^ at) → Marks w at p tab (set tab i r)
marks w at p tab {i} {r} is l q e j =
    ap (λ (m : ℕ). has (set tab i m) e j) q ∙ has-put tab i at e j l ∙ ap (λ (b : Bool). has tab e j || b) (and_comm (eqb i e) (eqb at j))
    ∙ ap (λ (n : ℕ). has tab e j || (eqb at j && eqb n e)) is

-- ---- the loop over the records of t at the front: k are looked at. Of the rows met so far, `wrote` has those that wrote what a record writes; `read` and
-- `by` have the others that wrote what one touches, and that touched what one writes
pub record Meeting (w at t : ℕ) (ps tab₀ tab : List ℕ) (read by wrote k : ℕ) : Type 0 where
  pub len : length tab ≡ length tab₀
  pub going : Going ps (onwards (foreign t) k) (first_index (foreign t) ps) k
  pub same : (e j : ℕ) → (has tab e j || (eqb at j && any (hits w e) (front t (drop k ps)))) ≡ (has tab₀ e j || (eqb at j && any (hits w e) (front t ps)))
  pub touched : (j : ℕ) → (at ≡ j → ⊥) → ((member read j || member wrote j) || meets w (has tab₀) (front t (drop k ps)) j) ≡ meets w (has tab₀) (front t ps) j
  pub met : (j : ℕ) → (at ≡ j → ⊥) → ((member by j || member wrote j) || met_by w (has tab₀) (front t (drop k ps)) j) ≡ met_by w (has tab₀) (front t ps) j

pub meet_start : {w at t : ℕ} {ps tab : List ℕ} → Meeting w at t ps tab tab 0 0 0 0
meet_start {w} {at} {t} {ps} {tab} =
    record {
      len = refl;
      going = first_start (foreign t);
      same = λ e j. refl;
      touched = λ j n. ap (λ (b : Bool). (b || b) || meets w (has tab) (front t ps) j) (member-zero j);
      met = λ j n. ap (λ (b : Bool). (b || b) || met_by w (has tab) (front t ps) j) (member-zero j);
    }

module _ {w at t : ℕ} {ps tab₀ tab : List ℕ} {read by wrote k : ℕ} (s : Meeting w at t ps tab₀ tab read by wrote k) where
  abbrev p : ℕ
  p = get_or ps k 0

  abbrev rest : List ℕ
  rest = front t (drop (k + 1) ps)

  opened : (b : Bool) → k < length ps → foreign t p ≡ b → front t (drop k ps) ≡ stop b p rest
  opened b l f = ap (front t) (drop-cons ps k 0 l) ∙ (λ q. stop (f q) p (front t (drop (sym (add-one k) q) ps)))

  -- for other rows the table is as it was
  kept : (e j : ℕ) → (at ≡ j → ⊥) → has tab e j ≡ has tab₀ e j
  kept e j n =
      sym (or-false (has tab e j)) ∙ (λ q. has tab e j || (sym (ne_eqb at j n) q && any (hits w e) (front t (drop k ps)))) ∙ s.same e j
      ∙ (λ q. has tab₀ e j || (ne_eqb at j n q && any (hits w e) (front t ps))) ∙ or-false (has tab₀ e j)

  module _ (l : k < length ps) (own : foreign t p ≡ false) where
    same_next : {i r : ℕ} → i ≡ slot w p → i < length tab → r ≡ bit_or (get_or tab i 0) (2 ^ at)
        → (e j : ℕ) → (has (set tab i r) e j || (eqb at j && any (hits w e) rest)) ≡ (has tab₀ e j || (eqb at j && any (hits w e) (front t ps)))
    same_next {i} {r} is li q e j =
        ap (λ (b : Bool). b || (eqb at j && any (hits w e) rest)) (marks w at p tab is li q e j)
        ∙ joined (has tab e j) (eqb at j) (hits w e p) (any (hits w e) rest)
        ∙ ap (λ (d : List ℕ). has tab e j || (eqb at j && any (hits w e) d)) (sym (opened false l own)) ∙ s.same e j
      where
        joined : (a c h r : Bool) → ((a || (c && h)) || (c && r)) ≡ (a || (c && (h || r)))
        joined true c h r = refl
        joined false true h r = refl
        joined false false h r = refl

    module _ {i : ℕ} (is : i ≡ item (unpack p)) where
      -- the writers of its item, for other rows
      writers : {v : ℕ} → v ≡ w + i → (j : ℕ) → (at ≡ j → ⊥) → has tab v j ≡ has tab₀ (w + item (unpack p)) j
      writers e j n = kept _ j n ∙ ap (λ (x : ℕ). has tab₀ x j) (e ∙ ap (λ (x : ℕ). w + x) is)

      pub meet_read : {v r : ℕ} → v ≡ w + i → is_write (unpack p) ≡ false → i < length tab → r ≡ bit_or (get_or tab i 0) (2 ^ at)
          → Meeting w at t ps tab₀ (set tab i r) (bit_or read (get_or tab v 0)) by wrote (k + 1)
      meet_read {v} {r} ev f li q =
          record {
            len = length-set tab i r ∙ s.len;
            going = first_next (foreign t) s.going 0 l own;
            same = same_next (is ∙ sym (ap (λ (b : Bool). cond b (w + item (unpack p)) (item (unpack p))) f)) li q;
            touched = λ j n.
                (λ z. (((member_or read (get_or tab v 0) j ∙ ap (λ (b : Bool). member read j || b) (writers ev j n)) z) || member wrote j) || meets w (has tab₀) rest j)
                ∙ moved (member read j) (has tab₀ (w + item (unpack p)) j) (member wrote j) (meets w (has tab₀) rest j)
                ∙ ap (λ (d : List ℕ). (member read j || member wrote j) || meets w (has tab₀) d j) (sym (opened false l own)) ∙ s.touched j n;
            met = λ j n.
                ap (λ (b : Bool). (member by j || member wrote j) || ((b && (has tab₀ (item (unpack p)) j || has tab₀ (w + item (unpack p)) j)) || met_by w (has tab₀) rest j)) (sym f)
                ∙ ap (λ (d : List ℕ). (member by j || member wrote j) || met_by w (has tab₀) d j) (sym (opened false l own)) ∙ s.met j n;
          }
        where
          moved : (a h c m : Bool) → (((a || h) || c) || m) ≡ ((a || c) || (h || m))
          moved true h c m = refl
          moved false true true m = refl
          moved false true false m = refl
          moved false false c m = refl

      pub meet_write : {v r : ℕ} → v ≡ w + i → is_write (unpack p) ≡ true → v < length tab → r ≡ bit_or (get_or tab v 0) (2 ^ at)
          → Meeting w at t ps tab₀ (set tab v r) read (bit_or by (get_or tab i 0)) (bit_or wrote (get_or tab v 0)) (k + 1)
      meet_write {v} {r} ev y lv q =
          record {
            len = length-set tab v r ∙ s.len;
            going = first_next (foreign t) s.going 0 l own;
            same = same_next (ev ∙ ap (λ (x : ℕ). w + x) is ∙ sym (ap (λ (b : Bool). cond b (w + item (unpack p)) (item (unpack p))) y)) lv q;
            touched = λ j n.
                (λ z. (member read j || more j n z) || meets w (has tab₀) rest j)
                ∙ moved (member read j) (member wrote j) (has tab₀ (w + item (unpack p)) j) (meets w (has tab₀) rest j)
                ∙ ap (λ (d : List ℕ). (member read j || member wrote j) || meets w (has tab₀) d j) (sym (opened false l own)) ∙ s.touched j n;
            met = λ j n.
                (λ z. ((member_or by (get_or tab i 0) j ∙ ap (λ (b : Bool). member by j || b) (kept i j n ∙ ap (λ (x : ℕ). has tab₀ x j) is)) z || more j n z) || met_by w (has tab₀) rest j)
                ∙ mixed (member by j) (has tab₀ (item (unpack p)) j) (member wrote j) (has tab₀ (w + item (unpack p)) j) (met_by w (has tab₀) rest j)
                ∙ ap (λ (b : Bool). (member by j || member wrote j) || ((b && (has tab₀ (item (unpack p)) j || has tab₀ (w + item (unpack p)) j)) || met_by w (has tab₀) rest j)) (sym y)
                ∙ ap (λ (d : List ℕ). (member by j || member wrote j) || met_by w (has tab₀) d j) (sym (opened false l own)) ∙ s.met j n;
          }
        where
          more : (j : ℕ) → (at ≡ j → ⊥) → member (bit_or wrote (get_or tab v 0)) j ≡ (member wrote j || has tab₀ (w + item (unpack p)) j)
          more j n = member_or wrote (get_or tab v 0) j ∙ ap (λ (b : Bool). member wrote j || b) (writers ev j n)

          moved : (a c h m : Bool) → ((a || (c || h)) || m) ≡ ((a || c) || (h || m))
          moved true c h m = refl
          moved false true h m = refl
          moved false false h m = refl

          mixed : (b i c h m : Bool) → (((b || i) || (c || h)) || m) ≡ ((b || c) || ((i || h) || m))
          mixed true i c h m = refl
          mixed false true true h m = refl
          mixed false true false h m = refl
          mixed false false true h m = refl
          mixed false false false h m = refl

  -- nothing of t is left: a record of another is reached, or the end
  module _ (none : front t (drop k ps) ≡ []) (count : k ≡ first_index (foreign t) ps) where
    -- the rows met, without the row itself
    without : (a b z : ℕ) (f : List ℕ → ℕ → Bool) → ((j : ℕ) → f [] j ≡ false) → ((j : ℕ) → member z j ≡ (member (bit_or a b) j && not (eqb at j)))
        → ((j : ℕ) → (at ≡ j → ⊥) → ((member a j || member b j) || f (front t (drop k ps)) j) ≡ f (front t ps) j)
        → (j : ℕ) → member z j ≡ (not (eqb at j) && f (front t ps) j)
    without a b z f e h g j = h j ∙ go (ℕ_discrete at j)
      where
        go : Dec (at ≡ j) → (member (bit_or a b) j && not (eqb at j)) ≡ (not (eqb at j) && f (front t ps) j)
        go (yes q) = rw (eq-eqb at j q) (and-false (member (bit_or a b) j))
        go (no d) =
            rw (ne_eqb at j d)
            (and-true (member (bit_or a b) j) ∙ member_or a b j ∙ sym (or-false (member a j || member b j))
            ∙ ap (λ (c : Bool). (member a j || member b j) || c) (sym (ap (λ (l : List ℕ). f l j) none ∙ e j)) ∙ g j d)

    pub meet_end : {n : ℕ} (x y : ℕ) → n ≡ k → ((j : ℕ) → member x j ≡ (member (bit_or read wrote) j && not (eqb at j)))
        → ((j : ℕ) → member y j ≡ (member (bit_or by wrote) j && not (eqb at j))) → Met w at t ps tab₀ tab n x y
    meet_end x y en hx hy =
        record {
          len = s.len;
          count = en ∙ count;
          is = λ e j. sym (ap (λ (b : Bool). has tab e j || b) (and-false (eqb at j)) ∙ or-false (has tab e j)) ∙ ap (λ (d : List ℕ). has tab e j || (eqb at j && any (hits w e) d)) (sym none) ∙ s.same e j;
          touched = without read wrote x (λ l j. meets w (has tab₀) l j) (λ j. refl) hx s.touched;
          by = without by wrote y (λ l j. met_by w (has tab₀) l j) (λ j. refl) hy s.met;
        }

  pub meet_stop : k < length ps → foreign t p ≡ true → {n : ℕ} (x y : ℕ) → n ≡ k → ((j : ℕ) → member x j ≡ (member (bit_or read wrote) j && not (eqb at j)))
      → ((j : ℕ) → member y j ≡ (member (bit_or by wrote) j && not (eqb at j))) → Met w at t ps tab₀ tab n x y
  meet_stop l f = meet_end (opened true l f) (first_here (foreign t) s.going 0 l f)

  pub meet_done : length ps ≤ k → {n : ℕ} (x y : ℕ) → n ≡ k → ((j : ℕ) → member x j ≡ (member (bit_or read wrote) j && not (eqb at j)))
      → ((j : ℕ) → member y j ≡ (member (bit_or by wrote) j && not (eqb at j))) → Met w at t ps tab₀ tab n x y
  meet_done l = meet_end (ap (front t) (drop_of_length-le ps l)) (first_done (foreign t) s.going l)

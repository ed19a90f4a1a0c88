-- Loops over the rows of a set: those that ended before a moment, and the edges from each of them. Assumes nothing.
use Prim.Native.Nat.{ℕ, ◌^◌, ◌<◌}
use native.Mathlib.Decide.{ℕ_discrete}
use mathlib.Core.Bool.{Bool, true, false, not, cond, ◌&&◌, ◌||◌, or_assoc, or-false, and-true}
use mathlib.Core.List.{List}
use mathlib.Core.Path.{◌≡◌, refl, sym, ap, subst, ◌∙◌}
use lib.Bits.{bit_or, bit_and}
use lib.Dec.{eqb}
use lib.ListN.{length, get_or, set, length-set}
use lib.Seq.{get_or-set_same, get_or-set_other}
use borrow.Author.Tests.{eq-eqb, ne_eqb}
use Rattle.laws.proofs.Lists.{T_out}
use Rattle.std.specs.Prelude.{Some}
use Rattle.graph.specs.Rows.{Takes}
use Rattle.graph.specs.Sets.{member, outside}
use Rattle.graph.proofs.Sets.{member-zero, member_or, member_and, member_with, member-outside}
use Rattle.edges.specs.Blocks.{has}
use Rattle.edges.specs.Drawn.{Linked, Drawn}
use Rattle.edges.proofs.Meeting.{has-put}

-- a row is taken out of the rows left
module _ (w left j r : ℕ) (t : Takes w left (Some j) r) where
  -- a test of the rows left, where j passes or fails it
  pub left_passes : (f : ℕ → Bool) (b : Bool) → f j ≡ b → (i : ℕ) → (member left i && f i) ≡ ((b && eqb j i) || (member r i && f i))
  left_passes f b e i = sym (ap (λ (c : Bool). (b && eqb j i) || (c && f i)) (t.2 i) ∙ go (ℕ_discrete j i))
    where
      here : (c : Bool) → ((c && true) || ((true && false) && c)) ≡ (true && c)
      here true = refl
      here false = refl

      there : (b m c : Bool) → ((b && false) || ((m && true) && c)) ≡ (m && c)
      there true true c = refl
      there true false c = refl
      there false true c = refl
      there false false c = refl

      go : Dec (j ≡ i) → ((b && eqb j i) || ((member left i && not (eqb j i)) && f i)) ≡ (member left i && f i)
      go (yes q) = subst (λ (k : ℕ). ((b && eqb j k) || ((member left k && not (eqb j k)) && f k)) ≡ (member left k && f k)) q (rw (eq-eqb j j refl, T_out (member left j) t.1, e) (here b))
      go (no d) = rw (ne_eqb j i d) (there b (member left i) (f i))

-- ---- the rows that ended before a moment
pub record Passing (f : ℕ → Bool) (touched before all left : ℕ) : Type 0 where
  pub is : (j : ℕ) → (member all j || (member left j && f j)) ≡ (member before j || (member touched j && f j))

pub pass_start : (w : ℕ) (f : ℕ → Bool) (touched before : ℕ) {left : ℕ} → touched < 2 ^ w → before < 2 ^ w → left ≡ outside w touched before → Passing f touched before before left
pass_start w f touched before ht hb e =
    record { is = λ j. ap (λ (b : Bool). member before j || (b && f j)) (ap (λ (m : ℕ). member m j) e ∙ member-outside w touched before j ht hb) ∙ shut (member before j) (member touched j) (f j) }
  where
    shut : (b t c : Bool) → (b || ((t && not b) && c)) ≡ (b || (t && c))
    shut true t c = refl
    shut false true c = refl
    shut false false c = refl

module _ {f : ℕ → Bool} {touched before all left : ℕ} (s : Passing f touched before all left) where
  pub pass_next : (w j r : ℕ) → Takes w left (Some j) r → f j ≡ false → Passing f touched before all r
  pass_next w j r t e = record { is = λ i. ap (λ (b : Bool). member all i || b) (sym (left_passes w left j r t f false e i)) ∙ s.is i }

  pub pass_more : (w j r : ℕ) {more : ℕ} → Takes w left (Some j) r → f j ≡ true → more ≡ bit_or all (2 ^ j) → Passing f touched before more r
  pass_more w j r {more} t e em =
      record {
        is = λ i. ap (λ (b : Bool). b || (member r i && f i)) (ap (λ (m : ℕ). member m i) em ∙ member_with all j i)
            ∙ or_assoc (member all i) (eqb j i) (member r i && f i) ∙ ap (λ (b : Bool). member all i || b) (sym (left_passes w left j r t f true e i)) ∙ s.is i;
      }

  pub pass_done : left ≡ 0 → (j : ℕ) → member all j ≡ (member before j || (member touched j && f j))
  pass_done e j = sym (or-false (member all j)) ∙ ap (λ (b : Bool). member all j || (b && f j)) (sym (ap (λ (m : ℕ). member m j) e ∙ member-zero j)) ∙ s.is j

-- ---- an edge to i from each row of a set
pub record Linking (from i : ℕ) (g₀ g : List ℕ) (left : ℕ) : Type 0 where
  pub len : length g ≡ length g₀
  pub is : (a j : ℕ) → (has g a j || (member left a && eqb i j)) ≡ (has g₀ a j || (member from a && eqb i j))

module _ {from i : ℕ} {g₀ g : List ℕ} {left : ℕ} (s : Linking from i g₀ g left) where
  pub link_next : (w b r : ℕ) {v : ℕ} → Takes w left (Some b) r → b < length g → v ≡ bit_or (get_or g b 0) (2 ^ i) → Linking from i g₀ (set g b v) r
  link_next w b r {v} t lb ev =
      record {
        len = length-set g b v ∙ s.len;
        is = λ a j. ap (λ (c : Bool). c || (member r a && eqb i j)) (ap (λ (m : ℕ). has (set g b m) a j) ev ∙ has-put g b i a j lb)
            ∙ moved (has g a j) (eqb b a) (eqb i j) (member r a)
            ∙ ap (λ (c : Bool). has g a j || (c && eqb i j)) (sym (sym (and-true (member left a)) ∙ left_passes w left b r t (λ x. true) true refl a ∙ ap (λ (c : Bool). eqb b a || c) (and-true (member r a))))
            ∙ s.is a j;
      }
    where
      moved : (x e y r : Bool) → ((x || (e && y)) || (r && y)) ≡ (x || ((e || r) && y))
      moved true e y r = refl
      moved false true true r = refl
      moved false true false true = refl
      moved false true false false = refl
      moved false false y r = refl

  pub link_done : left ≡ 0 → Linked from i g₀ g
  link_done e = record { len = s.len; is = λ a j. sym (or-false (has g a j)) ∙ ap (λ (b : Bool). has g a j || (b && eqb i j)) (sym (ap (λ (m : ℕ). member m a) e ∙ member-zero a)) ∙ s.is a j }

-- ---- both directions
pub drawn : (w x y before i : ℕ) (g : List ℕ) {v : ℕ} {new : List ℕ} → x < 2 ^ w → before < 2 ^ w → i < length g → v ≡ outside w x before
    → Linked (bit_or y (bit_and x before)) i (set g i v) new → Drawn x y before i g new
drawn w x y before i g {v} {new} hx hb li ev l =
    record {
      len = l.len ∙ length-set g i v;
      is = λ a j. l.is a j
          ∙ (λ q. here a j (ℕ_discrete i a) q || ((member_or y (bit_and x before) a ∙ ap (λ (b : Bool). member y a || b) (member_and x before a)) q && eqb i j));
    }
  where
    here : (a j : ℕ) → Dec (i ≡ a) → has (set g i v) a j ≡ cond (eqb i a) (member x j && not (member before j)) (has g a j)
    here a j (yes q) = subst (λ (k : ℕ). has (set g i v) k j ≡ cond (eqb i k) (member x j && not (member before j)) (has g k j)) q
        (rw (get_or-set_same g i v 0 li, eq-eqb i i refl) (ap (λ (m : ℕ). member m j) ev ∙ member-outside w x before j hx hb))
    here a j (no d) = rw (get_or-set_other g i a v 0 (λ z. d (sym z)), ne_eqb i a d) refl

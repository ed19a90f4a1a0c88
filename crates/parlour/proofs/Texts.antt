-- Text put together from its start: digits copied, a line, line after line. Assumes nothing.
use Prim.Native.Nat.{ℕ, suc, ◌+◌, ◌*◌, ◌-◌, ◌/◌, ◌<◌, ◌≤◌}
use native.Mathlib.Omega.{arith}
use mathlib.Core.List.{List, [], ◌∷◌, ◌++◌, append_assoc, append-nil}
use mathlib.Core.Path.{◌≡◌, ◌∙◌, ap, refl, sym}
use lib.ListN.{get_or, length, length-append, length-set, set, take}
use lib.Seq.{drop_at, length-take-le, take-add, take-append-le, take_at}
use Rattle.std.proofs.lemmas.List.{take_more_set}
use borrow.Rule.Slice.PartMut.{post_of, put_mid}
use Rattle.steps.specs.Decoding.{field}
use Rattle.io.specs.Digits.{IsDigitCount, last_digits}
use Rattle.parlour.specs.Text.{decimal, line, lines_in, lines_of}
use Rattle.parlour.proofs.Digits.{fewest_decimal}

-- what is written from a place on, up to some of it, stands behind the front that stays
pub take_written : (a k n : ℕ) (xs ys : List ℕ) → a ≤ length xs → n ≤ length ys → take (a + n) (put_mid a k xs ys) ≡ take a xs ++ take n ys
take_written a k n xs ys l m =
    let rest = ys ++ post_of a k xs in
    let long = length-take-le a xs l in
    take-add a n (take a xs ++ rest) ∙ (λ j. take_at (take a xs) rest a long j ++ (ap (take n) (drop_at (take a xs) rest a long) ∙ take-append-le n ys (post_of a k xs) m) j)

-- all the digits of a number are put
pub number_put : (ds rest : List ℕ) (k n : ℕ) → length ds ≡ k → k ≤ 20 → IsDigitCount 10 1 n k → ds ≡ last_digits 10 k n → take k (ds ++ rest) ≡ decimal n
number_put ds rest k n long few f e = take_at ds rest k long ∙ e ∙ fewest_decimal 20 k n few f

-- a line: a number, a space, a value and a newline, one behind the other
pub line_put : (t u : List ℕ) (a b k n v : ℕ) → a + 1 ≤ length t → b + 1 ≤ length u → take a t ≡ decimal n → take b u ≡ decimal v
    → take (a + 1 + b + 1) (set (put_mid (a + 1) k (set t a 32) u) (a + 1 + b) 10) ≡ line n v
unfolding line
line_put t u a b k n v l m e f =
    let t' = set t a 32 in
    let long : a + 1 ≤ length t' = omega (arith, length-set t a 32) in
    let more = length-append (take (a + 1) t') (u ++ post_of (a + 1) k t') in
    let room : a + 1 + b < length (put_mid (a + 1) k t' u) = omega (arith, more, length-append u (post_of (a + 1) k t'), length-take-le (a + 1) t' long) in
    take_more_set (put_mid (a + 1) k t' u) (a + 1 + b) 10 room
    ∙ ap (λ (w : List ℕ). w ++ 10 ∷ []) (take_written (a + 1) k b t' u long (omega arith) ∙ (λ j. (take_more_set t a 32 (omega arith) ∙ ap (λ (w : List ℕ). w ++ 32 ∷ []) e) j ++ f j))
    ∙ simp append_assoc

-- ---- the lines of some answers, of which a rest is left

lines_more : (k : ℕ) (x rest : List ℕ) → length x ≡ 5 → lines_in (suc k) (x ++ rest) ≡ line (get_or x 0 0) (field 1 4 x) ++ lines_in k rest
unfolding lines_in field
lines_more k (a ∷ b ∷ c ∷ d ∷ e ∷ []) rest l = refl
lines_more k x rest l = absurd (omega (arith, l))

pub record Listing (answers : List ℕ) (at : ℕ) (rest text : List ℕ) : Type 0 where
  pub room : at + 42 * (length rest / 5) ≤ 42 * (length answers / 5)
  pub same : take at text ++ lines_of rest ≡ lines_of answers

module _ {answers : List ℕ} {at : ℕ} {rest text : List ℕ} (g : Listing answers at rest text) where
  -- a line of k bytes is put behind them
  pub list_next : (x rest' t : List ℕ) (k : ℕ) → at ≤ length text → k ≤ length t → rest ≡ x ++ rest' → length x ≡ 5 → k ≤ 42
      → take k t ≡ line (get_or x 0 0) (field 1 4 x) → Listing answers (at + k) rest' (put_mid at (length text - at) text t)
  list_next x rest' t k a b e l r p =
      let more : length rest / 5 ≡ suc (length rest' / 5) = omega (arith, ap length e, length-append x rest', l) in
      record {
        room = omega (arith, r, g.room, more);
        same = ap (λ (l : List ℕ). l ++ lines_of rest') (take_written at (length text - at) k text t a b ∙ ap (λ (l : List ℕ). take at text ++ l) p)
            ∙ append_assoc (take at text) (line (get_or x 0 0) (field 1 4 x)) (lines_of rest')
            ∙ ap (λ (l : List ℕ). take at text ++ l) (sym (lines_more (length rest' / 5) x rest' l))
            ∙ (λ j. take at text ++ lines_in (sym more j) (sym e j))
            ∙ g.same;
      }

  pub list_done : length rest < 5 → take at text ≡ lines_of answers
  unfolding lines_in
  list_done l =
      let none : length rest / 5 ≡ 0 = omega arith in
      sym (append-nil (take at text)) ∙ ap (λ (k : ℕ). take at text ++ lines_in k rest) (sym none) ∙ g.same

-- A step and its bytes: the bytes of a step are decoded as that step, and a step is decoded only from its bytes. Assumes nothing.
use Prim.Native.Nat.{ℕ, ◌<◌, ◌≤◌}
use native.Mathlib.Omega.{arith}
use mathlib.Core.Bool.{and-eq-true_iff, true}
use mathlib.Core.List.{List, [], ◌∷◌, ◌++◌, append_assoc}
use mathlib.Core.Logic.{inl, inr}
use mathlib.Core.Path.{◌≡◌, ◌∙◌, ap, refl, sym}
use lib.ListN.{drop, length}
use lib.Dec.{ltb}
use borrow.Author.Tests.{lt-ltb, ltb-true}
use Rattle.terms.specs.declared.Step.{Step}
use Rattle.terms.specs.declared.Step.TheVariants.{Abort, Begin, Commit, Latest, Open, Read, Write}
use Rattle.rules.specs.Lists.{all}
use Rattle.laws.proofs.Lists.{and_both, and_right}
use Rattle.std.specs.Prelude.{Some}
use Rattle.steps.specs.Format.{byte, bytes_of, le, short, writable}
use Rattle.steps.specs.Decoding.{decoded, field, kind_of, length_of, number, step_of}
use Rattle.steps.proofs.Numbers.{field_back, field_small, number-le}
use Rattle.steps.proofs.Bodies.{by_kind, decoded_good, good_is, good_length, kind_cases, whole-fits, whole_is}

-- ---- one step: its bytes are read back

-- the whole length of a kind is that of its steps' bytes
pub length_bytes : (s : Step) → length (bytes_of s) ≡ length_of (kind_of (bytes_of s))
unfolding bytes_of length_of le
length_bytes (Open c) = refl
length_bytes Begin = refl
length_bytes (Read t i) = refl
length_bytes (Write t i v) = refl
length_bytes (Commit t) = refl
length_bytes (Abort t) = refl
length_bytes (Latest i) = refl

-- a step whose kind byte stands before enough bytes
read : (k : ℕ) (q : List ℕ) → 0 < length_of k → length_of k ≤ length (k ∷ q) → decoded (k ∷ q) ≡ Some (step_of k (k ∷ q), length_of k)
read k q h l =
    let w = whole-fits (k ∷ q) l in
    decoded_good (k ∷ q) (omega (arith, w, h)) ∙ ap (λ (n : ℕ). Some (step_of k (k ∷ q), n)) w

two_back : (n : ℕ) → short n ≡ true → number (le 2 n) ≡ n
two_back n h = number-le 2 n (ltb-true n 65536 h)

pub bytes_decoded : (s : Step) (q : List ℕ) → writable s ≡ true → decoded (bytes_of s ++ q) ≡ Some (s, length (bytes_of s))
unfolding bytes_of writable le step_of field length_of
bytes_decoded (Open c) q h = read 0 (le 2 c ++ q) (omega arith) (omega arith) ∙ (λ j. Some (Open (two_back c h j), 3))
bytes_decoded Begin q h = read 1 q (omega arith) (omega arith)
bytes_decoded (Read t i) q h =
    let v = simp and-eq-true_iff at h in
    read 2 ((le 2 t.0 ++ le 2 i.0) ++ q) (omega arith) (omega arith)
    ∙ (λ j. Some (Read (record { 0 = two_back t.0 v.0 j }) (record { 0 = two_back i.0 v.1 j }), 5))
bytes_decoded (Write t i x) q h =
    let v = simp and-eq-true_iff at h in
    read 3 ((le 2 t.0 ++ le 2 i.0 ++ le 4 x) ++ q) (omega arith) (omega arith)
    ∙ (λ j. Some (Write (record { 0 = two_back t.0 v.0.0 j }) (record { 0 = two_back i.0 v.0.1 j }) (number-le 4 x (ltb-true x 4294967296 v.1) j), 9))
bytes_decoded (Commit t) q h = read 4 (le 2 t.0 ++ q) (omega arith) (omega arith) ∙ (λ j. Some (Commit (record { 0 = two_back t.0 h j }), 3))
bytes_decoded (Abort t) q h = read 5 (le 2 t.0 ++ q) (omega arith) (omega arith) ∙ (λ j. Some (Abort (record { 0 = two_back t.0 h j }), 3))
bytes_decoded (Latest i) q h = read 6 (le 2 i.0 ++ q) (omega arith) (omega arith) ∙ (λ j. Some (Latest (record { 0 = two_back i.0 h j }), 3))

-- ---- one step: what is read is there, byte for byte

-- the step of a kind, read from bytes that are long enough
record There (k : ℕ) (q : List ℕ) : Type 0 where
  same : k ∷ q ≡ bytes_of (step_of k (k ∷ q)) ++ drop (length_of k) (k ∷ q)
  fits : writable (step_of k (k ∷ q)) ≡ true
  long : length (bytes_of (step_of k (k ∷ q))) ≡ length_of k

module _ (q : List ℕ) (h : all byte q ≡ true) where
  module _ (k : ℕ) (b : all byte (k ∷ q) ≡ true) where
    two_small : (at : ℕ) → short (field at 2 (k ∷ q)) ≡ true
    two_small at = lt-ltb _ 65536 (field_small (k ∷ q) b at 2)

    four_small : ltb (field 5 4 (k ∷ q)) 4294967296 ≡ true
    four_small = lt-ltb _ 4294967296 (field_small (k ∷ q) b 5 4)

    -- a body of one number, of two, and of two and a value
    one_number : 3 ≤ length (k ∷ q) → k ∷ q ≡ k ∷ le 2 (field 1 2 (k ∷ q)) ++ drop 3 (k ∷ q)
    one_number l = ap (λ (r : List ℕ). k ∷ r) (sym (field_back (k ∷ q) b 1 2 l))

    two_numbers : 5 ≤ length (k ∷ q) → k ∷ q ≡ k ∷ (le 2 (field 1 2 (k ∷ q)) ++ le 2 (field 3 2 (k ∷ q))) ++ drop 5 (k ∷ q)
    two_numbers l =
        one_number (omega arith)
        ∙ ap (λ (r : List ℕ). k ∷ le 2 (field 1 2 (k ∷ q)) ++ r) (sym (field_back (k ∷ q) b 3 2 l))
        ∙ ap (λ (r : List ℕ). k ∷ r) (sym (append_assoc (le 2 (field 1 2 (k ∷ q))) (le 2 (field 3 2 (k ∷ q))) (drop 5 (k ∷ q))))

    with_value : 9 ≤ length (k ∷ q) → k ∷ q ≡ k ∷ (le 2 (field 1 2 (k ∷ q)) ++ le 2 (field 3 2 (k ∷ q)) ++ le 4 (field 5 4 (k ∷ q))) ++ drop 9 (k ∷ q)
    with_value l =
        let a = le 2 (field 1 2 (k ∷ q)) in
        let c = le 2 (field 3 2 (k ∷ q)) in
        let v = le 4 (field 5 4 (k ∷ q)) in
        two_numbers (omega arith)
        ∙ ap (λ (r : List ℕ). k ∷ (a ++ c) ++ r) (sym (field_back (k ∷ q) b 5 4 l))
        ∙ ap (λ (r : List ℕ). k ∷ r) (simp append_assoc)

  there : (k : ℕ) → k ≤ 6 → length_of k ≤ length (k ∷ q) → There k q
  unfolding bytes_of writable le step_of length_of
  there =
      by_kind (λ k. length_of k ≤ length (k ∷ q) → There k q)
      (λ l. record { same = one_number 0 h l; fits = two_small 0 h 1; long = refl })
      (λ l. record { same = refl; fits = refl; long = refl })
      (λ l. record { same = two_numbers 2 h l; fits = and_both _ _ (two_small 2 h 1) (two_small 2 h 3); long = refl })
      (λ l. record { same = with_value 3 h l; fits = and_both _ _ (and_both _ _ (two_small 3 h 1) (two_small 3 h 3)) (four_small 3 h); long = refl })
      (λ l. record { same = one_number 4 h l; fits = two_small 4 h 1; long = refl })
      (λ l. record { same = one_number 5 h l; fits = two_small 5 h 1; long = refl })
      (λ l. record { same = one_number 6 h l; fits = two_small 6 h 1; long = refl })

pub decoded_there : (p : List ℕ) {s : Step} {n : ℕ} → all byte p ≡ true → decoded p ≡ Some (s, n) → (p ≡ bytes_of s ++ drop n p) × (writable s ≡ true) × (length (bytes_of s) ≡ n)
decoded_there [] h e = let v = good_length [] e in absurd (omega (arith, v.0, v.1))
decoded_there (k ∷ q) {s} {n} h e =
    let v = good_is (k ∷ q) e in
    let w = whole_is (k ∷ q) v.2 in
    let m : n ≡ length_of k = v.1 ∙ w.0 in
    let known : k ≤ 6 = elim (kind_cases k) [ inl (a, l) ↦ a | inr (a, l) ↦ absurd (omega (arith, l, w.0, v.2)) ] in
    let t = there q (and_right (byte k) _ h) k known w.1 in (
      t.same ∙ (λ j. bytes_of (sym v.0 j) ++ drop (sym m j) (k ∷ q)),
      ap writable v.0 ∙ t.fits,
      ap (λ (x : Step). length (bytes_of x)) v.0 ∙ t.long ∙ sym m,
    )

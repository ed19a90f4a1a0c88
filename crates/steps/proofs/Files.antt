-- A file holds the steps whose bytes it is, with nothing or a bad step after them, and nothing else is read from it. Assumes nothing.
use Prim.Native.Nat.{ℕ, zero, suc, ◌+◌, ◌<◌, ◌≤◌}
use native.Mathlib.Nat.{add-zero}
use native.Mathlib.Omega.{arith}
use mathlib.Core.Bool.{true}
use mathlib.Core.List.{List, [], ◌∷◌, ◌++◌, append_assoc}
use mathlib.Core.Path.{◌≡◌, ◌∙◌, ap, refl, subst, sym}
use lib.ListN.{drop, length, length-append, length-drop}
use lib.Seq.{drop-append_seam}
use Rattle.terms.specs.declared.Step.{Step}
use Rattle.rules.specs.Lists.{all}
use Rattle.laws.proofs.Lists.{and_both, and_left, and_right}
use Rattle.std.specs.Prelude.{Option, None, Some}
use Rattle.steps.specs.Format.{byte, bytes_of, bytes_of_all, writable}
use Rattle.steps.specs.Decoding.{BadAt, Contents, End, and_then, contents, contents_from, decoded}
use Rattle.steps.specs.Spelling.{BadRest, Ending, Spells, bad, nothing}
use Rattle.steps.proofs.Numbers.{byte-drop}
use Rattle.steps.proofs.Bodies.{bad-rest, good_length, rest-bad}
use Rattle.steps.proofs.Spelling.{bytes_decoded, decoded_there}
use Rattle.steps.proofs.Unfold.{contents-bad, contents-done, contents_good}

-- ---- what is read is there

-- no step, and an ending
ended : {at : ℕ} {p : List ℕ} {e : End} → Ending at p e → Spells at p (contents [] e)
unfolding bytes_of_all
ended {at} {p} {e} g = record { rest = p; same = refl; fits = refl; ending = subst (λ (m : ℕ). Ending m p e) (sym (add-zero at)) g }

-- a step in front
stepped : {at n : ℕ} {p : List ℕ} {s : Step} {h : Contents} → (p ≡ bytes_of s ++ drop n p) × (writable s ≡ true) × (length (bytes_of s) ≡ n)
    → Spells (at + n) (drop n p) h → Spells at p (and_then s h)
unfolding bytes_of_all
stepped {at} {n} {p} {s} {h} (e, w, l) r =
    let past : at + n + length (bytes_of_all h.steps) ≡ at + length (bytes_of s ++ bytes_of_all h.steps) = omega (arith, l, length-append (bytes_of s) (bytes_of_all h.steps)) in
    record {
      rest = r.rest;
      same = e ∙ ap (λ (q : List ℕ). bytes_of s ++ q) r.same ∙ sym (append_assoc (bytes_of s) (bytes_of_all h.steps) r.rest);
      fits = and_both _ _ w r.fits;
      ending = subst (λ (m : ℕ). Ending m r.rest h.end) past r.ending;
    }

module _ (at : ℕ) where
  -- what the first step leaves is spelled, and so is all
  turn : (p : List ℕ) → all byte p ≡ true → ((n : ℕ) → 0 < n → n ≤ length p → Spells (at + n) (drop n p) (contents_from (at + n) 0 (drop n p))) → Spells at p (contents_from at 0 p)
  turn [] h more = subst (λ (c : Contents). Spells at [] c) (sym (contents-done at)) (ended nothing)
  turn (b ∷ q) h more = go (decoded (b ∷ q)) refl
    where
      go : (d : Option (Step × ℕ)) → decoded (b ∷ q) ≡ d → Spells at (b ∷ q) (contents_from at 0 (b ∷ q))
      go None e = subst (λ (c : Contents). Spells at (b ∷ q) c) (sym (contents-bad at (b ∷ q) (omega arith) e)) (ended (bad (bad-rest (b ∷ q) (omega arith) e)))
      go (Some (s, n)) e =
          let l = good_length (b ∷ q) e in
          subst (λ (c : Contents). Spells at (b ∷ q) c) (sym (contents_good at (b ∷ q) e)) (stepped (decoded_there (b ∷ q) h e) (more n l.0 l.1))

spelled : (most at : ℕ) (p : List ℕ) → length p ≤ most → all byte p ≡ true → Spells at p (contents_from at 0 p)
spelled zero at p l h = turn at p h (λ n a b. absurd (omega (arith, a, b, l)))
spelled (suc most) at p l h = turn at p h (λ n a b. spelled most (at + n) (drop n p) (omega (arith, a, l, length-drop n p)) (byte-drop n p h))

pub file_spelled : (at : ℕ) (p : List ℕ) → all byte p ≡ true → Spells at p (contents_from at 0 p)
file_spelled at p h = spelled (length p) at p (omega arith) h

-- ---- what is there is read

ending-read : {at m : ℕ} {p : List ℕ} {e : End} → at ≡ m → Ending m p e → contents_from at 0 p ≡ contents [] e
ending-read {at} q nothing = contents-done at
ending-read {at} {m} {p} q (bad b) = contents-bad at p b.0 (rest-bad p b) ∙ ap (λ (k : ℕ). contents [] (BadAt k)) q

steps-read : (ss : List Step) {e : End} (at : ℕ) {p : List ℕ} → Spells at p (contents ss e) → contents_from at 0 p ≡ contents ss e
unfolding bytes_of_all
steps-read [] at r = ap (contents_from at 0) r.same ∙ ending-read (sym (add-zero at)) r.ending
steps-read (s ∷ ss) {e} at {p} r =
    let q = bytes_of_all ss ++ r.rest in
    let n = length (bytes_of s) in
    let split : p ≡ bytes_of s ++ q = r.same ∙ append_assoc (bytes_of s) (bytes_of_all ss) r.rest in
    let good = ap decoded split ∙ bytes_decoded s q (and_left _ _ r.fits) in
    let past : at + length (bytes_of s ++ bytes_of_all ss) ≡ at + n + length (bytes_of_all ss) = omega (arith, length-append (bytes_of s) (bytes_of_all ss)) in
    let more : Spells (at + n) q (contents ss e) =
    record { rest = r.rest; same = refl; fits = and_right (writable s) _ r.fits; ending = subst (λ (m : ℕ). Ending m r.rest e) past r.ending } in
    contents_good at p good
    ∙ ap (λ (l : List ℕ). and_then s (contents_from (at + n) 0 l)) (ap (drop n) split ∙ drop-append_seam (bytes_of s) q)
    ∙ ap (and_then s) (steps-read ss (at + n) more)

pub file_read : (at : ℕ) (p : List ℕ) (h : Contents) → Spells at p h → contents_from at 0 p ≡ h
file_read at p h r = steps-read h.steps at r

-- ---- a bad rest starts with no step

pub bad_no_step : (p : List ℕ) → BadRest p → (s : Step) (q : List ℕ) → writable s ≡ true → p ≡ bytes_of s ++ q → ⊥
bad_no_step p b s q w e =
    let good = ap decoded e ∙ bytes_decoded s q w in
    let none = rest-bad p b in
    let z : ◌≡◌ {A = ℕ} 0 1 = cc in
    omega arith

-- The answers that a file gives, counted from its start: so far n, and a rest of the file is left. Assumes nothing.
use Prim.Native.Nat.{ℕ, zero, suc, ◌+◌, ◌<◌, ◌≤◌}
use native.Mathlib.Nat.{zero-add}
use native.Mathlib.Omega.{arith}
use mathlib.Core.List.{List, [], ◌∷◌}
use mathlib.Core.Path.{◌≡◌, ◌∙◌, ap, refl, sym}
use lib.ListN.{drop, length, length-drop}
use Rattle.std.specs.Prelude.{Option, None, Some}
use Rattle.terms.specs.declared.Step.{Step}
use Rattle.steps.specs.Decoding.{answers_of, contents_from, decoded, kind_of, step_of, steps_of, whole}
use Rattle.steps.proofs.Bodies.{decoded_bad, decoded_good, good_length, whole_most}
use Rattle.steps.proofs.Unfold.{contents-bad, contents-done, contents_good}

-- the rest starts at an offset of the file
pub record Counting (file rest : List ℕ) (n : ℕ) : Type 0 where
  pub at : ℕ
  pub few : n + length rest ≤ length file
  pub same : n + answers_of (contents_from at 0 rest) ≡ answers_of (steps_of file)

pub count-start : {file : List ℕ} → Counting file file 0
count-start {file} = record { at = 0; few = omega arith; same = zero-add (answers_of (steps_of file)) }

module _ {file rest : List ℕ} {n : ℕ} (s : Counting file rest n) where
  -- a step of k bytes is counted
  pub count_next : (k : ℕ) → k ≡ whole rest → 0 < k → Counting file (drop k rest) (n + 1)
  count_next k e l =
      let good : decoded rest ≡ Some (step_of (kind_of rest) rest, k) = decoded_good rest (omega (arith, e, l)) ∙ ap (λ (m : ℕ). Some (step_of (kind_of rest) rest, m)) (sym e) in
      record {
        at = s.at + k;
        few = omega (arith, s.few, l, length-drop k rest, whole_most rest);
        same = omega (arith, s.same, ap answers_of (contents_good s.at rest good));
      }

  -- a bad step is counted, and is the last
  pub count_bad : (length rest ≡ 0 → ⊥) → whole rest ≡ 0 → n + 1 ≡ answers_of (steps_of file)
  count_bad f e = omega (arith, s.same, ap answers_of (contents-bad s.at rest (omega (arith, f)) (decoded_bad rest e)))

  pub count_done : length rest ≡ 0 → n ≡ answers_of (steps_of file)
  count_done e = omega (arith, s.same, ap (λ (p : List ℕ). answers_of (contents_from s.at 0 p)) (none rest e), ap answers_of (contents-done s.at))
    where
      none : (p : List ℕ) → length p ≡ 0 → p ≡ []
      none [] e = refl
      none (b ∷ p) e = absurd (omega arith)

-- ---- a file gives at most an answer for each of its bytes

module _ (at : ℕ) where
  few_turn : (p : List ℕ) → ((n : ℕ) → 0 < n → n ≤ length p → answers_of (contents_from (at + n) 0 (drop n p)) ≤ length (drop n p)) → answers_of (contents_from at 0 p) ≤ length p
  few_turn [] more = omega (arith, ap answers_of (contents-done at))
  few_turn (b ∷ q) more = go (decoded (b ∷ q)) refl
    where
      go : (d : Option (Step × ℕ)) → decoded (b ∷ q) ≡ d → answers_of (contents_from at 0 (b ∷ q)) ≤ length (b ∷ q)
      go None e = omega (arith, ap answers_of (contents-bad at (b ∷ q) (omega arith) e))
      go (Some (s, n)) e =
          let l = good_length (b ∷ q) e in
          omega (arith, ap answers_of (contents_good at (b ∷ q) e), l.0, l.1, more n l.0 l.1, length-drop n (b ∷ q))

few_in : (most at : ℕ) (p : List ℕ) → length p ≤ most → answers_of (contents_from at 0 p) ≤ length p
few_in zero at p l = few_turn at p (λ n a b. absurd (omega (arith, a, b, l)))
few_in (suc most) at p l = few_turn at p (λ n a b. few_in most (at + n) (drop n p) (omega (arith, a, l, length-drop n p)))

pub answers_few : (file : List ℕ) → answers_of (steps_of file) ≤ length file
answers_few file = few_in (length file) 0 file (omega arith)

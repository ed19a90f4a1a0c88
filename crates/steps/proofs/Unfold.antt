-- What a file holds from an offset on, one step at a time: what a run cites at each turn. Assumes nothing.
use Prim.Native.Nat.{ℕ, zero, suc, ◌+◌, ◌-◌, ◌<◌, ◌≤◌}
use native.Mathlib.Nat.{add-zero}
use native.Mathlib.Omega.{arith}
use mathlib.Core.List.{List, [], ◌∷◌}
use mathlib.Core.Path.{◌≡◌, ◌∙◌, ap, refl, sym}
use lib.ListN.{drop, drop_of_length-le, length, length-drop, take}
use lib.Seq.{drop-drop, take_all}
use Rattle.terms.specs.declared.Step.{Step}
use Rattle.std.specs.Prelude.{Option, None, Some}
use Rattle.steps.specs.Decoding.{BadAt, Done, and_then, contents, contents_from, decoded, onward}
use Rattle.steps.proofs.Bodies.{good_length}

-- passing over some bytes is to start behind them
contents_past : (at k : ℕ) (p : List ℕ) → contents_from at k p ≡ contents_from (at + k) 0 (drop k p)
unfolding contents_from
contents_past at zero p = ap (λ (a : ℕ). contents_from a 0 p) (sym (add-zero at))
contents_past at (suc k) [] = refl
contents_past at (suc k) (b ∷ p) = contents_past (suc at) k p ∙ ap (λ (a : ℕ). contents_from a 0 (drop k p)) (omega arith)

pub contents-done : (at : ℕ) → contents_from at 0 [] ≡ contents [] Done
unfolding contents_from
contents-done at = refl

pub contents-bad : (at : ℕ) (p : List ℕ) → 0 < length p → decoded p ≡ None → contents_from at 0 p ≡ contents [] (BadAt at)
unfolding contents_from
contents-bad at [] l e = absurd (omega arith)
contents-bad at (b ∷ p) l e = ap (λ (d : Option (Step × ℕ)). onward at d (λ n. contents_from (suc at) (n - 1) p)) e

pub contents_good : (at : ℕ) (p : List ℕ) {s : Step} {n : ℕ} → decoded p ≡ Some (s, n) → contents_from at 0 p ≡ and_then s (contents_from (at + n) 0 (drop n p))
unfolding contents_from
contents_good at [] e = let v = good_length [] e in absurd (omega (arith, v.0, v.1))
contents_good at (b ∷ p) {s} {n} e = ap (λ (d : Option (Step × ℕ)). onward at d (λ k. contents_from (suc at) (k - 1) p)) e ∙ ap (and_then s) (go n (good_length (b ∷ p) e).0)
  where
    go : (n : ℕ) → 0 < n → contents_from (suc at) (n - 1) p ≡ contents_from (at + n) 0 (drop n (b ∷ p))
    go zero l = absurd (omega arith)
    go (suc n) l =
        let same : suc n - 1 ≡ n = omega arith in
        let ends : suc at + n ≡ at + suc n = omega arith in
        ap (λ (k : ℕ). contents_from (suc at) k p) same ∙ contents_past (suc at) n p ∙ ap (λ (a : ℕ). contents_from a 0 (drop n p)) ends

-- ---- a loop over a file that has come to an offset: what it decodes there, from the part up to the file's end, says what the file holds from there on

module _ (file : List ℕ) (at : ℕ) where
  abbrev pub part_at : List ℕ
  part_at = take (length file - at) (drop at file)

  pub part_on : part_at ≡ drop at file
  part_on = take_all (length file - at) (drop at file) (omega (arith, length-drop at file))

  pub next-done : length file ≤ at → contents_from at 0 (drop at file) ≡ contents [] Done
  next-done l = ap (contents_from at 0) (drop_of_length-le file l) ∙ contents-done at

  pub next-bad : at < length file → decoded part_at ≡ None → contents_from at 0 (drop at file) ≡ contents [] (BadAt at)
  next-bad l e = contents-bad at (drop at file) (simp length-drop (omega arith)) (ap decoded (sym part_on) ∙ e)

  module _ {s : Step} {n : ℕ} (e : decoded part_at ≡ Some (s, n)) where
    pub next_good : contents_from at 0 (drop at file) ≡ and_then s (contents_from (at + n) 0 (drop (at + n) file))
    next_good = contents_good at (drop at file) (ap decoded (sym part_on) ∙ e) ∙ ap (λ (p : List ℕ). and_then s (contents_from (at + n) 0 p)) (drop-drop n at file)

    -- the step has a byte at least, and ends inside the file
    pub next-inside : at ≤ length file → (0 < n) × (at + n ≤ length file)
    next-inside l = let v = good_length (drop at file) (ap decoded (sym part_on) ∙ e) in (v.0, omega (arith, v.1, length-drop at file))

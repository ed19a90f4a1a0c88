-- The place behind a step. Assumes nothing.
use Prim.Native.Nat.{ℕ, ◌+◌}
use mathlib.Core.List.{List}
use mathlib.Core.Path.{◌≡◌, ◌∙◌, ap, sym}
use Rattle.terms.specs.declared.Step.{Step}
use Rattle.std.specs.Prelude.{Option, Some}
use Rattle.steps.specs.Decoding.{decoded}
use Rattle.steps.proofs.Unfold.{part_at}
use Rattle.reader.specs.declared.Next.{Next}
use Rattle.reader.specs.Place.{after, next_at}

-- What a caller of `step_at` knows of its result: what was decoded from the part, and the place behind a good step.
module _ (file : List ℕ) (at : ℕ) {r : Next} (e : r ≡ next_at file at) where
  pub next-decoded : {d : Option (Step × ℕ)} → r.decoded ≡ d → decoded (part_at file at) ≡ d
  unfolding next_at
  next-decoded u = sym (ap (λ (x : Next). x.decoded) e) ∙ u

  pub next_place : {s : Step} {n : ℕ} → r.decoded ≡ Some (s, n) → r.at ≡ at + n
  unfolding next_at
  next_place u = ap (λ (x : Next). x.at) e ∙ ap (after at) (next-decoded u)

-- What one record adds to what is asked of the rest, by its test. Assumes nothing.
use Prim.Native.Nat.{ℕ}
use mathlib.Core.Bool.{true, false}
use mathlib.Core.List.{List, [], ◌∷◌}
use mathlib.Core.Path.{◌≡◌, refl}
use Rattle.terms.specs.declared.Rec.{Rec}
use Rattle.rules.specs.State.{is_rec, recorded, word_in}
use Rattle.rules.specs.Raw.{unpack}
use Rattle.bridge.specs.Whole.{whole_of}

module _ (t i k : ℕ) where
  pub recorded_skip : (p : ℕ) → is_rec t i k (unpack p) ≡ false → (ys : List ℕ) → recorded (whole_of [] (p ∷ ys) [] []) t i k ≡ recorded (whole_of [] ys [] []) t i k
  unfolding recorded
  recorded_skip p e ys = rw e refl

  pub recorded_hit : (p : ℕ) → is_rec t i k (unpack p) ≡ true → (ys : List ℕ) → recorded (whole_of [] (p ∷ ys) [] []) t i k ≡ true
  unfolding recorded
  recorded_hit p e ys = rw e refl

  pub word_skip : (x : Rec) → is_rec t i k x ≡ false → (ys : List Rec) → word_in t i k (x ∷ ys) ≡ word_in t i k ys
  unfolding word_in
  word_skip x e ys = rw (e, word_in) refl

  pub word_hit : (x : Rec) → is_rec t i k x ≡ true → (ys : List Rec) → word_in t i k (x ∷ ys) ≡ x.word
  unfolding word_in
  word_hit x e ys = rw (e, word_in) refl

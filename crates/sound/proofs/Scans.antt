-- All of a list, by a fold that looks at each. Assumes nothing.
use Rattle.std.proofs.Common.{◌≡◌, refl, Bool, true, false, ◌&&◌, List, [], ◌∷◌, fold}
use Rattle.std.proofs.lemmas.List.Folds.{fold_stays}
use Rattle.rules.specs.Lists.{all}

module _ {A : Type 0} (p : A → Bool) where
  pub fold-all : (xs : List A) → fold (λ b x. b && p x) true xs ≡ all p xs
  fold-all [] = refl
  fold-all (x ∷ xs) = go (p x) (fold-all xs)
    where
      go : (b : Bool) → fold (λ b x. b && p x) true xs ≡ all p xs → fold (λ b x. b && p x) b xs ≡ (b && all p xs)
      go true e = e
      go false e = fold_stays (λ b x. b && p x) false (λ x. refl) xs

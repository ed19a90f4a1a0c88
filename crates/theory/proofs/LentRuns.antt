-- Lent tables follow the history: from an accepted opening, and from any sound tables. Assumes nothing.
use Prim.Native.Nat.{ℕ}
use mathlib.Core.Bool.{Bool, ◌&&◌, false, true}
use mathlib.Core.List.Memᴰ
use mathlib.Core.List.{List, [], ◌∷◌, map}
use mathlib.Core.Logic.{◌⊎◌, inl, inr}
use mathlib.Core.Path.{◌∙◌, ◌≡◌, ap, refl, subst, sym}
use native.Mathlib.Omega.{arith}
use Rattle.std.specs.Prelude.{Err, Ok}
use Rattle.terms.specs.Words.{Answer}
use Rattle.terms.specs.declared.Refusal.TheVariants.{BadOpening}
use Rattle.terms.specs.declared.Rec.{Rec}
use Rattle.rules.specs.Machine.{Call, history, openable, states}
use Rattle.rules.specs.Public.{fitting, open_on}
use Rattle.rules.specs.Raw.{Raw, raw_of, state_of, unpack, used_recs}
use Rattle.rules.specs.Sound.{sound}
use Rattle.rules.specs.Spent.{prune}
use Rattle.rules.specs.State.{State, opened}
use Rattle.laws.proofs.Lists.{and_left, passed}
use Rattle.laws.proofs.Raw.{held, unpack_packs}
use Rattle.theory.proofs.Agreeing.{Agree, from_opening, from_sound}
use Rattle.theory.proofs.Facts.{lawful_facts, lawful-free}
use Rattle.theory.proofs.LawfulCalls.{openable_out, opened-lawful}
use Rattle.theory.proofs.PrunedSound.{sound-kept}
use Rattle.theory.proofs.PrunedTests.{open_pruned, opened-fits}
use Rattle.theory.proofs.RawRuns.{Follow, Narrow, follow}
use Rattle.theory.proofs.Serializing.{of_history}
use Rattle.theory.specs.Lent.{Follows, LentOpened, LentSerial, LentSound}

mapped : {A B C : Type 0} (g : B → C) (f : A → B) (xs : List A) → map g (map f xs) ≡ map (λ x. g (f x)) xs
mapped g f [] = refl
mapped g f (x ∷ xs) = λ j. g (f x) ∷ mapped g f xs j

-- the table machine in the middle
both : (n m : ℕ) (w : Raw) (s : State) (xs : List Call) → Follow n m w s xs → Agree n m s s xs → Follows n m w s xs
both n m w s xs f a = (f.answers ∙ a.answers, f.stand ∙ ap (map (raw_of n m)) a.stand ∙ mapped (raw_of n m) prune (states (history n m) s xs), f.safe)

-- what an accepted opening leaves
left : (n m : ℕ) (w : Raw) (c : ℕ) (vs : List ℕ) → (open_on n m c vs w).0 ≡ Ok 0 → (openable c vs ≡ true) × ((open_on n m c vs w).1 ≡ raw_of n m (opened vs))
unfolding open_on
left n m w c vs e = go (passed (openable c vs && fitting n m w))
  where
    outcome : Bool → Answer × Raw
    outcome b = elim b [ true ↦ (Ok 0, raw_of n m (opened vs)) | false ↦ (Err BadOpening, w) ]

    go : ((openable c vs && fitting n m w) ≡ true) ⊎ ((openable c vs && fitting n m w) ≡ false) → (openable c vs ≡ true) × ((outcome (openable c vs && fitting n m w)).1 ≡ raw_of n m (opened vs))
    go (inl t) = (and_left _ _ t, ap (λ (b : Bool). (outcome b).1) t)
    go (inr f) = let q : Err BadOpening ≡ Ok 0 = sym (ap (λ (b : Bool). (outcome b).0) f) ∙ e in let z : ◌≡◌ {A = ℕ} 0 1 = cc in absurd (omega arith)

pub lent-opened : LentOpened
unfolding opened
lent-opened n m w c vs e xs r =
    let u = left n m w c vs e in
    let o = openable_out c vs u.0 in
    let h = opened-lawful vs o.0 o.1 in
    let f = opened-fits n m vs in
    let k : sound n m (opened vs) ≡ true = ap (sound n m) (sym (open_pruned vs)) ∙ sound-kept (opened vs) (lawful_facts (opened vs) h) (lawful-free (opened vs) h) n m f.rows f.recs in
    subst (λ (z : Raw). Follows n m z (opened vs) xs) (sym u.1)
    (both n m (raw_of n m (opened vs)) (opened vs) xs (follow n m (opened vs) k (λ x mx. elim mx [ ]) xs r) (from_opening n m vs o.0 o.1 xs))

-- a lent record's word has 32 bits
narrow : (w : Raw) → Narrow (state_of w)
unfolding state_of
narrow w x mx k = let u = Memᴰ.of_map unpack (used_recs w.recs) mx in omega (arith, (unpack_packs u.0).word_fits, ap (λ (y : Rec). y.word) u.2)

pub lent-sound : LentSound
lent-sound n m w h xs r =
    let u = held n m w h in
    subst (λ (z : Raw). Follows n m z (state_of w) xs) u.0
    (both n m (raw_of n m (state_of w)) (state_of w) xs (follow n m (state_of w) u.1 (narrow w) xs r) (from_sound n m (state_of w) u.1 xs))

pub lent_serial : LentSerial
lent_serial n m w h xs r before since k vs v e none = ((of_history n m).0 (state_of w) xs before since k vs v (sym (lent-sound n m w h xs r).0 ∙ e) none).0

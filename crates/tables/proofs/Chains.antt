-- Chains over a table: `take_while` leaves the used part, and `any` and `find` answer what was asked of it. Assumes nothing.
use Prim.Native.Nat.{ℕ}
use mathlib.Core.Bool.{Bool, true, false, not, ◌&&◌, ◌||◌}
use mathlib.Core.List.{List, [], ◌∷◌, map}
use mathlib.Core.Logic.{◌⊎◌, inl, inr}
use mathlib.Core.Path.{◌∙◌, ◌≡◌, ap, refl, sym, subst}
use denote.Param.Members.{Mut}
use denote.Ref.{Bor}
use lib.Dec.{eqb}
use lib.ListN.{take}
use Rattle.std.specs.Prelude.{option_map, unwrap_or}
use Rattle.std.specs.Fn.{CalledAt}
use Rattle.std.specs.List.{list_any, find}
use Rattle.std.specs.Iterator.Adapters.{take_while_source, take_while_done, take_while_callee, take_while_steps}
use Rattle.std.specs.declared.iter.TakeWhile.{TakeWhile}
use Rattle.std.proofs.Common.{Iter}
use Rattle.std.proofs.lemmas.Fn.{fronts}
use Rattle.std.proofs.lemmas.Iterator.{YieldsList, YieldsList-from_slice}
use Rattle.std.proofs.lemmas.Iterator.Consumers.{YieldsList-at}
use Rattle.std.proofs.lemmas.Iterator.Search.{YieldsList-from_take_while}
use Rattle.std.proofs.lemmas.List.Recursion.{same_from_clauses}
use Rattle.terms.specs.declared.Row.{Row}
use Rattle.terms.specs.Words.{active, num}
use Rattle.rules.specs.Lists.{any, until}
use Rattle.rules.specs.State.{is_active, is_rec, recorded, row_of, word_in}
use Rattle.rules.specs.Raw.{unpack, zero_row}
use Rattle.lists.proofs.Firsts.{first_listed}
use Rattle.lists.proofs.Untils.{until_first}
use Rattle.laws.proofs.Lists.{passed}
use Rattle.bridge.specs.Whole.{whole_of}

module _ {A : Type 0} (q : A → Bool) where
  -- a `take_while` of what does not pass q, over a slice, gives the elements before the first that passes
  pub used_road : {F : Type 0} {i : Iter A} {s : TakeWhile (Iter A) F} (g : Mut F (Bor (Bor A) × Unit {0}) Bool) {f : F} (xs : List A) → i.rest.now ≡ xs
      → take_while_source s ≡ i → take_while_callee s ≡ f → take_while_done s ≡ false
      → ((x : Bor A) (b : Bool) (h : F) → CalledAt g f x b h → (h ≡ f) × (b ≡ not (q x.now))) → YieldsList (take_while_steps fronts g) (λ (y : Bor A). y.now) s (until q xs)
  used_road {F} {i} {s} g xs e src cal don k =
      subst (YieldsList (take_while_steps fronts g) (λ (y : Bor A). y.now) s)
      (ap (λ (n : ℕ). take n xs) (sym (first_listed q xs)) ∙ sym (until_first q xs))
      (YieldsList-from_take_while g (λ x. not (q x)) (YieldsList-at src (YieldsList-from_slice xs e)) cal don k)

-- ---- of records
module _ (t i k : ℕ) where
  abbrev its : ℕ → Bool
  its p = is_rec t i k (unpack p)

  pub recorded_listed : (ps : List ℕ) → list_any its ps ≡ recorded (whole_of [] ps [] []) t i k
  unfolding recorded
  recorded_listed ps = same_from_clauses (list_any its) (λ ps. any (is_rec t i k) (map unpack ps)) (λ p b. its p || b) refl (λ p ps. refl) (λ p ps. refl) ps

  pub word_found : (ps : List ℕ) → unwrap_or (option_map (λ p. (unpack p).word) (find its ps)) 0 ≡ word_in t i k (map unpack ps)
  unfolding word_in
  word_found [] = refl
  word_found (p ∷ ps) = go (passed (its p)) (word_found ps)
    where
      go : (its p ≡ true) ⊎ (its p ≡ false) → unwrap_or (option_map (λ p. (unpack p).word) (find its ps)) 0 ≡ word_in t i k (map unpack ps)
          → unwrap_or (option_map (λ p. (unpack p).word) (find its (p ∷ ps))) 0 ≡ word_in t i k (map unpack (p ∷ ps))
      go (inl e) h = rw (e, word_in) refl
      go (inr e) h = rw (e, word_in) h

-- ---- of rows
module _ (t : ℕ) where
  pub active_listed : (rs : List Row) → list_any (λ r. eqb (num r) t && active r) rs ≡ is_active (whole_of rs [] [] []) t
  unfolding is_active
  active_listed rs =
      same_from_clauses (list_any (λ r. eqb (num r) t && active r)) (any (λ r. eqb (num r) t && active r)) (λ r b. eqb (num r) t && active r || b) refl (λ r rs. refl) (λ r rs. refl) rs

  pub row_found : (rs : List Row) → unwrap_or (find (λ r. eqb (num r) t) rs) zero_row ≡ row_of rs t
  unfolding row_of
  row_found [] = refl
  row_found (r ∷ rs) = go (passed (eqb (num r) t)) (row_found rs)
    where
      go : (eqb (num r) t ≡ true) ⊎ (eqb (num r) t ≡ false) → unwrap_or (find (λ r. eqb (num r) t) rs) zero_row ≡ row_of rs t
          → unwrap_or (find (λ r. eqb (num r) t) (r ∷ rs)) zero_row ≡ row_of (r ∷ rs) t
      go (inl e) h = rw (e, row_of) refl
      go (inr e) h = rw (e, row_of) h

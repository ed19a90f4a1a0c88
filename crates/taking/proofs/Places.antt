-- Where a row stands by its number, and whether it goes, by what a search of the rows finds. Assumes nothing.
use Rattle.std.proofs.Common.{arith, ltb-false, ℕ, ◌≤◌, ◌<◌, ◌^◌, ◌≡◌, refl, Bool, true, false, cond, List, length, eqb, position, Some, None, nat_lt}
use Rattle.std.proofs.lemmas.List.Quantifiers.{position-Some}
use Rattle.std.proofs.lemmas.List.Sums.{position_or_len_is}
use Rattle.rules.specs.Raw.{zero_row}
use Rattle.terms.specs.declared.Row.{Row}
use Rattle.terms.specs.Words.{num}
use Rattle.graph.specs.Sets.{member}
use Rattle.graph.proofs.Sets.{member_past}
use Rattle.taking.specs.Leaving.{gone_at, place_of}

module _ (rs : List Row) (t : ℕ) where
  pub found : {i : ℕ} → position (λ r. eqb (num r) t) rs ≡ Some i → place_of rs t ≡ i
  found {i} e = let h = position-Some (λ r. eqb (num r) t) rs i zero_row e in position_or_len_is (λ r. eqb (num r) t) rs i zero_row (omega arith) h.2 (λ l. h.1)

  pub not-found : position (λ r. eqb (num r) t) rs ≡ None → length rs ≤ place_of rs t
  not-found e = go (nat_lt (place_of rs t) (length rs)) refl e
    where
      go : (b : Bool) → nat_lt (place_of rs t) (length rs) ≡ b → cond b (Some (place_of rs t)) None ≡ None → length rs ≤ place_of rs t
      go true q e = absurd (cc)
      go false q e = ltb-false _ _ q

  module _ (gone : ℕ) where
    pub found_gone : {i : ℕ} → position (λ r. eqb (num r) t) rs ≡ Some i → member gone i ≡ true → gone_at gone rs t ≡ Some i
    found_gone e h = let p = found e in rw (p, h) refl

    pub found_stays : {i : ℕ} → position (λ r. eqb (num r) t) rs ≡ Some i → member gone i ≡ false → gone_at gone rs t ≡ None
    found_stays e h = let p = found e in rw (p, h) refl

    pub missing : position (λ r. eqb (num r) t) rs ≡ None → gone < 2 ^ length rs → gone_at gone rs t ≡ None
    missing e h = let z = not-found e in let p = member_past (length rs) gone (place_of rs t) h (omega arith) in rw p refl

-- What scans rows and records, the versions and the beaten do not see the padding of the tables. Assumes nothing.
use Prim.Native.Nat.{ℕ, zero, suc, ◌<◌}
use mathlib.Core.Bool.{Bool, true, false, ◌&&◌, ◌||◌}
use mathlib.Core.List.{List, [], ◌∷◌, map}
use mathlib.Core.Path.{◌∙◌, ◌≡◌, ap, refl, sym}
use native.Mathlib.Omega.{arith}
use lib.Dec.{eqb, ltb}
use borrow.Author.Tests.{ne_eqb}
use Rattle.terms.specs.declared.Row.{Row}
use Rattle.terms.specs.declared.Rec.{Rec}
use Rattle.terms.specs.Words.{committed, done, is_write, item, num, row, start, txn, version}
use Rattle.rules.specs.Lists.{any, padded}
use Rattle.rules.specs.State.{State, commits, is_rec, recorded, row_of, word_in, wrote}
use Rattle.rules.specs.Versions.{installers, newest, version_at}
use Rattle.rules.specs.Deps.{beaten, both_wrote}
use Rattle.rules.specs.Raw.{unpack, zero_row}
use Rattle.lists.proofs.Pads.{any-padded, fold-padded, get_or-padded, keep-padded, map-padded}
use Rattle.laws.proofs.Lists.{keep_same}
use Rattle.laws.proofs.Versions.{version_of_lem}
use Rattle.bridge.specs.Whole.{whole_of}

and_off : (a b : Bool) → b ≡ false → (a && b) ≡ false
and_off true b e = e
and_off false b e = refl

any_same : {A : Type 0} (f g : A → Bool) (xs : List A) → ((x : A) → f x ≡ g x) → any f xs ≡ any g xs
any_same f g [] h = refl
any_same f g (x ∷ xs) h = λ j. h x j || any_same f g xs h j

-- the unused record is of no kind
zero-rec : (t i k : ℕ) → 0 < k → is_rec t i k (unpack 0) ≡ false
zero-rec t i k h = and_off (eqb 0 t && eqb 0 i) (eqb 0 k) (ne_eqb 0 k (λ e. omega arith))

pub row-padded : (n t : ℕ) (rs : List Row) → row_of (padded n zero_row rs) t ≡ row_of rs t
unfolding row_of
row-padded n t rs = fold-padded (λ ys. row_of ys t) (λ r b. elim (eqb (num r) t) [ true ↦ r | false ↦ b ]) (λ x ys. refl) zero_row (go (eqb 0 t)) n rs
  where
    go : (b : Bool) → ◌≡◌ {A = Row} (elim b [ true ↦ zero_row | false ↦ row 0 0 0 ]) (row 0 0 0)
    go true = refl
    go false = refl

pub word_padded : (m t i k : ℕ) (ps : List ℕ) → 0 < k → word_in t i k (map unpack (padded m 0 ps)) ≡ word_in t i k (map unpack ps)
unfolding word_in
word_padded m t i k ps pos =
    fold-padded (λ ys. word_in t i k (map unpack ys)) (λ p b. elim (is_rec t i k (unpack p)) [ true ↦ (unpack p).word | false ↦ b ]) (λ x ys. refl) 0
    (rw (zero-rec t i k pos) refl) m ps

-- a test of the records that the unused one does not pass
pub any-recs : (f : Rec → Bool) (m : ℕ) (ps : List ℕ) → f (unpack 0) ≡ false → any f (map unpack (padded m 0 ps)) ≡ any f (map unpack ps)
any-recs f m ps e = ap (any f) (map-padded unpack m 0 ps) ∙ any-padded f m (unpack 0) (map unpack ps) e

-- the tables, padded to any lengths, and their used parts
module _ (n m c d : ℕ) (rs : List Row) (ps vs ws : List ℕ) where
  abbrev wide_state : State
  wide_state = whole_of (padded n zero_row rs) (padded m 0 ps) (padded c 0 vs) (padded d 0 ws)

  abbrev used_state : State
  used_state = whole_of rs ps vs ws

  pub recorded-padded : (t i k : ℕ) → 0 < k → recorded wide_state t i k ≡ recorded used_state t i k
  unfolding recorded
  recorded-padded t i k pos = any-recs (is_rec t i k) m ps (zero-rec t i k pos)

  pub commits-padded : commits wide_state ≡ commits used_state
  unfolding commits
  commits-padded = ap (map num) (keep-padded committed n zero_row rs refl)

  installers-padded : (i b : ℕ) → installers wide_state i b ≡ installers used_state i b
  unfolding installers
  installers-padded i b =
      keep-padded (λ r. committed r && ltb (done r) b && wrote wide_state (num r) i) n zero_row rs refl
      ∙ keep_same _ _ rs (λ r mr. ap {B = Bool} (λ k. committed r && ltb (done r) b && k) (recorded-padded (num r) i 2 (omega arith)))

  pub version-padded : (i b : ℕ) → version_at wide_state i b ≡ version_at used_state i b
  version-padded i b =
      version_of_lem wide_state i b
      ∙ (λ j. elim (num (newest (installers-padded i b j))) [
        | zero ↦ version (get_or-padded d i 0 ws j) (get_or-padded c i 0 vs j)
        | suc w ↦ version (suc w) (word_padded m (suc w) i 2 ps (omega arith) j)
      ])
      ∙ sym (version_of_lem used_state i b)

  both_padded : (a b : ℕ) → both_wrote wide_state a b ≡ both_wrote used_state a b
  unfolding both_wrote
  both_padded a b =
      any-recs (λ x. eqb (txn x) a && is_write x && wrote wide_state b (item x)) m ps (zero-write (eqb 0 a) (wrote wide_state b 0))
      ∙ any_same _ _ (map unpack ps) (λ x. ap {B = Bool} (λ k. eqb (txn x) a && is_write x && k) (recorded-padded b (item x) 2 (omega arith)))
    where
      zero-write : (p q : Bool) → (p && false && q) ≡ false
      zero-write true q = refl
      zero-write false q = refl

  pub beaten-padded : (t : ℕ) → beaten wide_state t ≡ beaten used_state t
  unfolding beaten
  beaten-padded t =
      (λ j. any (λ k. ltb (start (row-padded n t rs j)) (done (row-padded n k rs j)) && both_padded t k j) (commits-padded j))

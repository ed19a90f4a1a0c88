-- The pass for a version: what it has found so far, and one turn of it, by what the code has tested. Assumes nothing.
use Prim.Native.Nat.{ℕ, ◌+◌, ◌≤◌, ◌<◌}
use native.Mathlib.Omega.{arith}
use mathlib.Core.Bool.{Bool, true, false, ◌&&◌}
use mathlib.Core.List.{List, map}
use mathlib.Core.Path.{◌∙◌, ◌≡◌, ap, refl, sym}
use lib.Dec.{eqb, ltb}
use lib.ListN.{get_or, length}
use borrow.Author.Tests.{ltb-true}
use Rattle.std.specs.Prelude.{Option, None, Some}
use Rattle.terms.specs.declared.Row.{Row}
use Rattle.terms.specs.declared.Version.{Version}
use Rattle.terms.specs.Words.{done, is_write, item, txn, version}
use Rattle.rules.specs.State.{row_of}
use Rattle.rules.specs.Raw.{unpack, used_recs}
use Rattle.tables.specs.Best.{Best, best, best_of, better, none, version_in}
use Rattle.tables.proofs.Scanning.{Scanning, scan_done, scan_next, scan_start, scan_stop}
use Rattle.tables.proofs.Best.{better_no, better_other, better_yes, version_in-some}

module _ (rows : List Row) (i m : ℕ) (recs : List ℕ) where
  abbrev the_best : Best
  the_best = best_of rows i m (map unpack (used_recs recs)) none

  -- the pass has come to index j: the latest commit so far is c, and o is its version
  pub record Finding (c : ℕ) (o : Option Version) (j : ℕ) : Type 0 where
    pub so_far : Best
    pub commit : so_far.commit ≡ c
    pub version : o ≡ version_in so_far
    pub scan : Scanning (λ p. eqb p 0) recs (λ ps. best_of rows i m (map unpack ps) so_far) the_best j

  pub find_start : Finding 0 None 0
  find_start = record { so_far = none; commit = refl; version = refl; scan = scan_start }

module _ {rows : List Row} {i m : ℕ} {recs : List ℕ} {c : ℕ} {o : Option Version} {j : ℕ} (s : Finding rows i m recs c o j) where
  pub find_done : length recs ≤ j → o ≡ version_in (the_best rows i m recs)
  unfolding best_of
  find_done l = s.version ∙ ap version_in (scan_done s.scan l)

  pub find_stop : j < length recs → eqb (get_or recs j 0) 0 ≡ true → o ≡ version_in (the_best rows i m recs)
  unfolding best_of
  find_stop l e = s.version ∙ ap version_in (scan_stop s.scan 0 l e)

  module _ (l : j < length recs) (u : eqb (get_or recs j 0) 0 ≡ false) where
    abbrev p : ℕ
    p = get_or recs j 0

    onward : {b : Best} → better rows i m (unpack p) s.so_far ≡ b → Scanning (λ p. eqb p 0) recs (λ ps. best_of rows i m (map unpack ps) b) (the_best rows i m recs) (j + 1)
    unfolding best_of
    onward {b} e = scan_next s.scan 0 (λ ps. best_of rows i m (map unpack ps) b) l u (λ ps. ap (best_of rows i m (map unpack ps)) e)

    left : better rows i m (unpack p) s.so_far ≡ s.so_far → Finding rows i m recs c o (j + 1)
    left e = record { so_far = s.so_far; commit = s.commit; version = s.version; scan = onward e }

    pub find_other : (is_write (unpack p) && eqb (item (unpack p)) i) ≡ false → Finding rows i m recs c o (j + 1)
    find_other e = left (better_other rows i m (unpack p) s.so_far e)

    module _ (w : (is_write (unpack p) && eqb (item (unpack p)) i) ≡ true) (t : ℕ) (et : t ≡ txn (unpack p)) (r : Row) (er : r ≡ row_of rows t) where
      commits : done (row_of rows (txn (unpack p))) ≡ done r
      commits = ap (λ (k : ℕ). done (row_of rows k)) (sym et) ∙ ap done (sym er)

      -- the two tests of the commit
      tests : {b : Bool} → (ltb c (done r) && ltb (done r) m) ≡ b → (ltb s.so_far.commit (done (row_of rows (txn (unpack p)))) && ltb (done (row_of rows (txn (unpack p)))) m) ≡ b
      tests e = (λ k. ltb (s.commit k) (commits k) && ltb (commits k) m) ∙ e

      pub find_no : (ltb c (done r) && ltb (done r) m) ≡ false → Finding rows i m recs c o (j + 1)
      find_no e = left (better_no rows i m (unpack p) s.so_far w (tests e))

      pub find_yes : ltb c (done r) ≡ true → ltb (done r) m ≡ true → (v : ℕ) → v ≡ (unpack p).word → Finding rows i m recs (done r) (Some (version t v)) (j + 1)
      find_yes e f v ev =
          record {
            so_far = best (done r) t v;
            commit = refl;
            version = sym (version_in-some (done r) t v (omega (arith, ltb-true _ _ e)));
            scan = onward (better_yes rows i m (unpack p) s.so_far w (tests (λ k. e k && f k)) ∙ (λ k. best (commits k) (sym et k) (sym ev k)));
          }

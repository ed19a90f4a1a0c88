-- One pass over the records for a version: the best so far, and what a record makes of it. Assumes nothing.
use Rattle.std.specs.Prelude.{ℕ, zero, suc, true, false, ◌&&◌, List, [], ◌∷◌, Option, None, Some, eqb, ltb, unwrap_or}
use Rattle.terms.specs.declared.Row.{Row}
use Rattle.terms.specs.declared.Rec.{Rec}
use Rattle.terms.specs.declared.Version.{Version}
use Rattle.terms.specs.Words.{done, is_write, item, txn, version}
use Rattle.rules.specs.State.{State, row_of}
use Rattle.rules.specs.Versions.{base_of}

-- the latest version found so far, and the commit of its writer: 0 where there is none
pub record Best : Type 0 where
  pub commit : ℕ
  pub writer : ℕ
  pub value : ℕ

abbrev pub best : ℕ → ℕ → ℕ → Best
best c w v = record { commit = c; writer = w; value = v }

abbrev pub none : Best
none = best 0 0 0

-- a write of item i is better where its transaction's commit is later than the best, and before m
unfoldable pub better : List Row → ℕ → ℕ → Rec → Best → Best
better rows i m x b =
    let c = done (row_of rows (txn x)) in
    elim (is_write x && eqb (item x) i) [
      | true ↦ elim (ltb b.commit c && ltb c m) [ true ↦ best c (txn x) x.word | false ↦ b ]
      | false ↦ b
    ]

unfoldable pub best_of : List Row → ℕ → ℕ → List Rec → Best → Best
best_of rows i m [] b = b
best_of rows i m (x ∷ xs) b = best_of rows i m xs (better rows i m x b)

-- the version found, if there is one
abbrev pub version_in : Best → Option Version
version_in b = elim b.commit [ zero ↦ None | suc c ↦ Some (version b.writer b.value) ]

-- the version that the best gives
abbrev pub chosen : State → ℕ → Best → Version
chosen s i b = unwrap_or (version_in b) (base_of s i)

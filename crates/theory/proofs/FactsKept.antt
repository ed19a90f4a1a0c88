-- A begin, a new record and the end of a transaction keep the facts, and make no ring. Assumes nothing.
use Prim.Native.Nat.{◌+◌, ◌<◌, ◌≤◌, ℕ}
use mathlib.Core.Bool.{Bool, false, false≢true, true}
use mathlib.Core.List.{Memᴰ, [], ◌++◌, ◌∷◌, map}
use mathlib.Core.Logic.{◌⊎◌, inl, inr, ⊎_elim}
use mathlib.Core.Path.{◌∙◌, ◌≡◌, ap, refl, subst, sym}
use native.Mathlib.Omega.{arith}
use lib.Dec.{eqb, ltb}
use lib.ListN.{length, length-append}
use borrow.Author.Tests.{eqb-true, lt-ltb, ne_eqb}
use Rattle.laws.proofs.Keeping.{keep_snoc_in, pairs_snoc}
use Rattle.laws.proofs.Lists.{◌∈◌}
use Rattle.laws.proofs.Records.{insert_out, insert-sorted}
use Rattle.laws.proofs.Rings.{depends_in, depends_out, ring_less}
use Rattle.laws.proofs.Rows.{row_of_snoc}
use Rattle.laws.proofs.Versions.{Writer}
use Rattle.rules.specs.Deps.{Ring}
use Rattle.rules.specs.Lists.{keep}
use Rattle.rules.specs.Spent.{forget}
use Rattle.rules.specs.State.{State, begun, commits, insert, recorded, start_of, with_recs}
use Rattle.rules.specs.Versions.{version_at, visible}
use Rattle.terms.specs.Words.{active, committed, done, item, key, num, start, txn, writer}
use Rattle.terms.specs.declared.Rec.{Rec}
use Rattle.terms.specs.declared.Row.{Row}
use Rattle.theory.proofs.Actives.{Active}
use Rattle.theory.proofs.Bare.{forget_bare}
use Rattle.theory.proofs.Consequences.{known, rowed}
use Rattle.theory.proofs.Facts.{Facts}
use Rattle.theory.proofs.Forgetting.{row-forget, rows_out, version-forget}
use Rattle.theory.proofs.PrunedBegin.{commits-begun, dep-begun, new, version-begun}
use Rattle.theory.proofs.PrunedDrop.{behind_only, its_row}
use Rattle.theory.proofs.PrunedRecords.{agree, dep-put, lone, not_own, recorded-put, version-put}
use Rattle.theory.proofs.PrunedSound.{facts_forget}
use Rattle.theory.proofs.Pruning.{ring_out}

module _ (s : State) (v : Facts s) where
  pub begun-row : {r : Row} → r ∈ (begun s).rows → (r ∈ s.rows) ⊎ (r ≡ new s v)
  unfolding begun
  begun-row m = go (mathlib.Core.List.Memᴰ.append_cases s.rows m)
    where
      go : {r : Row} → (r ∈ s.rows) ⊎ (r ∈ (new s v ∷ [])) → (r ∈ s.rows) ⊎ (r ≡ new s v)
      go (inl k) = inl k
      go (inr k) = inr (mathlib.Core.List.Memᴰ.eq_of_singleton k)

  -- a committed row is an old one
  pub begun-committed : {r : Row} → r ∈ (begun s).rows → committed r ≡ true → r ∈ s.rows
  begun-committed {r} m c = go (begun-row m)
    where
      go : (r ∈ s.rows) ⊎ (r ≡ new s v) → r ∈ s.rows
      go (inl k) = k
      go (inr e) = absurd (false≢true (ap (λ (q : Row). committed q) (sym e) ∙ c))

  visible-begun : (x : Rec) → x ∈ s.recs → visible (begun s) (txn x) (item x) ≡ visible s (txn x) (item x)
  unfolding visible begun
  visible-begun x m =
      let o = v.owner m in
      ap (λ (q : Row). version_at (begun s) (item x) (start q)) (row_of_snoc (new s v) (txn x) s.rows (ne_eqb s.next (txn x) (λ (e : s.next ≡ txn x). omega (arith, (v.numbers o.1).1, o.2))))
      ∙ version-begun s v (item x) (start_of s (txn x))

  pub facts_begun : (s.next ≡ 65536 → ⊥) → Facts (begun s)
  unfolding begun recorded
  facts_begun n = record {
    sizes = v.sizes;
    ascend = pairs_snoc (λ a b. ltb (num a) (num b)) (new s v) s.rows v.ascend (λ r m. lt-ltb _ _ (v.numbers m).1);
    sorted = v.sorted;
    counts = v.counts;
    nexts = (omega arith, omega (arith, v.nexts.1));
    low = omega (arith, ap length (commits-begun s v), v.low);
    high = omega (arith, ap length (keep_snoc_in active (new s v) s.rows refl), length-append (keep active s.rows) (new s v ∷ []), v.high);
    numbers = λ m. go_numbers (begun-row m);
    starts = λ ma mb l. go_starts (begun-row ma) (begun-row mb) l;
    started = λ m. go_started (begun-row m);
    ends = λ m c. let u = v.ends (begun-committed m c) c in (u.0, omega (arith, u.1));
    distinct = λ ma ca mb cb e. v.distinct (begun-committed ma ca) ca (begun-committed mb cb) cb e;
    cross = λ mc cc' mr e. go_cross (begun-committed mc cc') cc' (begun-row mr) e;
    kinds = λ m. v.kinds m;
    owner = λ m. let o = v.owner m in (o.0, mathlib.Core.List.Memᴰ.append_left (new s v ∷ []) o.1, o.2);
    within = λ m. v.within m;
    based = λ {w} m. let u = v.based m in (omega (arith, u.0), λ k. let o = mathlib.Core.List.Memᴰ.of_map num (s.rows ++ (new s v ∷ [])) k in go_based w u.0 u.1 o.0 o.2 (mathlib.Core.List.Memᴰ.append_cases s.rows o.1));
    sees = λ {x} m t. v.sees m t ∙ ap writer (sym (visible-begun x m));
    unmixed = λ i wa wb l. v.unmixed i (was i wa) (was i wb) l;
  }
    where
      was : (i : ℕ) {r : Row} → Writer (begun s) i r → Writer s i r
      was i w = record { here = begun-committed w.here w.ended; ended = w.ended; wrote = w.wrote }

      go_numbers : {r : Row} → (r ∈ s.rows) ⊎ (r ≡ new s v) → (1 ≤ num r) × (num r < s.next + 1)
      go_numbers (inl k) = let u = v.numbers k in (u.0, omega (arith, u.1))
      go_numbers (inr e) = (omega (arith, ap num e, v.nexts.0), omega (arith, ap num e))

      go_starts : {a b : Row} → (a ∈ s.rows) ⊎ (a ≡ new s v) → (b ∈ s.rows) ⊎ (b ≡ new s v) → num a < num b → start a < start b
      go_starts (inl k) (inl j) l = v.starts k j l
      go_starts (inl k) (inr e) l = omega (arith, ap start e, (v.started k).1)
      go_starts (inr e) (inl k) l = absurd (omega (arith, ap num e, (v.numbers k).1))
      go_starts (inr e) (inr q) l = absurd (omega (arith, ap num e, ap num q))

      go_started : {r : Row} → (r ∈ s.rows) ⊎ (r ≡ new s v) → (1 ≤ start r) × (start r < s.moment + 1)
      go_started (inl k) = let u = v.started k in (u.0, omega (arith, u.1))
      go_started (inr e) = (omega (arith, ap start e, v.low, v.nexts.0), omega (arith, ap start e))

      go_cross : {c r : Row} → c ∈ s.rows → committed c ≡ true → (r ∈ s.rows) ⊎ (r ≡ new s v) → done c ≡ start r → ⊥
      go_cross mc h (inl k) e = v.cross mc h k e
      go_cross mc h (inr q) e = omega (arith, ap start q, (v.ends mc h).1)

      go_based : (w : ℕ) → w < s.next → (w ∈ map num s.rows → ⊥) → (r : Row) → num r ≡ w → (r ∈ s.rows) ⊎ (r ∈ (new s v ∷ [])) → ⊥
      go_based w l h r e (inl k) = h (mathlib.Core.List.Memᴰ.cast (sym e) (mathlib.Core.List.Memᴰ.map num k))
      go_based w l h r e (inr k) = omega (arith, ap num (mathlib.Core.List.Memᴰ.eq_of_singleton k))

  pub free-begun : ¬ Ring s → ¬ Ring (begun s)
  free-begun = ring_less s (begun s) (λ a b h.
      let u = depends_out (begun s) a b h in
      let ma = subst (Memᴰ a) (commits-begun s v) u.0 in
      let mb = subst (Memᴰ b) (commits-begun s v) u.1 in
      depends_in s ma mb (sym (dep-begun s v a mb) ∙ u.2))

-- ---- a record
module _ (s : State) (v : Facts s) (t : ℕ) (a : Active s t) (x : Rec) (own : txn x ≡ t) (below : item x < s.count) (kind : (x.kind ≡ 1) ⊎ (x.kind ≡ 2)) (sees : x.kind ≡ 1 → x.word ≡ writer (visible s (txn x) (item x))) where
  abbrev z : State
  z = with_recs s (insert x s.recs)

  small : x.kind < 256
  small = ⊎_elim (λ e. omega arith) (λ e. omega arith) kind

  alone : (r : Row) → r ∈ s.rows → num r ≡ txn x → committed r ≡ false
  alone = lone s v t a x own below small

  agrees : (y : Rec) → y ∈ s.recs → key x ≡ key y → txn x ≡ txn y
  agrees = agree s v t a x own below small

  version_z : (i m : ℕ) → version_at z i m ≡ version_at s i m
  version_z i m = version-put s (known s v) x alone agrees i m

  visible_z : (u i : ℕ) → visible z u i ≡ visible s u i
  unfolding visible
  visible_z u i = version_z i (start_of s u)

  not_its : {r : Row} → r ∈ s.rows → committed r ≡ true → num r ≡ txn x → ⊥
  not_its {r} m c e = false≢true (sym (alone r m e) ∙ c)

  was_z : (i : ℕ) {r : Row} → Writer z i r → Writer s i r
  was_z i {r} w = record { here = w.here; ended = w.ended; wrote = sym (recorded-put s (known s v) x alone agrees (num r) i 2 (not_its w.here w.ended)) ∙ w.wrote }

  pub facts_put : Facts (with_recs s (insert x s.recs))
  unfolding commits
  facts_put = record {
    sizes = v.sizes;
    ascend = v.ascend;
    sorted = insert-sorted x s.recs v.sorted;
    counts = v.counts;
    nexts = v.nexts;
    low = v.low;
    high = v.high;
    numbers = λ m. v.numbers m;
    starts = λ ma mb l. v.starts ma mb l;
    started = λ m. v.started m;
    ends = λ m c. v.ends m c;
    distinct = λ ma ca mb cb e. v.distinct ma ca mb cb e;
    cross = λ mc cc' mr e. v.cross mc cc' mr e;
    kinds = λ m. go_kinds (insert_out x s.recs m);
    owner = λ m. go_owner (insert_out x s.recs m);
    within = λ m. go_within (insert_out x s.recs m);
    based = λ m. v.based m;
    sees = λ m h. go_sees (insert_out x s.recs m) h;
    unmixed = λ i wa wb l. v.unmixed i (was_z i wa) (was_z i wb) l;
  }
    where
      go_kinds : {y : Rec} → (y ≡ x) ⊎ (y ∈ s.recs) → (y.kind ≡ 1) ⊎ (y.kind ≡ 2)
      go_kinds (inl e) = ⊎_elim (λ k. inl (ap (λ (y : Rec). y.kind) e ∙ k)) (λ k. inr (ap (λ (y : Rec). y.kind) e ∙ k)) kind
      go_kinds (inr m) = v.kinds m

      go_owner : {y : Rec} → (y ≡ x) ⊎ (y ∈ s.recs) → (r : Row) × (r ∈ s.rows) × (num r ≡ txn y)
      go_owner (inl e) = (a.0, a.1, a.2 ∙ sym own ∙ ap (λ (k : Rec). txn k) (sym e))
      go_owner (inr m) = v.owner m

      go_within : {y : Rec} → (y ≡ x) ⊎ (y ∈ s.recs) → item y < s.count
      go_within (inl e) = omega (arith, ap (λ (k : Rec). item k) e)
      go_within (inr m) = v.within m

      go_sees : {y : Rec} → (y ≡ x) ⊎ (y ∈ s.recs) → y.kind ≡ 1 → y.word ≡ writer (visible z (txn y) (item y))
      go_sees {y} (inl e) h =
          ap (λ (k : Rec). k.word) e ∙ sees (ap (λ (k : Rec). k.kind) (sym e) ∙ h) ∙ ap (λ (k : Rec). writer (visible s (txn k) (item k))) (sym e) ∙ ap writer (sym (visible_z (txn y) (item y)))
      go_sees {y} (inr m) h = v.sees m h ∙ ap writer (sym (visible_z (txn y) (item y)))

  pub free-put : ¬ Ring s → ¬ Ring (with_recs s (insert x s.recs))
  unfolding commits
  free-put = ring_less s z (λ p q h.
      let u = depends_out z p q h in
      depends_in s u.0 u.1 (sym (dep-put s (known s v) x alone agrees p q (not_own s v t a x own below small u.0) (not_own s v t a x own below small u.1)) ∙ u.2))

-- ---- the end of a transaction
module _ (s : State) (v : Facts s) (t : ℕ) (a : Active s t) where
  abbrev g : ℕ → Bool
  g n = eqb n t

  same-writers : (forget g s).writers ≡ s.writers
  same-writers = ap (λ (z : State). z.writers) (forget_bare g s v.sizes (λ r m e. its_row s v t a r m (eqb-true _ _ e)))

  visible-dropped : (x : Rec) → x ∈ s.recs → g (txn x) ≡ false → visible (forget g s) (txn x) (item x) ≡ visible s (txn x) (item x)
  unfolding visible
  visible-dropped x m h =
      ap (λ (q : Row). version_at (forget g s) (item x) (start q)) (row-forget g s (txn x) h)
      ∙ version-forget g s (rowed s v) (behind_only s v t a) (item x) (start_of s (txn x)) (v.within m) (λ r w e. absurd (false≢true (sym (its_row s v t a r w.here (eqb-true _ _ e)) ∙ w.ended)))

  pub facts_dropped : Facts (forget (λ n. eqb n t) s)
  facts_dropped =
      facts_forget g s v
      (λ w m. let u = v.based (subst (Memᴰ w) same-writers m) in (u.0, λ k. let o = mathlib.Core.List.Memᴰ.of_map num (forget g s).rows k in u.1 (mathlib.Core.List.Memᴰ.cast (sym o.2) (mathlib.Core.List.Memᴰ.map num (rows_out g s o.1).0))))
      (λ x m r h. visible-dropped x m h)

  pub free-dropped : ¬ Ring s → ¬ Ring (forget (λ n. eqb n t) s)
  free-dropped free r = free (ring_out g s (rowed s v) (behind_only s v t a) r)

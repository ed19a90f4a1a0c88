-- What a run has told so far, and how it stands in the state after a line of one actor. Assumes nothing.
use Prim.Native.Nat.{◌<◌, ◌≤◌, ℕ}
use mathlib.Core.Bool.{Bool, ◌&&◌, ◌||◌, cond, false, false≢true, true}
use mathlib.Core.List.Memᴰ
use mathlib.Core.List.{List, [], ◌++◌, ◌∷◌, append-nil}
use mathlib.Core.Logic.{◌⊎◌, inl, inr, ⊎_elim}
use mathlib.Core.Path.{◌∙◌, ◌≡◌, ap, refl, subst, sym}
use native.Mathlib.Omega.{arith}
use lib.Dec.{eqb, ltb}
use borrow.Author.Tests.{eq-eqb, eqb-true, lt-ltb, ltb-true, ne_eqb}
use Rattle.laws.proofs.Keeping.{pairs_snoc, pairs_weaken}
use Rattle.laws.proofs.Lists.{◌∈◌, and_both, and_left, and_right, or_cases, or_left, or_right, passed}
use Rattle.laws.proofs.Records.{word_same}
use Rattle.rules.specs.Deps.{Ring}
use Rattle.rules.specs.Lists.{pairs}
use Rattle.rules.specs.Machine.{Line}
use Rattle.rules.specs.Serial.{Store, act, acts, committer, committers, got, leaves, put}
use Rattle.rules.specs.Sound.{lawful}
use Rattle.rules.specs.State.{State, commit_of, commits, has_read, insert, is_active, is_rec, recorded, with_recs, written, wrote}
use Rattle.rules.specs.Versions.{visible}
use Rattle.terms.specs.Words.{num, rec, writer}
use Rattle.terms.specs.declared.Rec.{Rec}
use Rattle.terms.specs.declared.Row.{Row}
use Rattle.terms.specs.declared.Version.{Version}
use Rattle.theory.proofs.Actives.{active_out}
use Rattle.theory.proofs.Acts.{Acts, acts-same, acts_snoc, committers_snoc, fits-append, leaves-append, tells}
use Rattle.theory.proofs.CallFrames.{enter_recorded, enter_visible, enter_word}
use Rattle.theory.proofs.Facts.{Facts, lawful_facts, lawful-free}
use Rattle.theory.proofs.Frames.{Frame, acts_frame, commit_now, commit-stays, commits_frame, commits_stay, same_or_not}

pub record Told (vs : List ℕ) (ls : List Line) (s : State) : Type 0 where
  pub inv : Facts s
  pub free : ¬ Ring s
  pub values : s.values ≡ vs
  pub told : (r : Row) → r ∈ s.rows → Acts s (num r) (acts (num r) ls)
  pub fresh : (t : ℕ) → s.next ≤ t → acts t ls ≡ []
  pub there : (t : ℕ) → t ∈ commits s → t ∈ committers ls
  pub back : (t : ℕ) → t ∈ committers ls → t ∈ commits s
  pub by-commit : pairs (λ a b. ltb (commit_of s a) (commit_of s b)) (committers ls) ≡ true

module _ (vs : List ℕ) (ls : List Line) (s : State) (so : Told vs ls s) where
  -- a line that changes nothing
  pub unmoved : (l : Line) → ((t : ℕ) → tells (act t) l ≡ []) → tells committer l ≡ [] → Told vs (ls ++ (l ∷ [])) s
  unmoved l a c = record {
    inv = so.inv;
    free = so.free;
    values = so.values;
    told = λ r mr. subst (Acts s (num r)) (sym (acts-same (num r) ls l (a (num r)))) (so.told r mr);
    fresh = λ t h. acts-same t ls l (a t) ∙ so.fresh t h;
    there = λ t m. subst (λ (k : List ℕ). t ∈ k) (sym same) (so.there t m);
    back = λ t m. so.back t (subst (λ (k : List ℕ). t ∈ k) same m);
    by-commit = subst (λ (k : List ℕ). pairs (λ a b. ltb (commit_of s a) (commit_of s b)) k ≡ true) (sym same) so.by-commit;
  }
    where
      same : committers (ls ++ (l ∷ [])) ≡ committers ls
      same = committers_snoc ls l ∙ ap (λ (r : List ℕ). committers ls ++ r) c ∙ append-nil _

  -- a line whose actor is t
  pub acted : (z : State) (t : ℕ) (l : Line) → Frame s z t → lawful z ≡ true → t < z.next → ((u : ℕ) → (u ≡ t → ⊥) → tells (act u) l ≡ [])
      → ((r : Row) → r ∈ z.rows → num r ≡ t → Acts z t (acts t ls ++ tells (act t) l))
      → (t ∈ commits z → t ∈ tells committer l) → ((u : ℕ) → u ∈ tells committer l → u ∈ commits z)
      → (tells committer l ≡ []) ⊎ (tells committer l ≡ (t ∷ [])) → Told vs (ls ++ (l ∷ [])) z
  acted z t l fr h below others mine there back who = record {
    inv = lawful_facts z h;
    free = lawful-free z h;
    values = fr.values ∙ so.values;
    told = λ r mr. ⊎_elim
        (λ e. subst (λ (u : ℕ). Acts z u (acts u (ls ++ (l ∷ [])))) (sym e) (subst (Acts z t) (sym (acts_snoc t ls l)) (mine r mr e)))
        (λ n. subst (Acts z (num r)) (sym (acts-same (num r) ls l (others (num r) n))) (acts_frame s z t so.inv fr (acts (num r) ls) (fr.rows_out r mr n) n (so.told r (fr.rows_out r mr n))))
        (same_or_not (num r) t);
    fresh = λ u h. acts-same u ls l (others u (λ e. omega arith)) ∙ so.fresh u (omega (arith, fr.nexts));
    there = λ u m. subst (λ (k : List ℕ). u ∈ k) (sym (committers_snoc ls l)) (⊎_elim
        (λ e. Memᴰ.append_right (committers ls) (Memᴰ.cast e (there (Memᴰ.cast (sym e) m))))
        (λ n. Memᴰ.append_left _ (so.there u (commits_frame s z t so.inv fr m n))) (same_or_not u t));
    back = λ u m. ⊎_elim (λ k. commits_stay s z t so.inv fr (so.back u k)) (λ k. back u k)
        (Memᴰ.append_cases (committers ls) (subst (λ (k : List ℕ). u ∈ k) (committers_snoc ls l) m));
    by-commit = subst (λ (k : List ℕ). pairs is_earlier k ≡ true) (sym (committers_snoc ls l)) (⊎_elim
        (λ e. subst (λ (k : List ℕ). pairs is_earlier (committers ls ++ k) ≡ true) (sym e) (subst (λ (k : List ℕ). pairs is_earlier k ≡ true) (sym (append-nil (committers ls))) still))
        (λ e. subst (λ (k : List ℕ). pairs is_earlier (committers ls ++ k) ≡ true) (sym e) (pairs_snoc is_earlier t (committers ls) still (λ u m.
        let w = commit-stays s z t so.inv fr (so.back u m) in
        let n = commit_now s z t so.inv fr (back t (subst (λ (k : List ℕ). t ∈ k) (sym e) (Memᴰ.head refl))) in
        lt-ltb (commit_of z u) (commit_of z t) (omega (arith, w.0, w.1, n)))))
        who);
  }
    where
      is_earlier : ℕ → ℕ → Bool
      is_earlier a b = ltb (commit_of z a) (commit_of z b)

      still : pairs (λ a b. ltb (commit_of z a) (commit_of z b)) (committers ls) ≡ true
      still = pairs_weaken _ _ (committers ls) (λ a b ma mb h.
          let p = commit-stays s z t so.inv fr (so.back a ma) in
          let q = commit-stays s z t so.inv fr (so.back b mb) in
          lt-ltb (commit_of z a) (commit_of z b) (omega (arith, p.0, q.0, ltb-true (commit_of s a) (commit_of s b) h))) so.by-commit

  -- t is active: its row and its acts
  module _ (t : ℕ) (on : is_active s t ≡ true) where
    pub acts_of : Acts s t (acts t ls)
    acts_of = let u = active_out s t on in subst (λ (k : ℕ). Acts s k (acts k ls)) u.2 (so.told u.0 u.1)

    pub below_next : t < s.next
    below_next = let u = active_out s t on in omega (arith, (so.inv.numbers u.1).1, u.2)

    -- a value that is given and is the right one
    pub given_right : (i v : ℕ) → ((m : Store) → ((j : ℕ) → has_read s t j ≡ true → m j ≡ (visible s t j).value) → leaves m (acts t ls) i ≡ v)
        → Acts s t (acts t ls ++ (got i v ∷ []))
    unfolding leaves
    given_right i v h = record {
      fits = λ m k. fits-append m (acts t ls) (got i v ∷ []) (acts_of.fits m k) (h m k, tt);
      puts = λ m j k. ap (λ (f : Store). f j) (leaves-append m (acts t ls) (got i v ∷ [])) ∙ acts_of.puts m j k;
      other = λ m j k. ap (λ (f : Store). f j) (leaves-append m (acts t ls) (got i v ∷ [])) ∙ acts_of.other m j k;
    }

module _ (vs : List ℕ) (ls : List Line) (s : State) (so : Told vs ls s) (t i : ℕ) (on : is_active s t ≡ true) (within : i < s.count) where
  small : i < 256
  small = omega (arith, so.inv.counts.1)

  -- a record of t and item i is put in, of any kind and word
  module _ (kind word : ℕ) (narrow : kind < 256) where
    abbrev entered : State
    entered = with_recs s (insert (rec t i kind word) s.recs)

    entered_has : (j k : ℕ) → recorded entered t j k ≡ (recorded s t j k || is_rec t j k (rec t i kind word))
    entered_has j k = enter_recorded s so.inv (rec t i kind word) (small, narrow) on t j k

    entered_same : (j : ℕ) → (visible entered t j).value ≡ (visible s t j).value
    entered_same j = ap (λ (p : Version). p.value) (enter_visible s so.inv (rec t i kind word) (small, narrow) on j)

    entered_was : (j k : ℕ) → recorded s t j k ≡ true → recorded entered t j k ≡ true
    entered_was j k q = entered_has j k ∙ or_left _ _ q

  -- a read record is made
  module _ (un : wrote s t i ≡ false) where
    abbrev pub read-rec : Rec
    read-rec = rec t i 1 (writer (visible s t i))

    pub read_new : Acts (with_recs s (insert read-rec s.recs)) t (acts t ls ++ (got i (visible s t i).value ∷ []))
    unfolding leaves
    read_new = record {
      fits = λ m k. fits-append m (acts t ls) (got i (visible s t i).value ∷ [])
          (a.fits m (λ j q. k j (was j 1 q) ∙ same j))
          (a.other m i un ∙ k i (now i) ∙ same i, tt);
      puts = λ m j k. ap (λ (f : Store). f j) (leaves-append m (acts t ls) (got i (visible s t i).value ∷ [])) ∙ a.puts m j (before j k)
          ∙ sym (enter_word s inv read-rec fit on t j 2 (no_write j));
      other = λ m j k. ap (λ (f : Store). f j) (leaves-append m (acts t ls) (got i (visible s t i).value ∷ [])) ∙ a.other m j (not-before j k);
    }
      where
        inv : Facts s
        inv = so.inv

        a : Acts s t (acts t ls)
        a = acts_of vs ls s so t on

        fit : (i < 256) × (1 < 256)
        fit = (small, omega arith)

        z : State
        z = with_recs s (insert read-rec s.recs)

        has : (j k : ℕ) → recorded z t j k ≡ (recorded s t j k || is_rec t j k read-rec)
        has = entered_has 1 (writer (visible s t i)) (omega arith)

        same : (j : ℕ) → (visible z t j).value ≡ (visible s t j).value
        same = entered_same 1 (writer (visible s t i)) (omega arith)

        was : (j k : ℕ) → recorded s t j k ≡ true → recorded z t j k ≡ true
        was = entered_was 1 (writer (visible s t i)) (omega arith)

        now : (j : ℕ) → has_read z t i ≡ true
        now j = has i 1 ∙ or_right (has_read s t i) _ (and_both _ _ (and_both _ _ (eq-eqb t t refl) (eq-eqb i i refl)) refl)

        no_write : (j : ℕ) → is_rec t j 2 read-rec ≡ false
        no_write j = ⊎_elim (λ q. absurd (false≢true (and_right (eqb t t && eqb i j) _ q))) (λ q. q) (passed (is_rec t j 2 read-rec))

        before : (j : ℕ) → wrote z t j ≡ true → wrote s t j ≡ true
        before j k = ⊎_elim (λ q. q) (λ q. absurd (false≢true (sym (no_write j) ∙ q))) (or_cases _ _ (sym (has j 2) ∙ k))

        not-before : (j : ℕ) → wrote z t j ≡ false → wrote s t j ≡ false
        not-before j k = ⊎_elim (λ q. absurd (false≢true (sym k ∙ was j 2 q))) (λ q. q) (passed (wrote s t j))

  -- a write record is made or changed
  module _ (v : ℕ) where
    abbrev pub write-rec : Rec
    write-rec = rec t i 2 v

    pub write_new : Acts (with_recs s (insert write-rec s.recs)) t (acts t ls ++ (put i v ∷ []))
    unfolding leaves
    write_new = record {
      fits = λ m k. fits-append m (acts t ls) (put i v ∷ []) (a.fits m (λ j q. k j (was j 1 q) ∙ same j)) tt;
      puts = λ m j k. ap (λ (f : Store). f j) (leaves-append m (acts t ls) (put i v ∷ [])) ∙ puts_now m j k (same_or_not i j);
      other = λ m j k. ap (λ (f : Store). f j) (leaves-append m (acts t ls) (put i v ∷ [])) ∙ kept m j k (same_or_not i j);
    }
      where
        inv : Facts s
        inv = so.inv

        a : Acts s t (acts t ls)
        a = acts_of vs ls s so t on

        fit : (i < 256) × (2 < 256)
        fit = (small, omega arith)

        z : State
        z = with_recs s (insert write-rec s.recs)

        has : (j k : ℕ) → recorded z t j k ≡ (recorded s t j k || is_rec t j k write-rec)
        has = entered_has 2 v (omega arith)

        same : (j : ℕ) → (visible z t j).value ≡ (visible s t j).value
        same = entered_same 2 v (omega arith)

        was : (j k : ℕ) → recorded s t j k ≡ true → recorded z t j k ≡ true
        was = entered_was 2 v (omega arith)

        elsewhere : (j : ℕ) → (i ≡ j → ⊥) → is_rec t j 2 write-rec ≡ false
        elsewhere j n = ⊎_elim (λ q. absurd (n (eqb-true i j (and_right (eqb t t) _ (and_left (eqb t t && eqb i j) _ q))))) (λ q. q) (passed (is_rec t j 2 write-rec))

        now : wrote z t i ≡ true
        now = has i 2 ∙ or_right (wrote s t i) _ (and_both _ _ (and_both _ _ (eq-eqb t t refl) (eq-eqb i i refl)) refl)

        puts_now : (m : Store) (j : ℕ) → wrote z t j ≡ true → (i ≡ j) ⊎ (i ≡ j → ⊥) → cond (eqb i j) v (leaves m (acts t ls) j) ≡ written z t j
        puts_now m j k (inl e) = rw (eq-eqb i j e) (sym (word_same write-rec s.recs) ∙ ap (λ (n : ℕ). written z t n) e)
        puts_now m j k (inr n) = rw (ne_eqb i j n)
            (a.puts m j (⊎_elim (λ q. q) (λ q. absurd (false≢true (sym (elsewhere j n) ∙ q))) (or_cases _ _ (sym (has j 2) ∙ k))) ∙ sym (enter_word s inv write-rec fit on t j 2 (elsewhere j n)))

        kept : (m : Store) (j : ℕ) → wrote z t j ≡ false → (i ≡ j) ⊎ (i ≡ j → ⊥) → cond (eqb i j) v (leaves m (acts t ls) j) ≡ m j
        kept m j k (inl e) = absurd (false≢true (sym k ∙ subst (λ (n : ℕ). wrote z t n ≡ true) e now))
        kept m j k (inr n) = rw (ne_eqb i j n)
            (a.other m j (⊎_elim (λ q. absurd (false≢true (sym k ∙ was j 2 q))) (λ q. q) (passed (wrote s t j))))

-- Reads, writes and looks at the latest value on sound tables: each of their outcomes. What the code has found goes in by equations. Assumes nothing.
use Prim.Native.Nat.{ℕ, ◌<◌, ◌≤◌, ◌-◌, ◌^◌}
use mathlib.Core.Bool.{Bool, ◌||◌, cond, false, false≢true, true}
use mathlib.Core.List.{List, [], map}
use mathlib.Core.Logic.{inl, inr}
use mathlib.Core.Path.{◌∙◌, ◌≡◌, ap, refl, sym}
use native.Mathlib.Omega.{arith}
use lib.ListN.{get_or, length}
use Rattle.std.specs.Prelude.{Err, Ok}
use Rattle.terms.specs.declared.Refusal.TheVariants.{NotActive, RecordsFull, UnknownItem}
use Rattle.terms.specs.declared.ItemNo.{ItemNo}
use Rattle.terms.specs.declared.Row.{Row}
use Rattle.terms.specs.declared.TxnNo.{TxnNo}
use Rattle.terms.specs.declared.Version.{Version}
use Rattle.terms.specs.Words.{rec, start, writer}
use Rattle.rules.specs.State.{State, has_read, insert, is_active, recorded, row_of, with_recs, word_in, wrote, written}
use Rattle.rules.specs.Versions.{after_read, after_write, latest, read_value, version_at, visible}
use Rattle.rules.specs.Machine.{Latest, Read, Write, after, tables, value}
use Rattle.rules.specs.Answers.{Active}
use Rattle.rules.specs.Raw.{Raw, pack, raw_of, sound_raw, state_of, unpack, used_recs, used_rows}
use Rattle.rules.specs.Public.{on_sound}
use Rattle.laws.proofs.Answers.{active_decides}
use Rattle.laws.proofs.Raw.{Packs, held}
use Rattle.laws.proofs.Rows.{Known}
use Rattle.theory.proofs.RawRuns.{writer-given}
use Rattle.bridge.specs.Whole.{put_in, put_over, recs_in, used_of}
use Rattle.bridge.proofs.HeldChanges.{change_held, insert-held}
use Rattle.bridge.proofs.Holds.{active_used, holds, known_used, recorded_used, recs_full, recs_room, row_used, values_long, version_used, word_used, writers_long}
use Rattle.calls.proofs.Outcomes.{accept, refuse, sane}

module _ (n m : ℕ) (w : Raw) (h : sound_raw n m w ≡ true) where
  abbrev used_state : State
  used_state = used_of w.rows w.recs w.values w.writers

  unknown : (i : ItemNo) → get_or w.head 0 0 ≤ i.0 → (state_of w).count ≤ i.0
  unfolding state_of
  unknown i l = l

  known : (i : ItemNo) → i.0 < get_or w.head 0 0 → ¬ ((state_of w).count ≤ i.0)
  unfolding state_of
  known i l k = omega (arith, l, k)

  inside : (i : ItemNo) → i.0 < get_or w.head 0 0 → i.0 < (state_of w).count
  unfolding state_of
  inside i l = l

  inside_small : (i : ItemNo) → i.0 < get_or w.head 0 0 → i.0 < 256
  inside_small i l = omega (arith, inside i l, (holds n m w h).facts.counts.1)

  -- what finding a version asks for
  pub findable : (i : ItemNo) → i.0 < get_or w.head 0 0 → Known used_state × (i.0 < length w.values) × (i.0 < length w.writers)
  findable i l =
      let k = holds n m w h in
      let s = inside_small i l in
      (known_used n m w k w.recs w.values w.writers, omega (arith, values_long n m w k, s), omega (arith, writers_long n m w k, s))

  -- ---- the latest value
  pub latest_unknown : (i : ItemNo) → get_or w.head 0 0 ≤ i.0 → on_sound n m (Latest i) w ≡ (Err UnknownItem, w)
  latest_unknown i l = refuse n m w h (Latest i) (Err UnknownItem) (inr (sane n m w h, inl (unknown i l, refl))) refl refl

  latest-is : (i : ItemNo) → i.0 < get_or w.head 0 0 → (v : Version) → v ≡ version_at used_state i.0 (get_or w.head 2 0) → v.value ≡ value (tables n m) (state_of w) (Latest i)
  unfolding value latest state_of
  latest-is i l v e = ap (λ (u : Version). u.value) (e ∙ version_used w i.0 (get_or w.head 2 0) l)

  pub latest-done : (i : ItemNo) → i.0 < get_or w.head 0 0 → (v : Version) → v ≡ version_at used_state i.0 (get_or w.head 2 0) → on_sound n m (Latest i) w ≡ (Ok v.value, w)
  unfolding after
  latest-done i l v e =
      accept n m w h (Latest i) (Ok v.value) (inr (sane n m w h, inr (known i l, ap Ok (latest-is i l v e)))) refl
      ∙ ap (λ (z : Raw). (Ok v.value, z)) (held n m w h).0

  -- ---- reads and writes: what both are refused for
  module _ (t : TxnNo) (i : ItemNo) where
    pub read_unknown : get_or w.head 0 0 ≤ i.0 → on_sound n m (Read t i) w ≡ (Err UnknownItem, w)
    read_unknown l = refuse n m w h (Read t i) (Err UnknownItem) (inr (sane n m w h, inl (unknown i l, refl))) refl refl

    pub write_unknown : (v : ℕ) → get_or w.head 0 0 ≤ i.0 → on_sound n m (Write t i v) w ≡ (Err UnknownItem, w)
    write_unknown v l = refuse n m w h (Write t i v) (Err UnknownItem) (inr (sane n m w h, inl (unknown i l, refl))) refl refl

    inactive : is_active (used_of w.rows [] [] []) t.0 ≡ false → ¬ Active (state_of w) t.0
    inactive f a = false≢true (sym f ∙ active_used w [] [] [] t.0 ∙ (active_decides (state_of w) t.0).1 a)

    active : is_active (used_of w.rows [] [] []) t.0 ≡ true → ¬ ¬ Active (state_of w) t.0
    active f n = n ((active_decides (state_of w) t.0).0 (sym (active_used w [] [] [] t.0) ∙ f))

    module _ (l : i.0 < get_or w.head 0 0) where
      pub read_inactive : is_active (used_of w.rows [] [] []) t.0 ≡ false → on_sound n m (Read t i) w ≡ (Err NotActive, w)
      read_inactive f = refuse n m w h (Read t i) (Err NotActive) (inr (sane n m w h, inr (known i l, inl (inactive f, refl)))) refl refl

      pub write_inactive : (v : ℕ) → is_active (used_of w.rows [] [] []) t.0 ≡ false → on_sound n m (Write t i v) w ≡ (Err NotActive, w)
      write_inactive v f = refuse n m w h (Write t i v) (Err NotActive) (inr (sane n m w h, inr (known i l, inl (inactive f, refl)))) refl refl

      -- the transaction is active
      module _ (a : is_active (used_of w.rows [] [] []) t.0 ≡ true) where
        has : (k : ℕ) → recorded (used_of [] w.recs [] []) t.0 i.0 k ≡ recorded (state_of w) t.0 i.0 k
        has k = recorded_used w [] [] [] t.0 i.0 k

        -- its number and the item have room in a record
        pub fits : (t.0 < 65536) × (i.0 < 256)
        fits =
            let k = holds n m w h in
            let u = (active_decides (state_of w) t.0).0 (sym (active_used w [] [] [] t.0) ∙ a) in
            (omega (arith, (k.facts.numbers u.here).1, u.named, k.facts.nexts.1), omega (arith, inside i l, k.facts.counts.1))

        -- ---- a read that needs no record
        read_gives : (v : ℕ) → v ≡ value (tables n m) (state_of w) (Read t i)
            → ¬ ((has_read (state_of w) t.0 i.0 ≡ false) × (wrote (state_of w) t.0 i.0 ≡ false) × (m ≤ length (state_of w).recs))
            → on_sound n m (Read t i) w ≡ (Ok v, raw_of n m (after_read (state_of w) t.0 i.0))
        unfolding after tables
        read_gives v e need = accept n m w h (Read t i) (Ok v) (inr (sane n m w h, inr (known i l, inr (active a, inr (need, ap Ok e))))) refl

        own_value : (v : ℕ) → recorded (used_of [] w.recs [] []) t.0 i.0 2 ≡ true → v ≡ word_in t.0 i.0 2 (map unpack (used_recs w.recs)) → v ≡ value (tables n m) (state_of w) (Read t i)
        unfolding value read_value
        own_value v o e =
            e ∙ word_used w t.0 i.0 2
            ∙ sym (ap (λ (b : Bool). cond b (written (state_of w) t.0 i.0) (visible (state_of w) t.0 i.0).value) (sym (has 2) ∙ o))

        or_true : (b : Bool) → (b || true) ≡ true
        or_true true = refl
        or_true false = refl

        pub read_own : (v : ℕ) → recorded (used_of [] w.recs [] []) t.0 i.0 2 ≡ true → v ≡ word_in t.0 i.0 2 (map unpack (used_recs w.recs))
            → on_sound n m (Read t i) w ≡ (Ok v, w)
        unfolding after_read
        read_own v o e =
            read_gives v (own_value v o e) (λ k. false≢true (sym k.1 ∙ sym (has 2) ∙ o))
            ∙ ap (λ (b : Bool). (Ok v, raw_of n m (cond (has_read (state_of w) t.0 i.0 || b) (state_of w) (with_recs (state_of w) (insert (rec t.0 i.0 1 (writer (visible (state_of w) t.0 i.0))) (state_of w).recs))))) (sym (has 2) ∙ o)
            ∙ ap (λ (b : Bool). (Ok v, raw_of n m (cond b (state_of w) (with_recs (state_of w) (insert (rec t.0 i.0 1 (writer (visible (state_of w) t.0 i.0))) (state_of w).recs))))) (or_true (has_read (state_of w) t.0 i.0))
            ∙ ap (λ (z : Raw). (Ok v, z)) (held n m w h).0

        -- ---- a read of what it has not written
        module _ (u : recorded (used_of [] w.recs [] []) t.0 i.0 2 ≡ false) (v : Version) (e : v ≡ version_at used_state i.0 (start (row_of (used_rows w.rows) t.0))) where
          seen : v ≡ visible (state_of w) t.0 i.0
          unfolding visible
          seen = e ∙ version_used w i.0 _ (inside i l) ∙ ap (λ (r : Row). version_at (state_of w) i.0 (start r)) (row_used w t.0)

          seen_value : v.value ≡ value (tables n m) (state_of w) (Read t i)
          unfolding value read_value
          seen_value =
              ap (λ (k : Version). k.value) seen
              ∙ sym (ap (λ (b : Bool). cond b (written (state_of w) t.0 i.0) (visible (state_of w) t.0 i.0).value) (sym (has 2) ∙ u))

          -- what is left, by whether there is a read record
          left : (b : Bool) → recorded (used_of [] w.recs [] []) t.0 i.0 1 ≡ b
              → after_read (state_of w) t.0 i.0 ≡ cond b (state_of w) (with_recs (state_of w) (insert (rec t.0 i.0 1 (writer v)) (state_of w).recs))
          unfolding after_read
          left b q =
              (λ j. cond ((sym (has 1) ∙ q) j || (sym (has 2) ∙ u) j) (state_of w) (with_recs (state_of w) (insert (rec t.0 i.0 1 (writer (sym seen j))) (state_of w).recs)))
              ∙ ap (λ (k : Bool). cond k (state_of w) (with_recs (state_of w) (insert (rec t.0 i.0 1 (writer v)) (state_of w).recs))) (or_false b)
            where
              or_false : (b : Bool) → (b || false) ≡ b
              or_false true = refl
              or_false false = refl

          pub read_again : recorded (used_of [] w.recs [] []) t.0 i.0 1 ≡ true → on_sound n m (Read t i) w ≡ (Ok v.value, w)
          read_again q =
              read_gives v.value seen_value (λ k. false≢true (sym k.0 ∙ sym (has 1) ∙ q))
              ∙ ap (λ (z : State). (Ok v.value, raw_of n m z)) (left true q) ∙ ap (λ (z : Raw). (Ok v.value, z)) (held n m w h).0

          module _ (q : recorded (used_of [] w.recs [] []) t.0 i.0 1 ≡ false) where
            pub read_full : (get_or w.recs (m - 1) 0 ≡ 0 → ⊥) → on_sound n m (Read t i) w ≡ (Err RecordsFull, w)
            unfolding tables
            read_full f =
                refuse n m w h (Read t i) (Err RecordsFull)
                (inr (sane n m w h, inr (known i l, inr (active a, inl ((sym (has 1) ∙ q, sym (has 2) ∙ u, recs_full n m w (holds n m w h) f), refl))))) refl refl

            -- the writer has room in the word
            pub narrow : writer v < 65536
            narrow = let k = holds n m w h in omega (arith, writer-given (state_of w) k.facts i.0 (start (row_of (used_rows w.rows) t.0)) (inside i l), ap writer (e ∙ version_used w i.0 (start (row_of (used_rows w.rows) t.0)) (inside i l)), k.facts.nexts.1)

            pub read_new : 1 ≤ m → get_or w.recs (m - 1) 0 ≡ 0 → (p : ℕ) → p ≡ pack (rec t.0 i.0 1 (writer v)) → (ps : List ℕ) → ps ≡ put_in p w.recs
                → on_sound n m (Read t i) w ≡ (Ok v.value, recs_in w ps)
            read_new pos z p ep ps eps =
                let k = holds n m w h in
                let x = rec t.0 i.0 1 (writer v) in
                let room = recs_room n m w k pos z in
                let packs : Packs x = record { item-fits = fits.1; kind_fits = omega arith; word_fits = omega (arith, narrow) } in
                read_gives v.value seen_value (λ f. omega (arith, f.2, room))
                ∙ ap (λ (s : State). (Ok v.value, raw_of n m s)) (left false q)
                ∙ ap (λ (z : Raw). (Ok v.value, z)) (insert-held n m w k x packs (sym (has 1) ∙ q) room)
                ∙ ap (λ (c : ℕ). (Ok v.value, recs_in w (put_in c w.recs))) (sym ep)
                ∙ ap (λ (l : List ℕ). (Ok v.value, recs_in w l)) (sym eps)

        -- ---- a write
        module _ (v : ℕ) (narrow-value : v < 2 ^ 32) where
          packs : Packs (rec t.0 i.0 2 v)
          packs = record { item-fits = fits.1; kind_fits = omega arith; word_fits = narrow-value }

          write_gives : ¬ ((wrote (state_of w) t.0 i.0 ≡ false) × (m ≤ length (state_of w).recs))
              → on_sound n m (Write t i v) w ≡ (Ok 0, raw_of n m (with_recs (state_of w) (insert (rec t.0 i.0 2 v) (state_of w).recs)))
          unfolding after tables after_write
          write_gives need = accept n m w h (Write t i v) (Ok 0) (inr (sane n m w h, inr (known i l, inr (active a, inr (need, refl))))) refl

          pub write-over : recorded (used_of [] w.recs [] []) t.0 i.0 2 ≡ true → (p : ℕ) → p ≡ pack (rec t.0 i.0 2 v)
              → (ps : List ℕ) → ps ≡ put_over p w.recs → on_sound n m (Write t i v) w ≡ (Ok 0, recs_in w ps)
          write-over o p ep ps eps =
              let x = rec t.0 i.0 2 v in
              write_gives (λ k. false≢true (sym k.0 ∙ sym (has 2) ∙ o))
              ∙ ap (λ (z : Raw). (Ok 0, z)) (change_held n m w (holds n m w h) x packs (sym (has 2) ∙ o))
              ∙ ap (λ (c : ℕ). (Ok 0, recs_in w (put_over c w.recs))) (sym ep)
              ∙ ap (λ (l : List ℕ). (Ok 0, recs_in w l)) (sym eps)

          module _ (u : recorded (used_of [] w.recs [] []) t.0 i.0 2 ≡ false) where
            pub write_full : (get_or w.recs (m - 1) 0 ≡ 0 → ⊥) → on_sound n m (Write t i v) w ≡ (Err RecordsFull, w)
            unfolding tables
            write_full f =
                refuse n m w h (Write t i v) (Err RecordsFull)
                (inr (sane n m w h, inr (known i l, inr (active a, inl ((sym (has 2) ∙ u, recs_full n m w (holds n m w h) f), refl))))) refl refl

            pub write_new : 1 ≤ m → get_or w.recs (m - 1) 0 ≡ 0 → (p : ℕ) → p ≡ pack (rec t.0 i.0 2 v)
                → (ps : List ℕ) → ps ≡ put_in p w.recs → on_sound n m (Write t i v) w ≡ (Ok 0, recs_in w ps)
            write_new pos z p ep ps eps =
                let k = holds n m w h in
                let x = rec t.0 i.0 2 v in
                let room = recs_room n m w k pos z in
                write_gives (λ f. omega (arith, f.1, room))
                ∙ ap (λ (z : Raw). (Ok 0, z)) (insert-held n m w k x packs (sym (has 2) ∙ u) room)
                ∙ ap (λ (c : ℕ). (Ok 0, recs_in w (put_in c w.recs))) (sym ep)
                ∙ ap (λ (l : List ℕ). (Ok 0, recs_in w l)) (sym eps)

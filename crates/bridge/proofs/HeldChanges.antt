-- Sound tables after a change of the state that they hold: what the change is in the tables themselves. Assumes nothing.
use Prim.Native.Nat.{ℕ, ◌+◌, ◌≤◌, ◌<◌}
use mathlib.Core.Bool.{Bool, true, false}
use mathlib.Core.List.{[], ◌∷◌, ◌++◌, map}
use mathlib.Core.Path.{◌∙◌, ◌≡◌, ap, sym}
use lib.ListN.{length, set}
use Rattle.terms.specs.declared.Row.{Row}
use Rattle.terms.specs.declared.Rec.{Rec}
use Rattle.terms.specs.Words.{item, row, stamp, txn}
use Rattle.rules.specs.Lists.{keep, padded}
use Rattle.rules.specs.State.{begun, committing, dropped, insert, recorded, with_recs, with_rows}
use Rattle.rules.specs.Raw.{Raw, pack, raw_of, state_of, unpack, used_rows, zero_row}
use Rattle.laws.proofs.Raw.{Packs}
use Rattle.bridge.specs.Whole.{other_rec, other_row, put_in, put_over, recs_in, rows_in}
use Rattle.bridge.proofs.Changed.{add_raw, change_raw, dropped-raw, insert-raw, keep-recs-raw, keep-rows-raw, stamp-raw}
use Rattle.bridge.proofs.Holds.{Holds, head-is, rows_used}

module _ (n m : ℕ) (w : Raw) (h : Holds n m w) where
  pub insert-held : (x : Rec) → Packs x → recorded (state_of w) (txn x) (item x) x.kind ≡ false → length (state_of w).recs < m
      → raw_of n m (with_recs (state_of w) (insert x (state_of w).recs)) ≡ recs_in w (put_in (pack x) w.recs)
  insert-held x p new room =
      insert-raw n m (state_of w) h.fits x p new room ∙ ap (λ (v : Raw). recs_in v (put_in (pack x) v.recs)) h.same

  pub change_held : (x : Rec) → Packs x → recorded (state_of w) (txn x) (item x) x.kind ≡ true
      → raw_of n m (with_recs (state_of w) (insert x (state_of w).recs)) ≡ recs_in w (put_over (pack x) w.recs)
  change_held x p there =
      change_raw n m (state_of w) h.fits x p h.facts.sorted there ∙ ap (λ (v : Raw). recs_in v (put_over (pack x) v.recs)) h.same

  pub keep-recs-held : (g : Rec → Bool) → raw_of n m (with_recs (state_of w) (keep g (state_of w).recs)) ≡ recs_in w (padded m 0 (keep (λ q. g (unpack q)) w.recs))
  keep-recs-held g = keep-recs-raw n m (state_of w) h.fits g h.recs_few ∙ ap (λ (v : Raw). recs_in v (padded m 0 (keep (λ q. g (unpack q)) v.recs))) h.same

  pub add_held : (r : Row) → length (state_of w).rows < n → raw_of n m (with_rows (state_of w) ((state_of w).rows ++ (r ∷ []))) ≡ rows_in w (set w.rows (length (used_rows w.rows)) r)
  add_held r room =
      add_raw n m (state_of w) h.fits r room
      ∙ (λ j. rows_in (h.same j) (set (h.same j).rows (sym (rows_used w) j) r))

  pub stamp-held : (t b : ℕ) → 1 ≤ t → raw_of n m (with_rows (state_of w) (map (stamp t b) (state_of w).rows)) ≡ rows_in w (map (stamp t b) w.rows)
  stamp-held t b pos = stamp-raw n m (state_of w) h.fits t b pos ∙ ap (λ (v : Raw). rows_in v (map (stamp t b) v.rows)) h.same

  pub keep-rows-held : (g : Row → Bool) → raw_of n m (with_rows (state_of w) (keep g (state_of w).rows)) ≡ rows_in w (padded n zero_row (keep g w.rows))
  keep-rows-held g = keep-rows-raw n m (state_of w) h.fits g h.rows_few ∙ ap (λ (v : Raw). rows_in v (padded n zero_row (keep g v.rows))) h.same

  -- all of t is taken out
  pub dropped-held : (t : ℕ) → raw_of n m (dropped (state_of w) t) ≡ recs_in (rows_in w (padded n zero_row (keep (other_row t) w.rows))) (padded m 0 (keep (other_rec t) w.recs))
  dropped-held t =
      dropped-raw n m (state_of w) h.fits t h.rows_few h.recs_few
      ∙ ap (λ (v : Raw). recs_in (rows_in v (padded n zero_row (keep (other_row t) v.rows))) (padded m 0 (keep (other_rec t) v.recs))) h.same

  -- one more begins: its row stands after the used ones, and the head counts on
  pub begun-held : length (state_of w).rows < n
      → raw_of n m (begun (state_of w)) ≡ record {
        head = set (set w.head 1 ((state_of w).next + 1)) 2 ((state_of w).moment + 1);
        values = w.values;
        writers = w.writers;
        rows = set w.rows (length (used_rows w.rows)) (row (state_of w).next (state_of w).moment 0);
        recs = w.recs;
      }
  unfolding raw_of begun
  begun-held room =
      λ j. record {
        head = set (set (sym (head-is n m w h) j) 1 ((state_of w).next + 1)) 2 ((state_of w).moment + 1);
        values = (h.same j).values;
        writers = (h.same j).writers;
        rows = (add_held (row (state_of w).next (state_of w).moment 0) room j).rows;
        recs = (h.same j).recs;
      }

  -- t is committed at the next moment
  pub committing-held : (t : ℕ) → 1 ≤ t
      → raw_of n m (committing (state_of w) t) ≡ record {
        head = set w.head 2 ((state_of w).moment + 1);
        values = w.values;
        writers = w.writers;
        rows = map (stamp t (state_of w).moment) w.rows;
        recs = w.recs;
      }
  unfolding raw_of committing
  committing-held t pos =
      λ j. record {
        head = set (sym (head-is n m w h) j) 2 ((state_of w).moment + 1);
        values = (h.same j).values;
        writers = (h.same j).writers;
        rows = (stamp-held t (state_of w).moment pos j).rows;
        recs = (h.same j).recs;
      }

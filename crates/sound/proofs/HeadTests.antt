-- The sentence on the head, test after test, over the number of committed rows. Assumes nothing.
use Rattle.std.proofs.Common.{ℕ, ◌+◌, ◌-◌, ◌*◌, ◌≡◌, ◌∙◌, ap₂, refl, arith, Bool, true, false, not, ◌&&◌, List, [], cond, leb, length, map}
use Rattle.std.proofs.lemmas.List.{length-map}
use Rattle.std.specs.List.{count_by}
use Rattle.std.proofs.lemmas.List.Recursion.{is_count_by}
use Rattle.terms.specs.declared.Row.{Row}
use Rattle.terms.specs.Words.{active, committed, num}
use Rattle.rules.specs.Lists.{keep}
use Rattle.rules.specs.State.{commits}
use Rattle.rules.specs.Sound.{headed}
use Rattle.lists.proofs.Keeps.{put}
use Rattle.laws.proofs.Rows.{parted}
use Rattle.sound.specs.Parts.{held}
use Rattle.sound.proofs.Chains.{right_6}

-- the committed rows, as they are counted
pub kept : (rs : List Row) → length (keep committed rs) ≡ count_by (λ r. not (active r)) rs
kept rs = is_count_by (λ rs. length (keep committed rs)) committed refl (λ r rs. go r rs (committed r)) rs
  where
    go : (r : Row) (rs : List Row) (b : Bool) → length (put b r (keep committed rs)) ≡ cond b (1 + length (keep committed rs)) (length (keep committed rs))
    go r rs true = omega arith
    go r rs false = refl

pub head_is : (count next moment : ℕ) (rs : List Row) → headed (held count next moment [] [] rs [])
    ≡ (leb 1 count && (leb count 256 && (leb 1 next && (leb next 65536
    && (leb (next + length (keep committed rs)) moment && leb (moment + 1 + (length rs - length (keep committed rs))) (2 * next))))))
unfolding headed commits
head_is count next moment rs =
    let c : length (map num (keep committed rs)) ≡ length (keep committed rs) = length-map (keep committed rs) num in
    let a : length (keep active rs) ≡ length rs - length (keep committed rs) = omega (arith, parted rs) in
    right_6 (leb 1 count) (leb count 256) (leb 1 next) (leb next 65536) (leb (next + length (map num (keep committed rs))) moment) (leb (moment + 1 + length (keep active rs)) (2 * next))
    ∙ ap₂ (λ (i k : ℕ). leb 1 count && (leb count 256 && (leb 1 next && (leb next 65536 && (leb (next + i) moment && leb (moment + 1 + k) (2 * next)))))) c a

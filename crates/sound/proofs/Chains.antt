-- A chain of tests: the answer where one fails, and where one passes. Assumes nothing.
use mathlib.Core.Bool.{Bool, true, false, ◌&&◌}
use mathlib.Core.Path.{◌≡◌, refl, sym, ap, ◌∙◌}

-- the test is passed, and the answer is that of the rest
pub on : {a b r : Bool} → a ≡ true → r ≡ b → r ≡ (a && b)
on {b = b} e h = h ∙ ap (λ (x : Bool). x && b) (sym e)

-- the test is not passed
pub off : {a : Bool} (b : Bool) → a ≡ false → false ≡ (a && b)
off b e = ap (λ (x : Bool). x && b) (sym e)

-- tests in a row, from the left and from the right
pub right_3 : (a b c : Bool) → (a && b && c) ≡ (a && (b && c))
right_3 true b c = refl
right_3 false b c = refl

pub right_6 : (a b c d e f : Bool) → (a && b && c && d && e && f) ≡ (a && (b && (c && (d && (e && f)))))
right_6 a b c d e f =
    (λ j. right_3 a b c j && d && e && f) ∙ (λ j. right_3 a (b && c) d j && e && f)
    ∙ (λ j. right_3 a (b && c && d) e j && f) ∙ right_3 a (b && c && d && e) f
    ∙ (λ j. a && (right_3 b c d j && e && f)) ∙ (λ j. a && (right_3 b (c && d) e j && f)) ∙ (λ j. a && right_3 b (c && d && e) f j)
    ∙ (λ j. a && (b && (right_3 c d e j && f))) ∙ (λ j. a && (b && right_3 c (d && e) f j)) ∙ (λ j. a && (b && (c && right_3 d e f j)))

-- A run that has come to an offset of its file, with some answers written: what it does from there on is what was asked for. Assumes nothing.
use Prim.Native.Nat.{ℕ, ◌+◌, ◌*◌, ◌<◌, ◌≤◌, zero-le}
use mathlib.Core.Bool.{◌&&◌, true}
use mathlib.Core.List.{List, [], ◌∷◌, ◌++◌, append_assoc, append-nil, map}
use mathlib.Core.Logic.{inl}
use mathlib.Core.Path.{◌≡◌, ◌∙◌, ap, refl, subst, sym}
use native.Mathlib.Omega.{arith}
use lib.ListN.{drop, length, length-append}
use Rattle.std.specs.Prelude.{Err, None, Ok, Some}
use Rattle.terms.specs.declared.Refusal.TheVariants.{BadOpening, Beaten, ClosesRing, NotActive, NumbersUsedUp, RecordsFull, RowsFull, UnknownItem, UnsoundTables}
use Rattle.terms.specs.declared.Given.{Given}
use Rattle.terms.specs.declared.Step.{Step}
use Rattle.terms.specs.Words.{Answer, given, paper}
use Rattle.rules.specs.Lists.{all}
use Rattle.rules.specs.Machine.{Call, Line, call_of, run}
use Rattle.rules.specs.Public.{call_on, in_range, lines_on}
use Rattle.rules.specs.Raw.{Raw, raw_of}
use Rattle.rules.specs.State.{closed}
use borrow.Author.Tests.{lt-ltb}
use Rattle.laws.proofs.Lists.{and_both, and_left, and_right}
use Rattle.steps.specs.Answers.{answer_at, with_answers}
use Rattle.steps.specs.Decoding.{BadAt, Contents, Done, End, contents_from, decoded, steps_of}
use Rattle.steps.proofs.Puts.{length_with, put_next, put-start}
use Rattle.steps.proofs.Unfold.{next-bad, next-done, next_good, next-inside, part_at}
use Rattle.runner.specs.Ready.{Ready}
use Rattle.runner.specs.Run.{answers_to, bad_answer, narrow, number_of, written}
use Rattle.runner.proofs.Closed.{closed-lines, ready_after}

abbrev pub calls_of : Contents → List Call
calls_of h = map call_of h.steps

-- an answer's number is a byte
pub number_small : {x : Given} (a : Answer) → x ≡ paper a → x.number < 256
number_small a e = omega (arith, ap (λ (y : Given). y.number) e, small a)
  where
    small : (a : Answer) → (paper a).number < 256
    small (Ok v) = omega arith
    small (Err UnsoundTables) = omega arith
    small (Err UnknownItem) = omega arith
    small (Err NotActive) = omega arith
    small (Err NumbersUsedUp) = omega arith
    small (Err RowsFull) = omega arith
    small (Err RecordsFull) = omega arith
    small (Err Beaten) = omega arith
    small (Err ClosesRing) = omega arith
    small (Err BadOpening) = omega arith

-- the answers that the public calls give to what is left, on the present tables
abbrev pub given_on : Raw → Contents → List Given
given_on w h = map (λ l. paper l.1) (lines_on 32 256 w (calls_of h)) ++ bad_answer h.end

abbrev pub rest_at : List ℕ → ℕ → Contents
rest_at file at = contents_from at 0 (drop at file)

all_more : (gs : List Given) (x : Given) → all narrow gs ≡ true → x.value < 4294967296 → all narrow (gs ++ x ∷ []) ≡ true
all_more [] x h l = and_both (narrow x) true (lt-ltb x.value 4294967296 l) refl
all_more (g ∷ gs) x h l = and_both (narrow g) _ (and_left (narrow g) _ h) (all_more gs x (and_right (narrow g) _ h) l)

pub record Going (file out₀ out : List ℕ) (w : Raw) (at n : ℕ) : Type 0 where
  pub at_most : at ≤ length file
  pub few : n ≤ at
  pub ready : Ready w
  pub ranged : all in_range (calls_of (rest_at file at)) ≡ true
  pub ends : (rest_at file at).end ≡ (steps_of file).end
  pub sofar : List Given
  pub many : n ≡ length sofar
  pub small : all narrow sofar ≡ true
  pub put : out ≡ with_answers sofar out₀
  pub same : sofar ++ given_on w (rest_at file at) ≡ answers_to 32 256 (steps_of file)

pub go_start : (file out : List ℕ) (w : Raw) → all in_range (calls_of (steps_of file)) ≡ true → w ≡ raw_of 32 256 closed → Going file out out w 0 0
unfolding answers_to run
go_start file out w r e =
    record {
      at_most = zero-le;
      few = zero-le;
      ready = inl e;
      ranged = r;
      ends = refl;
      sofar = [];
      many = refl;
      small = refl;
      put = sym (put-start out);
      same = ap (λ (v : Raw). given_on v (steps_of file)) e
          ∙ ap (λ (ls : List Line). map (λ l. paper l.1) ls ++ bad_answer (steps_of file).end) (closed-lines (calls_of (steps_of file)) r);
    }

module _ {file out₀ out : List ℕ} {w : Raw} {at n : ℕ} (g : Going file out₀ out w at n) where
  -- the answers so far and those to come are all
  all_many : n + length (given_on w (rest_at file at)) ≡ length (answers_to 32 256 (steps_of file))
  all_many = omega (arith, g.many, ap length g.same, length-append g.sofar (given_on w (rest_at file at)))

  -- there is room for the answers that are to come
  module _ (l : 5 * length (answers_to 32 256 (steps_of file)) ≤ length out₀) where
    few_so_far : 5 * length g.sofar ≤ length out₀
    few_so_far = omega (arith, l, all_many, g.many)

    pub go_long : length out ≡ length out₀
    go_long = ap length g.put ∙ length_with g.sofar out₀ few_so_far

    go_room : 5 * (n + length (given_on w (rest_at file at))) ≤ length out
    go_room = omega (arith, l, all_many, go_long)

  -- one more answer is written
  put_one : (x : Given) {out' : List ℕ} → out' ≡ answer_at (5 * n) x out → out' ≡ with_answers (g.sofar ++ x ∷ []) out₀
  put_one x p = p ∙ (λ j. answer_at (5 * g.many j) x (g.put j)) ∙ put_next g.sofar x out₀

  module _ {s : Step} {k : ℕ} (e : decoded (part_at file at) ≡ Some (s, k)) where
    pub go_inside : (0 < k) × (at + k ≤ length file)
    go_inside = next-inside file at e g.at_most

    step_answers : given_on w (rest_at file at) ≡ paper (call_on 32 256 (call_of s) w).0 ∷ given_on (call_on 32 256 (call_of s) w).1 (rest_at file (at + k))
    unfolding lines_on
    step_answers = ap (given_on w) (next_good file at e)

    pub good_room : 5 * length (answers_to 32 256 (steps_of file)) ≤ length out₀ → 5 * n + 5 ≤ length out
    good_room l = omega (arith, go_room l, ap length step_answers)

    in_range_lem : (in_range (call_of s) && all in_range (calls_of (rest_at file (at + k)))) ≡ true
    in_range_lem = sym (ap (λ (h : Contents). all in_range (calls_of h)) (next_good file at e)) ∙ g.ranged

    -- a step is done and its answer written, and the reader has moved on past it
    pub go_next : (a : Answer) (w' : Raw) {x : Given} (out' : List ℕ) {at' : ℕ} → (a, w') ≡ call_on 32 256 (call_of s) w → x ≡ paper a → x.value < 4294967296 → out' ≡ answer_at (5 * n) x out → at' ≡ at + k
        → Going file out₀ out' w' at' (n + 1)
    go_next a w' {x} out' c q v p m =
        subst (λ (b : ℕ). Going file out₀ out' w' b (n + 1)) (sym m) (record {
          at_most = go_inside.1;
          few = omega (arith, g.few, go_inside.0);
          ready = subst (λ (u : Answer × Raw). Ready u.1) (sym c) (ready_after w g.ready (call_of s) (and_left _ _ in_range_lem));
          ranged = and_right (in_range (call_of s)) _ in_range_lem;
          ends = sym (ap (λ (h : Contents). h.end) (next_good file at e)) ∙ g.ends;
          sofar = g.sofar ++ paper a ∷ [];
          many = omega (arith, g.many, length-append g.sofar (paper a ∷ []));
          small = all_more g.sofar (paper a) g.small (subst (λ (y : Given). y.value < 4294967296) q v);
          put = put_one (paper a) (p ∙ ap (λ (y : Given). answer_at (5 * n) y out) q);
          same = append_assoc g.sofar (paper a ∷ []) (given_on w' (rest_at file (at + k)))
              ∙ ap (λ (u : Answer × Raw). g.sofar ++ paper u.0 ∷ given_on u.1 (rest_at file (at + k))) c
              ∙ ap (λ (l : List Given). g.sofar ++ l) (sym step_answers)
              ∙ g.same;
        })

  -- what a run returns and leaves, and that its answers can be read back
  abbrev Ended : ℕ → List ℕ → Type 0
  Ended r out' = ((r, out') ≡ written 32 256 (steps_of file) out₀) × (all narrow (answers_to 32 256 (steps_of file)) ≡ true)

  end_as : {out' : List ℕ} (e : End) (gs : List Given) → (rest_at file at).end ≡ e → gs ≡ answers_to 32 256 (steps_of file) → out' ≡ with_answers gs out₀
      → all narrow gs ≡ true → (r : ℕ) → r ≡ 65536 * number_of e + length gs → Ended r out'
  unfolding written
  end_as e gs q a p s r k = (
    (λ j. (k j, p j)) ∙ (λ j. (65536 * number_of ((sym q ∙ g.ends) j) + length (a j), with_answers (a j) out₀)),
    sym (ap (all narrow) a) ∙ s,
  )

  -- the file has ended
  pub go_done : length file ≤ at → Ended n out
  unfolding lines_on
  go_done l =
      let e = next-done file at l in
      let a = sym (append-nil g.sofar) ∙ ap (λ (h : Contents). g.sofar ++ given_on w h) (sym e) ∙ g.same in
      end_as Done g.sofar (ap (λ (h : Contents). h.end) e) a g.put g.small n (omega (arith, g.many))

  -- a bad step ends the run after its own answer
  module _ (l : at < length file) (e : decoded (part_at file at) ≡ None) where
    pub bad_room : 5 * length (answers_to 32 256 (steps_of file)) ≤ length out₀ → 5 * n + 5 ≤ length out
    unfolding lines_on
    bad_room r = omega (arith, go_room r, ap (λ (h : Contents). length (given_on w h)) (next-bad file at l e))

    pub go_bad : at < 4294967296 → (out' : List ℕ) → out' ≡ answer_at (5 * n) (given 10 at) out → Ended (655360 + (n + 1)) out'
    unfolding lines_on
    go_bad s out' p =
        let b = next-bad file at l e in
        let a = ap (λ (h : Contents). g.sofar ++ given_on w h) (sym b) ∙ g.same in
        let k : 655360 + (n + 1) ≡ 655360 + length (g.sofar ++ given 10 at ∷ []) = omega (arith, g.many, length-append g.sofar (given 10 at ∷ [])) in
        end_as (BadAt at) (g.sofar ++ given 10 at ∷ []) (ap (λ (h : Contents). h.end) b) a (put_one (given 10 at) p) (all_more g.sofar (given 10 at) g.small s) (655360 + (n + 1)) k

-- The lines since an accepted opening, and the serial order that they have. Assumes nothing.
use Prim.Native.Nat.{◌≤◌, ℕ}
use mathlib.Core.Bool.{Bool, false, true}
use mathlib.Core.List.{List, [], ◌++◌, ◌∷◌}
use mathlib.Core.Path.{◌∙◌, ◌≡◌, ap, refl, subst, sym}
use native.Mathlib.Omega.{arith}
use lib.ListN.{get_or, length}
use Rattle.std.specs.Prelude.{Err, Ok}
use Rattle.terms.specs.Words.{Answer}
use Rattle.terms.specs.declared.Refusal.TheVariants.{BadOpening}
use Rattle.laws.proofs.Lists.{both_ways, mem_in, mem_out}
use Rattle.rules.specs.Lists.{any}
use Rattle.rules.specs.Machine.{Call, Line, Machine, Open, final, history, lines, openable, states, step}
use Rattle.rules.specs.Serial.{Fits, Serial, committers, in_turn, leaves, newest_put, opening}
use Rattle.rules.specs.State.{State, opened}
use Rattle.rules.specs.Versions.{latest}
use Rattle.theory.proofs.LawfulCalls.{openable_out}
use Rattle.theory.proofs.Refusing.{opens_by}
use Rattle.theory.proofs.Told.{Told}
use Rattle.theory.proofs.ToldCalls.{told-opened, told-run}
use Rattle.theory.proofs.Turns.{commit_order, newest_left, order, order_once, order_runs, order_whole}

-- the newest committed value by the lines alone is the latest value of the state
pub told-newest : (vs : List ℕ) (ls : List Line) (s : State) → Told vs ls s → (i : ℕ) → newest_put ls i (get_or vs i 0) (committers ls) ≡ latest s i
told-newest vs ls s so i =
    sym (newest_left ls i (λ i. get_or vs i 0) (committers ls))
    ∙ subst (λ (w : List ℕ). leaves (λ i. get_or w i 0) (in_turn ls (committers ls)) i ≡ latest s i) so.values (commit_order s so.inv ls so.told (committers ls) so.by-commit so.back so.there i)

-- what was told has a serial order
pub told_serial : (vs : List ℕ) (ls : List Line) (s : State) → Told vs ls s → (o : List ℕ) × Serial vs ls o
told_serial vs ls s so = (
  order s so.inv so.free ls so.told,
  record {
    once = order_once s so.inv so.free ls so.told;
    whole = λ t. order_whole s so.inv so.free ls so.told t ∙ both_ways _ _ (λ h. mem_in _ _ (so.there t (mem_out _ _ h))) (λ h. mem_in _ _ (so.back t (mem_out _ _ h)));
    fits = subst (λ (w : List ℕ). Fits (λ i. get_or w i 0) (in_turn ls (order s so.inv so.free ls so.told))) so.values runs.0;
    newest = λ i. subst (λ (w : List ℕ). leaves (λ i. get_or w i 0) (in_turn ls (order s so.inv so.free ls so.told)) i ≡ latest s i) so.values (runs.1 i) ∙ sym (told-newest vs ls s so i);
  },
)
  where
    runs : Fits (λ i. get_or s.values i 0) (in_turn ls (order s so.inv so.free ls so.told))
        × ((i : ℕ) → leaves (λ i. get_or s.values i 0) (in_turn ls (order s so.inv so.free ls so.told)) i ≡ latest s i)
    runs = order_runs s so.inv so.free ls so.told

-- ---- since the last accepted opening

-- an accepted opening, of any machine
opened_now : (m : Machine) (s : State) (c : ℕ) (vs : List ℕ) (v : ℕ) → (step m s (Open c vs)).0 ≡ Ok v
    → ((step m s (Open c vs)).1 ≡ opened vs) × (1 ≤ length vs) × (length vs ≤ 256) × (length vs ≡ c)
opened_now m s c vs v e = go (openable c vs) refl
  where
    go : (b : Bool) → openable c vs ≡ b → ((step m s (Open c vs)).1 ≡ opened vs) × (1 ≤ length vs) × (length vs ≤ 256) × (length vs ≡ c)
    go true h = let u = openable_out c vs h in (ap (λ (q : Answer × State). q.1) (opens_by m s c vs true h), u.0, u.1, u.2)
    go false h =
        let r : (Err BadOpening) ≡ Ok v = sym (ap (λ (q : Answer × State). q.0) (opens_by m s c vs false h)) ∙ e in
        let z : ◌≡◌ {A = ℕ} 0 1 = cc in absurd (omega arith)

-- the lines since an accepted opening are those of some calls from the opened state
pub record Since (m : Machine) (s : State) (xs : List Call) (since : List Line) (c : ℕ) (vs : List ℕ) : Type 0 where
  pub calls : List Call
  pub said : lines m (opened vs) calls ≡ since
  pub ends : final m s xs ≡ final m (opened vs) calls
  pub some : 1 ≤ length vs
  pub most : length vs ≤ 256
  pub count : length vs ≡ c

pub since-opening : (m : Machine) (s : State) (xs : List Call) (before since : List Line) (c : ℕ) (vs : List ℕ) (v : ℕ)
    → lines m s xs ≡ before ++ ((Open c vs, Ok v) ∷ since) → Since m s xs since c vs
unfolding lines states final
since-opening m s [] [] since c vs v e = let z : ◌≡◌ {A = ℕ} 0 1 = cc in absurd (omega arith)
since-opening m s [] (b ∷ before) since c vs v e = let z : ◌≡◌ {A = ℕ} 0 1 = cc in absurd (omega arith)
since-opening m s (x ∷ xs) (b ∷ before) since c vs v e =
    let r = since-opening m (step m s x).1 xs before since c vs v (cc) in
    record { calls = r.calls; said = r.said; ends = r.ends; some = r.some; most = r.most; count = r.count }
since-opening m s (x ∷ xs) [] since c vs v e =
    let h : ◌≡◌ {A = Line} (x, (step m s x).0) (Open c vs, Ok v) = cc in
    let r : lines m (step m s x).1 xs ≡ since = cc in
    let q : x ≡ Open c vs = ap (λ (l : Line). l.0) h in
    let u = opened_now m s c vs v (ap (λ (y : Call). (step m s y).0) (sym q) ∙ ap (λ (l : Line). l.1) h) in
    let p : (step m s x).1 ≡ opened vs = ap (λ (y : Call). (step m s y).1) q ∙ u.0 in
    record { calls = xs; said = ap (λ (z : State). lines m z xs) (sym p) ∙ r; ends = ap (λ (z : State). final m z xs) p; some = u.1; most = u.2; count = u.3 }

-- what the history machine has told since an opening that is the last
pub told-since : (n m : ℕ) (vs : List ℕ) → 1 ≤ length vs → length vs ≤ 256 → (xs : List Call) (ls : List Line) → lines (history n m) (opened vs) xs ≡ ls
    → any opening ls ≡ false → Told vs ls (final (history n m) (opened vs) xs)
told-since n m vs l r xs ls e none =
    subst (λ (k : List Line). Told vs k (final (history n m) (opened vs) xs)) e
    (told-run n m vs [] (opened vs) xs (told-opened vs l r) (ap (any opening) e ∙ none))

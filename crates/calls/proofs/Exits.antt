-- What a call returns where a check refuses it by `?`. Assumes nothing.
use Rattle.std.proofs.Common.{◌≡◌, ◌∙◌, ap, sym, Err}
use Rattle.std.specs.Result.{IsErr, IsErrAnd}
use Rattle.std.proofs.lemmas.Result.{err_from_is_err_and}
use Rattle.terms.specs.Words.{Answer}
use Rattle.terms.specs.declared.Refusal.{Refusal}
use Rattle.rules.specs.Raw.{Raw}

pub exit : {r : Answer} {e e' : Refusal} {w : Raw} {q : Answer × Raw} → IsErr r × IsErrAnd r (λ y. y ≡ e) → e ≡ e' → q ≡ (Err e', w) → (r, w) ≡ q
exit {r} {w = w} is k out =
    let p = err_from_is_err_and r is.1 in
    ap (λ (a : Answer). (a, w)) (p.1 ∙ ap Err (p.2 ∙ k)) ∙ sym out

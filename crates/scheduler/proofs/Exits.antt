-- What a call returns where the test of the tables refuses it by `?`. Assumes nothing.
use Rattle.std.proofs.Common.{◌≡◌, false}
use Rattle.std.specs.Result.{IsErr, IsErrAnd}
use Rattle.terms.specs.Words.{Answer}
use Rattle.terms.specs.declared.Refusal.{Refusal}
use Rattle.terms.specs.declared.Refusal.TheVariants.{UnsoundTables}
use Rattle.rules.specs.Machine.{Call}
use Rattle.rules.specs.Raw.{Raw, sound_raw}
use Rattle.rules.specs.Public.{on_sound}
use Rattle.laws.proofs.Refusals.{on-unsound}
use Rattle.calls.proofs.Exits.{exit}

pub refused : {r : Answer} {e : Refusal} (x : Call) (w : Raw) → IsErr r × IsErrAnd r (λ y. y ≡ e) → (e ≡ UnsoundTables) × (sound_raw 32 256 w ≡ false) → (r, w) ≡ on_sound 32 256 x w
refused x w is k = exit is k.0 (on-unsound 32 256 w x k.1)

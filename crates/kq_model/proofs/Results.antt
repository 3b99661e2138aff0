-- An error that is passed on.
use Rattle.std.proofs.Common.{◌≡◌, Result, Ok, Err, IfErr, subst, sym}
use Rattle.std.specs.Result.{IsErrAnd}

-- what is said of an error holds of the result that passes it on
pub error_passed : {A E : Type 0} (r : Result A E) (error : E) (P : E → Type 0) → IsErrAnd r (λ e. e ≡ error) → P error → IfErr r P
error_passed (Ok x) error P is holds = tt
error_passed (Err e) error P is holds = subst P (sym is) holds

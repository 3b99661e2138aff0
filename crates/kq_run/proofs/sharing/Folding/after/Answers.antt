-- The fold goes on as it was begun.
use Rattle.std.proofs.Common.{ℕ, List, subst}
use Rattle.std.proofs.lemmas.Result.{IfOk-weaker}
use Rattle.kq_model.specs.declared.event.Event.{Event}
use Rattle.kq_shares.specs.Going.{events_in}
use Rattle.kq_run.specs.declared.sharing.Folding.{Folding}
use Rattle.kq_run.specs.Sharing.{Folds}
use Rattle.kq_run.proofs.SharedLemmas.{still-two}
use Rattle.kq_run.proofs.sharing.Folding.after.Goals as goal

pub returns-in-Shared : goal.returns-in-Shared
returns-in-Shared g c =
    IfOk-weaker c.shared.result _ _ (λ next goes (version : ℕ) (before : List Event) was.
    let is = subst (λ (f : Folding). Folds version f before) c.in-Shared.is was in
    goes version before is.0 (still-two version before (events_in c.args.pieces.now) is.1))
    c.shared.ensures

pub returns-in-Refused : goal.returns-in-Refused
returns-in-Refused g c = λ (version : ℕ) (before : List Event) was.
    still-two version before (events_in c.args.pieces.now) (subst (λ (f : Folding). Folds version f before) c.in-Refused.is was)

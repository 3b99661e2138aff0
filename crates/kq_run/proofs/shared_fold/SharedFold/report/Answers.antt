-- The rows so far are all of them.
use Rattle.std.proofs.Common.{ℕ, List}
use Rattle.std.proofs.lemmas.Result.{IfOk-weaker}
use Rattle.kq_model.specs.declared.event.Event.{Event}
use Rattle.kq_run.proofs.SharedLemmas.{shared-report}
use Rattle.kq_run.proofs.shared_fold.SharedFold.report.Goals as goal

pub returns : goal.returns
returns c =
    let all = c.in_ok-with_lists.field-0 in
    IfOk-weaker c.end_in_chunks.result _ _
    (λ text is (version : ℕ) (events : List Event) shared.
    shared-report version c.args.self events all text shared c.in_ok-with_lists.ensures is)
    c.end_in_chunks.ensures

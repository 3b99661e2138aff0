use Rattle.std.proofs.Common.{◌≡◌, ◌∙◌, ℕ, ap, rules}
use Rattle.std.proofs.lemmas.Result.{IfOk-weaker}
use Rattle.kq_model.specs.Hearing.{listed}
use Rattle.kq_model.specs.Objects as objects
use Rattle.kq_model.specs.System.{empty_system, rows}
use Rattle.kq_model.proofs.VersionOne.{rows-version_one}
use Rattle.kq_system.specs.SystemState.{system_of}
use Rattle.kq_system.proofs.ClosedLemmas.{always_closes}
use Rattle.kq_system.proofs.RowLemmas.{rows-begin}
use Rattle.kq_system.proofs.WatchedRuns.{always_watched_from_none}
use Rattle.kq_system.proofs.system.System.run.Goals as goal

-- the fold begins with the empty system
pub returns-clause-rows : goal.returns-clause-rows
returns-clause-rows c =
    let trace = c.args.trace.now in
    let begun = c.deref_mut.result.now in
    let is : begun ≡ c.in_ok-empty.empty = search rules in
    IfOk-weaker c.rows_from.result _ _
    (λ rs are. are ∙ rows-begin trace.version trace.events (system_of begun) (ap system_of is ∙ c.in_ok-empty.ensures.system))
    c.rows_from.ensures

pub returns-clause-version_one : goal.returns-clause-version_one
returns-clause-version_one c = λ first.
    IfOk-weaker c.rows_from.result _ _
    (λ rs are. are ∙ ap (λ (version : ℕ). rows version c.args.trace.now.events) first
    ∙ rows-version_one c.args.trace.now.events) (returns-clause-rows c)

pub returns-clause-closed : goal.returns-clause-closed
returns-clause-closed c =
    always_closes 1 (empty_system {h = listed} {k = objects.listed} c.args.trace.now.version) c.args.trace.now.events

pub returns-clause-watched : goal.returns-clause-watched
returns-clause-watched c = always_watched_from_none c.args.trace.now.version c.args.trace.now.events

pub returns-in_err-empty-clause-closed : goal.returns-in_err-empty-clause-closed
returns-in_err-empty-clause-closed c =
    always_closes 1 (empty_system {h = listed} {k = objects.listed} c.args.trace.now.version) c.args.trace.now.events

pub returns-in_err-empty-clause-watched : goal.returns-in_err-empty-clause-watched
returns-in_err-empty-clause-watched c = always_watched_from_none c.args.trace.now.version c.args.trace.now.events

pub returns-in_err-system-clause-closed : goal.returns-in_err-system-clause-closed
returns-in_err-system-clause-closed c =
    always_closes 1 (empty_system {h = listed} {k = objects.listed} c.args.trace.now.version) c.args.trace.now.events

pub returns-in_err-system-clause-watched : goal.returns-in_err-system-clause-watched
returns-in_err-system-clause-watched c = always_watched_from_none c.args.trace.now.version c.args.trace.now.events

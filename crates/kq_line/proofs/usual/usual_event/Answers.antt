-- The kind decides.
use Rattle.std.proofs.Common.{Some, ap, ◌∙◌}
use Rattle.kq_line.proofs.MemberSteps.{if_some}
use Rattle.kq_line.proofs.usual.usual_event.Goals as goal

pub returns-in-File : goal.returns-in-File
returns-in-File c =
    let first = c.in_ok-kind.ensures in
    if_some c.file.result (λ e is. is c.args.line.now first.0 (first.1 ∙ ap Some c.in-File.is) first.2) c.file.ensures

pub returns-in-Truncate : goal.returns-in-Truncate
returns-in-Truncate c =
    let first = c.in_ok-kind.ensures in
    if_some c.truncate.result (λ e is. is c.args.line.now first.0 (first.1 ∙ ap Some c.in-Truncate.is) first.2) c.truncate.ensures

pub returns-in-Note : goal.returns-in-Note
returns-in-Note c =
    let first = c.in_ok-kind.ensures in
    if_some c.note.result (λ e is. is c.args.line.now first.0 (first.1 ∙ ap Some c.in-Note.is) first.2) c.note.ensures

pub returns-in-Clock : goal.returns-in-Clock
returns-in-Clock c =
    let first = c.in_ok-kind.ensures in
    if_some c.clock.result (λ e is. is c.args.line.now first.0 (first.1 ∙ ap Some c.in-Clock.is) first.2) c.clock.ensures

pub returns-in_default : goal.returns-in_default
returns-in_default c =
    let first = c.in_ok-kind.ensures in
    if_some c.by_process.result (λ e is. is c.args.line.now first.0 first.1 first.2) c.by_process.ensures

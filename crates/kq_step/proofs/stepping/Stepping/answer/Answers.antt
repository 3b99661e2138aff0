-- What a line is, by its number among those of records.
use Rattle.std.proofs.Common.{◌≡◌, ◌∙◌, ◌+◌, ap, sym}
use Rattle.std.proofs.lemmas.Result.{IfOk-weaker}
use Rattle.kq_model.specs.Reading.{record_on}
use Rattle.kq_step.proofs.Replies.{answered_fault, answered_record}
use Rattle.kq_step.proofs.stepping.Stepping.answer.Goals as goal

pub returns-in-Ok : goal.returns-in-Ok
returns-in-Ok c =
    let line = c.args.line.now in
    let same : c.applied.result ≡ c.args.self.now.system.applied = c.applied.ensures ∙ ap (λ s. s.system.applied) c.self.view_is in
    let is = ap (λ n. record_on (n + 2) line) (sym same) ∙ c.in_ok-event.ensures.record ∙ c.in-Ok.is in
    IfOk-weaker c.reply.result _ _ (λ text has. answered_record c.args.number line text.items c.args.self.now c.reply.new.self c.in-Ok.event is has) c.reply.ensures

pub returns-in-Err : goal.returns-in-Err
returns-in-Err c =
    let line = c.args.line.now in
    let same : c.applied.result ≡ c.args.self.now.system.applied = c.applied.ensures ∙ ap (λ s. s.system.applied) c.self.view_is in
    let is = ap (λ n. record_on (n + 2) line) (sym same) ∙ c.in_ok-event.ensures.record ∙ c.in-Err.is in
    IfOk-weaker c.fault_text.result _ _ (λ text has. answered_fault c.args.number line text.items c.args.self.now c.in-Err.fault is has) c.fault_text.ensures

use Rattle.std.proofs.Common.{sym, ap, ◌∙◌}
use Rattle.serde_json.specs.View.{view}
use Rattle.kq_model.specs.Kinds.{members_besides_op}
use Rattle.kq_model.specs.RecordText.{is_record}
use Rattle.kq_trace.proofs.shape.is_of_kind.Goals as goal

pub returns-in-Listen : goal.returns-in-Listen
returns-in-Listen c = c.is_record-in-Listen.ensures ∙ ap (λ k. is_record (members_besides_op k) (view c.args.value.now)) (sym c.in-Listen.is)

pub returns-in-Kevent : goal.returns-in-Kevent
returns-in-Kevent c = c.is_record-in-Kevent.ensures ∙ ap (λ k. is_record (members_besides_op k) (view c.args.value.now)) (sym c.in-Kevent.is)

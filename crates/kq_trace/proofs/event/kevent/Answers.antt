use Rattle.std.proofs.Common.{◌∙◌, Some, List, Option, option_and_then, codes, ap}
use Rattle.serde_json.specs.View.{view}
use Rattle.kq_model.specs.declared.change.Change.{Change}
use Rattle.kq_model.specs.declared.event.Event.TheVariants as event
use Rattle.kq_model.specs.RecordText.{event_as, with_pid_fd, with_u32}
use Rattle.kq_trace.proofs.event.kevent.Goals as goal

pub returns : goal.returns
unfolding event_as
returns c =
    c.with_changes.ensures
    ∙ ap (λ (changes : Option (List Change)). with_pid_fd (view c.args.value.now) (λ pid fd.
    with_u32 (codes "room") (view c.args.value.now) (λ room.
    option_and_then (λ changes. Some (event.Kevent pid fd changes room)) changes))) c.in_ok-changes.ensures

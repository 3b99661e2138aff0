use Rattle.std.proofs.Common.{List, subst}
use Rattle.kq_model.specs.declared.event.Event.{Event}
use Rattle.kq_serve.specs.Shares.{Serves, shares}
use Rattle.kq_live.specs.Owners.{actor}
use Rattle.kq_live.proofs.Replaying.{next_step}
use Rattle.kq_live.proofs.Telling.{run_book}
use mir.Syntax.{of_param}
use denote.Exit.{unseen}
use denote.Param.Send.{Quiet-if}
use Rattle.kq_live.proofs.Sending.{machine_send}
use Rattle.kq_live.proofs.run.live_run.Goals as goal

pub serve-requires-send-M : goal.serve-requires-send-M
serve-requires-send-M g c κs within = record {
  owned = machine_send.owned;
  leaving = λ k. Quiet-if (k (of_param 0)) unseen unseen (λ x w. tt) (λ x w. tt);
}

-- the book that the thread's shares make
pub new-requires-2 : goal.new-requires-2
new-requires-2 g c =
    let trace = c.args.trace.now in
    run_book trace.version c.args.threads trace.events c.in_ok-machine.machine c.in_ok-entries.field-0-0 c.in_ok-entries.entries.items
    trace.version_known c.requires.0 trace.countable c.in_ok-machine.ensures
    (subst (λ (es : List Event). Serves next_step c.in_ok-machine.machine c.in_ok-entries.field-0-0 (shares actor c.args.threads c.args.threads es) c.in_ok-entries.entries.items)
    c.as_slice-events.ensures c.in_ok-entries.ensures.served)

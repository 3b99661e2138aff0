use Rattle.std.proofs.Common.{◌∙◌, ◌+◌, ◌++◌, ap}
use Rattle.kq_model.specs.System.{rows_after}
use Rattle.kq_system.specs.SystemState.{system_of}
use Rattle.kq_system.proofs.RowLemmas.{kept_row, rows-end}
use Rattle.kq_system.proofs.fold.rows_from.Goals as goal

pub loop-event-init : goal.loop-event-init
loop-event-init c = (
  ap (λ l. l ++ rows_after 1 (system_of c.args.system.now) c.as_slice-event-items.result.now) c.new-rows.ensures.items,
  c.requires,
)

pub loop-event-preserved : goal.loop-event-preserved
loop-event-preserved c =
    let es = c.as_slice-event-items.result.now in
    let i = c.loop-event.event-index in
    let applied = c.in_ok-reply.ensures.applied ∙ ap (λ n. n + 1) c.loop-event.invariant.1 in (
      kept_row es i c.event-item.result c.applied.result c.loop-event.system.applied (system_of c.loop-event.system)
          (system_of c.apply.new.self) c.in_ok-reply.reply
          c.loop-event.rows.items c.put_row.new.rows.items c.loop-event-test.true c.event-item.is
          c.in_ok-reply.ensures.reply c.loop-event.invariant.1
          (c.applied.ensures ∙ applied) c.in_ok-put_row.ensures
          ∙ c.loop-event.invariant.0,
      applied,
    )

pub returns : goal.returns
returns c =
    rows-end c.as_slice-event-items.result.now c.loop-event.event-index (c.loop-event.event-index + 1)
    (system_of c.loop-event.system) c.loop-event.rows.items c.loop-event-test.false
    ∙ c.loop-event.invariant.0 ∙ ap (rows_after 1 (system_of c.args.system.now)) c.as_slice-event-items.ensures

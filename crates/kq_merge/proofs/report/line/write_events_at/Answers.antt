use Rattle.std.proofs.Common.{◌∙◌, arith, take}
use Rattle.kq_text.proofs.WritesLemmas.{as_adds, from_adds}
use Rattle.kq_merge.proofs.ReportLines.{event_taken, events_ended}
use Rattle.kq_merge.proofs.report.line.write_events_at.Goals as goal

pub loop-event-preserved : goal.loop-event-preserved
loop-event-preserved c =
    let write = c.write_event_at-end in
    record {
      text = event_taken c.loop-event.is_later c.args.events.now c.loop-event.event-index _
          (take c.loop-event.end c.loop-event.out) (take write.result write.new.out)
          c.loop-event-test.true (as_adds write.ensures.text) ∙ c.loop-event.invariant.text;
      room = omega (arith, write.ensures.short, c.loop-event.invariant.room);
    }

pub returns-clause-text : goal.returns-clause-text
returns-clause-text c =
    let start = c.args.start in
    from_adds c.args.out.now c.write_at.new.out _ start c.write_at.result
    (omega (arith, c.requires))
    (omega (
      arith,
      c.requires,
      c.write_at.ensures.ends,
      c.loop-event.invariant.room,
      c.loop-event.auto.out,
      c.loop-event.auto.event-index-end,
    ))
    (events_ended c.loop-event.is_later c.args.events.now c.loop-event.event-index (take start c.args.out.now)
    (take c.loop-event.end c.loop-event.out)
    (take c.write_at.result c.write_at.new.out) c.loop-event-test.false c.loop-event.invariant.text
    (as_adds c.write_at.ensures))

-- The first record, one further, the last, and one where it is over.
use Rattle.std.proofs.Common.{◌≡◌, ◌+◌, ◌∙◌, ap, arith}
use Rattle.kq_system.specs.SystemState.{system_of}
use Rattle.kq_check.specs.LeftOpen.{is_open}
use Rattle.kq_check.proofs.Folded.{at_the_end, from_start, one_on, one_over, with_none}
use Rattle.kq_check.proofs.judging.judge_from.Goals as goal

pub records-init : goal.records-init
records-init c = record {
  counted = c.requires;
  left = λ o judged. from_start c.args.ignored.now c.args.permits c.args.system.now.applied
      (system_of c.args.system.now) c.as_slice-events.result.now c.args.trace.now.events c.args.answers.now o
      c.requires c.as_slice-events.ensures
      (with_none c.args.ignored.now c.args.permits (c.args.system.now.applied + 1) (system_of c.args.system.now)
      c.as_slice-events.result.now c.args.answers.now c.new-unsure.result.places.keys o c.new-unsure.ensures judged);
}

pub returns-in-Over : goal.returns-in-Over
returns-in-Over c =
    c.records.invariant.left c.in-Over.outcome
    (one_over c.args.ignored.now c.args.permits c.records.system.applied c.applied-at.result (system_of c.records.system) _
    c.as_slice-events.result.now c.records.event-index c.event-item.result c.records.rest.now _ c.records.first
    c.records.unsure.places.keys c.has-is_open.result c.in_ok-done.done.verdict c.in-Over.outcome c.records-test.true
    c.event-item.is c.applied-at.ensures c.answer_at.ensures.given
    (c.has-is_open.ensures ∙ ap (λ k. is_open k c.records.unsure.places.keys) c.kqueue_of.ensures)
    c.in_ok-done.ensures.stepped c.in-Over.ensures)

pub records-preserved : goal.records-preserved
records-preserved c = record {
  counted = omega (arith, c.in_ok-done.ensures.applied, c.records.invariant.counted);
  left = λ o judged. c.records.invariant.left o
      (one_on c.args.ignored.now c.args.permits c.records.system.applied c.applied-at.result c.step.new.system.applied
      (system_of c.records.system) (system_of c.step.new.system) c.as_slice-events.result.now c.records.event-index c.event-item.result
      c.records.rest.now c.answer_at.result.1.now _ c.records.first c.in-On.later c.records.unsure.places.keys
      c.add.new.self.places.keys c.in_ok-done.done.opened c.in_ok-done.done.verdict o c.records-test.true
      c.event-item.is c.applied-at.ensures c.in_ok-done.ensures.applied c.answer_at.ensures.given c.answer_at.ensures.behind
      c.in_ok-done.ensures.stepped c.in-On.ensures c.in_ok-done.ensures.opened c.in_ok-add.ensures judged);
}

pub returns : goal.returns
returns c =
    c.records.invariant.left c.ended.result
    (at_the_end c.args.ignored.now c.args.permits _ (system_of c.records.system) c.as_slice-events.result.now c.records.event-index
    c.records.rest.now c.records.first c.records.unsure.places.keys c.ended.result c.records-test.false c.ended.ensures)

-- The last line counts no more calls than the lines have bytes.
use Rattle.std.proofs.Common.{◌∙◌, ◌≤◌, ◌+◌, length, arith, rules}
use Rattle.kq_merge.proofs.WrittenRows.{calls-in-lines, events-in-calls}
use Rattle.kq_merge.proofs.report.text.ReportText.with_row.Goals as goal

pub overflow_add-self : goal.overflow_add-self
overflow_add-self c =
    let within : c.self.inside.calls + c.calls_in.result ≤ length c.put.new.self =
    calls-in-lines _ c.args.reply.now c.self.inside.calls c.calls_in.result c.self.inside.lines c.put.new.self
    c.in_ok-put.ensures.added c.calls_in.ensures.value c.self.invariant.0 in
    omega (arith, within, c.in_ok-put.ensures.fits)

pub invariant_of-self : goal.invariant_of-self
invariant_of-self c =
    let r = c.args.reply.now in
    let more = c.calls_in.ensures.value in
    let few = events-in-calls r c.from.result (c.from.ensures ∙ c.events_in.ensures) (search rules) in (
      calls-in-lines _ r c.self.inside.calls c.calls_in.result c.self.inside.lines c.put.new.self
          c.in_ok-put.ensures.added more c.self.invariant.0,
      omega (arith, few, more, c.self.invariant.1),
    )

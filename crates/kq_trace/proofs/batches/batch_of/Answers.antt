-- A line at a time.
use Rattle.std.proofs.Common.{rules, ◌≡◌, ◌++◌, ◌∷◌, [], length, Ok, Err, ap, ◌∙◌, length-append, arith}
use Rattle.kq_trace.proofs.BatchLines.{line_bad, line_read, lines_read}
use Rattle.kq_trace.proofs.batches.batch_of.Goals as goal

pub returns-in-Ok-Err : goal.returns-in-Ok-Err
returns-in-Ok-Err c =
    let means : c.in-Ok-Err.field-0 ≡ Err c.in-Ok-Err.fault = search rules in
    let count : c.len.result ≡ length c.loop-line.events.items = c.len.ensures ∙ c.loop-line.events.ok.0 in
    rw count
    (line_bad c.args.lines.now c.loop-line.line-index _ c.in-Ok-Err.fault c.loop-line.events.items c.loop-line-test.true
    (λ number early. c.in-Ok-Err.ensures number early ∙ means) c.loop-line.invariant.counted c.loop-line.invariant.so_far)

pub loop-line-preserved : goal.loop-line-preserved
loop-line-preserved c =
    let means : c.in-Ok-Ok.field-0 ≡ Ok c.in-Ok-Ok.event = search rules in
    let events = c.loop-line.events.items in
    let added : c.push.new.self.items ≡ events ++ c.in-Ok-Ok.event ∷ [] = search rules in
    record {
      within = omega (arith, c.loop-line-test.true);
      counted = omega (arith, ap length added ∙ length-append events (c.in-Ok-Ok.event ∷ []), c.loop-line.invariant.counted);
      so_far = line_read c.args.lines.now c.loop-line.line-index _ c.in-Ok-Ok.event events c.push.new.self.items c.loop-line-test.true
          (λ number early. c.in-Ok-Ok.ensures number early ∙ means) added c.loop-line.invariant.so_far;
    }

pub returns : goal.returns
returns c = lines_read c.args.lines.now c.loop-line.line-index c.loop-line.events c.loop-line-test.false c.loop-line.invariant.within c.loop-line.invariant.counted
    c.loop-line.invariant.so_far

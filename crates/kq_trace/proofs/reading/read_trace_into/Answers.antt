-- The source is at its end, so that all of it is known.
use Rattle.std.proofs.Common.{◌≡◌}
use Rattle.kq_model.specs.Reading.{Good, reading}
use Rattle.kq_trace.proofs.BlocksRead.{all_known}
use Rattle.kq_trace.proofs.reading.read_trace_into.Goals as goal

pub returns-in-Ok-clause-good : goal.returns-in-Ok-clause-good
returns-in-Ok-clause-good g c =
    let before = g.S.Source.ahead c.args.source.now in
    let after = g.S.Source.ahead c.read_blocks.new.source in
    let b = c.read_blocks.new.text.coming in
    let version = c.in-Ok.version in
    let events = c.in-Ok.ensures.good.0 in
    let whole = c.in-Ok.ensures.good.1 in
    let it = all_known before after b (λ bytes. reading bytes ≡ Good version events) whole.known whole.ended whole.ends in (
      events,
      record { bytes = it.0; had = it.1; means = it.2; version_known = whole.version_known; few = whole.few },
      c.in-Ok.ensures.good.2,
    )

pub returns-clause-bad : goal.returns-clause-bad
returns-clause-bad g c = c.once_all_came.ensures (g.S.Source.ahead c.args.source.now) c.in-Err.ensures.bad

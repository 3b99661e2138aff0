-- In version 1 the report is that of its own definitions.
use Rattle.std.proofs.Common.{rules}
use Rattle.kq_run.specs.Replay.{IsReport}
use Rattle.kq_run.proofs.ReplayedTraces.{first-report}
use Rattle.kq_run.proofs.replaying.replay.Goals as goal

pub returns-clause-version_one : goal.returns-clause-version_one
returns-clause-version_one g c =
    let text = c.in_ok-joined.field-0.items in
    let is : IsReport c.args.bytes.now text = search rules in
    first-report c.args.bytes.now text is

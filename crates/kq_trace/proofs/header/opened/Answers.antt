-- The header is read, or bad.
use Rattle.std.proofs.Common.{sym, ◌∙◌}
use Rattle.kq_spell.proofs.Lines.{right_header}
use Rattle.kq_trace.proofs.TraceLines.{bad_then, first_bad, long_header, opened, opened_then, wrong_header}
use Rattle.kq_trace.proofs.header.opened.Goals as goal

pub returns-then-header-gt-MOST_LINE_BYTES-clause-bad : goal.returns-then-header-gt-MOST_LINE_BYTES-clause-bad
returns-then-header-gt-MOST_LINE_BYTES-clause-bad c =
    first_bad c.args.bytes.now _ _ _ c.first_line.ensures.first (long_header _ c.if-header-gt-MOST_LINE_BYTES.true)

pub returns-in-None-clause-bad : goal.returns-in-None-clause-bad
returns-in-None-clause-bad c =
    first_bad c.args.bytes.now _ _ _ c.first_line.ensures.first
    (wrong_header _ c.if-header-gt-MOST_LINE_BYTES.false (sym c.in-None.is ∙ c.in_ok-version.ensures.named))

pub returns-in-Some-clause-meaning : goal.returns-in-Some-clause-meaning
returns-in-Some-clause-meaning c =
    opened c.args.bytes.now _ _ _ c.first_line.ensures.first
    (right_header _ _ c.if-header-gt-MOST_LINE_BYTES.false (sym c.in-Some.is ∙ c.in_ok-version.ensures.named))

pub returns-then-header-gt-MOST_LINE_BYTES-clause-bad_longer : goal.returns-then-header-gt-MOST_LINE_BYTES-clause-bad_longer
returns-then-header-gt-MOST_LINE_BYTES-clause-bad_longer c = λ later.
    bad_then _ _ _ later _ c.first_line.ensures.first (long_header _ c.if-header-gt-MOST_LINE_BYTES.true)

pub returns-in-None-clause-bad_longer : goal.returns-in-None-clause-bad_longer
returns-in-None-clause-bad_longer c = λ later.
    bad_then _ _ _ later _ c.first_line.ensures.first
    (wrong_header _ c.if-header-gt-MOST_LINE_BYTES.false (sym c.in-None.is ∙ c.in_ok-version.ensures.named))

pub returns-in-Some-clause-longer : goal.returns-in-Some-clause-longer
returns-in-Some-clause-longer c = λ later.
    opened_then _ _ _ later _ c.first_line.ensures.first
    (right_header _ _ c.if-header-gt-MOST_LINE_BYTES.false (sym c.in-Some.is ∙ c.in_ok-version.ensures.named))

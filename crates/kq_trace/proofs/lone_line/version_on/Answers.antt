-- By the length of the line, and what it names.
use Rattle.std.proofs.Common.{sym, ◌∙◌}
use Rattle.kq_spell.proofs.Lines.{right_header}
use Rattle.kq_trace.proofs.TraceLines.{long_header, wrong_header}
use Rattle.kq_trace.proofs.lone_line.version_on.Goals as goal

pub returns-then-line-gt-MOST_LINE_BYTES-clause-version : goal.returns-then-line-gt-MOST_LINE_BYTES-clause-version
returns-then-line-gt-MOST_LINE_BYTES-clause-version c = long_header c.args.line.now c.if-line-gt-MOST_LINE_BYTES.true

pub returns-in-Some-clause-version : goal.returns-in-Some-clause-version
returns-in-Some-clause-version c =
    right_header c.args.line.now _ c.if-line-gt-MOST_LINE_BYTES.false (sym c.in-Some.is ∙ c.in_ok-version.ensures.named)

pub returns-in-None-clause-version : goal.returns-in-None-clause-version
returns-in-None-clause-version c =
    wrong_header c.args.line.now c.if-line-gt-MOST_LINE_BYTES.false (sym c.in-None.is ∙ c.in_ok-version.ensures.named)

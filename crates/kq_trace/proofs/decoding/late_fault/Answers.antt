-- By the length of the line.
use Rattle.kq_trace.proofs.TraceLines.{late_line, long_line}
use Rattle.kq_trace.proofs.decoding.late_fault.Goals as goal

pub returns-then-line-gt-MOST_LINE_BYTES : goal.returns-then-line-gt-MOST_LINE_BYTES
returns-then-line-gt-MOST_LINE_BYTES c = λ number late. long_line number c.args.line.now c.if-line-gt-MOST_LINE_BYTES.true

pub returns-else-line-gt-MOST_LINE_BYTES : goal.returns-else-line-gt-MOST_LINE_BYTES
returns-else-line-gt-MOST_LINE_BYTES c = λ number late. late_line number c.args.line.now c.if-line-gt-MOST_LINE_BYTES.false late

-- The text of each filter.
use Rattle.std.proofs.Common.{ap, sym}
use Rattle.kq_merge.specs.EventsText.{before_flags}
use Rattle.kq_merge.proofs.report.event.before_flags.Goals as goal

pub returns-in-Read-clause-text : goal.returns-in-Read-clause-text
returns-in-Read-clause-text c = ap before_flags (sym c.in-Read.is)

pub returns-in-Write-clause-text : goal.returns-in-Write-clause-text
returns-in-Write-clause-text c = ap before_flags (sym c.in-Write.is)

pub returns-in-Vnode-clause-text : goal.returns-in-Vnode-clause-text
returns-in-Vnode-clause-text c = ap before_flags (sym c.in-Vnode.is)

pub returns-in-Proc-clause-text : goal.returns-in-Proc-clause-text
returns-in-Proc-clause-text c = ap before_flags (sym c.in-Proc.is)

pub returns-in-Signal-clause-text : goal.returns-in-Signal-clause-text
returns-in-Signal-clause-text c = ap before_flags (sym c.in-Signal.is)

pub returns-in-Timer-clause-text : goal.returns-in-Timer-clause-text
returns-in-Timer-clause-text c = ap before_flags (sym c.in-Timer.is)

pub returns-in-User-clause-text : goal.returns-in-User-clause-text
returns-in-User-clause-text c = ap before_flags (sym c.in-User.is)

pub returns-in-Aio-clause-text : goal.returns-in-Aio-clause-text
returns-in-Aio-clause-text c = ap before_flags (sym c.in-Aio.is)

pub returns-in-Lio-clause-text : goal.returns-in-Lio-clause-text
returns-in-Lio-clause-text c = ap before_flags (sym c.in-Lio.is)

pub returns-in-Fs-clause-text : goal.returns-in-Fs-clause-text
returns-in-Fs-clause-text c = ap before_flags (sym c.in-Fs.is)

pub returns-in-Procdesc-clause-text : goal.returns-in-Procdesc-clause-text
returns-in-Procdesc-clause-text c = ap before_flags (sym c.in-Procdesc.is)

pub returns-in-Sendfile-clause-text : goal.returns-in-Sendfile-clause-text
returns-in-Sendfile-clause-text c = ap before_flags (sym c.in-Sendfile.is)

pub returns-in-Empty-clause-text : goal.returns-in-Empty-clause-text
returns-in-Empty-clause-text c = ap before_flags (sym c.in-Empty.is)

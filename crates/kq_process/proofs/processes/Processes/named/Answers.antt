use Rattle.std.proofs.Common.{◌∙◌}
use Rattle.kq_process.specs.Processes.{table_in}
use Rattle.kq_process.specs.Shelf.{AreRising}
use Rattle.kq_process.proofs.Sums.{once-none, once-number}
use Rattle.kq_process.proofs.Told.{named_is, named_none}
use Rattle.kq_process.proofs.processes.Processes.named.Goals as goal

pub returns-clause-named : goal.returns-clause-named
returns-clause-named c =
    let es = c.args.self.now.shelf in
    let rising : AreRising es = c.get.ensures.rising in
    c.get-2.ensures.found
    ∙ named_is c.args.pid es rising c.in_ok-process.process.now c.in_ok-process.ensures.found c.args.number

pub returns-in_err-process-clause-named : goal.returns-in_err-process-clause-named
returns-in_err-process-clause-named c =
    let es = c.args.self.now.shelf in
    let rising : AreRising es = c.get.ensures.rising in
    rw c.from_residual.ensures (named_none c.args.pid es rising c.in_err-process.ensures.found c.args.number)

pub returns-clause-once : goal.returns-clause-once
returns-clause-once c =
    let es = c.args.self.now.shelf in
    let rising : AreRising es = c.get.ensures.rising in
    once-number c.args.pid es rising c.in_ok-process.process.now c.in_ok-process.ensures.found c.get-2.ensures.rising
    c.args.number _ c.get-2.ensures.found

pub returns-in_err-process-clause-once : goal.returns-in_err-process-clause-once
returns-in_err-process-clause-once c = rw c.from_residual.ensures (once-none (table_in c.args.self.now.shelf))

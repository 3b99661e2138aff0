use Rattle.std.proofs.Common.{refl, ◌∙◌}
use Rattle.kq_process.specs.declared.process.Process.{Process}
use Rattle.kq_process.specs.Shelf.{AreRising}
use Rattle.kq_process.proofs.Told.{named_is, named_none, same_processes, close_table, close_nothing}
use Rattle.kq_process.proofs.processes.Processes.close.Goals as goal

-- there is no such process
pub returns-in_err-process-clause-named : goal.returns-in_err-process-clause-named
returns-in_err-process-clause-named c =
    let es = c.args.self.now.shelf in
    let rising : AreRising es = c.get_mut.ensures.rising in
    rw c.from_residual.ensures (named_none c.args.pid es rising c.in_err-process.ensures.found c.args.number)

pub returns-in_err-process-clause-table : goal.returns-in_err-process-clause-table
returns-in_err-process-clause-table c =
    let es = c.args.self.now.shelf in
    close_nothing c.args.pid es c.args.number c.in_err-process.ensures.found

-- there is
pub returns-clause-named : goal.returns-clause-named
returns-clause-named c =
    let es = c.args.self.now.shelf in
    let rising : AreRising es = c.get_mut.ensures.rising in
    c.remove.ensures.removed
    ∙ named_is c.args.pid es rising c.in_ok-process.process.now c.in_ok-process.ensures.found c.args.number

pub returns-clause-table : goal.returns-clause-table
returns-clause-table c =
    let es = c.args.self.now.shelf in
    let rising : AreRising es = c.get_mut.ensures.rising in
    let before : Process = c.in_ok-process.process.now in
    let after : Process = record before { descriptors = c.remove.new.self } in
    close_table c.args.pid es rising before after c.args.number c.in_ok-process.ensures.found c.remove.ensures.rest

pub returns-clause-processes : goal.returns-clause-processes
returns-clause-processes c =
    let es = c.args.self.now.shelf in
    let rising : AreRising es = c.get_mut.ensures.rising in
    let before : Process = c.in_ok-process.process.now in
    let after : Process = record before { descriptors = c.remove.new.self } in
    same_processes c.args.pid es rising before after c.in_ok-process.ensures.found refl refl

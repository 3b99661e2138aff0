use Rattle.kq_process.proofs.Told.{view_is_of, view_none}
use Rattle.kq_process.proofs.processes.Processes.view.Goals as goal

pub returns : goal.returns
returns c =
    let es = c.args.self.now.shelf in
    view_is_of c.args.pid es c.in_ok-process.process.now c.in_ok-process.ensures.found

pub returns-in_err-process : goal.returns-in_err-process
returns-in_err-process c =
    let es = c.args.self.now.shelf in
    rw c.from_residual.ensures (view_none c.args.pid es c.in_err-process.ensures.found)

use Rattle.std.proofs.Common.{Some, None, ◌∙◌}
use Rattle.kq_process.specs.Shelf.{AreRising}
use Rattle.kq_process.proofs.Told.{none_is, live_is}
use Rattle.kq_process.proofs.processes.Processes.is_live.Goals as goal

pub returns-in-Some : goal.returns-in-Some
returns-in-Some c =
    let es = c.args.self.now.shelf in
    let rising : AreRising es = c.get.ensures.rising in
    none_is c.in-Some.process.now.exited c.is_none.result c.is_none.ensures
    ∙ live_is c.args.pid es rising (Some c.in-Some.process.now) c.in-Some.ensures.found

pub returns-in-None : goal.returns-in-None
returns-in-None c =
    let es = c.args.self.now.shelf in
    let rising : AreRising es = c.get.ensures.rising in
    live_is c.args.pid es rising None c.in-None.ensures.found

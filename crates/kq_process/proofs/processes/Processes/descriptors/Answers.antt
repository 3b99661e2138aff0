use Rattle.std.proofs.Common.{ap, ◌∙◌}
use Rattle.kq_process.specs.Processes.{descriptors_in}
use Rattle.kq_process.specs.Shelf.{AreRising}
use Rattle.kq_process.proofs.Sums.{once-process, once-nobody, none-of}
use Rattle.kq_process.proofs.Told.{exit_closed}
use Rattle.kq_process.proofs.processes.Processes.descriptors.Goals as goal

pub returns-in-Some-clause-all : goal.returns-in-Some-clause-all
returns-in-Some-clause-all c =
    let es = c.args.self.now.shelf in
    let rising : AreRising es = c.get.ensures.rising in
    ap (descriptors_in c.args.pid) c.slots.ensures
    ∙ exit_closed c.args.pid es rising c.in-Some.process.now c.in-Some.ensures.found

pub returns-in-Some-clause-once : goal.returns-in-Some-clause-once
returns-in-Some-clause-once c =
    let es = c.args.self.now.shelf in
    let rising : AreRising es = c.get.ensures.rising in
    once-process c.args.pid es rising c.in-Some.process.now c.in-Some.ensures.found

pub returns-in-None-clause-all : goal.returns-in-None-clause-all
returns-in-None-clause-all c =
    let es = c.args.self.now.shelf in
    let rising : AreRising es = c.get.ensures.rising in
    none-of c.args.pid es rising c.in-None.ensures.found

pub returns-in-None-clause-once : goal.returns-in-None-clause-once
returns-in-None-clause-once c =
    let es = c.args.self.now.shelf in
    let rising : AreRising es = c.get.ensures.rising in
    once-nobody c.args.pid es rising c.in-None.ensures.found

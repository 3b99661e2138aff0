use Rattle.std.proofs.Common.{◌∙◌, true, false, Some, None, sym}
use Rattle.kq_process.specs.Processes.{processes_of, table_of}
use Rattle.kq_process.specs.Shelf.{AreRising}
use Rattle.kq_process.proofs.On.{on-closed, on-dead, on-open}
use Rattle.kq_process.proofs.Sums.{once-number}
use Rattle.kq_process.proofs.Told.{live_is, named_is, none_is}
use Rattle.kq_process.proofs.processes.Processes.on.Goals as goal

pub returns-in-None-clause-planned : goal.returns-in-None-clause-planned
returns-in-None-clause-planned c planned o now =
    let p = c.args.self.now in
    let rising : AreRising p.shelf = c.get.ensures.rising in
    on-dead c.args.pid c.args.number (processes_of p) (table_of p) planned o now
    (live_is c.args.pid p.shelf rising None c.in-None.ensures.found)

pub returns-then-is_some-clause-planned : goal.returns-then-is_some-clause-planned
returns-then-is_some-clause-planned c planned o now =
    let p = c.args.self.now in
    let rising : AreRising p.shelf = c.get.ensures.rising in
    on-dead c.args.pid c.args.number (processes_of p) (table_of p) planned o now
    (none_is c.in-Some.process.now.exited false (sym c.is_some.ensures ∙ c.if-is_some.true)
    ∙ live_is c.args.pid p.shelf rising (Some c.in-Some.process.now) c.in-Some.ensures.found)

pub returns-in-None-get-clause-planned : goal.returns-in-None-get-clause-planned
returns-in-None-get-clause-planned c planned o now =
    let p = c.args.self.now in
    let rising : AreRising p.shelf = c.get.ensures.rising in
    on-closed c.args.pid c.args.number (processes_of p) (table_of p) planned o now
    (none_is c.in-Some.process.now.exited true (sym c.is_some.ensures ∙ c.if-is_some.false)
    ∙ live_is c.args.pid p.shelf rising (Some c.in-Some.process.now) c.in-Some.ensures.found)
    (c.in-None-get.ensures.found
    ∙ named_is c.args.pid p.shelf rising c.in-Some.process.now c.in-Some.ensures.found c.args.number)

pub returns-in-Some-get-clause-planned : goal.returns-in-Some-get-clause-planned
returns-in-Some-get-clause-planned c planned o now =
    let p = c.args.self.now in
    let rising : AreRising p.shelf = c.get.ensures.rising in
    on-open c.args.pid c.args.number (processes_of p) (table_of p) planned o now c.in-Some-get.named
    (none_is c.in-Some.process.now.exited true (sym c.is_some.ensures ∙ c.if-is_some.false)
    ∙ live_is c.args.pid p.shelf rising (Some c.in-Some.process.now) c.in-Some.ensures.found)
    (c.in-Some-get.ensures.found
    ∙ named_is c.args.pid p.shelf rising c.in-Some.process.now c.in-Some.ensures.found c.args.number)

pub returns-in-Some-get-clause-live : goal.returns-in-Some-get-clause-live
returns-in-Some-get-clause-live c =
    let es = c.args.self.now.shelf in
    let rising : AreRising es = c.get.ensures.rising in
    sym (none_is c.in-Some.process.now.exited true (sym c.is_some.ensures ∙ c.if-is_some.false)
    ∙ live_is c.args.pid es rising (Some c.in-Some.process.now) c.in-Some.ensures.found)

pub returns-in-Some-get-clause-named : goal.returns-in-Some-get-clause-named
returns-in-Some-get-clause-named c =
    let es = c.args.self.now.shelf in
    let rising : AreRising es = c.get.ensures.rising in
    sym (c.in-Some-get.ensures.found
    ∙ named_is c.args.pid es rising c.in-Some.process.now c.in-Some.ensures.found c.args.number)

pub returns-in-Some-get-clause-once : goal.returns-in-Some-get-clause-once
returns-in-Some-get-clause-once c =
    let es = c.args.self.now.shelf in
    let rising : AreRising es = c.get.ensures.rising in
    once-number c.args.pid es rising c.in-Some.process.now c.in-Some.ensures.found c.get-in-Some.ensures.rising
    c.args.number (Some c.in-Some-get.named) c.in-Some-get.ensures.found

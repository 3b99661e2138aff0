use Rattle.std.proofs.Common.{refl, sym}
use Rattle.kq_process.specs.declared.process.Process.{Process}
use Rattle.kq_process.specs.Shelf.{AreRising}
use Rattle.kq_process.proofs.Told.{live_there, dispose_processes, same_table}
use Rattle.kq_process.proofs.processes.Processes.dispose.Goals as goal

pub unreachable-requires : goal.unreachable-requires
unreachable-requires c =
    let es = c.args.self.now.shelf in
    let rising : AreRising es = c.get_mut.ensures.rising in
    live_there c.args.pid es rising c.requires.live (sym c.in_default.ensures.found)

pub returns-clause-processes : goal.returns-clause-processes
returns-clause-processes c =
    let es = c.args.self.now.shelf in
    let rising : AreRising es = c.get_mut.ensures.rising in
    let before : Process = c.in-Some.process.now in
    let after : Process = record before { ignored = c.set.new.self } in
    dispose_processes c.args.pid es rising before after c.args.signal c.args.ignore c.in-Some.ensures.found refl c.set.ensures

pub returns-clause-table : goal.returns-clause-table
returns-clause-table c =
    let es = c.args.self.now.shelf in
    let rising : AreRising es = c.get_mut.ensures.rising in
    let before : Process = c.in-Some.process.now in
    let after : Process = record before { ignored = c.set.new.self } in
    same_table c.args.pid es rising before after c.in-Some.ensures.found refl

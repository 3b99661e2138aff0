use Rattle.std.proofs.Common.{Some, refl, sym, ap, ◌∙◌}
use Rattle.kq_process.specs.declared.process.Process.{Process}
use Rattle.kq_process.specs.Processes.{descriptors_in}
use Rattle.kq_process.specs.Shelf.{AreRising}
use Rattle.kq_process.proofs.Told.{live_there, exit_processes, exit_table, exit_closed}
use Rattle.kq_process.proofs.processes.Processes.exit.Goals as goal

pub unreachable-requires : goal.unreachable-requires
unreachable-requires c =
    let es = c.args.self.now.shelf in
    let rising : AreRising es = c.get_mut.ensures.rising in
    live_there c.args.pid es rising c.requires (sym c.in_default.ensures.found)

pub returns-clause-processes : goal.returns-clause-processes
returns-clause-processes c =
    let es = c.args.self.now.shelf in
    let rising : AreRising es = c.get_mut.ensures.rising in
    let before : Process = c.in-Some.process.now in
    let after : Process = record before { exited = Some c.args.status; descriptors = c.replace.new.dest } in
    exit_processes c.args.pid es rising before after c.args.status c.in-Some.ensures.found refl refl

pub returns-clause-table : goal.returns-clause-table
returns-clause-table c =
    let es = c.args.self.now.shelf in
    let rising : AreRising es = c.get_mut.ensures.rising in
    let before : Process = c.in-Some.process.now in
    let after : Process = record before { exited = Some c.args.status; descriptors = c.replace.new.dest } in
    exit_table c.args.pid es rising before after c.in-Some.ensures.found
    (c.replace.ensures.after ∙ c.new-none.ensures)

pub returns-clause-closed : goal.returns-clause-closed
returns-clause-closed c =
    let es = c.args.self.now.shelf in
    let rising : AreRising es = c.get_mut.ensures.rising in
    ap (descriptors_in c.args.pid) c.replace.ensures.value
    ∙ exit_closed c.args.pid es rising c.in-Some.process.now c.in-Some.ensures.found

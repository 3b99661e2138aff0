use Rattle.std.proofs.Common.{◌≡◌, None, refl, sym}
use Rattle.std.proofs.lemmas.Result.{on_ok_weaker, on_err_weaker}
use Rattle.kq_process.specs.declared.process.Process.{Process}
use Rattle.kq_process.specs.Shelf.{AreRising, lookup, put}
use Rattle.kq_process.proofs.Told.{live_there, same_processes, same_table, name_table}
use Rattle.kq_process.proofs.processes.Processes.name.Goals as goal

pub unreachable-requires : goal.unreachable-requires
unreachable-requires c =
    let es = c.args.self.now.shelf in
    let rising : AreRising es = c.get_mut.ensures.rising in
    live_there c.args.pid es rising c.requires (sym c.in_default.ensures.found)

pub returns-clause-table : goal.returns-clause-table
returns-clause-table c =
    let es = c.args.self.now.shelf in
    let rising : AreRising es = c.get_mut.ensures.rising in
    let before : Process = c.in-Some.process.now in
    let after : Process = record before { descriptors = c.insert.new.self } in
    on_ok_weaker c.insert.result
    (λ (more : c.insert.new.self ≡ put c.args.number c.args.named before.descriptors).
    name_table c.args.pid es rising before after c.args.number c.args.named c.in-Some.ensures.found c.insert.ensures.rising more)
    c.insert.ensures.ok

pub returns-clause-processes : goal.returns-clause-processes
returns-clause-processes c =
    let es = c.args.self.now.shelf in
    let rising : AreRising es = c.get_mut.ensures.rising in
    let before : Process = c.in-Some.process.now in
    let after : Process = record before { descriptors = c.insert.new.self } in
    same_processes c.args.pid es rising before after c.in-Some.ensures.found refl refl

pub returns-clause-err : goal.returns-clause-err
returns-clause-err c =
    let es = c.args.self.now.shelf in
    let rising : AreRising es = c.get_mut.ensures.rising in
    let before : Process = c.in-Some.process.now in
    let after : Process = record before { descriptors = c.insert.new.self } in
    on_err_weaker c.insert.result
    (λ (kept : (c.insert.new.self ≡ before.descriptors) × (lookup c.args.number before.descriptors ≡ None)).
    same_table c.args.pid es rising before after c.in-Some.ensures.found kept.0)
    c.insert.ensures.err

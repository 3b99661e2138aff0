use Rattle.std.proofs.Common.{◌≡◌, None, map, refl, sym, ap, ◌∙◌}
use Rattle.std.proofs.lemmas.Result.{on_ok_weaker}
use Rattle.kq_model.specs.Processes.{process_of, ignored_by}
use Rattle.kq_process.specs.declared.process.Process.{Process}
use Rattle.kq_model.specs.ProcessPlans.{descriptors_of}
use Rattle.kq_process.specs.Processes.{process_in, table_in}
use Rattle.kq_process.specs.Shelf.{AreRising, put}
use Rattle.kq_process.proofs.Told.{live_there, ignored_is, start_processes, fork_table, fork_copies}
use Rattle.kq_process.proofs.processes.Processes.fork.Goals as goal

pub unreachable-requires : goal.unreachable-requires
unreachable-requires c =
    let es = c.args.self.now.shelf in
    let rising : AreRising es = c.get.ensures.rising in
    live_there c.args.pid es rising c.requires.live (sym c.in_default.ensures.found)

pub returns-clause-processes : goal.returns-clause-processes
returns-clause-processes c =
    let es = c.args.self.now.shelf in
    let started : Process = record { exited = None; ignored = c.in-Some.parent.now.ignored; descriptors = c.in_ok-inheritable.field-0 } in
    on_ok_weaker c.insert.result
    (λ (stored : c.insert.new.self ≡ put c.args.child started es).
    ap (map process_in) stored
    ∙ start_processes c.args.child es started (ignored_by (process_of c.args.pid (map process_in es))) refl
    (ignored_is c.args.pid es c.in-Some.parent.now c.in-Some.ensures.found) c.requires.unused)
    c.insert.ensures.ok

pub returns-clause-table : goal.returns-clause-table
returns-clause-table c =
    let es = c.args.self.now.shelf in
    let rising : AreRising es = c.get.ensures.rising in
    let started : Process = record { exited = None; ignored = c.in-Some.parent.now.ignored; descriptors = c.in_ok-inheritable.field-0 } in
    on_ok_weaker c.insert.result
    (λ (stored : c.insert.new.self ≡ put c.args.child started es).
    ap table_in stored
    ∙ fork_table c.args.pid c.args.child es rising c.in-Some.parent.now started c.in-Some.ensures.found
    c.inheritable.ensures.rising c.in_ok-inheritable.ensures.copies c.requires.unused)
    c.insert.ensures.ok

pub returns-clause-copies : goal.returns-clause-copies
returns-clause-copies c =
    let es = c.args.self.now.shelf in
    let rising : AreRising es = c.get.ensures.rising in
    let started : Process = record { exited = None; ignored = c.in-Some.parent.now.ignored; descriptors = c.in_ok-inheritable.field-0 } in
    on_ok_weaker c.insert.result
    (λ (stored : c.insert.new.self ≡ put c.args.child started es).
    ap (λ fs. descriptors_of c.args.child (table_in fs)) stored
    ∙ fork_copies c.args.pid c.args.child es rising c.in-Some.parent.now started c.in-Some.ensures.found
    c.in_ok-inheritable.ensures.copies)
    c.insert.ensures.ok

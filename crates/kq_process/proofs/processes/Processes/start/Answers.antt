use Rattle.std.proofs.Common.{◌≡◌, None, map, refl, ap, ◌∙◌}
use Rattle.std.proofs.lemmas.Result.{on_ok_weaker}
use Rattle.kq_model.specs.Processes.{ignores_none}
use Rattle.kq_process.specs.declared.process.Process.{Process}
use Rattle.kq_process.specs.Processes.{process_in, table_in}
use Rattle.kq_process.specs.Shelf.{lookup, put}
use Rattle.kq_process.proofs.Told.{start_processes, start_table, either_way}
use Rattle.kq_process.proofs.processes.Processes.start.Goals as goal

pub returns-clause-processes : goal.returns-clause-processes
returns-clause-processes c =
    let es = c.args.self.now.shelf in
    let started : Process = record { exited = None; ignored = c.nothing.result; descriptors = c.new.result } in
    on_ok_weaker c.insert.result
    (λ (stored : c.insert.new.self ≡ put c.args.pid started es).
    ap (map process_in) stored
    ∙ start_processes c.args.pid es started ignores_none refl c.nothing.ensures c.requires)
    c.insert.ensures.ok

pub returns-clause-table : goal.returns-clause-table
returns-clause-table c =
    let es = c.args.self.now.shelf in
    let started : Process = record { exited = None; ignored = c.nothing.result; descriptors = c.new.result } in
    either_way c.insert.result
    (λ (stored : c.insert.new.self ≡ put c.args.pid started es).
    ap table_in stored
    ∙ start_table c.args.pid es c.insert.ensures.rising started c.new.ensures c.requires)
    (λ (kept : (c.insert.new.self ≡ es) × (lookup c.args.pid es ≡ None)). ap table_in kept.0)
    c.insert.ensures.ok c.insert.ensures.err

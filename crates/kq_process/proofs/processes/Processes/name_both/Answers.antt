use Rattle.std.proofs.Common.{◌≡◌, None, ap, ◌∙◌}
use Rattle.kq_model.specs.Descriptors.{named_among, with_descriptor, with_descriptors, without_closed}
use Rattle.kq_process.specs.Processes.{table_of, descriptor_in}
use Rattle.kq_process.proofs.Closing.{one, opened-anew}
use Rattle.kq_process.proofs.Undone.{undone, named-with}
use Rattle.kq_process.proofs.processes.Processes.name_both.Goals as goal

pub returns-in-Err-clause-err : goal.returns-in-Err-clause-err
returns-in-Err-clause-err c =
    let t = table_of c.args.self.now in
    let opened : table_of c.name.new.self ≡ with_descriptor (descriptor_in c.args.pid c.args.first) t =
    opened-anew c.args.pid c.args.first.0 c.args.first.1 t (table_of c.name.new.self) _ c.requires.first c.in_ok-name.ensures.table in
    c.close.ensures.table
    ∙ ap (without_closed (one c.args.pid c.args.first.0)) (c.in-Err.ensures.err ∙ opened)
    ∙ undone c.args.pid c.args.first.0 c.args.first.1 t c.requires.first

pub returns-clause-table : goal.returns-clause-table
unfolding with_descriptors
returns-clause-table c =
    let t = table_of c.args.self.now in
    let opened : table_of c.name.new.self ≡ with_descriptor (descriptor_in c.args.pid c.args.first) t =
    opened-anew c.args.pid c.args.first.0 c.args.first.1 t (table_of c.name.new.self) _ c.requires.first c.in_ok-name.ensures.table in
    let absent : named_among c.args.pid c.args.second.0 (table_of c.name.new.self) ≡ None =
    ap (named_among c.args.pid c.args.second.0) opened
    ∙ named-with c.args.pid c.args.first.0 c.args.first.1 c.args.second.0 t c.requires.differ ∙ c.requires.second in
    opened-anew c.args.pid c.args.second.0 c.args.second.1 (table_of c.name.new.self) (table_of c.name-2.new.self) _ absent c.in_default.ensures.table
    ∙ ap (with_descriptor (descriptor_in c.args.pid c.args.second)) opened

use Rattle.std.proofs.Common.{refl}
use Rattle.kq_table.specs.Threads.{links_of}
use Rattle.kq_table.proofs.NodeLaws.{put-same, links-kept}
use Rattle.kq_table.proofs.nodes.set_row.Goals as goal

pub returns-clause-links : goal.returns-clause-links
returns-clause-links g c =
    let old = c.index_mut.result.now in
    let new = record old { row = c.args.row } in
    λ thread. put-same c.args.nodes.now c.args.slot old new c.index_mut.ensures.value (links_of thread) (links-kept new old refl refl refl thread)

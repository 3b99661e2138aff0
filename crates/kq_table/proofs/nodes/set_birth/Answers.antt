use Rattle.std.proofs.Common.{refl, sym}
use Rattle.kq_table.specs.Threads.{row_of, links_of}
use Rattle.kq_table.proofs.NodeLaws.{put-same, put-len, links-kept}
use Rattle.kq_table.proofs.nodes.set_birth.Goals as goal

pub returns-in-Some-clause-same : goal.returns-in-Some-clause-same
returns-in-Some-clause-same g c =
    let nodes = c.args.nodes.now in
    let old = c.in-Some.node.now in
    let new = record old { born = c.args.born } in
    let here = sym c.in-Some.ensures.value in
    record {
      rows = put-same nodes c.args.slot old new here row_of refl;
      links = λ thread. put-same nodes c.args.slot old new here (links_of thread) (links-kept new old refl refl refl thread);
      len = put-len nodes c.args.slot old new here;
      capacity = refl;
    }

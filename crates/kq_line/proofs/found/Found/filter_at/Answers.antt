use Rattle.kq_line.proofs.LookUps.{filter_tried}
use Rattle.kq_line.proofs.found.Found.filter_at.Goals as goal

pub returns : goal.returns
returns c = filter_tried c.args.self.now c.args.name.now c.in_ok-text_at.field-0.now c.filter_named.result c.in_ok-text_at.ensures c.filter_named.ensures

use Rattle.kq_line.proofs.LookUps.{note_tried}
use Rattle.kq_line.proofs.found.Found.note_at.Goals as goal

pub returns : goal.returns
returns c = note_tried c.args.self.now c.args.name.now c.in_ok-text_at.field-0.now c.note_named.result c.in_ok-text_at.ensures c.note_named.ensures

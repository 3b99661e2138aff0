use Rattle.kq_line.proofs.LookUps.{width_there}
use Rattle.kq_line.proofs.found.Found.width.Goals as goal

pub returns : goal.returns
returns c = λ ms shows. width_there c.args.self.now ms c.len.result shows c.len.ensures.value

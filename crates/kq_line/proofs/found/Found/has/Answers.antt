use Rattle.kq_line.proofs.LookUps.{has_there}
use Rattle.kq_line.proofs.found.Found.has.Goals as goal

pub returns-clause-there : goal.returns-clause-there
returns-clause-there c = has_there c.args.self.now c.args.name.now c.piece.result c.is_some.result c.piece.ensures c.is_some.ensures

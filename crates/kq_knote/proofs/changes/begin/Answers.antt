use Rattle.std.proofs.Common.{rules}
use Rattle.kq_model.specs.ChangedKnote.{has_come}
use Rattle.kq_knote.proofs.changes.begin.Goals as goal

pub returns-in-Err-clause-come : goal.returns-in-Err-clause-come
unfolding has_come
returns-in-Err-clause-come c = search rules

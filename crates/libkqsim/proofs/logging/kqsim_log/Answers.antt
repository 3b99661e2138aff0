use Rattle.libkqsim.proofs.Wholes.{is_whole}
use Rattle.libkqsim.proofs.logging.kqsim_log.Goals as goal

pub returns-clause-whole : goal.returns-clause-whole
returns-clause-whole c = λ events. is_whole _ events

use Rattle.std.proofs.Common.{subst, sym}
use Rattle.libkqsim.specs.declared.asked.Question.{Question}
use Rattle.libkqsim.specs.Asked.{IsUncallable, room_of}
use Rattle.libkqsim.proofs.asked.next.Goals as goal

pub returns-in-Ok : goal.returns-in-Ok
returns-in-Ok c = (c.requires, c.in-Ok.ensures.possible, c.in-Ok.ensures.next)

pub returns-in-Err : goal.returns-in-Err
returns-in-Err c =
    subst (λ (q : Question). IsUncallable c.args.asked.now.pid c.args.asked.now.fd (room_of q) c.args.system.now c.in-Err.why)
    (sym c.requires) c.in-Err.ensures.refused

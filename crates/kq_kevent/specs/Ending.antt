-- How the changes of a call come to their end, and the answer that this gives.
use Rattle.std.specs.Prelude.{List, Option, Some, None}
use Rattle.kq_model.specs.declared.kevent.Kevent.{Kevent}
use Rattle.kq_model.specs.declared.reply.Reply.{Reply}
use Rattle.kq_model.specs.Call.{ended}
use Rattle.kq_kevent.specs.declared.process.Ending.{Ending}
use Rattle.kq_kevent.specs.declared.process.Ending.TheVariants.{Through, Ended}

abbrev pub answer_of : Ending → List Kevent → Option Reply
answer_of Through placed = None
answer_of (Ended error) placed = Some (ended error placed)

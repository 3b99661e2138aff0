-- The kind decides.
use Rattle.std.proofs.Common.{Some, ap, ◌∙◌}
use Rattle.kq_line.proofs.MemberSteps.{if_some}
use Rattle.kq_line.proofs.usual_records.of_descriptor.Goals as goal

pub returns-in-Dup : goal.returns-in-Dup
returns-in-Dup c = if_some c.dup.result (λ e is line op named up. is line op (named ∙ ap Some c.in-Dup.is) up) c.dup.ensures

pub returns-in-Accept : goal.returns-in-Accept
returns-in-Accept c = if_some c.accept.result (λ e is line op named up. is line op (named ∙ ap Some c.in-Accept.is) up) c.accept.ensures

pub returns-in-Socket : goal.returns-in-Socket
returns-in-Socket c = if_some c.socket.result (λ e is line op named up. is line op (named ∙ ap Some c.in-Socket.is) up) c.socket.ensures

pub returns-in-Pipe : goal.returns-in-Pipe
returns-in-Pipe c = if_some c.pipe.result (λ e is line op named up. is line op (named ∙ ap Some c.in-Pipe.is) up) c.pipe.ensures

pub returns-in-Seek : goal.returns-in-Seek
returns-in-Seek c = if_some c.seek.result (λ e is line op named up. is line op (named ∙ ap Some c.in-Seek.is) up) c.seek.ensures

pub returns-in-Open : goal.returns-in-Open
returns-in-Open c = if_some c.open.result (λ e is line op named up. is line op (named ∙ ap Some c.in-Open.is) up) c.open.ensures

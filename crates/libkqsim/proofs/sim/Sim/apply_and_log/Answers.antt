-- The line of an answer fits into the room that its record took, and a record is at most one call.
use Rattle.std.proofs.Common.{◌≤◌, ap, arith, rules}
use Rattle.kq_model.specs.declared.reply.Reply.{Reply}
use Rattle.kq_model.specs.declared.reply.Reply.TheVariants.{Done, Events, Failed, Impossible}
use Rattle.kq_model.specs.Report.{calls_in}
use Rattle.kq_merge.specs.Rooms.{answer_bound}
use Rattle.kq_merge.proofs.Fitting.{line_fits}
use Rattle.libkqsim.specs.Logs.{Logged}
use Rattle.libkqsim.proofs.sim.Sim.apply_and_log.Goals as goal

at_most_one : (r : Reply) → calls_in r ≤ 1
unfolding calls_in
at_most_one Done = omega arith
at_most_one (Events events) = omega arith
at_most_one (Failed e) = omega arith
at_most_one (Impossible why) = omega arith

pub put-requires-clause-answer_room : goal.put-requires-clause-answer_room
put-requires-clause-answer_room c =
    let room : answer_bound c.args.event.now ≤ c.make_room.new.self.answer_room = search rules in
    line_fits _ _ _ _ _ c.in_ok-reply.ensures.reply.1 room

pub invariant_of-self-2 : goal.invariant_of-self-2
invariant_of-self-2 c =
    let logged = ap (λ (l : Logged). l.calls) c.put.ensures in
    let old = ap (λ (l : Logged). l.calls) c.make_room.ensures.log in
    omega (arith, logged, old, at_most_one c.in_ok-reply.reply, c.in_ok-reply.ensures.applied, c.self.invariant)

-- A reply that is no answer of a call has no events.
use Rattle.std.proofs.Common.{◌∙◌, arith, rules}
use Rattle.kq_merge.proofs.WrittenRows.{events-in-calls}
use Rattle.libkqsim.proofs.log.Log.put.Goals as goal

pub invariant_of-self : goal.invariant_of-self
invariant_of-self c =
    let r = c.args.reply.now in
    let more = c.calls_in.ensures.value in
    let few = events-in-calls r c.from.result (c.from.ensures ∙ c.events_in.ensures) (search rules) in
    omega (arith, few, more, c.self.invariant)

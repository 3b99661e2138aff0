use Rattle.std.proofs.Common.{Some, unsigned_abs, ap₂, ◌∙◌, arith}
use Rattle.kq_model.specs.Clock.{clocked}
use Rattle.kq_kevent.proofs.ClockLaws.{clocked-laws}
use Rattle.kq_kevent.proofs.ClockedLaws.{clocked-model, clocked-named, clocked-steps, not-negative, magnitude, moments-ordered, moment-within}
use Rattle.kq_kevent.proofs.kq.Kq.clock.Goals as goal

pub pass-requires-clause-ordered : goal.pass-requires-clause-ordered
pass-requires-clause-ordered c =
    let ordered = moments-ordered c.args.from c.args.to c.requires.past c.requires.ordered in
    let from = magnitude c.args.from c.unsigned_abs.result c.ranges.from c.unsigned_abs.ensures.value in
    let to = magnitude c.args.to c.unsigned_abs-2.result c.ranges.to c.unsigned_abs-2.ensures.value in
    omega (arith, from, to, ordered)

pub pass-requires-clause-within : goal.pass-requires-clause-within
pass-requires-clause-within c =
    let within = moment-within c.args.to (not-negative c.args.from c.args.to c.requires.past c.requires.ordered) c.ranges.to in
    let to = magnitude c.args.to c.unsigned_abs-2.result c.ranges.to c.unsigned_abs-2.ensures.value in
    omega (arith, to, within)

pub returns-clause-kq : goal.returns-clause-kq
returns-clause-kq c =
    c.pass.ensures.kq
    ∙ ap₂ (λ from to. clocked (Some (record { from = from; to = to })) c.args.self.now.kq)
    (magnitude c.args.from c.unsigned_abs.result c.ranges.from c.unsigned_abs.ensures.value)
    (magnitude c.args.to c.unsigned_abs-2.result c.ranges.to c.unsigned_abs-2.ensures.value)

pub returns-clause-laws : goal.returns-clause-laws
returns-clause-laws c =
    let begun = c.requires.past in
    clocked-laws (unsigned_abs c.args.from) (unsigned_abs c.args.to) c.args.self.now.kq c.pass.ensures.sound
    (moments-ordered c.args.from c.args.to begun c.requires.ordered)
    (moment-within c.args.to (not-negative c.args.from c.args.to begun c.requires.ordered) c.ranges.to)
    c.pass.new.self.kq (returns-clause-kq c)

pub returns-clause-steps : goal.returns-clause-steps
returns-clause-steps c = λ between first second.
    let begun = c.requires.past in
    clocked-steps (unsigned_abs c.args.from) (unsigned_abs c.args.to) c.args.self.now.kq c.pass.new.self.kq (returns-clause-kq c) (unsigned_abs between)
    (moments-ordered c.args.from between begun first)
    (moments-ordered between c.args.to (not-negative c.args.from between begun first) second)

pub returns-clause-model : goal.returns-clause-model
returns-clause-model c =
    clocked-model (unsigned_abs c.args.from) (unsigned_abs c.args.to) c.args.self.now.kq c.pass.new.self.kq (returns-clause-kq c)

pub returns-clause-named : goal.returns-clause-named
returns-clause-named c = λ views all.
    clocked-named (unsigned_abs c.args.from) (unsigned_abs c.args.to) c.args.self.now.kq c.pass.new.self.kq (returns-clause-kq c) views c.args.self.now.owner all

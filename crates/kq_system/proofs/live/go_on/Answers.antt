use Rattle.std.proofs.Common.{Some, ap₂, ◌∙◌, arith}
use Rattle.kq_model.specs.Clock.{clocked}
use Rattle.kq_kevent.specs.Owned.{span_of}
use Rattle.kq_system.proofs.ClockLemmas.{as_moment, moment-past, moments-ordered}
use Rattle.kq_system.proofs.live.go_on.Goals as goal

pub clock-requires : goal.clock-requires
clock-requires c =
    let from = as_moment c.args.from (omega (arith, c.requires.ordered, c.requires.within)) in
    let to = as_moment c.args.to c.requires.within in
    record {
      past = moment-past _ c.args.from from;
      ordered = moments-ordered _ _ c.args.from c.args.to from to c.requires.ordered;
    }

pub returns-clause-kq : goal.returns-clause-kq
returns-clause-kq c =
    c.clock.ensures.kq
    ∙ ap₂ (λ from to. clocked (Some (span_of from to)) c.args.kq.now.kq)
    (as_moment c.args.from (omega (arith, c.requires.ordered, c.requires.within))) (as_moment c.args.to c.requires.within)

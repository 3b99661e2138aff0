-- One expiration more, which has no notes.
use Rattle.std.proofs.Common.{◌≡◌, ◌+◌, min, Bool, cond, sym, ap, ◌∙◌, arith}
use Rattle.kq_model.specs.Hearing.{Expired, most_counted}
use Rattle.kq_model.specs.Tallying.{Tally, tallying}
use Rattle.kq_knote.proofs.TimerLaws.{expired-once}
use Rattle.kq_knote.proofs.tally.Tally.expired_if.Goals as goal

pub returns : goal.returns
returns c =
    let own = c.self.inside in
    let tally : Tally = record { count = own.count; notes = own.notes; told = own.told } in
    let counted : c.min.result ≡ min (tally.count + 1) most_counted = omega (arith, c.min.ensures, c.saturating_add.ensures) in
    expired-once tally c.min.result counted ∙ ap (tallying.heard Expired) c.self.view_is
    ∙ ap (λ (b : Bool). cond b (tallying.heard Expired c.args.self) c.args.self) (sym c.if-not-come.false)

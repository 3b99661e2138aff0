use Rattle.std.proofs.Common.{◌≡◌, sym, subst, rules}
use Rattle.kq_projection.specs.Timeline.{last_value}
use Rattle.kq_projection.proofs.TimelineLemmas.{last-some}
use Rattle.kq_projection.proofs.history.timeline.Timeline.last.Goals as goal

pub returns-in-Some : goal.returns-in-Some
returns-in-Some g c =
    let marks = c.deref.result.now in
    let same : marks ≡ c.args.self.now = search rules in
    subst (λ ms. c.in-Some.mark.now.value ≡ last_value c.args.before ms) same
    (sym (last-some marks c.args.before c.in-Some.mark.now (sym c.in-Some.ensures.value)))

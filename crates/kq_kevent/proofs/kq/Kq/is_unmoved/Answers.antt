use Rattle.std.proofs.Common.{◌≡◌, [], ◌∷◌, Some, ap, subst}
use Rattle.std.specs.Option.{option_copied}
use Rattle.kq_model.specs.Knote.{find_knote}
use Rattle.kq_model.specs.Kqueue.{IsSound}
use Rattle.kq_knote.specs.Index.{hinted_keys}
use Rattle.kq_kevent.specs.Owned.{OwnedKqueue}
use Rattle.kq_kevent.proofs.SettledLaws.{settled-lone}
use Rattle.kq_kevent.proofs.kq.Kq.is_unmoved.Goals as goal

pub returns-clause-unmoved : goal.returns-clause-unmoved
returns-clause-unmoved c = λ is seen.
    let hints = c.args.hints.now in
    let k = c.in-Some.knote.now in
    let here = ap option_copied c.in-Some.is in
    settled-lone seen hints c.args.self.now.kq k
    (subst (λ (v : OwnedKqueue). IsSound v.kq) c.self.view_is c.self.invariant)
    (subst (λ (v : OwnedKqueue). find_knote k.key v.kq.knotes ≡ Some k) c.self.view_is (c.lone_watcher.ensures.found k here))
    (subst (λ (v : OwnedKqueue). hinted_keys hints v.kq.knotes ≡ k.key ∷ []) c.self.view_is (c.lone_watcher.ensures.alone k here hints c.requires))
    (c.is_content.ensures.active is) (c.is_content.ensures.left is)

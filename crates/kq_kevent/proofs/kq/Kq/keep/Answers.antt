use Rattle.std.proofs.Common.{sym, ap, ◌∙◌}
use Rattle.kq_model.specs.Knote.{find_knote}
use Rattle.kq_model.specs.Tallied.{Knote}
use Rattle.kq_kevent.specs.Owned.{OwnedKqueue, kqueue_in}
use Rattle.kq_kevent.specs.Telling.{with_put}
use Rattle.kq_kevent.proofs.RegisterLaws.{same_kqueue, IsSound-at}
use Rattle.kq_kevent.proofs.SoundLaws.{IsSound-put_back, kept-queue}
use Rattle.kq_kevent.proofs.kq.Kq.keep.Goals as goal

pub invariant_of-self : goal.invariant_of-self
invariant_of-self c =
    let k = c.args.told in
    let kq = kqueue_in c.self.inside.knotes in
    let more = c.requires.more in
    let there = ap (λ (v : OwnedKqueue). find_knote k.key v.kq.knotes) c.self.view_is ∙ c.requires.there in
    IsSound-at c.modify_at.new.self.knotes c.modify_at.new.self.queue (with_put k kq) c.modify_at.ensures.knotes
    (c.modify_at.ensures.queue ∙ sym (kept-queue kq k c.args.found.now.row c.self.invariant there c.requires.active more))
    (IsSound-put_back kq k c.args.found.now.row c.self.invariant there (λ idle. sym (ap (λ (n : Knote). n.active) more) ∙ idle))

pub returns-clause-kq : goal.returns-clause-kq
returns-clause-kq c =
    let k = c.args.told in
    let kq = kqueue_in c.self.inside.knotes in
    let there = ap (λ (v : OwnedKqueue). find_knote k.key v.kq.knotes) c.self.view_is ∙ c.requires.there in
    same_kqueue c.modify_at.new.self.knotes c.modify_at.new.self.queue (with_put k kq) c.modify_at.ensures.knotes
    (c.modify_at.ensures.queue ∙ sym (kept-queue kq k c.args.found.now.row c.self.invariant there c.requires.active c.requires.more))
    ∙ ap (λ (v : OwnedKqueue). with_put k v.kq) c.self.view_is

use Rattle.std.proofs.Common.{◌≡◌, List, sym, ap, ◌∙◌}
use Rattle.std.specs.Option.{is_some}
use Rattle.kq_model.specs.ChangedKnote.{key_of, modified}
use Rattle.kq_model.specs.Tallying.{tallying}
use Rattle.kq_model.specs.Knote.{find_knote}
use Rattle.kq_model.specs.Registration.{queue_for, with_modified, without_restarted}
use Rattle.kq_model.specs.Tallied.{Knote}
use Rattle.kq_model.specs.declared.key.Key.{Key}
use Rattle.kq_model.proofs.KnoteLaws.{find_knote-key}
use Rattle.kq_kevent.specs.Owned.{OwnedKqueue, caller, kqueue_in}
use Rattle.kq_model.proofs.RegistrationLaws.{modified-key}
use Rattle.kq_kevent.proofs.KnoteSteps.{modified-active}
use Rattle.kq_kevent.proofs.RegisterLaws.{same_kqueue, IsSound-at, modified-by}
use Rattle.kq_kevent.proofs.SoundLaws.{IsSound-modified, found-put}
use Rattle.kq_kevent.proofs.kq.Kq.modify.Goals as goal

pub renew-requires-clause-there : goal.renew-requires-clause-there
renew-requires-clause-there g c =
    let by = caller (g.V.Views.sees c.args.views.now) c.args.self.now in
    let version = ap (λ (v : OwnedKqueue). v.version) c.self.view_is in
    let kq = kqueue_in c.self.inside.knotes in
    let change = c.args.change.now in
    let k = c.attend.new.knote in
    let before = c.args.present.now.row in
    let found = ap (λ (v : OwnedKqueue). find_knote (key_of change) v.kq.knotes) c.self.view_is ∙ c.requires.present in
    let is = modified-by by change before c.replace.new.self c.restart.new.self c.control.new.self c.switch.new.self k
    c.replace.ensures (c.restart.ensures by version c.clock_of-moment.ensures) c.control.ensures c.switch.ensures c.attend.ensures in
    let same : k.key ≡ key_of change = ap (λ (n : Knote). n.key) is ∙ modified-key tallying by change before
    ∙ sym (find_knote-key (key_of change) kq.knotes before found) in
    ap (λ (ks : List Knote). is_some (find_knote k.key ks)) c.modify_at.ensures.knotes
    ∙ ap is_some (found-put k before kq.knotes (ap (λ key. find_knote key kq.knotes) same ∙ found))

pub renew-requires-clause-key : goal.renew-requires-clause-key
renew-requires-clause-key g c =
    let by = caller (g.V.Views.sees c.args.views.now) c.args.self.now in
    let version = ap (λ (v : OwnedKqueue). v.version) c.self.view_is in
    let kq = kqueue_in c.self.inside.knotes in
    let change = c.args.change.now in
    let k = c.attend.new.knote in
    let before = c.args.present.now.row in
    let found = ap (λ (v : OwnedKqueue). find_knote (key_of change) v.kq.knotes) c.self.view_is ∙ c.requires.present in
    let is = modified-by by change before c.replace.new.self c.restart.new.self c.control.new.self c.switch.new.self k
    c.replace.ensures (c.restart.ensures by version c.clock_of-moment.ensures) c.control.ensures c.switch.ensures c.attend.ensures in
    let same : k.key ≡ key_of change = ap (λ (n : Knote). n.key) is ∙ modified-key tallying by change before
    ∙ sym (find_knote-key (key_of change) kq.knotes before found) in
    same

pub invariant_of-self : goal.invariant_of-self
invariant_of-self g c =
    let by = caller (g.V.Views.sees c.args.views.now) c.args.self.now in
    let version = ap (λ (v : OwnedKqueue). v.version) c.self.view_is in
    let kq = kqueue_in c.self.inside.knotes in
    let change = c.args.change.now in
    let k = c.attend.new.knote in
    let before = c.args.present.now.row in
    let found = ap (λ (v : OwnedKqueue). find_knote (key_of change) v.kq.knotes) c.self.view_is ∙ c.requires.present in
    let is = modified-by by change before c.replace.new.self c.restart.new.self c.control.new.self c.switch.new.self k
    c.replace.ensures (c.restart.ensures by version c.clock_of-moment.ensures) c.control.ensures c.switch.ensures c.attend.ensures in
    let same : k.key ≡ key_of change = ap (λ (n : Knote). n.key) is ∙ modified-key tallying by change before
    ∙ sym (find_knote-key (key_of change) kq.knotes before found) in
    IsSound-at c.renew.new.knotes.knotes c.renew.new.knotes.queue (with_modified change k kq) (c.renew.ensures.knotes ∙ c.modify_at.ensures.knotes)
    (c.renew.ensures.queue ∙ ap (λ (q : List Key). queue_for k (without_restarted change q)) c.modify_at.ensures.queue)
    (IsSound-modified kq change k before c.self.invariant same (ap (λ key. find_knote key kq.knotes) same ∙ found)
    (λ stays idle. modified-active by change before stays (ap (λ (n : Knote). n.active) (sym is) ∙ idle)))

pub returns-clause-kq : goal.returns-clause-kq
returns-clause-kq g c =
    let by = caller (g.V.Views.sees c.args.views.now) c.args.self.now in
    let version = ap (λ (v : OwnedKqueue). v.version) c.self.view_is in
    let kq = kqueue_in c.self.inside.knotes in
    let change = c.args.change.now in
    let k = c.attend.new.knote in
    let before = c.args.present.now.row in
    let found = ap (λ (v : OwnedKqueue). find_knote (key_of change) v.kq.knotes) c.self.view_is ∙ c.requires.present in
    let is = modified-by by change before c.replace.new.self c.restart.new.self c.control.new.self c.switch.new.self k
    c.replace.ensures (c.restart.ensures by version c.clock_of-moment.ensures) c.control.ensures c.switch.ensures c.attend.ensures in
    same_kqueue c.renew.new.knotes.knotes c.renew.new.knotes.queue (with_modified change k kq) (c.renew.ensures.knotes ∙ c.modify_at.ensures.knotes)
    (c.renew.ensures.queue ∙ ap (λ (q : List Key). queue_for k (without_restarted change q)) c.modify_at.ensures.queue)
    ∙ ap (λ (n : Knote). with_modified change n kq) is
    ∙ ap (λ (v : OwnedKqueue). with_modified change (modified by change before) v.kq) c.self.view_is

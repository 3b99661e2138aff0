use Rattle.std.proofs.Common.{◌≡◌, ◌++◌, List, sym, ap, ◌∙◌, subst}
use Rattle.std.specs.Prelude.{IsPermutation}
use Rattle.kq_model.specs.declared.key.Key.{Key}
use Rattle.kq_model.specs.Kqueue.{AreOnce}
use Rattle.kq_model.specs.Tallied.{Kqueue}
use Rattle.kq_kevent.specs.Arranged.{arranged}
use Rattle.kq_kevent.specs.Owned.{OwnedKqueue, kqueue_in}
use Rattle.kq_kevent.proofs.ArrangeLaws.{IsSound-arranged, arranged-first, arranged-nil, arranged-same}
use Rattle.kq_kevent.proofs.RegisterLaws.{IsSound-at, same_kqueue}
use Rattle.kq_kevent.proofs.kq.Kq.put_first.Goals as goal

-- the kqueue with this queue
abbrev queued_as : Kqueue → List Key → Kqueue
queued_as kq queue = record kq { queue = queue }

pub invariant_of-self : goal.invariant_of-self
invariant_of-self c =
    let kq = kqueue_in c.self.inside.knotes in
    let keys = c.args.keys.now in
    let first = c.put_all_first.new.knotes in
    IsSound-at first.knotes first.queue (queued_as kq (arranged keys kq.queue)) c.put_all_first.ensures.knotes
    c.put_all_first.ensures.queue (IsSound-arranged kq keys c.self.invariant)

pub returns-clause-kq : goal.returns-clause-kq
returns-clause-kq c =
    let kq = kqueue_in c.self.inside.knotes in
    let keys = c.args.keys.now in
    let first = c.put_all_first.new.knotes in
    same_kqueue first.knotes first.queue (queued_as kq (arranged keys kq.queue)) c.put_all_first.ensures.knotes
    c.put_all_first.ensures.queue
    ∙ ap (λ (v : OwnedKqueue). queued_as v.kq (arranged keys v.kq.queue)) c.self.view_is

pub returns-clause-same : goal.returns-clause-same
returns-clause-same c =
    let q = c.args.self.now.kq.queue in
    let once : AreOnce q = subst (λ (v : OwnedKqueue). AreOnce v.kq.queue) c.self.view_is c.self.invariant.once in
    subst (IsPermutation q) (sym (ap (λ (kq : Kqueue). kq.queue) (returns-clause-kq c)))
    (arranged-same c.args.keys.now q once)

pub returns-clause-first : goal.returns-clause-first
returns-clause-first c = λ once all.
    ap (λ (kq : Kqueue). kq.queue) (returns-clause-kq c)
    ∙ arranged-first c.args.keys.now c.args.self.now.kq.queue once all

pub returns-clause-none : goal.returns-clause-none
returns-clause-none c = λ none.
    let kq = c.args.self.now.kq in
    returns-clause-kq c ∙ ap (λ (keys : List Key). queued_as kq (arranged keys kq.queue)) none
    ∙ ap (queued_as kq) (arranged-nil kq.queue)

pub returns-clause-model : goal.returns-clause-model
returns-clause-model c = λ m same.
    returns-clause-kq c ∙ ap (λ (kq : Kqueue). queued_as kq (arranged c.args.keys.now kq.queue)) same

use Rattle.std.proofs.Common.{◌+◌, ◌∙◌, ap}
use Rattle.std.proofs.lemmas.Result.{IfOk-weaker}
use Rattle.kq_model.specs.declared.event.Event.{Event}
use Rattle.kq_model.specs.Tallying.{tallying}
use Rattle.kq_model.specs.Objects.{counted}
use Rattle.kq_model.specs.Tallied.{System}
use Rattle.kq_system.specs.Beginning.{Begun, begun}
use Rattle.kq_system.proofs.BeginTallied.{begun-tallied}
use Rattle.kq_model.specs.declared.event.Event.TheVariants.{Kevent}
use Rattle.kq_system.specs.SystemState.{system_of}
use Rattle.kq_system.proofs.NamedLemmas.{begun-named}
use Rattle.kq_system.proofs.StepLemmas.{answered}
use Rattle.kq_system.proofs.system.System.begin_call.Goals as goal

pub returns-clause-impossible : goal.returns-clause-impossible
returns-clause-impossible c =
    let e : Event = Kevent c.args.pid c.args.fd c.args.changes.now c.args.room in
    answered c.begin-answer.result (c.args.self.now.applied + 1) e (system_of c.args.self.now)
    c.begin-answer.ensures.possible

pub returns-clause-model : goal.returns-clause-model
returns-clause-model c =
    let e : Event = Kevent c.args.pid c.args.fd c.args.changes.now c.args.room in
    let place = c.args.self.now.applied + 1 in
    IfOk-weaker c.begin-answer.result _ _ (λ answer is m same.
    let both = ap (λ (s : System). begun place e s) same ∙ begun-tallied place e m in (
      is.0 ∙ ap (λ (b : Begun tallying counted). b.system) both,
      is.1 ∙ ap (λ (b : Begun tallying counted). b.answer) both,
    )) c.begin-answer.ensures.begun

pub returns-clause-kqueue : goal.returns-clause-kqueue
returns-clause-kqueue c =
    let old = system_of c.args.self.now in
    let new = system_of c.begin-answer.new.self in
    IfOk-weaker c.begin-answer.result _ _ (λ answer is l found.
    begun-named (c.args.self.now.applied + 1) c.args.pid c.args.fd c.args.room c.args.changes.now old new l answer is found)
    c.begin-answer.ensures.begun

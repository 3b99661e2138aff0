-- The plan of each record about objects tells of each condition that it makes hold.
use Rattle.std.proofs.Common.{◌≡◌, ℕ, ◌==◌, Bool, true, false, cond, not, ◌&&◌, ◌||◌, eqb-true, List, [], ◌∷◌, Option, Some, None, Ok, Err, option_map, refl, sym, ap, ◌∙◌, if◌then◌else◌}
use Rattle.std.proofs.lemmas.Bool.{true≢false}
use Rattle.std.proofs.lemmas.Option.{none-some}
use Rattle.std.specs.Option.{is_some}
use Rattle.kq_model.specs.declared.doing.Doing.{Doing}
use Rattle.kq_model.specs.declared.doing.Doing.TheVariants.{ToSocket, ToPipe}
use Rattle.kq_model.specs.declared.doing.PipeRecord.TheVariants as pipe
use Rattle.kq_model.specs.declared.doing.SocketRecord.TheVariants as socket
use Rattle.kq_model.specs.declared.object.Named.{Named}
use Rattle.kq_model.specs.declared.object.Named.TheVariants as named
use Rattle.kq_model.specs.declared.object.Target.{Target}
use Rattle.kq_model.specs.declared.object.Target.TheVariants.{Socket, Pipe, Open, File, Process, Signal, Own}
use Rattle.kq_model.specs.declared.why.Why.{Why}
use Rattle.kq_model.specs.declared.why.Why.TheVariants.{TooMany}
use Rattle.kq_model.specs.ObjectPlan.{Planned}
use Rattle.kq_model.specs.Objects.{Objects, counted, done, all_done, view_of, IsFree}
use Rattle.kq_model.specs.PipePlans as pipe_plans
use Rattle.kq_model.specs.PipeSteps.{PipeStep}
use Rattle.kq_model.specs.Pipes.{PipeState, pipe_view}
use Rattle.kq_model.specs.SocketPlans as socket_plans
use Rattle.kq_model.specs.SocketSteps as steps
use Rattle.kq_model.specs.SocketSteps.{SocketStep, is_capacity}
use Rattle.kq_model.specs.Sockets.{SocketState, socket_view}
use Rattle.kq_model.specs.Targets.{Posted}
use Rattle.kq_model.specs.Touching.{touches, touched_by}
use Rattle.kq_model.proofs.KnoteLaws.{by_test}
use Rattle.kq_model.proofs.UntouchedViews.{untouched-all}
use Rattle.kq_laws.proofs.ObjectWakes.{Tells, by-touch, touched-one, socket-target, socket-tells, pipe-target, pipe-tells}
use Rattle.kq_laws.proofs.PipeWakes.{StepTellsPipe}
use Rattle.kq_laws.proofs.Shown.{shown}
use Rattle.kq_laws.proofs.SocketWakes as socket_wakes
use Rattle.kq_laws.proofs.SocketWakes.{IsCalm, StepTells}

-- connections wait only at sockets that listen
pub record AreCalm (o : Objects counted) : Type 0 where
  pub calm : (place : ℕ) (s : SocketState) → o.socket place ≡ Some s → IsCalm s

-- of what was there before
abbrev pub TellsAll : Objects counted → Planned → Type 0
TellsAll o (Err why) = Unit {0}
TellsAll o (Ok p) = (t : Target) → is_some (view_of t o) ≡ true → Tells o p.doings p.hints t

pub tells-unless : (o : Objects counted) (refused : Bool) (why : Why) (p : Planned) → (refused ≡ false → TellsAll o p) → TellsAll o (if refused then Err why else p)
tells-unless o refused why p tells = by_test (λ b. TellsAll o (if b then Err why else p)) refused (λ _. tt) tells

away-twice : (b : Bool) (x y z : Option SocketState) → b ≡ false → cond b x (cond b y z) ≡ z
away-twice true x y z e = absurd (true≢false e)
away-twice false x y z e = refl

-- nothing of what was there is touched
untouched-tells : (o : Objects counted) (ds : List Doing) (posted : List Posted) (t : Target) → touched_by t ds o ≡ false → Tells o ds posted t
untouched-tells o ds posted t apart = by-touch o ds posted t (λ touched. absurd (true≢false (sym touched ∙ apart)))

-- ---- sockets

socket_plan-tells : (o : Objects counted) (q : ℕ) (s : SocketState) → o.socket q ≡ Some s → (step : SocketStep) → StepTells s step
    → TellsAll o (socket_plans.socket_plan q step)
unfolding socket_plans.socket_plan
socket_plan-tells o q s there (Err why) tells = tt
socket_plan-tells o q s there (Ok (told, hint)) tells = λ t _. socket-tells o q told hint s there tells t

-- at the socket that a descriptor names in `o`, where it is the same in `now`
module _ (o now : Objects counted) (stays : (q : ℕ) (s : SocketState) → o.socket q ≡ Some s → now.socket q ≡ Some s)
    (step : SocketState → SocketStep) (tells : (q : ℕ) (s : SocketState) → o.socket q ≡ Some s → StepTells s (step s)) where
  found-tells : (q : ℕ) (x : Option SocketState) → o.socket q ≡ x → TellsAll now (socket_plans.step_of step (socket_plans.socket_found q x))
  unfolding socket_plans.step_of socket_plans.socket_found
  found-tells q None none = tt
  found-tells q (Some s) there = socket_plan-tells now q s (stays q s there) (step s) (tells q s there)

  pub at_socket-tells : (on : Named) → TellsAll now (socket_plans.plan_at_socket step on o)
  unfolding socket_plans.plan_at_socket socket_plans.socket_at socket_plans.step_of
  at_socket-tells (named.Socket q) = found-tells q (o.socket q) refl
  at_socket-tells (named.PipeRead q) = tt
  at_socket-tells (named.PipeWrite q) = tt
  at_socket-tells (named.Open q n) = tt
  at_socket-tells (named.Kqueue q) = tt

module _ (o : Objects counted) where
  pub here-tells : (step : SocketState → SocketStep) → ((s : SocketState) → StepTells s (step s)) → (on : Named) → TellsAll o (socket_plans.plan_at_socket step on o)
  here-tells step tells on = at_socket-tells o o (λ q s there. there) step (λ q s _. tells s) on

  module _ (place : ℕ) (free : IsFree place o) where
    not-here : (t : Target) → is_some (view_of t o) ≡ true → t ≡ Socket place → ⊥
    unfolding view_of
    not-here t there here =
        true≢false (sym there ∙ ap (λ x. is_some (view_of x o)) here ∙ ap (λ x. is_some (option_map socket_view x)) free.socket)

    pub made-tells : (receive send : ℕ) → TellsAll o (socket_plans.plan_socket place receive send)
    unfolding socket_plans.plan_socket
    made-tells receive send =
        let d = ToSocket place (socket.Made receive send) in
        tells-unless o (not (is_capacity receive && is_capacity send)) TooMany (Ok (record { doings = d ∷ []; hints = [] }))
        (λ _ t there. by-touch o (d ∷ []) [] t
        (λ touched. absurd (not-here t there (socket-target t place (socket.Made receive send) o (touched-one t d o touched)))))

    -- the new socket, made and connected
    module _ (receive send : ℕ) where
      abbrev makes : List Doing
      makes = ToSocket place (socket.Made receive send) ∷ ToSocket place socket.Connected ∷ []

      abbrev with_new : Objects counted
      with_new = done (ToSocket place socket.Connected) (done (ToSocket place (socket.Made receive send)) o)

      not-touched : (t : Target) → is_some (view_of t o) ≡ true → touched_by t makes o ≡ false
      unfolding touched_by touches
      not-touched (Socket q) there =
          by_test (λ b. (place == q) ≡ b → (b || (b || false)) ≡ false) (place == q)
          (λ _ here. absurd (not-here (Socket q) there (ap Socket (sym (eqb-true place q here))))) (λ _ _. refl) refl
      not-touched (Pipe q) there = refl
      not-touched (Open q) there = refl
      not-touched (File n) there = refl
      not-touched (Process pid) there = refl
      not-touched (Signal pid signal) there = refl
      not-touched Own there = refl

      same-view : (t : Target) → is_some (view_of t o) ≡ true → view_of t with_new ≡ view_of t o
      unfolding all_done
      same-view t there = untouched-all t makes o (not-touched t there)

      same-socket : (q : ℕ) (s : SocketState) → o.socket q ≡ Some s → with_new.socket q ≡ Some s
      unfolding done
      same-socket q s there =
          by_test (λ b. (place == q) ≡ b → with_new.socket q ≡ Some s) (place == q)
          (λ _ here. absurd (none-some s (sym free.socket ∙ ap o.socket (eqb-true place q here) ∙ there)))
          (λ _ other. away-twice (place == q) _ _ (o.socket q) other ∙ there) refl

      accepted-tells : (p : Planned) → TellsAll with_new p → TellsAll o (socket_plans.accepted place receive send p)
      unfolding socket_plans.accepted all_done
      accepted-tells (Err why) tells = tt
      accepted-tells (Ok p) tells = λ t there side mark quiet e.
          ap (shown side mark) (sym (same-view t there))
          ∙ tells t (ap is_some (same-view t there) ∙ there) side mark quiet e

      pub accept-tells : (on : Named) → TellsAll o (socket_plans.plan_accept place on receive send o)
      unfolding socket_plans.plan_accept
      accept-tells on =
          accepted-tells (socket_plans.plan_at_socket (steps.accept receive send) on o)
          (at_socket-tells o with_new same-socket (steps.accept receive send) (λ q s _. socket_wakes.accept-tells s receive send) on)

    -- ---- pipes

    not-pipe : (t : Target) → is_some (view_of t o) ≡ true → t ≡ Pipe place → ⊥
    unfolding view_of
    not-pipe t there here =
        true≢false (sym there ∙ ap (λ x. is_some (view_of x o)) here ∙ ap (λ x. is_some (option_map pipe_view x)) free.pipe)

    pub made_pipe-tells : (size : ℕ) → TellsAll o (pipe_plans.plan_pipe place size)
    unfolding pipe_plans.plan_pipe
    made_pipe-tells size =
        let d = ToPipe place (pipe.Made size) in
        tells-unless o (not (is_capacity size)) TooMany (Ok (record { doings = d ∷ []; hints = [] }))
        (λ _ t there. by-touch o (d ∷ []) [] t
        (λ touched. absurd (not-pipe t there (pipe-target t place (pipe.Made size) o (touched-one t d o touched)))))

  pipe_plan-tells : (q : ℕ) (s : PipeState) → o.pipe q ≡ Some s → (step : PipeStep) → StepTellsPipe s step → TellsAll o (pipe_plans.pipe_plan q step)
  unfolding pipe_plans.pipe_plan
  pipe_plan-tells q s there (Err why) tells = tt
  pipe_plan-tells q s there (Ok (told, hint)) tells = λ t _. pipe-tells o q told hint s there tells t

  pub at_pipe-tells : (step : PipeState → PipeStep) → ((s : PipeState) → StepTellsPipe s (step s)) → (q : ℕ) (x : Option PipeState) → o.pipe q ≡ x
      → TellsAll o (pipe_plans.plan_at_pipe step q x)
  unfolding pipe_plans.plan_at_pipe
  at_pipe-tells step tells q None none = tt
  at_pipe-tells step tells q (Some s) there = pipe_plan-tells q s there (step s) (tells s)

-- After a record no kqueue has a READ, WRITE or VNODE knote of a number that was closed in its process.
use Rattle.std.proofs.Common.{◌≡◌, ◌∙◌, ◌⊎◌, inl, inr, ◌+◌, ℕ, List, [], ◌∷◌, Option, None, Some, sym, ap, subst}
use Rattle.std.proofs.lemmas.List.Elements.{All-nil, All-cons, All-append}
use Rattle.std.specs.Prelude.{All}
use Rattle.kq_model.specs.declared.event.Event.{Event}
use Rattle.kq_model.specs.declared.event.Event.TheVariants as event
use Rattle.kq_model.specs.declared.reply.Reply.{Reply}
use Rattle.kq_model.specs.Close.{Pair, IsNotClosed}
use Rattle.kq_model.specs.ClosedNumbers.{AlwaysClosesAll, ClosesAll, HasNoneOf}
use Rattle.kq_model.specs.Hearing.{Hearing}
use Rattle.kq_model.specs.Moment.{moment_of}
use Rattle.kq_model.specs.Objects.{Keeping}
use Rattle.kq_model.specs.Plans.{plan}
use Rattle.kq_model.specs.Subjects.{HasSubject}
use Rattle.kq_model.specs.System as system
use Rattle.kq_model.specs.System.{Live, born, lived, step, step_by}
use Rattle.kq_model.specs.Tallied.{System, World}
use Rattle.kq_model.specs.World.{Plan, Planned, Possible, seen_world}
use Rattle.kq_model.proofs.CloseLaw.{lived-closed, none-closed}
use Rattle.kq_system.specs.SystemState.{IsStep}
use Rattle.kq_system.proofs.ClockLemmas.{clock-calls}
use Rattle.kq_system.proofs.PlainPlans.{other-plain}
use Rattle.kq_system.proofs.StepLemmas.{kevent_plan, kqueue_plan, possible_call, possible_kqueue}

module _ {S : Type 0} (h : Hearing S) where
  -- ---- where nothing is closed

  all_open : (ls : List (Live h)) → All (HasNoneOf []) ls
  all_open [] = All-nil (HasNoneOf {h = h} [])
  all_open (l ∷ ls) = All-cons (HasNoneOf {h = h} []) l ls (none-closed h l.owner l.kq.knotes) (all_open ls)

  -- a new kqueue has no knotes
  born_none : (pairs : List Pair) (place : ℕ) (b : Option Pair) → All (HasNoneOf pairs) (born {h = h} place b)
  unfolding born
  born_none pairs place None = All-nil (HasNoneOf {h = h} pairs)
  born_none pairs place (Some p) =
      All-cons (HasNoneOf {h = h} pairs) _ [] (All-nil (HasSubject {h = h} (IsNotClosed p.pid pairs)))
      (All-nil (HasNoneOf {h = h} pairs))

-- ---- a record calls, or it may close

calls_or_closes : (place : ℕ) (e : Event) (w : World) (p : Plan) → plan place e w ≡ Possible p
    → (p.call ≡ None) ⊎ (p.closed ≡ [])
calls_or_closes place (event.Kevent pid fd changes room) w p is =
    let on = possible_call pid fd room changes w p (sym (kevent_plan place pid fd room changes w) ∙ is) in
    inr (ap (λ (q : Plan). q.closed) on.plan_is)
calls_or_closes place (event.Kqueue pid fd) w p is =
    let opens = possible_kqueue pid fd w p (sym (kqueue_plan place pid fd w) ∙ is) in
    inr (ap (λ (q : Plan). q.closed) opens.plan_is)
calls_or_closes place (event.Proc pid) w p is = inl ((other-plain (event.Proc pid) tt).call place w p is)
calls_or_closes place (event.Fork pid child) w p is = inl ((other-plain (event.Fork pid child) tt).call place w p is)
calls_or_closes place (event.Exit pid status) w p is = inl ((other-plain (event.Exit pid status) tt).call place w p is)
calls_or_closes place (event.Dup pid fd to) w p is = inl ((other-plain (event.Dup pid fd to) tt).call place w p is)
calls_or_closes place (event.Close pid fd) w p is = inl ((other-plain (event.Close pid fd) tt).call place w p is)
calls_or_closes place (event.Socket pid fd rcv snd) w p is =
    inl ((other-plain (event.Socket pid fd rcv snd) tt).call place w p is)
calls_or_closes place (event.Listen pid fd backlog) w p is =
    inl ((other-plain (event.Listen pid fd backlog) tt).call place w p is)
calls_or_closes place (event.Arrive pid fd) w p is = inl ((other-plain (event.Arrive pid fd) tt).call place w p is)
calls_or_closes place (event.Accept pid fd to rcv snd) w p is =
    inl ((other-plain (event.Accept pid fd to rcv snd) tt).call place w p is)
calls_or_closes place (event.Connect pid fd) w p is = inl ((other-plain (event.Connect pid fd) tt).call place w p is)
calls_or_closes place (event.Rx pid fd n) w p is = inl ((other-plain (event.Rx pid fd n) tt).call place w p is)
calls_or_closes place (event.Tx pid fd n) w p is = inl ((other-plain (event.Tx pid fd n) tt).call place w p is)
calls_or_closes place (event.Shut pid fd side error) w p is =
    inl ((other-plain (event.Shut pid fd side error) tt).call place w p is)
calls_or_closes place (event.Lowat pid fd side n) w p is =
    inl ((other-plain (event.Lowat pid fd side n) tt).call place w p is)
calls_or_closes place (event.Pipe pid rfd wfd cap) w p is =
    inl ((other-plain (event.Pipe pid rfd wfd cap) tt).call place w p is)
calls_or_closes place (event.Read pid fd n) w p is = inl ((other-plain (event.Read pid fd n) tt).call place w p is)
calls_or_closes place (event.Write pid fd n) w p is = inl ((other-plain (event.Write pid fd n) tt).call place w p is)
calls_or_closes place (event.Exec pid) w p is = inl ((other-plain (event.Exec pid) tt).call place w p is)
calls_or_closes place (event.Sigset pid sig ignore) w p is =
    inl ((other-plain (event.Sigset pid sig ignore) tt).call place w p is)
calls_or_closes place (event.Sig pid sig) w p is = inl ((other-plain (event.Sig pid sig) tt).call place w p is)
calls_or_closes place (event.File file size) w p is = inl ((other-plain (event.File file size) tt).call place w p is)
calls_or_closes place (event.Open pid fd file mode) w p is =
    inl ((other-plain (event.Open pid fd file mode) tt).call place w p is)
calls_or_closes place (event.Seek pid fd offset) w p is =
    inl ((other-plain (event.Seek pid fd offset) tt).call place w p is)
calls_or_closes place (event.Truncate file size) w p is =
    inl ((other-plain (event.Truncate file size) tt).call place w p is)
calls_or_closes place (event.Note file note) w p is = inl ((other-plain (event.Note file note) tt).call place w p is)
calls_or_closes place (event.Clock ns) w p is = inl (clock-calls place ns w p is)

-- ---- a step

module _ {S A B C D : Type 0} {h : Hearing S} {k : Keeping A B C D} where
  closed_by : (place : ℕ) (p : Plan) (s : system.System h k) → (p.call ≡ None) ⊎ (p.closed ≡ [])
      → All (HasNoneOf p.closed) (step_by place (Possible p) s).system.live
  unfolding step_by moment_of
  closed_by place p s (inl none) =
      let m = moment_of s.version place p s.world in
      All-append (HasNoneOf {h = h} p.closed) (lived m s.live) (born place p.born) (lived-closed h m none s.live)
      (born_none h p.closed place p.born)
  closed_by place p s (inr nothing) =
      subst (λ (ps : List Pair). All (HasNoneOf ps) (step_by place (Possible p) s).system.live) (sym nothing)
      (all_open h (step_by place (Possible p) s).system.live)

  closed_step : (place : ℕ) (e : Event) (s : system.System h k) → ClosesAll place e s (step place e s).system
  unfolding step
  closed_step place e s p is =
      subst (λ (q : Planned). All (HasNoneOf p.closed) (step_by place q s).system.live) (sym is)
      (closed_by place p s (calls_or_closes place e (seen_world s.world) p is))

  -- over a whole run
  pub always_closes : (place : ℕ) (s : system.System h k) (es : List Event) → AlwaysClosesAll place s es
  unfolding AlwaysClosesAll
  always_closes place s [] = tt
  always_closes place s (e ∷ es) = (closed_step place e s, always_closes (place + 1) (step place e s).system es)

pub closes_all : (place : ℕ) (e : Event) (old new : System) (r : Reply) → IsStep place e old new r
    → ClosesAll place e old new
closes_all place e old new r steps = λ p is.
    subst (λ (s : System). All (HasNoneOf p.closed) s.live) (sym steps.0) (closed_step place e old p is)

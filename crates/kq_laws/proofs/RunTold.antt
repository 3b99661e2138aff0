-- Over a whole run a timer was told its expirations since it was last returned, and the events of a call tell them.
use Rattle.std.proofs.Common.{◌≡◌, ℕ, ◌+◌, ◌≤◌, ◌==◌, ◌&&◌, Bool, true, false, cond, not, List, [], ◌∷◌, map, filter, Option, Some, None, refl, sym, ap, ◌∙◌, subst, arith}
use Rattle.std.proofs.lemmas.List.Elements.{All-nil, All-cons, All-head, All-tail, All-append, All-filter}
use Rattle.std.specs.Prelude.{All}
use Rattle.kq_model.specs.declared.change.Change.{Change}
use Rattle.kq_model.specs.declared.event.Event.{Event}
use Rattle.kq_model.specs.declared.reply.Reply.{Reply}
use Rattle.kq_model.specs.Call.{call}
use Rattle.kq_model.specs.CallLaws.{kqueue_after_changes}
use Rattle.kq_model.specs.Caller.{Caller}
use Rattle.kq_model.specs.Clock.{Span, clocked}
use Rattle.kq_model.specs.Close.{Pair, closed, has_pair}
use Rattle.kq_model.specs.Following.{followed}
use Rattle.kq_model.specs.Hints.{notified}
use Rattle.kq_model.specs.Moment.{Moment, moment_of, caller_at, happened, called_at, after_call, kqueue_step}
use Rattle.kq_model.specs.Plans.{plan}
use Rattle.kq_model.specs.System.{empty_system, kqueue_of, stepped, lived, born, reply_to, step_by, step, system_after}
use Rattle.kq_model.specs.Tallied.{Kqueue, Live, Stepped, System}
use Rattle.kq_model.specs.Ticks.{last_moment}
use Rattle.kq_model.specs.World.{Call, Plan, Planned, Impossible, Possible, carried_out, clock_after, seen_world, views_of}
use Rattle.kq_model.proofs.KnoteLaws.{by_test}
use Rattle.kq_kevent.proofs.AnswerLaws.{call-answer}
use Rattle.kq_laws.specs.Runs.{HaveLedTo, IsCallOf, owner_in, is_of, returned_by, last_returned_over, CountsExpirations}
use Rattle.kq_laws.specs.Timers.{timer, returns, CountsAll}
use Rattle.kq_laws.proofs.Lives.{IsReady, ready-led}
use Rattle.kq_laws.proofs.RunCalls.{live-is, call-planned, reply-is}
use Rattle.kq_laws.proofs.RunPlaces.{Rise, IsAnswered, rise-step, replies-all}
use Rattle.kq_laws.proofs.Runs.{IsRun, run-empty, run-step}
use Rattle.kq_laws.proofs.Told.{AreTold, closed-told, notified-told, followed-told, clocked-told}
use Rattle.kq_laws.proofs.ToldByCall.{call-told, process-told}
use Rattle.kq_laws.proofs.ToldOverLife.{answer-counts}
use Rattle.kq_laws.proofs.WorldWakes.{TellsPlanned, IsForward, tells-record}

-- ---- the clock of a record

forward-on : (span : Option Span) (now : ℕ) → IsForward now span → now ≤ clock_after span now
unfolding clock_after
forward-on None now goes = omega arith
forward-on (Some span) now goes = goes.1

goes-on : (place : ℕ) (e : Event) (s : System) (p : Plan) → IsRun place s → plan place e (seen_world s.world) ≡ Possible p
    → IsForward s.world.now p.clock
goes-on place e s p run is =
    let w = seen_world s.world in
    (subst (TellsPlanned w) is ((tells-record place w e).tells run.world.counted run.world.listed run.world.calm)).2

-- ---- one kqueue, in the step of a record

module _ (ident : ℕ) where
  clock-told : (span : Option Span) (since now : ℕ) (kq : Kqueue) → IsForward now span → since ≤ now → clock_after span now ≤ last_moment
      → AreTold ident since now kq.knotes → AreTold ident since (clock_after span now) (clocked span kq).knotes
  unfolding clocked clock_after
  clock-told None since now kq goes past within all = all
  clock-told (Some span) since now kq goes past within all =
      subst (λ (from : ℕ). AreTold ident since span.to (clocked (Some (record { from = from; to = span.to })) kq).knotes) (sym goes.0)
      (clocked-told ident since now span.to kq past goes.1 within all)

  module _ (now : ℕ) (m : Moment) (goes : IsForward now m.clock) (within : clock_after m.clock now ≤ last_moment)
      (clock : clock_after m.clock now ≡ m.views.now) where
    happened-told : (since owner : ℕ) (kq : Kqueue) → since ≤ now → AreTold ident since now kq.knotes
        → AreTold ident since m.views.now (happened owner m kq).knotes
    unfolding happened
    happened-told since owner kq past all =
        let heard : Kqueue = notified m.views m.hints (closed owner m.closed kq) in
        subst (λ (n : ℕ). AreTold ident since n (clocked m.clock (followed m.version m.hints heard)).knotes) clock
        (clock-told m.clock since now (followed m.version m.hints heard) goes past within
        (followed-told ident since now m.version m.hints heard
        (notified-told ident since now m.views m.hints (closed owner m.closed kq)
        (closed-told ident since now owner m.closed kq all))))

    -- since when, after a record that gives this reply
    abbrev since_after : Option Call → Reply → ℕ → ℕ → ℕ
    since_after c given kqueue since = cond (is_of kqueue (kqueue_of c) && returns (timer ident) given) m.views.now since

    called-told : (l : Live) (since : ℕ) (c : Option Call) (given : Reply) → IsAnswered m given c l → since ≤ now
        → AreTold ident since now l.kq.knotes
        → AreTold ident (since_after c given l.place since) m.views.now (after_call l.place l.owner m c l.kq).knotes
    unfolding after_call called_at kqueue_of
    called-told l since None given answered past all = happened-told since l.owner l.kq past all
    called-told l since (Some c) given answered past all =
        let kq = happened l.owner m l.kq in
        let before = happened-told since l.owner l.kq past all in
        let by = caller_at l.owner m in
        by_test (λ b. (c.kqueue == l.place) ≡ b
        → AreTold ident (cond (b && returns (timer ident) given) m.views.now since) m.views.now (cond b (call by c.room c.changes kq).kq kq).knotes)
        (c.kqueue == l.place)
        (λ _ here. subst
        (λ (r : Reply). AreTold ident (cond (returns (timer ident) r) m.views.now since) m.views.now (call by c.room c.changes kq).kq.knotes)
        (sym (answered here))
        (call-told ident since by (omega (arith, past, clock, forward-on m.clock now goes)) c.room c.changes kq before))
        (λ _ _. before) refl

    -- ---- all live kqueues

    module _ (since : ℕ → ℕ) (past : (kqueue : ℕ) → since kqueue ≤ now) (given : Reply) where
      abbrev WasTold : Live → Type 0
      WasTold l = AreTold ident (since l.place) now l.kq.knotes

      abbrev IsToldNow : Live → Type 0
      IsToldNow l = AreTold ident (since_after m.call given l.place (since l.place)) m.views.now l.kq.knotes

      abbrev Both : Live → Type 0
      Both l = WasTold l × IsAnswered m given m.call l

      all-both : (ls : List Live) → All WasTold ls → All (IsAnswered m given m.call) ls → All Both ls
      all-both [] told answered = All-nil Both
      all-both (l ∷ ls) told answered =
          All-cons Both l ls (All-head WasTold l ls told, All-head (IsAnswered m given m.call) l ls answered)
          (all-both ls (All-tail WasTold l ls told) (All-tail (IsAnswered m given m.call) l ls answered))

      all-stepped : (ls : List Live) → All Both ls → All IsToldNow (map (stepped m) ls)
      unfolding stepped kqueue_step
      all-stepped [] all = All-nil IsToldNow
      all-stepped (l ∷ ls) all =
          let first = All-head Both l ls all in
          All-cons IsToldNow (stepped m l) (map (stepped m) ls) (called-told l (since l.place) m.call given first.1 (past l.place) first.0)
          (all-stepped ls (All-tail Both l ls all))

      lived-told : (ls : List Live) → All WasTold ls → All (IsAnswered m given m.call) ls → All IsToldNow (lived m ls)
      unfolding lived
      lived-told ls told answered =
          all-stepped (filter (λ (l : Live). not (has_pair l.owner l.number m.closed)) ls)
          (All-filter (λ (l : Live). not (has_pair l.owner l.number m.closed)) Both ls (all-both ls told answered))

      -- one that is made has no knotes
      born-told : (place : ℕ) (p : Option Pair) → All IsToldNow (born place p)
      unfolding born
      born-told place None = All-nil IsToldNow
      born-told place (Some p) = All-cons IsToldNow _ [] (All-nil _) (All-nil IsToldNow)

  -- ---- a step of the system

  -- since when the timers of each kqueue count, which is past
  record AreToldSince (since : ℕ → ℕ) (s : System) : Type 0 where
    past : (kqueue : ℕ) → since kqueue ≤ s.world.now
    told : s.world.now ≤ last_moment → All (λ (l : Live). AreTold ident (since l.place) s.world.now l.kq.knotes) s.live

  not_after : (b : Bool) (now later since : ℕ) → since ≤ now → now ≤ later → cond b later since ≤ later
  not_after true now later since past goes = omega arith
  not_after false now later since past goes = omega (arith, past, goes)

  module _ (place : ℕ) (e : Event) (s : System) (run : IsRun place s) (rise : Rise 0 place s.live) (since : ℕ → ℕ) (all : AreToldSince since s) where
    abbrev After : Stepped → Type 0
    After t = AreToldSince (λ kqueue. returned_by (timer ident) kqueue t (since kqueue)) t.system

    told-by : (q : Planned) → plan place e (seen_world s.world) ≡ q → After (step_by place q s)
    unfolding step_by moment_of carried_out views_of
    told-by (Impossible why) is = record { past = all.past; told = all.told }
    told-by (Possible p) is =
        let m = moment_of s.version place p s.world in
        let given = reply_to m p.call s.live in
        let goes = goes-on place e s p run is in
        let on = forward-on p.clock s.world.now goes in
        record {
          past = λ kqueue. not_after (is_of kqueue (kqueue_of p.call) && returns (timer ident) given) s.world.now m.views.now (since kqueue) (all.past kqueue) on;
          told = λ within.
              All-append (IsToldNow s.world.now m goes within refl since all.past given) (lived m s.live) (born place p.born)
              (lived-told s.world.now m goes within refl since all.past given s.live (all.told (omega (arith, on, within)))
              (replies-all m p.call place s.live rise))
              (born-told s.world.now m goes within refl since all.past given place p.born);
        }

    told-step : After (step place e s)
    unfolding step
    told-step = told-by (plan place e (seen_world s.world)) refl

  told-all : (events : List Event) (place : ℕ) (s : System) → IsRun place s → Rise 0 place s.live → (since : ℕ → ℕ) → AreToldSince since s
      → AreToldSince (λ kqueue. last_returned_over (timer ident) kqueue place s events (since kqueue)) (system_after place s events)
  unfolding system_after
  told-all [] place s run rise since all = all
  told-all (e ∷ es) place s run rise since all =
      told-all es (place + 1) (step place e s).system (run-step place e s run) (rise-step place e s rise)
      (λ kqueue. returned_by (timer ident) kqueue (step place e s) (since kqueue)) (told-step place e s run rise since all)

  told-led : (events : List Event) (applied : ℕ) (s : System) → HaveLedTo events applied s
      → AreToldSince (λ kqueue. last_returned_over (timer ident) kqueue 1 (empty_system s.version) events 0) s
  told-led events applied s led =
      subst (λ (t : System). AreToldSince (λ kqueue. last_returned_over (timer ident) kqueue 1 (empty_system s.version) events 0) t) led.reached
      (told-all events 1 (empty_system s.version) (run-empty s.version) (omega arith) (λ _. 0)
      (record { past = λ _. omega arith; told = λ _. All-nil (λ (l : Live). AreTold ident 0 0 l.kq.knotes) }))

-- ---- the law

-- a call leaves the clock as it is
same-now : (place : ℕ) (e : Event) (s : System) (l : Live) (changes : List Change) (room : ℕ) → IsCallOf place e s l changes room
    → (step place e s).system.world.now ≡ s.world.now
unfolding step step_by carried_out clock_after
same-now place e s l changes room on =
    ap (λ (q : Planned). (step_by place q s).system.world.now) (call-planned place e s l changes room on)

pub counts_expirations : (applied : ℕ) (e : Event) (old new : System) (reply : Reply) → new ≡ (step (applied + 1) e old).system
    → reply ≡ (step (applied + 1) e old).reply → CountsExpirations applied e old new reply
unfolding views_of
counts_expirations applied e old new reply next replied ident events led within l changes room on =
    subst (λ (t : System). Counts t reply) (sym next)
    (subst (λ (r : Reply). Counts after r) (sym (replied ∙ reply-is (applied + 1) e old l changes room on))
    (answer-counts ident since after.world.now room by.views (kqueue_after_changes by room changes l.kq)
    (call by room changes l.kq).kq (call by room changes l.kq).reply (subst (λ (n : ℕ). n ≤ last_moment) (sym same) within)
    (process-told ident since by past room changes [] l.kq told)
    (call-answer by room changes l.kq ready.sound)))
  where
    after : System
    after = (step (applied + 1) e old).system

    by : Caller
    by = owner_in after l

    since : ℕ
    since = last_returned_over (timer ident) l.place 1 (empty_system old.version) events 0

    Counts : System → Reply → Type 0
    Counts t r = CountsAll ident (kqueue_after_changes (owner_in t l) room changes l.kq).knotes since t.world.now r

    same : after.world.now ≡ old.world.now
    same = same-now (applied + 1) e old l changes room on

    all : AreToldSince ident (λ kqueue. last_returned_over (timer ident) kqueue 1 (empty_system old.version) events 0) old
    all = told-led ident events applied old led

    past : since ≤ by.views.now
    past = subst (λ (n : ℕ). since ≤ n) (sym same) (all.past l.place)

    ready : IsReady (views_of (seen_world old.world)) l
    ready = live-is (IsReady (views_of (seen_world old.world))) l.place old.live l (ready-led events applied old led) on.live

    told : AreTold ident since by.views.now l.kq.knotes
    told =
        subst (λ (n : ℕ). AreTold ident since n l.kq.knotes) (sym same)
        (live-is (λ (x : Live). AreTold ident (last_returned_over (timer ident) x.place 1 (empty_system old.version) events 0) old.world.now x.kq.knotes)
        l.place old.live l (all.told within) on.live)

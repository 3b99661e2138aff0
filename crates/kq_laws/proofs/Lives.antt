-- Over a whole run each live kqueue is sound, and what is level-triggered and due is active.
use Rattle.std.proofs.Common.{◌≡◌, ℕ, ◌+◌, ◌==◌, not, List, [], ◌∷◌, map, filter, Option, Some, None, refl, subst}
use Rattle.std.proofs.lemmas.Bool.{cond_both}
use Rattle.std.proofs.lemmas.List.Elements.{All-nil, All-cons, All-head, All-tail, All-append, All-filter}
use Rattle.std.specs.Prelude.{All}
use Rattle.kq_model.specs.declared.event.Event.{Event}
use Rattle.kq_model.specs.Clock.{Span, clocked}
use Rattle.kq_model.specs.Close.{Pair, closed, has_pair, is_closed}
use Rattle.kq_model.specs.Following.{followed}
use Rattle.kq_model.specs.Hints.{notified}
use Rattle.kq_model.specs.Kqueue.{IsSound}
use Rattle.kq_model.specs.Moment.{Moment, moment_of, caller_at, happened, called_at, after_call, kqueue_step}
use Rattle.kq_model.specs.Plans.{plan}
use Rattle.kq_model.specs.System.{empty_system, stepped, lived, born, step_by, step, system_after}
use Rattle.kq_model.specs.Tallied.{Knote, Kqueue, Live, System}
use Rattle.kq_model.specs.Views.{Views}
use Rattle.kq_model.specs.World.{Call, Plan, Planned, Impossible, Possible, seen_world, views_of}
use Rattle.kq_kevent.proofs.SoundLaws.{IsSound-empty}
use Rattle.kq_laws.specs.Runs.{HaveLedTo, IsToldBy}
use Rattle.kq_laws.specs.Wakes.{IsAnnounced}
use Rattle.kq_laws.proofs.Awake.{IsAwake, closed-awake, notified-awake, followed-awake, clocked-awake, call-awake}
use Rattle.kq_laws.proofs.Runs.{IsRun, run-empty, run-step, all-told}
use Rattle.kq_laws.proofs.Sound.{closed-sound, notified-sound, followed-sound, clocked-sound, call-sound}

-- a live kqueue in a world
pub record IsReady (views : Views) (l : Live) : Type 0 where
  pub sound : IsSound l.kq
  pub awake : All (IsAwake views) l.kq.knotes

-- ---- one kqueue, in the step of a record

module _ (before : Views) (m : Moment) where
  -- the record hints each condition that it makes hold
  abbrev IsTold : Live → Type 0
  IsTold l = All (IsAnnounced before m.hints m.views) l.kq.knotes

  clock-awake : (span : Option Span) (kq : Kqueue) → All (IsAwake m.views) kq.knotes
      → All (IsAwake m.views) (clocked span kq).knotes
  unfolding clocked
  clock-awake None kq all = all
  clock-awake (Some span) kq all = clocked-awake m.views span kq all

  pub happened-sound : (owner : ℕ) (kq : Kqueue) → IsSound kq → IsSound (happened owner m kq)
  unfolding happened
  happened-sound owner kq sound =
      clocked-sound m.clock _ (followed-sound m.version m.hints _
      (notified-sound m.views m.hints _ (closed-sound owner m.closed kq sound)))

  closed-told : (l : Live) → IsTold l → All (IsAnnounced before m.hints m.views) (closed l.owner m.closed l.kq).knotes
  unfolding closed
  closed-told l told =
      All-filter (λ (k : Knote). not (is_closed l.owner m.closed k.key)) (IsAnnounced before m.hints m.views) l.kq.knotes told

  pub happened-awake : (l : Live) → All (IsAwake before) l.kq.knotes → IsTold l
      → All (IsAwake m.views) (happened l.owner m l.kq).knotes
  unfolding happened
  happened-awake l all told =
      let kq = closed l.owner m.closed l.kq in
      clock-awake m.clock (followed m.version m.hints (notified m.views m.hints kq))
      (followed-awake m.views m.version m.hints (notified m.views m.hints kq)
      (notified-awake before m.views m.hints kq (closed-awake before l.owner m.closed l.kq all) (closed-told l told)))

  abbrev IsKept : Kqueue → Type 0
  IsKept kq = IsSound kq × All (IsAwake m.views) kq.knotes

  called-kept : (l : Live) (c : Option Call) → IsReady before l → IsTold l → IsKept (after_call l.place l.owner m c l.kq)
  unfolding after_call called_at
  called-kept l None ready told = (happened-sound l.owner l.kq ready.sound, happened-awake l ready.awake told)
  called-kept l (Some c) ready told =
      let kq = happened l.owner m l.kq in
      let sound = happened-sound l.owner l.kq ready.sound in
      let awake = happened-awake l ready.awake told in
      cond_both (c.kqueue == l.place) _ _ IsKept
      (λ _. (
        call-sound (caller_at l.owner m) c.room c.changes kq sound,
        call-awake (caller_at l.owner m) c.room c.changes kq awake,
      )) (λ _. (sound, awake))

  stepped-ready : (l : Live) → IsReady before l → IsTold l → IsReady m.views (stepped m l)
  unfolding stepped kqueue_step
  stepped-ready l ready told =
      let kept = called-kept l m.call ready told in
      record { sound = kept.0; awake = kept.1 }

  -- ---- all live kqueues

  abbrev Both : Live → Type 0
  Both l = IsReady before l × IsTold l

  all-both : (ls : List Live) → All (IsReady before) ls → All IsTold ls → All Both ls
  all-both [] ready told = All-nil Both
  all-both (l ∷ ls) ready told =
      All-cons Both l ls (All-head (IsReady before) l ls ready, All-head IsTold l ls told)
      (all-both ls (All-tail (IsReady before) l ls ready) (All-tail IsTold l ls told))

  all-stepped : (ls : List Live) → All Both ls → All (IsReady m.views) (map (stepped m) ls)
  all-stepped [] all = All-nil (IsReady m.views)
  all-stepped (l ∷ ls) all =
      let first = All-head Both l ls all in
      All-cons (IsReady m.views) (stepped m l) (map (stepped m) ls) (stepped-ready l first.0 first.1)
      (all-stepped ls (All-tail Both l ls all))

  lived-ready : (ls : List Live) → All (IsReady before) ls → All IsTold ls → All (IsReady m.views) (lived m ls)
  unfolding lived
  lived-ready ls ready told =
      all-stepped (filter (λ (l : Live). not (has_pair l.owner l.number m.closed)) ls)
      (All-filter (λ (l : Live). not (has_pair l.owner l.number m.closed)) Both ls (all-both ls ready told))

born-ready : (views : Views) (place : ℕ) (p : Option Pair) → All (IsReady views) (born place p)
unfolding born
born-ready views place None = All-nil (IsReady views)
born-ready views place (Some p) =
    All-cons (IsReady views) _ [] (record { sound = IsSound-empty; awake = All-nil (IsAwake views) }) (All-nil (IsReady views))

-- ---- a step of the system

abbrev pub AreReady : System → Type 0
AreReady s = All (IsReady (views_of (seen_world s.world))) s.live

module _ (place : ℕ) (e : Event) (s : System) (run : IsRun place s) where
  pub told-now : (p : Plan) → plan place e (seen_world s.world) ≡ Possible p
      → All (IsToldBy p s (step_by place (Possible p) s).system) s.live
  unfolding step
  told-now p is =
      subst (λ (q : Planned). All (IsToldBy p s (step_by place q s).system) s.live) is (all-told place e s p is run)

  ready-by : (q : Planned) → plan place e (seen_world s.world) ≡ q → AreReady s → AreReady (step_by place q s).system
  unfolding step_by moment_of
  ready-by (Impossible why) is all = all
  ready-by (Possible p) is all =
      let m = moment_of s.version place p s.world in
      All-append (IsReady m.views) (lived m s.live) (born place p.born)
      (lived-ready (views_of (seen_world s.world)) m s.live all (told-now p is)) (born-ready m.views place p.born)

  ready-step : AreReady s → AreReady (step place e s).system
  unfolding step
  ready-step all = ready-by (plan place e (seen_world s.world)) refl all

ready-all : (events : List Event) (place : ℕ) (s : System) → IsRun place s → AreReady s
    → AreReady (system_after place s events)
unfolding system_after
ready-all [] place s run all = all
ready-all (e ∷ es) place s run all =
    ready-all es (place + 1) (step place e s).system (run-step place e s run) (ready-step place e s run all)

pub ready-led : (events : List Event) (applied : ℕ) (s : System) → HaveLedTo events applied s → AreReady s
ready-led events applied s led =
    let start : System = empty_system s.version in
    subst AreReady led.reached
    (ready-all events 1 start (run-empty s.version) (All-nil (IsReady (views_of (seen_world start.world)))))

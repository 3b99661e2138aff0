-- A possible call of a run is answered by the live kqueue that its number names, as that one is; and it returns what is due.
use Rattle.std.proofs.Common.{◌≡◌, ℕ, ◌+◌, ◌==◌, cond, List, [], ◌∷◌, Some, refl, sym, ap, ◌∙◌, subst}
use Rattle.std.proofs.lemmas.List.Elements.{All-head, All-tail}
use Rattle.std.proofs.lemmas.Option.{none-some, same_Some}
use Rattle.std.specs.Prelude.{All}
use Rattle.kq_model.specs.declared.change.Change.{Change}
use Rattle.kq_model.specs.declared.event.Event.{Event}
use Rattle.kq_model.specs.declared.object.Named.TheVariants as named
use Rattle.kq_model.specs.declared.reply.Reply.{Reply}
use Rattle.kq_model.specs.Call.{call}
use Rattle.kq_model.specs.Caller.{Caller}
use Rattle.kq_model.specs.CallLaws.{AreQuiet, kqueue_after_changes}
use Rattle.kq_model.specs.Moment.{Moment, moment_of, caller_at, called_at}
use Rattle.kq_model.specs.Plans.{plan}
use Rattle.kq_model.specs.System.{answer, reply_to, step_by, step}
use Rattle.kq_model.specs.Tallied.{Kqueue, Live, System}
use Rattle.kq_model.specs.World.{Call, Planned, Possible, seen_world, views_of}
use Rattle.kq_model.proofs.KnoteLaws.{by_test}
use Rattle.kq_system.specs.SystemState.{IsQuiet, call_plan}
use Rattle.kq_system.proofs.QuietLemmas.{unhappened}
use Rattle.kq_system.proofs.StepLemmas.{kevent_plan, possible_call}
use Rattle.kq_laws.specs.Runs.{find_live, IsCallOf, owner_in, IsToldBy, ReturnsAllDue}
use Rattle.kq_laws.specs.Wakes.{ReturnsDue}
use Rattle.kq_laws.proofs.Awake.{IsAwake}
use Rattle.kq_laws.proofs.Lives.{IsReady, happened-awake, told-now, ready-led}
use Rattle.kq_laws.proofs.Returned.{returns_due}
use Rattle.kq_laws.proofs.Runs.{IsRun, run-led}

-- ---- the kqueue of a place

pub live-is : (P : Live → Type 0) (place : ℕ) (live : List Live) (l : Live) → All P live → find_live place live ≡ Some l → P l
live-is P place [] l all is = absurd (none-some l is)
live-is P place (x ∷ live) l all is =
    by_test (λ b. cond b (Some x) (find_live place live) ≡ Some l → P l) (place == x.place)
    (λ _ here. subst P (same_Some x l here) (All-head P x live all))
    (λ _ later. live-is P place live l (All-tail P x live all) later) is

answer-of : (m : Moment) (c : Call) (live : List Live) (l : Live) → find_live c.kqueue live ≡ Some l
    → answer m c live ≡ (called_at l.owner m c l.kq).reply
unfolding answer
answer-of m c [] l is = absurd (none-some l is)
answer-of m c (x ∷ live) l is =
    by_test (λ b. cond b (Some x) (find_live c.kqueue live) ≡ Some l
    → cond b (called_at x.owner m c x.kq).reply (answer m c live) ≡ (called_at l.owner m c l.kq).reply) (c.kqueue == x.place)
    (λ _ here. ap (λ (y : Live). (called_at y.owner m c y.kq).reply) (same_Some x l here))
    (λ _ later. answer-of m c live l later) is

same_kqueue : (a b : ℕ) → Some (named.Kqueue a) ≡ Some (named.Kqueue b) → a ≡ b
same_kqueue a b e = cc

-- ---- the record of the call

module _ (place : ℕ) (e : Event) (s : System) (l : Live) (changes : List Change) (room : ℕ) (on : IsCallOf place e s l changes room) where
  abbrev pub this_call : Call
  this_call = record { kqueue = l.place; changes = changes; room = room }

  pub call-planned : plan place e (seen_world s.world) ≡ Possible (call_plan this_call)
  call-planned =
      let w = seen_world s.world in
      let on_number =
      possible_call on.pid on.number room changes w on.does
      (sym (kevent_plan place on.pid on.number room changes w) ∙ sym (ap (λ (x : Event). plan place x w) on.event) ∙ on.possible) in
      on.possible ∙ ap Possible on_number.plan_is
      ∙ ap (λ kqueue. Possible (call_plan (record { kqueue = kqueue; changes = changes; room = room })))
      (same_kqueue on_number.kqueue l.place (sym on_number.there ∙ on.names))

  abbrev pub at_call : Moment
  at_call = moment_of s.version place (call_plan this_call) s.world

  -- nothing but the call happens
  alone : IsQuiet at_call
  unfolding moment_of
  alone = record { closed = refl; hints = refl; clock = refl }

  pub owner-is : owner_in (step place e s).system l ≡ caller_at l.owner at_call
  unfolding step step_by moment_of
  owner-is = ap (λ (q : Planned). owner_in (step_by place q s).system l) call-planned

  reply-at : (step place e s).reply ≡ (call (caller_at l.owner at_call) room changes l.kq).reply
  unfolding step step_by reply_to called_at
  reply-at =
      ap (λ (q : Planned). (step_by place q s).reply) call-planned ∙ answer-of at_call this_call s.live l on.live
      ∙ ap (λ (kq : Kqueue). (call (caller_at l.owner at_call) room changes kq).reply) (unhappened at_call l.owner l.kq alone)

  pub reply-is : (step place e s).reply ≡ (call (owner_in (step place e s).system l) room changes l.kq).reply
  reply-is = reply-at ∙ ap (λ (by : Caller). (call by room changes l.kq).reply) (sym owner-is)

  -- what is due as the call sees it is active
  module _ (run : IsRun place s) (ready : IsReady (views_of (seen_world s.world)) l) where
    awake-at : All (IsAwake at_call.views) l.kq.knotes
    unfolding step_by moment_of
    awake-at =
        let told = live-is (IsToldBy (call_plan this_call) s (step_by place (Possible (call_plan this_call)) s).system) l.place s.live l
        (told-now place e s run (call_plan this_call) call-planned) on.live in
        subst (λ (kq : Kqueue). All (IsAwake at_call.views) kq.knotes) (unhappened at_call l.owner l.kq alone)
        (happened-awake (views_of (seen_world s.world)) at_call l ready.awake told)

    pub awake-then : All (IsAwake (owner_in (step place e s).system l).views) l.kq.knotes
    awake-then = subst (λ (by : Caller). All (IsAwake by.views) l.kq.knotes) (sym owner-is) awake-at

-- ---- the law

pub returns_all_due : (applied : ℕ) (e : Event) (old new : System) (reply : Reply) → new ≡ (step (applied + 1) e old).system
    → reply ≡ (step (applied + 1) e old).reply → ReturnsAllDue applied e old new reply
returns_all_due applied e old new reply next replied events led l changes room on =
    subst (λ (t : System). Quiet t → Due t) (sym next)
    (λ quiet. returns_due (owner_in after l) room changes l.kq reply ready.sound
    (awake-then (applied + 1) e old l changes room on (run-led events applied old led) ready)
    (replied ∙ reply-is (applied + 1) e old l changes room on) quiet)
  where
    after : System
    after = (step (applied + 1) e old).system

    Quiet : System → Type 0
    Quiet t = AreQuiet (owner_in t l) changes l.kq

    Due : System → Type 0
    Due t = ReturnsDue (views_of (seen_world t.world)) room (kqueue_after_changes (owner_in t l) room changes l.kq) reply

    ready : IsReady (views_of (seen_world old.world)) l
    ready = live-is (IsReady (views_of (seen_world old.world))) l.place old.live l (ready-led events applied old led) on.live

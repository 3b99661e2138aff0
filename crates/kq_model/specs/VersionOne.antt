-- The definitions as they were while the trace's format had version 1 alone, for the law that on version 1 nothing has
-- changed (`proofs/VersionOne.antt`). What is not here stands in the other files as it stood then, but that there is a
-- hint `Child`, which no filter takes, and that a knote has a notice, which a new one has not. Each name is that of the
-- definition whose place it had.
use Rattle.std.specs.Prelude.{ℕ, ◌+◌, ◌-◌, ◌==◌, nat_lt, ◌&&◌, Bool, true, false, not}
use Rattle.std.specs.Prelude.{◌||◌, List, [], ◌∷◌, ◌++◌, map, length, min}
use Rattle.std.specs.Prelude.{filter, Option, Some}
use Rattle.std.specs.Prelude.{None, zero, suc, option_and_then, if◌then◌else◌}
use Rattle.std.specs.Int.RustNames.{bit_or}
use Rattle.std.specs.List.{fold}
use Rattle.std.specs.Option.{is_none}
use Rattle.kq_model.specs.declared.change.Change.{Change}
use Rattle.kq_model.specs.declared.errno.Errno.{Errno}
use Rattle.kq_model.specs.declared.errno.Errno.TheVariants.{ENOENT, EBADF, EINVAL, ESRCH}
use Rattle.kq_model.specs.declared.event.Event.{Event}
use Rattle.kq_model.specs.declared.event.Event.TheVariants as event
use Rattle.kq_model.specs.declared.filter.Filter.{Filter}
use Rattle.kq_model.specs.declared.filter.Filter.TheVariants.{Read, Write, Vnode, Proc, Signal, Timer, User}
use Rattle.kq_model.specs.declared.kevent.Kevent.{Kevent}
use Rattle.kq_model.specs.declared.reply.Reply.{Reply}
use Rattle.kq_model.specs.declared.reply.Reply.TheVariants as reply
use Rattle.kq_model.specs.declared.row.Row.{Row}
use Rattle.kq_model.specs.declared.why.Why.TheVariants.{NoProcess, UsedPid}
use Rattle.kq_model.specs.Bits.{asks, add, delete, own_bits, triggers, has_note, track_note, fork_note}
use Rattle.kq_model.specs.Call.{Processed, Called, after, returned}
use Rattle.kq_model.specs.Caller.{Caller}
use Rattle.kq_model.specs.ChangedKnote.{key_of, fresh, replaced, changed, switched, activated}
use Rattle.kq_model.specs.declared.key.Key.{Key}
use Rattle.kq_model.specs.declared.object.Hint.{Hint}
use Rattle.kq_model.specs.declared.object.Hint.TheVariants.{Readable, Writable, Note, Delivered, Child}
use Rattle.kq_model.specs.Clock.{Span, ticking, expired, waiting_of, kqueue_of_waiting}
use Rattle.kq_model.specs.Close.{closed, has_pair}
use Rattle.kq_model.specs.Hints.{hints_for, heard_by, hears_exit, if_there, queue_with}
use Rattle.kq_model.specs.Hearing.{Hearing, Occurrence, Told, Expired}
use Rattle.kq_model.specs.Knote.{Knote, find_knote, is_timer, key_eq}
use Rattle.kq_model.specs.Kqueue.{Kqueue}
use Rattle.kq_model.specs.Limits.{most_signal}
use Rattle.kq_model.specs.Moment.{Moment, moment_of, caller_at}
use Rattle.kq_model.specs.Objects as objects
use Rattle.kq_model.specs.Objects.{Keeping, counted}
use Rattle.kq_model.specs.Look.{Seen, look_by}
use Rattle.kq_model.specs.Plans as plans
use Rattle.kq_model.specs.Processes.{was_used, is_live, process_of, ignored_by}
use Rattle.kq_model.specs.ProcessPlans.{inherited, names_of, hold_all, noted}
use Rattle.kq_model.specs.Retrieval.{Retrieved, Turned, knotes_after, back_after, with_idle, event_of, after_turn}
use Rattle.kq_model.specs.Refusals.{is_malformed, is_unopened, invalid_if, is_readable, is_writable, is_file}
use Rattle.kq_model.specs.Refusals.{is_live_process, process_in}
use Rattle.kq_model.specs.Registration.{Decision, Refuse, Remove, Make, Modify, Registered, unless_refused, with_made}
use Rattle.kq_model.specs.Registration.{with_removed, with_modified}
use Rattle.kq_model.specs.System.{Live, System, Stepped, kqueue_of, born, empty_system, row_of}
use Rattle.kq_model.specs.Targets.{Posted, named_in}
use Rattle.kq_model.specs.Ticks.{Ticking, is_among_first, period_of}
use Rattle.kq_model.specs.TimerWalk.{Alarms, walked}
use Rattle.kq_model.specs.World as world
use Rattle.kq_model.specs.Views.{Views}
use Rattle.kq_model.specs.World.{World, Call, Planned, Impossible, Possible, idle, seen_world}

-- ---- what was heard, as a list, the latest last

-- the notes of one occurrence
unfoldable pub notes_of : Occurrence → ℕ
notes_of (Told (Note bits)) = bits
notes_of (Told Readable) = 0
notes_of (Told Writable) = 0
notes_of (Told Delivered) = 0
notes_of (Told (Child pid)) = 0
notes_of Expired = 0

-- how often something is counted at most
abbrev pub most_counted : ℕ
most_counted = 9223372036854775807

-- the union of their notes
abbrev pub union : List Occurrence → ℕ
union xs = fold (λ bits x. bit_or bits (notes_of x)) 0 xs

unfoldable pub is_none_of : List Occurrence → Bool
is_none_of [] = true
is_none_of (x ∷ xs) = false

-- `count` is how many were heard, whatever they are
abbrev pub listed : Hearing (List Occurrence)
listed = record {
  empty = [];
  heard = λ x xs. xs ++ x ∷ [];
  count = λ xs. min (length xs) most_counted;
  notes = union;
  is_empty = is_none_of;
}

-- ---- when a timer expires

unfoldable pub is_tick : Ticking → ℕ → Bool
is_tick t moment = is_among_first moment t moment

abbrev pub expires : Bool → Ticking → ℕ → Bool
expires once t moment = is_tick t moment && (not once || (moment == t.start + t.period))

-- ---- what a filter itself refuses at ADD

unfoldable pub process_refusal : Caller → Bool → Change → Option Errno
process_refusal caller is_new c =
    if has_note c.fflags track_note then Some EINVAL
    else if is_new && not (is_live_process (process_in caller.views c.ident)) then Some ESRCH
    else None

unfoldable pub own_refusal : Filter → Caller → Bool → Change → Option Errno
own_refusal Read caller is_new c = invalid_if (not (is_readable (named_in caller.views caller.owner c.ident)))
own_refusal Write caller is_new c = invalid_if (not (is_writable (named_in caller.views caller.owner c.ident)))
own_refusal Vnode caller is_new c = invalid_if (not (is_file (named_in caller.views caller.owner c.ident)))
own_refusal Proc caller is_new c = process_refusal caller is_new c
own_refusal Signal caller is_new c = invalid_if (nat_lt c.ident 1 || nat_lt most_signal c.ident)
own_refusal Timer caller is_new c = invalid_if (is_none (period_of c.datum c.fflags))
own_refusal User caller is_new c = None
own_refusal _ caller is_new c = None

-- ---- the period of a TIMER

unfoldable pub period_in : Option ℕ → ℕ
period_in None = 0
period_in (Some period) = period

module _ {S : Type 0} {h : Hearing S} where
  -- ---- the look

  unfoldable pub look : Views → Knote h → Option Seen
  look views k = look_by k.key.filter (option_and_then views.view k.target) k

  unfoldable pub attended : Views → Knote h → Knote h
  attended views k = if k.enabled then activated (look views k) k else k

  -- ---- what a change makes of a knote

  unfoldable pub started : Caller → Change → Knote h → Knote h
  started caller c k = record k { start = caller.views.now; period = period_in (period_of c.datum c.fflags) }

  unfoldable pub begun : Filter → Caller → Change → Knote h → Knote h
  begun Timer caller c k = started caller c k
  begun User caller c k = record k { bits = own_bits c.fflags; triggered = triggers c.fflags }
  begun _ caller c k = k

  unfoldable pub restarted : Filter → Caller → Change → Knote h → Knote h
  restarted Timer caller c k =
      if asks c.flags add then record (started caller c k) { seen = h.empty; active = false } else k
  restarted _ caller c k = k

  unfoldable pub made : Caller → Change → Knote h
  made caller c = attended caller.views (begun c.filter caller c (fresh caller c))

  unfoldable pub modified : Caller → Change → Knote h → Knote h
  modified caller c k =
      attended caller.views (switched c (changed c.filter c (restarted c.filter caller c (replaced c k))))

  -- ---- the registration of a change

  unfoldable pub decided : Caller → Option (Knote h) → Change → Decision h
  decided caller None c =
      if asks c.flags add then unless_refused (own_refusal c.filter caller true c) Make else Refuse ENOENT
  decided caller (Some k) c =
      if asks c.flags delete then Remove
      else if asks c.flags add then unless_refused (own_refusal c.filter caller false c) (Modify k)
      else Modify k

  unfoldable pub decision : Caller → Option (Knote h) → Change → Decision h
  decision caller present c =
      if is_malformed c then Refuse EINVAL
      else if is_unopened caller c then Refuse EBADF
      else decided caller present c

  unfoldable pub carried_out : Caller → Change → Kqueue h → Decision h → Registered h
  carried_out caller c kq (Refuse e) = record { kq = kq; error = Some e }
  carried_out caller c kq Remove = record { kq = with_removed (key_of c) kq; error = None }
  carried_out caller c kq Make = record { kq = with_made (made caller c) kq; error = None }
  carried_out caller c kq (Modify k) = record { kq = with_modified c (modified caller c k) kq; error = None }

  unfoldable pub register : Caller → Change → Kqueue h → Registered h
  register caller c kq = carried_out caller c kq (decision caller (find_knote (key_of c) kq.knotes) c)

  -- ---- the retrieval

  abbrev pub with_delivered : Knote h → Kqueue h → Kqueue h
  with_delivered k kq = record { knotes = knotes_after k kq.knotes; queue = back_after k kq.queue }

  unfoldable pub turned_at_look : Knote h → Kqueue h → Option Seen → Turned h
  turned_at_look k kq None = record { kq = with_idle k kq; event = None }
  turned_at_look k kq (Some seen) = record { kq = with_delivered k kq; event = Some (event_of k seen) }

  unfoldable pub turned_at : Views → Kqueue h → Option (Knote h) → Turned h
  turned_at views kq None = record { kq = kq; event = None }
  turned_at views kq (Some k) = turned_at_look k kq (look views k)

  unfoldable pub turned : Views → Key → Kqueue h → Turned h
  turned views key kq = turned_at views kq (find_knote key kq.knotes)

  unfoldable pub retrieve : Views → List Key → ℕ → Kqueue h → Retrieved h
  retrieve views [] room kq = record { kq = kq; events = [] }
  retrieve views (key ∷ keys) zero kq = record { kq = record kq { queue = (key ∷ keys) ++ kq.queue }; events = [] }
  retrieve views (key ∷ keys) (suc room) kq =
      after_turn (retrieve views keys) room (turned views key kq).kq (turned views key kq).event

  unfoldable pub retrieval : Views → ℕ → Kqueue h → Retrieved h
  retrieval views room kq = retrieve views kq.queue room (record kq { queue = [] })

  -- ---- a call

  unfoldable pub by_entries : Views → ℕ → List Kevent → Kqueue h → Called h
  by_entries views room [] kq = returned (retrieval views room kq)
  by_entries views room (entry ∷ entries) kq = record { kq = kq; reply = reply.Events (entry ∷ entries) }

  unfoldable pub by_answer : Views → ℕ → Processed h → Option Reply → Called h
  by_answer views room p (Some answer) = record { kq = p.kq; reply = answer }
  by_answer views room p None = by_entries views room p.placed p.kq

  unfoldable pub concluded : Views → ℕ → Processed h → Called h
  concluded views room p = by_answer views room p p.answer

  unfoldable pub process : Caller → ℕ → List Change → List Kevent → Kqueue h → Processed h
  process caller room [] placed kq = record { kq = kq; placed = placed; answer = None }
  process caller room (c ∷ cs) placed kq = after (process caller room cs) room c placed (register caller c kq)

  unfoldable pub call : Caller → ℕ → List Change → Kqueue h → Called h
  call caller room changes kq = concluded caller.views room (process caller room changes [] kq)

  -- ---- the hints

  unfoldable pub unless_silent : Bool → Knote h → Option (Knote h)
  unless_silent false k = Some k
  unless_silent true k = if h.is_empty k.seen then None else Some (record k { oneshot = true })

  unfoldable pub alerted : Views → List Hint → Knote h → Option (Knote h)
  alerted views [] k = Some k
  alerted views (hint ∷ hints) k =
      unless_silent (hears_exit (hint ∷ hints) k)
      (activated (look views (heard_by (hint ∷ hints) k)) (heard_by (hint ∷ hints) k))

  unfoldable pub knotes_alerted : Views → List Posted → List (Knote h) → List (Knote h)
  knotes_alerted views posted [] = []
  knotes_alerted views posted (k ∷ ks) =
      if_there (alerted views (hints_for k posted) k) ++ knotes_alerted views posted ks

  unfoldable pub queue_alerted : Views → List Hint → Knote h → List Key → List Key
  queue_alerted views [] k queue = queue
  queue_alerted views (hint ∷ hints) k queue = queue_with k.key (alerted views (hint ∷ hints) k) queue

  unfoldable pub queue_after_all : Views → List Posted → List (Knote h) → List Key → List Key
  queue_after_all views posted [] queue = queue
  queue_after_all views posted (k ∷ ks) queue =
      queue_after_all views posted ks (queue_alerted views (hints_for k posted) k queue)

  unfoldable pub notified : Views → List Posted → Kqueue h → Kqueue h
  notified views posted kq = record {
    knotes = knotes_alerted views posted kq.knotes;
    queue = queue_after_all views posted kq.knotes kq.queue;
  }

  -- ---- the clock

  abbrev pub expires_at : Knote h → ℕ → Bool
  expires_at k moment = is_timer k.key.filter && expires k.oneshot (ticking k) moment

  abbrev pub timers : Alarms (Knote h) Key
  timers = record {
    key = λ k. k.key;
    same = key_eq;
    enabled = λ k. k.enabled;
    expires = expires_at;
    rung = expired;
  }

  unfoldable pub clock_from : ℕ → ℕ → Kqueue h → Kqueue h
  clock_from from to kq = kqueue_of_waiting (walked timers from (to - from) (waiting_of kq))

  unfoldable pub clocked : Option Span → Kqueue h → Kqueue h
  clocked None kq = kq
  clocked (Some span) kq = clock_from span.from span.to kq

  -- ---- one kqueue at a moment

  unfoldable pub happened : ℕ → Moment → Kqueue h → Kqueue h
  happened owner m kq = clocked m.clock (notified m.views m.hints (closed owner m.closed kq))

  unfoldable pub called_at : ℕ → Moment → Call → Kqueue h → Called h
  called_at owner m c kq = call (caller_at owner m) c.room c.changes (happened owner m kq)

  unfoldable pub after_call : ℕ → ℕ → Moment → Option Call → Kqueue h → Kqueue h
  after_call kqueue owner m None kq = happened owner m kq
  after_call kqueue owner m (Some c) kq =
      if c.kqueue == kqueue then (called_at owner m c kq).kq else happened owner m kq

  unfoldable pub kqueue_step : ℕ → ℕ → Moment → Kqueue h → Kqueue h
  kqueue_step kqueue owner m kq = after_call kqueue owner m m.call kq

  -- ---- the system

  unfoldable pub stepped : Moment → Live h → Live h
  stepped m l = record l { kq = kqueue_step l.place l.owner m l.kq }

  unfoldable pub lived : Moment → List (Live h) → List (Live h)
  lived m live = map (stepped m) (filter (λ (l : Live h). not (has_pair l.owner l.number m.closed)) live)

  unfoldable pub answer : Moment → Call → List (Live h) → Reply
  answer m c [] = reply.Done
  answer m c (l ∷ ls) = if c.kqueue == l.place then (called_at l.owner m c l.kq).reply else answer m c ls

  unfoldable pub reply_to : Moment → Option Call → List (Live h) → Reply
  reply_to m None live = reply.Done
  reply_to m (Some c) live = answer m c live

-- ---- the plan of a fork tells no child

unfoldable pub plan_fork : ℕ → ℕ → World counted → Planned
plan_fork pid child w =
    if not (is_live pid w.processes) then Impossible NoProcess
    else if was_used child w.processes then Impossible UsedPid
    else Possible (record idle {
      opened = inherited pid child w.table;
      doings = hold_all (names_of (inherited pid child w.table));
      hints = noted pid fork_note ∷ [];
      started = Some (record { pid = child; ignores = ignored_by (process_of pid w.processes) });
    })

unfoldable pub plan : ℕ → Event → World counted → Planned
plan place (event.Fork pid child) w = plan_fork pid child w
plan place e w = plans.plan place e w

module _ {S A B C D : Type 0} {h : Hearing S} {k : Keeping A B C D} where
  unfoldable pub step_by : ℕ → Planned → System h k → Stepped h k
  step_by place (Impossible why) s = record { system = s; reply = reply.Impossible why; kqueue = None }
  step_by place (Possible p) s = record {
    system = record s {
      world = world.carried_out place p s.world;
      live = lived (moment_of s.version place p s.world) s.live ++ born place p.born;
    };
    reply = reply_to (moment_of s.version place p s.world) p.call s.live;
    kqueue = kqueue_of p.call;
  }

  unfoldable pub step : ℕ → Event → System h k → Stepped h k
  step place e s = step_by place (plan place e (seen_world s.world)) s

  unfoldable pub system_after : ℕ → System h k → List Event → System h k
  system_after place s [] = s
  system_after place s (e ∷ es) = system_after (place + 1) (step place e s).system es

-- ---- the fold of a trace

unfoldable pub rows_after : {S A B C D : Type 0} {h : Hearing S} {k : Keeping A B C D}
    → ℕ → System h k → List Event → List Row
rows_after place s [] = []
rows_after place s (e ∷ es) = row_of place (step place e s).reply ++ rows_after (place + 1) (step place e s).system es

unfoldable pub rows_by : {S A B C D : Type 0} (h : Hearing S) (k : Keeping A B C D) → ℕ → List Event → List Row
rows_by h k version events = rows_after 1 (empty_system {h = h} {k = k} version) events

unfoldable pub rows : ℕ → List Event → List Row
rows version events = rows_by listed objects.listed version events

-- the reply to a record at a place, after a system carried out these and no others
abbrev pub reply_after : List Event → ℕ → Event → Reply
reply_after events place e =
    (step place e (system_after 1 (empty_system {h = listed} {k = objects.listed} 1) events)).reply

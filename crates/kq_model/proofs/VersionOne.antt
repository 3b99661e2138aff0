-- On version 1 of the trace's format nothing has changed: the fold gives each trace the rows that it gave.
use Rattle.std.proofs.Common.{◌≡◌, ℕ, ◌+◌, Bool, true, false, cond, not, List, [], ◌∷◌, ◌++◌, length, map, filter, Some, None, refl, sym, ap, ap₂, ◌∙◌}
use Rattle.std.proofs.lemmas.List.Elements.{All-nil}
use Rattle.kq_model.specs.declared.event.Event.{Event}
use Rattle.kq_model.specs.declared.event.Event.TheVariants as event
use Rattle.kq_model.specs.declared.filter.Filter.{Filter}
use Rattle.kq_model.specs.declared.filter.Filter.TheVariants.{Read, Write, Vnode, Proc, Signal}
use Rattle.kq_model.specs.declared.object.Hint.TheVariants as hint
use Rattle.kq_model.specs.declared.object.Target.TheVariants as target
use Rattle.kq_model.specs.declared.reply.Reply.{Reply}
use Rattle.kq_model.specs.declared.reply.Reply.TheVariants as reply
use Rattle.kq_model.specs.declared.why.Why.TheVariants.{NoProcess, UsedPid}
use Rattle.kq_model.specs.Bits.{fork_note}
use Rattle.kq_model.specs.declared.key.Key.{Key}
use Rattle.kq_model.specs.Close.{closed, has_pair}
use Rattle.kq_model.specs.Hints.{takes, hints_for, if_there}
use Rattle.kq_model.specs.Hearing.{Hearing, listed}
use Rattle.kq_model.specs.Tallying.{Tally, tallying}
use Rattle.kq_model.specs.Knote.{Knote}
use Rattle.kq_model.specs.Kqueue.{Kqueue}
use Rattle.kq_model.specs.Moment.{Moment, moment_of}
use Rattle.kq_model.specs.Objects as objects
use Rattle.kq_model.specs.Objects.{Keeping}
use Rattle.kq_model.specs.Plans.{plan}
use Rattle.kq_model.specs.Processes.{was_used, is_live, process_of, ignored_by}
use Rattle.kq_model.specs.ProcessPlans.{inherited, names_of, hold_all, noted, forked, plan_fork}
use Rattle.kq_model.specs.Recast.{IsHearingMap}
use Rattle.kq_model.specs.Report.{report, report_of}
use Rattle.kq_model.specs.System.{Live, System, Stepped, empty_system, born, kqueue_of, step_by, step, row_of, rows_after, rows_by, rows, system_after}
use Rattle.kq_model.specs.Targets.{Posted, is_target}
use Rattle.kq_model.specs.VersionOne as one
use Rattle.kq_model.specs.World as world
use Rattle.kq_model.specs.Views.{Views}
use Rattle.kq_model.specs.World.{World, Call, Plan, Planned, Impossible, Possible, idle, seen_world}
use Rattle.kq_model.proofs.CountedObjects.{listed-counts}
use Rattle.kq_model.proofs.Quiet.{IsLiveQuiet, AreLiveQuiet, step_by-quiet}
use Rattle.kq_model.proofs.RecastSystem.{step-recast, system_after-recast, rows_by-recast, rows-tallied}
use Rattle.kq_model.proofs.RecastTally.{tally_of-map}
use Rattle.kq_model.proofs.VersionOneHearing.{one-map}
use Rattle.kq_model.proofs.VersionOneKqueues.{lived-one, reply_to-one}

-- ---- nobody takes the hint of a child

takes-child : (f : Filter) (child : ℕ) → takes f (hint.Child child) ≡ false
unfolding takes
takes-child Read child = refl
takes-child Write child = refl
takes-child Vnode child = refl
takes-child Proc child = refl
takes-child Signal child = refl
takes-child _ child = refl

-- of a fork a filter takes the note alone
untold : (f : Filter) (is_its : Bool) (pid note child : ℕ) →
    filter (takes f) (map (λ (p : Posted). p.1) (cond is_its ((target.Process pid, hint.Note note) ∷ cond is_its ((target.Process pid, hint.Child child) ∷ []) []) (cond is_its ((target.Process pid, hint.Child child) ∷ []) [])))
    ≡ filter (takes f) (map (λ (p : Posted). p.1) (cond is_its ((target.Process pid, hint.Note note) ∷ []) []))
untold f true pid note child =
    ap (λ b. cond (takes f (hint.Note note)) (hint.Note note ∷ cond b (hint.Child child ∷ []) []) (cond b (hint.Child child ∷ []) []))
    (takes-child f child)
untold f false pid note child = refl

-- each knote hears of these what it hears of those
abbrev AreHeardAlike : {S : Type 0} (h : Hearing S) → List Posted → List Posted → Type 0
AreHeardAlike h posted other = (k : Knote h) → hints_for k posted ≡ hints_for k other

module _ {S : Type 0} {h : Hearing S} where
  forked-untold : (pid child : ℕ) (k : Knote h) → hints_for k (forked pid child) ≡ hints_for k (noted pid fork_note ∷ [])
  forked-untold pid child k = untold k.key.filter (is_target k.target (target.Process pid)) pid fork_note child

  knotes-alike : (views : Views) (posted other : List Posted) → AreHeardAlike h posted other → (ks : List (Knote h))
      → one.knotes_alerted views posted ks ≡ one.knotes_alerted views other ks
  unfolding one.knotes_alerted
  knotes-alike views posted other alike [] = refl
  knotes-alike views posted other alike (k ∷ ks) =
      ap₂ (λ hints rest. if_there (one.alerted views hints k) ++ rest) (alike k) (knotes-alike views posted other alike ks)

  queue-alike : (views : Views) (posted other : List Posted) → AreHeardAlike h posted other → (ks : List (Knote h)) (queue : List Key)
      → one.queue_after_all views posted ks queue ≡ one.queue_after_all views other ks queue
  unfolding one.queue_after_all
  queue-alike views posted other alike [] queue = refl
  queue-alike views posted other alike (k ∷ ks) queue =
      queue-alike views posted other alike ks (one.queue_alerted views (hints_for k posted) k queue)
      ∙ ap (λ hints. one.queue_after_all views other ks (one.queue_alerted views hints k queue)) (alike k)

  notified-alike : (views : Views) (posted other : List Posted) → AreHeardAlike h posted other → (kq : Kqueue h)
      → one.notified views posted kq ≡ one.notified views other kq
  unfolding one.notified
  notified-alike views posted other alike kq =
      ap₂ (λ knotes queue. record { knotes = knotes; queue = queue }) (knotes-alike views posted other alike kq.knotes)
      (queue-alike views posted other alike kq.knotes kq.queue)

  -- a moment without a call, whose hints are heard alike
  stepped-alike : (m : Moment) (other : List Posted) → m.call ≡ None → AreHeardAlike h m.hints other → (ls : List (Live h))
      → map (one.stepped m) ls ≡ map (one.stepped (record m { hints = other })) ls
  unfolding one.stepped one.kqueue_step one.after_call one.happened
  stepped-alike m other none alike [] = refl
  stepped-alike m other none alike (l ∷ ls) =
      let n : Moment = record m { hints = other } in
      ap₂ (λ kq rest. record l { kq = kq } ∷ rest)
      (ap (λ c. one.after_call l.place l.owner m c l.kq) none
      ∙ ap (one.clocked m.clock) (notified-alike m.views m.hints other alike (closed l.owner m.closed l.kq))
      ∙ ap (λ c. one.after_call l.place l.owner n c l.kq) (sym none))
      (stepped-alike m other none alike ls)

  lived-alike : (m : Moment) (other : List Posted) → m.call ≡ None → AreHeardAlike h m.hints other → (ls : List (Live h))
      → one.lived m ls ≡ one.lived (record m { hints = other }) ls
  unfolding one.lived
  lived-alike m other none alike ls = stepped-alike m other none alike (filter (λ (l : Live h). not (has_pair l.owner l.number m.closed)) ls)

-- ---- steps

-- the plan of a fork, where there is one, and that which tells no child
abbrev fork_plan : ℕ → ℕ → List Posted → World objects.counted → Plan
fork_plan pid child hints w = record idle {
  opened = inherited pid child w.table;
  doings = hold_all (names_of (inherited pid child w.table));
  hints = hints;
  started = Some (record { pid = child; ignores = ignored_by (process_of pid w.processes) });
}

module _ {S A B C D : Type 0} {h : Hearing S} {k : Keeping A B C D} where
  step_by-one : (place : ℕ) (q : Planned) (s : System h k) → s.version ≡ 1 → AreLiveQuiet s.live → step_by place q s ≡ one.step_by place q s
  unfolding step_by one.step_by moment_of
  step_by-one place (Impossible why) s is quiet = refl
  step_by-one place (Possible p) s is quiet =
      let m = moment_of s.version place p s.world in
      ap₂ (λ left answered. record {
        system = record s { world = world.carried_out place p s.world; live = left ++ born place p.born };
        reply = answered;
        kqueue = kqueue_of p.call;
      }) (lived-one m s.live is quiet) (reply_to-one m p.call s.live is quiet)

  fork-alike : (place pid child : ℕ) (s : System h k) →
      one.step_by place (Possible (fork_plan pid child (forked pid child) (seen_world s.world))) s
      ≡ one.step_by place (Possible (fork_plan pid child (noted pid fork_note ∷ []) (seen_world s.world))) s
  unfolding one.step_by moment_of world.carried_out one.reply_to kqueue_of
  fork-alike place pid child s =
      let p = fork_plan pid child (forked pid child) (seen_world s.world) in
      let m = moment_of s.version place p s.world in
      ap (λ left. record {
        system = record s { world = world.carried_out place p s.world; live = left ++ born place None };
        reply = reply.Done;
        kqueue = None;
      }) (lived-alike m (noted pid fork_note ∷ []) refl (forked-untold pid child) s.live)

  either : (b : Bool) (place : ℕ) (x y z : Planned) (s : System h k) → one.step_by place y s ≡ one.step_by place z s
      → one.step_by place (cond b x y) s ≡ one.step_by place (cond b x z) s
  either true place x y z s same = refl
  either false place x y z s same = same

  plan-one : (place : ℕ) (e : Event) (s : System h k) → one.step_by place (plan place e (seen_world s.world)) s ≡ one.step_by place (one.plan place e (seen_world s.world)) s
  unfolding plan one.plan plan_fork one.plan_fork
  plan-one place (event.Fork pid child) s =
      let w = seen_world s.world in
      let told = Possible (fork_plan pid child (forked pid child) w) in
      let silent = Possible (fork_plan pid child (noted pid fork_note ∷ []) w) in
      either (not (is_live pid w.processes)) place (Impossible NoProcess) (cond (was_used child w.processes) (Impossible UsedPid) told)
      (cond (was_used child w.processes) (Impossible UsedPid) silent) s
      (either (was_used child w.processes) place (Impossible UsedPid) told silent s (fork-alike place pid child s))
  plan-one place _ s = refl

  step-one : (place : ℕ) (e : Event) (s : System h k) → s.version ≡ 1 → AreLiveQuiet s.live → step place e s ≡ one.step place e s
  unfolding step one.step
  step-one place e s is quiet = step_by-one place (plan place e (seen_world s.world)) s is quiet ∙ plan-one place e s

  version-kept : (place : ℕ) (q : Planned) (s : System h k) → (step_by place q s).system.version ≡ s.version
  unfolding step_by
  version-kept place (Impossible why) s = refl
  version-kept place (Possible p) s = refl

  rows_after-one : (place : ℕ) (s : System h k) (es : List Event) → s.version ≡ 1 → AreLiveQuiet s.live → rows_after place s es ≡ one.rows_after place s es
  unfolding rows_after one.rows_after step
  rows_after-one place s [] is quiet = refl
  rows_after-one place s (e ∷ es) is quiet =
      let q = plan place e (seen_world s.world) in
      ap (λ rest. row_of place (step place e s).reply ++ rest)
      (rows_after-one (place + 1) (step place e s).system es (version-kept place q s ∙ is) (step_by-quiet place q s is quiet))
      ∙ ap (λ (t : Stepped h k). row_of place t.reply ++ one.rows_after (place + 1) t.system es) (step-one place e s is quiet)

  system_after-one : (place : ℕ) (s : System h k) (es : List Event) → s.version ≡ 1 → AreLiveQuiet s.live
      → system_after place s es ≡ one.system_after place s es
  unfolding system_after one.system_after step
  system_after-one place s [] is quiet = refl
  system_after-one place s (e ∷ es) is quiet =
      let q = plan place e (seen_world s.world) in
      system_after-one (place + 1) (step place e s).system es (version-kept place q s ∙ is) (step_by-quiet place q s is quiet)
      ∙ ap (λ (t : Stepped h k). one.system_after (place + 1) t.system es) (step-one place e s is quiet)

  reached-one : (place : ℕ) (s : System h k) (es : List Event) → s.version ≡ 1 → AreLiveQuiet s.live → (at : ℕ) (e : Event)
      → step at e (system_after place s es) ≡ one.step at e (system_after place s es)
  unfolding system_after step
  reached-one place s [] is quiet at e = step-one at e s is quiet
  reached-one place s (e ∷ es) is quiet at last =
      let q = plan place e (seen_world s.world) in
      reached-one (place + 1) (step place e s).system es (version-kept place q s ∙ is) (step_by-quiet place q s is quiet) at last

-- The law: of a trace the systems that it leaves are the same, however what was heard and the objects are kept, and each
-- record does the same with them.
module _ {S A B C D : Type 0} (h : Hearing S) (k : Keeping A B C D) where
  abbrev opening : System h k
  opening = empty_system 1

  pub system-version_one : (events : List Event) → system_after 1 opening events ≡ one.system_after 1 opening events
  system-version_one events = system_after-one 1 opening events refl (All-nil IsLiveQuiet)

  pub step-version_one : (events : List Event) (place : ℕ) (e : Event)
      → step place e (system_after 1 opening events) ≡ one.step place e (system_after 1 opening events)
  step-version_one events place e = reached-one 1 opening events refl (All-nil IsLiveQuiet) place e

-- Each record is answered the same, and the rows are the same, as where all that was heard is kept and asked for as it
-- was then.
abbrev Answered : {S A B C D : Type 0} → Hearing S → Keeping A B C D → List Event → ℕ → Event → Reply
Answered h k events place e = (step place e (system_after 1 (empty_system {h = h} {k = k} 1) events)).reply

answered-tallied : {S : Type 0} {h : Hearing S} {f : Filter → S → Tally} → IsHearingMap h tallying f
    → (events : List Event) (place : ℕ) (e : Event)
    → Answered h objects.listed events place e ≡ Answered tallying objects.counted events place e
answered-tallied {h = h} is events place e =
    let left = system_after 1 (empty_system {h = h} {k = objects.listed} 1) events in
    ap (λ t. t.reply) (sym (step-recast is listed-counts place e left))
    ∙ ap (λ s. (step place e s).reply) (sym (system_after-recast is listed-counts 1 (empty_system 1) events))

pub answer-version_one : (events : List Event) (place : ℕ) (e : Event)
    → (step place e (system_after 1 (empty_system {h = listed} {k = objects.listed} 1) events)).reply
    ≡ one.reply_after events place e
answer-version_one events place e =
    answered-tallied tally_of-map events place e
    ∙ sym (answered-tallied one-map events place e)
    ∙ ap (λ t. t.reply) (step-version_one one.listed objects.listed events place e)
    ∙ ap (λ s. (one.step place e s).reply) (system-version_one one.listed objects.listed events)

pub rows-version_one : (events : List Event) → rows 1 events ≡ one.rows 1 events
unfolding one.rows rows_by one.rows_by
rows-version_one events =
    rows-tallied 1 events
    ∙ sym (rows_by-recast one-map listed-counts 1 events)
    ∙ rows_after-one 1 (empty_system {h = one.listed} {k = objects.listed} 1) events refl (All-nil IsLiveQuiet)

-- and so is the report
pub report-version_one : (events : List Event) → report_of 1 events ≡ report (one.rows 1 events) (length events)
unfolding report_of
report-version_one events = ap (λ rs. report rs (length events)) (rows-version_one events)

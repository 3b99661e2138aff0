-- On version 1 a moment does to a kqueue what it did before there was a version 2.
use Rattle.std.proofs.Common.{◌≡◌, ℕ, zero, suc, ◌+◌, ◌-◌, ◌==◌, ◌&&◌, ◌||◌, Bool, true, false, cond, not, eqb, ltb, List, [], ◌∷◌, ◌++◌, length, map, filter, Option, Some, None, refl, sym, ap, ap₂, ◌∙◌, subst, arith}
use Rattle.std.specs.Option.{is_none}
use Rattle.std.proofs.lemmas.List.Elements.{All-head, All-tail, All-filter}
use Rattle.kq_model.specs.declared.change.Change.{Change}
use Rattle.kq_model.specs.declared.kevent.Kevent.{Kevent}
use Rattle.kq_model.specs.declared.object.Hint.{Hint}
use Rattle.kq_model.specs.declared.reply.Reply.{Reply}
use Rattle.kq_model.specs.Call.{Processed, Called, entry_of, is_answered, ended, after, process, returned, by_entries, by_answer, concluded, call}
use Rattle.kq_model.specs.Caller.{Caller}
use Rattle.kq_model.specs.ChangedKnote.{activated}
use Rattle.kq_model.specs.declared.key.Key.{Key}
use Rattle.kq_model.specs.Clock.{Span, ticking, expires_at, expired, timers, waiting_of, kqueue_of_waiting, clock_from, clocked}
use Rattle.kq_model.specs.Close.{closed, has_pair}
use Rattle.kq_model.specs.Hints.{hints_for, heard_by, hears_exit, unless_silent, alerted, if_there, knotes_alerted, queue_with, queue_alerted, queue_after_all, notified}
use Rattle.kq_model.specs.Hearing.{Hearing}
use Rattle.kq_model.specs.Knote.{Knote, find_knote, is_timer}
use Rattle.kq_model.specs.Kqueue.{Kqueue}
use Rattle.kq_model.specs.Moment.{Moment, caller_at, happened, called_at, after_call, kqueue_step}
use Rattle.kq_model.specs.Look.{Seen, look}
use Rattle.kq_model.specs.Retrieval.{Retrieved, Turned, event_of, settled, turned_at_look, turned_at, turned, delivered, after_turn, retrieve, retrieval}
use Rattle.kq_model.specs.Registration.{Registered, register}
use Rattle.kq_model.specs.System.{Live, stepped, lived, answer, reply_to}
use Rattle.kq_model.specs.Targets.{Posted}
use Rattle.kq_model.specs.TimerWalk.{Waiting, is_fresh, rung_at, queue_at, moment_step, walked}
use Rattle.kq_model.specs.VersionOne as one
use Rattle.kq_model.specs.Views.{Views}
use Rattle.kq_model.specs.World.{Call}
use Rattle.kq_model.proofs.Quiet.{Is, Are, IfQuiet, IsLiveQuiet, AreLiveQuiet, find_knote-quiet, activated-quiet, register-quiet, turned-quiet, process-quiet, closed-quiet, heard_by-quiet, happened-quiet, followed-none}
use Rattle.kq_model.proofs.VersionOneChanges.{tick-one, look-one, register-one}

module _ {S : Type 0} {h : Hearing S} where
  -- ---- the retrieval

  turned_at_look-one : (views : Views) (k : Knote h) (kq : Kqueue h) (seen : Option Seen) → Is k → turned_at_look views k kq seen ≡ one.turned_at_look k kq seen
  unfolding turned_at_look one.turned_at_look settled
  turned_at_look-one views k kq None quiet = refl
  turned_at_look-one views k kq (Some seen) quiet = ap (λ n. shown (settled views k kq n)) quiet
    where
      shown : Kqueue h → Turned h
      shown left = record { kq = left; event = Some (event_of k seen) }

  turned_at-one : (views : Views) (kq : Kqueue h) (found : Option (Knote h)) → IfQuiet found → turned_at views kq found ≡ one.turned_at views kq found
  unfolding turned_at one.turned_at
  turned_at-one views kq None quiet = refl
  turned_at-one views kq (Some k) quiet =
      turned_at_look-one views k kq (look views k) quiet ∙ ap (one.turned_at_look k kq) (look-one views k quiet)

  turned-one : (views : Views) (key : Key) (kq : Kqueue h) → Are kq.knotes → turned views key kq ≡ one.turned views key kq
  unfolding turned one.turned
  turned-one views key kq quiet = turned_at-one views kq (find_knote key kq.knotes) (find_knote-quiet key kq.knotes quiet)

  after_turn-same : (rest other : ℕ → Kqueue h → Retrieved h) → ((room : ℕ) (kq : Kqueue h) → Are kq.knotes → rest room kq ≡ other room kq)
      → (room : ℕ) (kq : Kqueue h) (event : Option Kevent) → Are kq.knotes → after_turn rest room kq event ≡ after_turn other room kq event
  unfolding after_turn
  after_turn-same rest other same room kq None quiet = same (suc room) kq quiet
  after_turn-same rest other same room kq (Some event) quiet = ap (delivered event) (same room kq quiet)

  retrieve-one : (views : Views) (keys : List Key) (room : ℕ) (kq : Kqueue h) → Are kq.knotes → retrieve views keys room kq ≡ one.retrieve views keys room kq
  unfolding retrieve one.retrieve
  retrieve-one views [] room kq quiet = refl
  retrieve-one views (key ∷ keys) zero kq quiet = refl
  retrieve-one views (key ∷ keys) (suc room) kq quiet =
      after_turn-same (retrieve views keys) (one.retrieve views keys) (retrieve-one views keys) room (turned views key kq).kq (turned views key kq).event
      (turned-quiet views key kq quiet)
      ∙ ap (λ (t : Turned h). after_turn (one.retrieve views keys) room t.kq t.event) (turned-one views key kq quiet)

  retrieval-one : (views : Views) (room : ℕ) (kq : Kqueue h) → Are kq.knotes → retrieval views room kq ≡ one.retrieval views room kq
  unfolding retrieval one.retrieval
  retrieval-one views room kq quiet = retrieve-one views kq.queue room (record kq { queue = [] }) quiet

  -- ---- a call

  by_entries-one : (views : Views) (room : ℕ) (placed : List Kevent) (kq : Kqueue h) → Are kq.knotes → by_entries views room placed kq ≡ one.by_entries views room placed kq
  unfolding by_entries one.by_entries
  by_entries-one views room [] kq quiet = ap returned (retrieval-one views room kq quiet)
  by_entries-one views room (entry ∷ entries) kq quiet = refl

  by_answer-one : (views : Views) (room : ℕ) (p : Processed h) (answer : Option Reply) → Are p.kq.knotes → by_answer views room p answer ≡ one.by_answer views room p answer
  unfolding by_answer one.by_answer
  by_answer-one views room p None quiet = by_entries-one views room p.placed p.kq quiet
  by_answer-one views room p (Some answer) quiet = refl

  concluded-one : (views : Views) (room : ℕ) (p : Processed h) → Are p.kq.knotes → concluded views room p ≡ one.concluded views room p
  unfolding concluded one.concluded
  concluded-one views room p quiet = by_answer-one views room p p.answer quiet

  after-same : (rest other : List Kevent → Kqueue h → Processed h) → ((placed : List Kevent) (kq : Kqueue h) → Are kq.knotes → rest placed kq ≡ other placed kq)
      → (room : ℕ) (c : Change) (placed : List Kevent) (r : Registered h) → Are r.kq.knotes → after rest room c placed r ≡ after other room c placed r
  unfolding after
  after-same rest other same room c placed r quiet =
      let stopped : Processed h = record { kq = r.kq; placed = placed; answer = Some (ended r.error placed) } in
      ap₂ (λ further later. cond (is_answered c r.error) (cond (ltb (length placed) room) further stopped) later)
      (same (placed ++ entry_of c r.error ∷ []) r.kq quiet) (same placed r.kq quiet)

  process-one : (caller : Caller) (room : ℕ) (cs : List Change) (placed : List Kevent) (kq : Kqueue h) → caller.version ≡ 1 → Are kq.knotes
      → process caller room cs placed kq ≡ one.process caller room cs placed kq
  unfolding process one.process
  process-one caller room [] placed kq is quiet = refl
  process-one caller room (c ∷ cs) placed kq is quiet =
      after-same (process caller room cs) (one.process caller room cs) (λ later left still. process-one caller room cs later left is still) room c placed
      (register caller c kq) (register-quiet caller c kq quiet)
      ∙ ap (after (one.process caller room cs) room c placed) (register-one caller c kq is quiet)

  call-one : (caller : Caller) (room : ℕ) (cs : List Change) (kq : Kqueue h) → caller.version ≡ 1 → Are kq.knotes
      → call caller room cs kq ≡ one.call caller room cs kq
  unfolding call one.call
  call-one caller room cs kq is quiet =
      concluded-one caller.views room (process caller room cs [] kq) (process-quiet caller room cs [] kq quiet)
      ∙ ap (one.concluded caller.views room) (process-one caller room cs [] kq is quiet)

  -- ---- the hints

  unless_silent-one : (exits : Bool) (k : Knote h) → Is k → unless_silent exits k ≡ one.unless_silent exits k
  unfolding unless_silent one.unless_silent
  unless_silent-one false k quiet = refl
  unless_silent-one true k quiet = ap (λ n. cond (is_none n && h.is_empty k.seen) None (Some (record k { oneshot = true }))) quiet

  alerted-one : (views : Views) (hints : List Hint) (k : Knote h) → Is k → alerted views hints k ≡ one.alerted views hints k
  unfolding alerted one.alerted
  alerted-one views [] k quiet = refl
  alerted-one views (hint ∷ hints) k quiet =
      let exits = hears_exit (hint ∷ hints) k in
      let heard = heard_by (hint ∷ hints) k in
      let still = heard_by-quiet (hint ∷ hints) k quiet in
      unless_silent-one exits (activated (look views heard) heard) (activated-quiet (look views heard) heard still)
      ∙ ap (λ seen. one.unless_silent exits (activated seen heard)) (look-one views heard still)

  knotes_alerted-one : (views : Views) (posted : List Posted) (ks : List (Knote h)) → Are ks → knotes_alerted views posted ks ≡ one.knotes_alerted views posted ks
  unfolding knotes_alerted one.knotes_alerted
  knotes_alerted-one views posted [] quiet = refl
  knotes_alerted-one views posted (k ∷ ks) quiet =
      ap₂ (λ found rest. if_there found ++ rest) (alerted-one views (hints_for k posted) k (All-head Is k ks quiet))
      (knotes_alerted-one views posted ks (All-tail Is k ks quiet))

  queue_alerted-one : (views : Views) (hints : List Hint) (k : Knote h) (queue : List Key) → Is k → queue_alerted views hints k queue ≡ one.queue_alerted views hints k queue
  unfolding queue_alerted one.queue_alerted
  queue_alerted-one views [] k queue quiet = refl
  queue_alerted-one views (hint ∷ hints) k queue quiet = ap (λ n. queue_with k.key n queue) (alerted-one views (hint ∷ hints) k quiet)

  queue_after_all-one : (views : Views) (posted : List Posted) (ks : List (Knote h)) (queue : List Key) → Are ks
      → queue_after_all views posted ks queue ≡ one.queue_after_all views posted ks queue
  unfolding queue_after_all one.queue_after_all
  queue_after_all-one views posted [] queue quiet = refl
  queue_after_all-one views posted (k ∷ ks) queue quiet =
      queue_after_all-one views posted ks (queue_alerted views (hints_for k posted) k queue) (All-tail Is k ks quiet)
      ∙ ap (one.queue_after_all views posted ks) (queue_alerted-one views (hints_for k posted) k queue (All-head Is k ks quiet))

  abbrev pub kqueue : List (Knote h) → List Key → Kqueue h
  kqueue knotes queue = record { knotes = knotes; queue = queue }

  notified-one : (views : Views) (posted : List Posted) (kq : Kqueue h) → Are kq.knotes → notified views posted kq ≡ one.notified views posted kq
  unfolding notified one.notified
  notified-one views posted kq quiet =
      ap₂ kqueue (knotes_alerted-one views posted kq.knotes quiet) (queue_after_all-one views posted kq.knotes kq.queue quiet)

  -- ---- the clock

  expires-one : (k : Knote h) (m : ℕ) → expires_at k (suc m) ≡ one.expires_at k (suc m)
  expires-one k m =
      ap (λ b. is_timer k.key.filter && (b && (not k.oneshot || (suc m == k.start + k.period)))) (tick-one (ticking k) m)

  rung-one : (m : ℕ) (ks : List (Knote h)) → map (rung_at timers (suc m)) ks ≡ map (rung_at one.timers (suc m)) ks
  rung-one m [] = refl
  rung-one m (k ∷ ks) = ap₂ (λ b rest. cond b (expired k) k ∷ rest) (expires-one k m) (rung-one m ks)

  queue-one : (m : ℕ) (ks : List (Knote h)) (queue : List Key) → queue_at timers (suc m) ks queue ≡ queue_at one.timers (suc m) ks queue
  unfolding queue_at
  queue-one m [] queue = refl
  queue-one m (k ∷ ks) queue =
      ap (λ b. queue_at timers (suc m) ks (cond (b && is_fresh timers queue k) (queue ++ k.key ∷ []) queue)) (expires-one k m)
      ∙ queue-one m ks _

  moment-one : (m : ℕ) (w : Waiting (Knote h) Key) → moment_step timers (suc m) w ≡ moment_step one.timers (suc m) w
  moment-one m w = ap₂ (λ items queue. record { items = items; queue = queue }) (rung-one m w.items) (queue-one m w.items w.queue)

  walked-one : (from n : ℕ) (w : Waiting (Knote h) Key) → walked timers from n w ≡ walked one.timers from n w
  unfolding walked
  walked-one from zero w = refl
  walked-one from (suc n) w =
      let later : from + suc n ≡ suc (from + n) = omega arith in
      ap (moment_step timers (from + suc n)) (walked-one from n w)
      ∙ subst (λ (m : ℕ). moment_step timers m (walked one.timers from n w) ≡ moment_step one.timers m (walked one.timers from n w)) (sym later)
      (moment-one (from + n) (walked one.timers from n w))

  clocked-one : (span : Option Span) (kq : Kqueue h) → clocked span kq ≡ one.clocked span kq
  unfolding clocked one.clocked clock_from one.clock_from
  clocked-one None kq = refl
  clocked-one (Some span) kq = ap kqueue_of_waiting (walked-one span.from (span.to - span.from) (waiting_of kq))

  happened-one : (owner : ℕ) (m : Moment) (kq : Kqueue h) → m.version ≡ 1 → Are kq.knotes → happened owner m kq ≡ one.happened owner m kq
  unfolding happened one.happened
  happened-one owner m kq is quiet =
      let left = closed owner m.closed kq in
      ap (clocked m.clock) (followed-none m.version m.hints (notified m.views m.hints left) is)
      ∙ ap (clocked m.clock) (notified-one m.views m.hints left (closed-quiet owner m.closed kq quiet))
      ∙ clocked-one m.clock (one.notified m.views m.hints left)

  -- ---- one kqueue at a moment

  called_at-one : (owner : ℕ) (m : Moment) (c : Call) (kq : Kqueue h) → m.version ≡ 1 → Are kq.knotes → called_at owner m c kq ≡ one.called_at owner m c kq
  unfolding called_at one.called_at
  called_at-one owner m c kq is quiet =
      call-one (caller_at owner m) c.room c.changes (happened owner m kq) is (happened-quiet owner m kq is quiet)
      ∙ ap (one.call (caller_at owner m) c.room c.changes) (happened-one owner m kq is quiet)

  after_call-one : (kqueue owner : ℕ) (m : Moment) (c : Option Call) (kq : Kqueue h) → m.version ≡ 1 → Are kq.knotes
      → after_call kqueue owner m c kq ≡ one.after_call kqueue owner m c kq
  unfolding after_call one.after_call
  after_call-one kqueue owner m None kq is quiet = happened-one owner m kq is quiet
  after_call-one kqueue owner m (Some c) kq is quiet =
      ap₂ (λ (r : Called h) q. cond (eqb c.kqueue kqueue) r.kq q) (called_at-one owner m c kq is quiet) (happened-one owner m kq is quiet)

  kqueue_step-one : (kqueue owner : ℕ) (m : Moment) (kq : Kqueue h) → m.version ≡ 1 → Are kq.knotes
      → kqueue_step kqueue owner m kq ≡ one.kqueue_step kqueue owner m kq
  unfolding kqueue_step one.kqueue_step
  kqueue_step-one kqueue owner m kq is quiet = after_call-one kqueue owner m m.call kq is quiet

  -- ---- all of them

  stepped-one : (m : Moment) (ls : List (Live h)) → m.version ≡ 1 → AreLiveQuiet ls → map (stepped m) ls ≡ map (one.stepped m) ls
  unfolding stepped one.stepped
  stepped-one m [] is quiet = refl
  stepped-one m (l ∷ ls) is quiet =
      ap₂ (λ kq rest. record l { kq = kq } ∷ rest) (kqueue_step-one l.place l.owner m l.kq is (All-head IsLiveQuiet l ls quiet))
      (stepped-one m ls is (All-tail IsLiveQuiet l ls quiet))

  pub lived-one : (m : Moment) (ls : List (Live h)) → m.version ≡ 1 → AreLiveQuiet ls → lived m ls ≡ one.lived m ls
  unfolding lived one.lived
  lived-one m ls is quiet =
      let stays : Live h → Bool = λ (l : Live h). not (has_pair l.owner l.number m.closed) in
      stepped-one m (filter stays ls) is (All-filter stays IsLiveQuiet ls quiet)

  answer-one : (m : Moment) (c : Call) (ls : List (Live h)) → m.version ≡ 1 → AreLiveQuiet ls → answer m c ls ≡ one.answer m c ls
  unfolding answer one.answer
  answer-one m c [] is quiet = refl
  answer-one m c (l ∷ ls) is quiet =
      ap₂ (λ (r : Called h) rest. cond (eqb c.kqueue l.place) r.reply rest) (called_at-one l.owner m c l.kq is (All-head IsLiveQuiet l ls quiet))
      (answer-one m c ls is (All-tail IsLiveQuiet l ls quiet))

  pub reply_to-one : (m : Moment) (c : Option Call) (ls : List (Live h)) → m.version ≡ 1 → AreLiveQuiet ls → reply_to m c ls ≡ one.reply_to m c ls
  unfolding reply_to one.reply_to
  reply_to-one m None ls is quiet = refl
  reply_to-one m (Some c) ls is quiet = answer-one m c ls is quiet

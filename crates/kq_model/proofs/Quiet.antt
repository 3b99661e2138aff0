-- On version 1 of the trace's format no knote has a notice: every operation on one kqueue keeps that, and so does each
-- step of the system.
use Rattle.std.proofs.Common.{◌≡◌, refl, sym, ap, subst, ℕ, zero, suc, ◌+◌, ◌-◌, ◌==◌, Bool, true, false, cond, not, ◌||◌, ltb, length, List, [], ◌∷◌, ◌++◌, map, filter, Option, Some, None}
use Rattle.std.proofs.lemmas.Bool.{cond_both}
use Rattle.std.specs.List.{All}
use Rattle.std.proofs.lemmas.List.Elements.{All-nil, All-cons, All-head, All-tail, All-append, All-filter}
use Rattle.kq_model.specs.declared.change.Change.{Change}
use Rattle.kq_model.specs.declared.errno.Errno.{Errno}
use Rattle.kq_model.specs.declared.filter.Filter.{Filter}
use Rattle.kq_model.specs.declared.filter.Filter.TheVariants.{Timer, User}
use Rattle.kq_model.specs.declared.kevent.Kevent.{Kevent}
use Rattle.kq_model.specs.declared.key.Key.{Key}
use Rattle.kq_model.specs.declared.object.Hint.{Hint}
use Rattle.kq_model.specs.declared.reply.Reply.{Reply}
use Rattle.kq_model.specs.Bits.{asks, add, delete}
use Rattle.kq_model.specs.Call.{Processed, entry_of, is_answered, after, process, returned, by_entries, by_answer, concluded, call}
use Rattle.kq_model.specs.Caller.{Caller}
use Rattle.kq_model.specs.ChangedKnote.{key_of, fresh, started, begun, replaced, restarted, changed, switched, activated, attended, made, modified}
use Rattle.kq_model.specs.Clock.{Span, timers, expires_at, expired, waiting_of, clock_from, clocked}
use Rattle.kq_model.specs.Close.{Pair, is_closed, closed, has_pair}
use Rattle.kq_model.specs.Following.{followed_each, followed}
use Rattle.kq_model.specs.Hearing.{Hearing}
use Rattle.kq_model.specs.Hints.{kept, hints_for, added, heard_by, hears_exit, unless_silent, alerted, if_there, knotes_alerted, notified}
use Rattle.kq_model.specs.Knote.{Knote, has_nothing, key_eq, find_knote, with_knote, without_knote}
use Rattle.kq_model.specs.Kqueue.{Kqueue, empty_kqueue}
use Rattle.kq_model.specs.Look.{Seen, look}
use Rattle.kq_model.specs.Moment.{Moment, moment_of, caller_at, happened, called_at, after_call, kqueue_step}
use Rattle.kq_model.specs.Objects.{Keeping}
use Rattle.kq_model.specs.Refusals.{is_malformed, is_unopened, own_refusal}
use Rattle.kq_model.specs.Registration.{Decision, Refuse, Remove, Make, Modify, Registered, unless_refused, decided, decision, carried_out, register}
use Rattle.kq_model.specs.Retrieval.{Retrieved, reset, rested, knotes_after, without_notice, with_notice_told, settled, turned_at_look, turned_at, turned, delivered, after_turn, retrieve, retrieval}
use Rattle.kq_model.specs.System.{Live, System, stepped, lived, born, step_by}
use Rattle.kq_model.specs.Targets.{Posted}
use Rattle.kq_model.specs.TimerWalk.{Waiting, rung_at, walked}
use Rattle.kq_model.specs.Views.{Views}
use Rattle.kq_model.specs.World.{Call, Planned, Impossible, Possible}

module _ {S : Type 0} {h : Hearing S} where
  abbrev pub Is : Knote h → Type 0
  Is k = k.notice ≡ None

  abbrev pub Are : List (Knote h) → Type 0
  Are ks = All Is ks

  -- ---- lists of knotes

  with_knote-quiet : (k : Knote h) (ks : List (Knote h)) → Is k → Are ks → Are (with_knote k ks)
  with_knote-quiet k [] has all = All-nil Is
  with_knote-quiet k (x ∷ ks) has all =
      All-cons Is (cond (key_eq k.key x.key) k x) (with_knote k ks)
      (cond_both (key_eq k.key x.key) k x Is (λ _. has) (λ _. All-head Is x ks all))
      (with_knote-quiet k ks has (All-tail Is x ks all))

  without_knote-quiet : (key : Key) (ks : List (Knote h)) → Are ks → Are (without_knote key ks)
  without_knote-quiet key ks all = All-filter (λ k. not (key_eq key k.key)) Is ks all

  filter-quiet : (test : Knote h → Bool) (ks : List (Knote h)) → Are ks → Are (filter test ks)
  filter-quiet test ks all = All-filter test Is ks all

  -- what is found
  abbrev pub IfQuiet : Option (Knote h) → Type 0
  IfQuiet None = Unit {0}
  IfQuiet (Some k) = Is k

  pub find_knote-quiet : (key : Key) (ks : List (Knote h)) → Are ks → IfQuiet (find_knote key ks)
  unfolding find_knote
  find_knote-quiet key [] all = tt
  find_knote-quiet key (k ∷ ks) all =
      cond_both (key_eq key k.key) (Some k) (find_knote key ks) IfQuiet
      (λ _. All-head Is k ks all) (λ _. find_knote-quiet key ks (All-tail Is k ks all))

  -- ---- one knote

  pub activated-quiet : (seen : Option Seen) (k : Knote h) → Is k → Is (activated seen k)
  unfolding activated
  activated-quiet None k has = has
  activated-quiet (Some seen) k has = has

  attended-quiet : (views : Views) (k : Knote h) → Is k → Is (attended views k)
  unfolding attended
  attended-quiet views k has =
      cond_both k.enabled (activated (look views k) k) k Is (λ _. activated-quiet (look views k) k has) (λ _. has)

  pub begun-quiet : (filter : Filter) (caller : Caller) (c : Change) (k : Knote h) → Is k → Is (begun filter caller c k)
  unfolding begun started
  begun-quiet Timer caller c k has = has
  begun-quiet User caller c k has = has
  begun-quiet _ caller c k has = has

  pub replaced-quiet : (c : Change) (k : Knote h) → Is k → Is (replaced c k)
  unfolding replaced
  replaced-quiet c k has = cond_both (asks c.flags add) _ _ Is (λ _. has) (λ _. has)

  pub restarted-quiet : (filter : Filter) (caller : Caller) (c : Change) (k : Knote h) → Is k → Is (restarted filter caller c k)
  unfolding restarted started
  restarted-quiet Timer caller c k has = cond_both (asks c.flags add) _ _ Is (λ _. has) (λ _. has)
  restarted-quiet _ caller c k has = has

  pub changed-quiet : (filter : Filter) (c : Change) (k : Knote h) → Is k → Is (changed filter c k)
  unfolding changed
  changed-quiet User c k has = has
  changed-quiet _ c k has = has

  pub switched-quiet : (c : Change) (k : Knote h) → Is k → Is (switched c k)
  unfolding switched
  switched-quiet c k has = has

  modified-quiet : (caller : Caller) (c : Change) (k : Knote h) → Is k → Is (modified caller c k)
  unfolding modified
  modified-quiet caller c k has =
      attended-quiet caller.views _ (switched-quiet c _ (changed-quiet c.filter c _
      (restarted-quiet c.filter caller c _ (replaced-quiet c k has))))

pub fresh-quiet : {S : Type 0} (h : Hearing S) (caller : Caller) (c : Change) → Is (fresh {h = h} caller c)
unfolding fresh
fresh-quiet h caller c = refl

made-quiet : {S : Type 0} (h : Hearing S) (caller : Caller) (c : Change) → Is (made {h = h} caller c)
unfolding made
made-quiet h caller c =
    attended-quiet caller.views (begun {h = h} c.filter caller c (fresh {h = h} caller c))
    (begun-quiet c.filter caller c (fresh {h = h} caller c) (fresh-quiet h caller c))

module _ {S : Type 0} {h : Hearing S} where
  -- ---- a registration

  -- a decision to modify is about a knote with such a subject
  abbrev pub Decides : Decision h → Type 0
  Decides (Refuse e) = Unit {0}
  Decides Remove = Unit {0}
  Decides Make = Unit {0}
  Decides (Modify k) = Is k

  unless_refused-quiet : (e : Option Errno) (d : Decision h) → Decides d → Decides (unless_refused e d)
  unfolding unless_refused
  unless_refused-quiet None d fine = fine
  unless_refused-quiet (Some e) d fine = tt

  decided-quiet : (caller : Caller) (present : Option (Knote h)) (c : Change) → IfQuiet present → Decides (decided caller present c)
  unfolding decided
  decided-quiet caller None c has =
      cond_both (asks c.flags add) _ _ Decides (λ _. unless_refused-quiet (own_refusal c.filter caller true c) Make tt) (λ _. tt)
  decided-quiet caller (Some k) c has =
      cond_both (asks c.flags delete) _ _ Decides (λ _. tt)
      (λ _. cond_both (asks c.flags add) _ _ Decides (λ _. unless_refused-quiet (own_refusal c.filter caller false c) (Modify k) has) (λ _. has))

  pub decision-quiet : (caller : Caller) (present : Option (Knote h)) (c : Change) → IfQuiet present → Decides (decision caller present c)
  unfolding decision
  decision-quiet caller present c has =
      cond_both (is_malformed c) _ _ Decides (λ _. tt)
      (λ _. cond_both (is_unopened caller c) _ _ Decides (λ _. tt) (λ _. decided-quiet caller present c has))

  carried_out-quiet : (caller : Caller) (c : Change) (kq : Kqueue h) (d : Decision h) → Are kq.knotes → Decides d → Are (carried_out caller c kq d).kq.knotes
  unfolding carried_out
  carried_out-quiet caller c kq (Refuse e) all fine = all
  carried_out-quiet caller c kq Remove all fine = without_knote-quiet (key_of c) kq.knotes all
  carried_out-quiet caller c kq Make all fine =
      All-append Is kq.knotes (made caller c ∷ []) all (All-cons Is (made caller c) [] (made-quiet h caller c) (All-nil Is))
  carried_out-quiet caller c kq (Modify k) all fine =
      with_knote-quiet (modified caller c k) kq.knotes (modified-quiet caller c k fine) all

  pub register-quiet : (caller : Caller) (c : Change) (kq : Kqueue h) → Are kq.knotes → Are (register caller c kq).kq.knotes
  unfolding register
  register-quiet caller c kq all =
      carried_out-quiet caller c kq (decision caller (find_knote (key_of c) kq.knotes) c) all
      (decision-quiet caller (find_knote (key_of c) kq.knotes) c (find_knote-quiet (key_of c) kq.knotes all))

  -- ---- a retrieval

  reset-quiet : (k : Knote h) → Is k → Is (reset k)
  unfolding reset
  reset-quiet k has = cond_both k.clear _ _ Is (λ _. has) (λ _. has)

  rested-quiet : (k : Knote h) → Is k → Is (rested k)
  unfolding rested
  rested-quiet k has = reset-quiet k has

  knotes_after-quiet : (k : Knote h) (ks : List (Knote h)) → Is k → Are ks → Are (knotes_after k ks)
  unfolding knotes_after
  knotes_after-quiet k ks has all =
      cond_both k.oneshot _ _ Are (λ _. without_knote-quiet k.key ks all)
      (λ _. cond_both (k.clear || k.dispatch) _ _ Are (λ _. with_knote-quiet (rested k) ks (rested-quiet k has) all) (λ _. all))

  with_told-quiet : (k : Knote h) (kq : Kqueue h) (seen : Option Seen) → Is k → Are kq.knotes → Are (with_notice_told k kq seen).knotes
  unfolding with_notice_told
  with_told-quiet k kq None has all = with_knote-quiet (record k { active = false }) kq.knotes has all
  with_told-quiet k kq (Some seen) has all = with_knote-quiet k kq.knotes has all

  settled-quiet : (views : Views) (k : Knote h) (kq : Kqueue h) (notice : Option ℕ) → Is k → Are kq.knotes → Are (settled views k kq notice).knotes
  unfolding settled
  settled-quiet views k kq None has all = knotes_after-quiet k kq.knotes has all
  settled-quiet views k kq (Some parent) has all = with_told-quiet (without_notice k) kq (look views (without_notice k)) refl all

  turned_at_look-quiet : (views : Views) (k : Knote h) (kq : Kqueue h) (seen : Option Seen) → Is k → Are kq.knotes → Are (turned_at_look views k kq seen).kq.knotes
  unfolding turned_at_look
  turned_at_look-quiet views k kq None has all = with_knote-quiet (record k { active = false }) kq.knotes has all
  turned_at_look-quiet views k kq (Some seen) has all = settled-quiet views k kq k.notice has all

  turned_at-quiet : (views : Views) (kq : Kqueue h) (found : Option (Knote h)) → IfQuiet found → Are kq.knotes → Are (turned_at views kq found).kq.knotes
  unfolding turned_at
  turned_at-quiet views kq None has all = all
  turned_at-quiet views kq (Some k) has all = turned_at_look-quiet views k kq (look views k) has all

  pub turned-quiet : (views : Views) (key : Key) (kq : Kqueue h) → Are kq.knotes → Are (turned views key kq).kq.knotes
  unfolding turned
  turned-quiet views key kq all =
      turned_at-quiet views kq (find_knote key kq.knotes) (find_knote-quiet key kq.knotes all) all

  after_turn-quiet : (rest : ℕ → Kqueue h → Retrieved h) → ((room : ℕ) (kq : Kqueue h) → Are kq.knotes → Are (rest room kq).kq.knotes)
      → (room : ℕ) (kq : Kqueue h) (event : Option Kevent) → Are kq.knotes → Are (after_turn rest room kq event).kq.knotes
  unfolding after_turn delivered
  after_turn-quiet rest keeps room kq None all = keeps (suc room) kq all
  after_turn-quiet rest keeps room kq (Some event) all = keeps room kq all

  retrieve-quiet : (views : Views) (keys : List Key) (room : ℕ) (kq : Kqueue h) → Are kq.knotes → Are (retrieve views keys room kq).kq.knotes
  unfolding retrieve
  retrieve-quiet views [] room kq all = all
  retrieve-quiet views (key ∷ keys) zero kq all = all
  retrieve-quiet views (key ∷ keys) (suc room) kq all =
      after_turn-quiet (retrieve views keys) (retrieve-quiet views keys) room (turned views key kq).kq (turned views key kq).event
      (turned-quiet views key kq all)

  retrieval-quiet : (views : Views) (room : ℕ) (kq : Kqueue h) → Are kq.knotes → Are (retrieval views room kq).kq.knotes
  unfolding retrieval
  retrieval-quiet views room kq all = retrieve-quiet views kq.queue room (record kq { queue = [] }) all

  -- ---- a call

  after-quiet : (rest : List Kevent → Kqueue h → Processed h) → ((placed : List Kevent) (kq : Kqueue h) → Are kq.knotes → Are (rest placed kq).kq.knotes)
      → (room : ℕ) (c : Change) (placed : List Kevent) (r : Registered h) → Are r.kq.knotes → Are (after rest room c placed r).kq.knotes
  unfolding after
  after-quiet rest keeps room c placed r all =
      cond_both (is_answered c r.error) _ _ Fine
      (λ _. cond_both (ltb (length placed) room) _ _ Fine (λ _. keeps (placed ++ entry_of c r.error ∷ []) r.kq all) (λ _. all))
      (λ _. keeps placed r.kq all)
    where
      Fine : Processed h → Type 0
      Fine p = Are p.kq.knotes

  pub process-quiet : (caller : Caller) (room : ℕ) (changes : List Change) (placed : List Kevent) (kq : Kqueue h)
      → Are kq.knotes → Are (process caller room changes placed kq).kq.knotes
  unfolding process
  process-quiet caller room [] placed kq all = all
  process-quiet caller room (c ∷ changes) placed kq all =
      after-quiet (process caller room changes)
      (λ more q has. process-quiet caller room changes more q has)
      room c placed (register caller c kq)
      (register-quiet caller c kq all)

  by_entries-quiet : (views : Views) (room : ℕ) (placed : List Kevent) (kq : Kqueue h) → Are kq.knotes → Are (by_entries views room placed kq).kq.knotes
  unfolding by_entries returned
  by_entries-quiet views room [] kq all = retrieval-quiet views room kq all
  by_entries-quiet views room (entry ∷ entries) kq all = all

  by_answer-quiet : (views : Views) (room : ℕ) (p : Processed h) (answer : Option Reply) → Are p.kq.knotes → Are (by_answer views room p answer).kq.knotes
  unfolding by_answer
  by_answer-quiet views room p (Some reply) all = all
  by_answer-quiet views room p None all = by_entries-quiet views room p.placed p.kq all

  call-quiet : (caller : Caller) (room : ℕ) (changes : List Change) (kq : Kqueue h) → Are kq.knotes
      → Are (call caller room changes kq).kq.knotes
  unfolding call concluded
  call-quiet caller room changes kq all =
      let p = process caller room changes [] kq in
      by_answer-quiet caller.views room p p.answer (process-quiet caller room changes [] kq all)

  -- ---- closes, hints and the clock

  pub closed-quiet : (owner : ℕ) (pairs : List Pair) (kq : Kqueue h) → Are kq.knotes → Are (closed owner pairs kq).knotes
  unfolding closed
  closed-quiet owner pairs kq all = filter-quiet (λ (k : Knote h). not (is_closed owner pairs k.key)) kq.knotes all

  added-quiet : (hint : Option Hint) (k : Knote h) → Is k → Is (added hint k)
  unfolding added
  added-quiet None k has = has
  added-quiet (Some hint) k has = has

  pub heard_by-quiet : (hints : List Hint) (k : Knote h) → Is k → Is (heard_by hints k)
  unfolding heard_by
  heard_by-quiet [] k has = has
  heard_by-quiet (hint ∷ hints) k has =
      heard_by-quiet hints (added (kept k.fflags hint) k) (added-quiet (kept k.fflags hint) k has)

  unless_silent-quiet : (exits : Bool) (k : Knote h) → Is k → IfQuiet (unless_silent exits k)
  unfolding unless_silent
  unless_silent-quiet false k has = has
  unless_silent-quiet true k has = cond_both (has_nothing k) _ _ IfQuiet (λ _. tt) (λ _. has)

  alerted-quiet : (views : Views) (hints : List Hint) (k : Knote h) → Is k → IfQuiet (alerted views hints k)
  unfolding alerted
  alerted-quiet views [] k has = has
  alerted-quiet views (hint ∷ hints) k has =
      let heard = heard_by (hint ∷ hints) k in
      unless_silent-quiet (hears_exit (hint ∷ hints) k) (activated (look views heard) heard)
      (activated-quiet (look views heard) heard (heard_by-quiet (hint ∷ hints) k has))

  if_there-quiet : (found : Option (Knote h)) → IfQuiet found → Are (if_there found)
  unfolding if_there
  if_there-quiet None has = All-nil Is
  if_there-quiet (Some k) has = All-cons Is k [] has (All-nil Is)

  knotes_alerted-quiet : (views : Views) (posted : List Posted) (ks : List (Knote h)) → Are ks → Are (knotes_alerted views posted ks)
  unfolding knotes_alerted
  knotes_alerted-quiet views posted [] all = All-nil Is
  knotes_alerted-quiet views posted (k ∷ ks) all =
      let found = alerted views (hints_for k posted) k in
      All-append Is (if_there found) (knotes_alerted views posted ks)
      (if_there-quiet found (alerted-quiet views (hints_for k posted) k (All-head Is k ks all)))
      (knotes_alerted-quiet views posted ks (All-tail Is k ks all))

  notified-quiet : (views : Views) (posted : List Posted) (kq : Kqueue h) → Are kq.knotes → Are (notified views posted kq).knotes
  unfolding notified
  notified-quiet views posted kq all = knotes_alerted-quiet views posted kq.knotes all

  -- ---- the clock

  -- version 1 follows nobody
  pub followed-none : (version : ℕ) (posted : List Posted) (kq : Kqueue h) → version ≡ 1 → followed version posted kq ≡ kq
  unfolding followed_each
  followed-none version posted kq is = ap (λ (v : ℕ). followed v posted kq) is

  followed-quiet : (version : ℕ) (posted : List Posted) (kq : Kqueue h) → version ≡ 1 → Are kq.knotes → Are (followed version posted kq).knotes
  followed-quiet version posted kq is all =
      subst (λ (q : Kqueue h). Are q.knotes) (sym (followed-none version posted kq is)) all

  rung_at-quiet : (moment : ℕ) (ks : List (Knote h)) → Are ks → Are (map (rung_at timers moment) ks)
  rung_at-quiet moment [] all = All-nil Is
  rung_at-quiet moment (k ∷ ks) all =
      All-cons Is (rung_at timers moment k) (map (rung_at timers moment) ks)
      (cond_both (expires_at k moment) (expired k) k Is (λ _. All-head Is k ks all) (λ _. All-head Is k ks all))
      (rung_at-quiet moment ks (All-tail Is k ks all))

  walked-quiet : (from n : ℕ) (w : Waiting (Knote h) Key) → Are w.items → Are (walked timers from n w).items
  unfolding walked
  walked-quiet from zero w all = all
  walked-quiet from (suc n) w all =
      rung_at-quiet (from + suc n) (walked timers from n w).items (walked-quiet from n w all)

  clocked-quiet : (span : Option Span) (kq : Kqueue h) → Are kq.knotes → Are (clocked span kq).knotes
  unfolding clocked clock_from
  clocked-quiet None kq all = all
  clocked-quiet (Some span) kq all = walked-quiet span.from (span.to - span.from) (waiting_of kq) all

  -- all that comes before a call
  pub happened-quiet : (owner : ℕ) (m : Moment) (kq : Kqueue h) → m.version ≡ 1 → Are kq.knotes → Are (happened owner m kq).knotes
  unfolding happened
  happened-quiet owner m kq is all =
      clocked-quiet m.clock _ (followed-quiet m.version m.hints _ is
      (notified-quiet m.views m.hints _ (closed-quiet owner m.closed kq all)))

  -- ---- one kqueue at a moment

  called_at-quiet : (owner : ℕ) (m : Moment) (c : Call) (kq : Kqueue h) → m.version ≡ 1 → Are kq.knotes → Are (called_at owner m c kq).kq.knotes
  unfolding called_at
  called_at-quiet owner m c kq is all =
      call-quiet (caller_at owner m) c.room c.changes (happened owner m kq) (happened-quiet owner m kq is all)

  after_call-quiet : (kqueue owner : ℕ) (m : Moment) (c : Option Call) (kq : Kqueue h) → m.version ≡ 1 → Are kq.knotes
      → Are (after_call kqueue owner m c kq).knotes
  unfolding after_call
  after_call-quiet kqueue owner m None kq is all = happened-quiet owner m kq is all
  after_call-quiet kqueue owner m (Some c) kq is all =
      cond_both (c.kqueue == kqueue) _ _ (λ (q : Kqueue h). Are q.knotes)
      (λ _. called_at-quiet owner m c kq is all) (λ _. happened-quiet owner m kq is all)

  kqueue_step-quiet : (kqueue owner : ℕ) (m : Moment) (kq : Kqueue h) → m.version ≡ 1 → Are kq.knotes → Are (kqueue_step kqueue owner m kq).knotes
  unfolding kqueue_step
  kqueue_step-quiet kqueue owner m kq is all = after_call-quiet kqueue owner m m.call kq is all

  -- ---- all live kqueues

  abbrev pub IsLiveQuiet : Live h → Type 0
  IsLiveQuiet l = Are l.kq.knotes

  abbrev pub AreLiveQuiet : List (Live h) → Type 0
  AreLiveQuiet ls = All IsLiveQuiet ls

  stepped-quiet : (m : Moment) (ls : List (Live h)) → m.version ≡ 1 → AreLiveQuiet ls → AreLiveQuiet (map (stepped m) ls)
  unfolding stepped
  stepped-quiet m [] is all = All-nil IsLiveQuiet
  stepped-quiet m (l ∷ ls) is all =
      All-cons IsLiveQuiet (stepped m l) (map (stepped m) ls)
      (kqueue_step-quiet l.place l.owner m l.kq is (All-head IsLiveQuiet l ls all)) (stepped-quiet m ls is (All-tail IsLiveQuiet l ls all))

  lived-quiet : (m : Moment) (ls : List (Live h)) → m.version ≡ 1 → AreLiveQuiet ls → AreLiveQuiet (lived m ls)
  unfolding lived
  lived-quiet m ls is all =
      let stays : Live h → Bool = λ (l : Live h). not (has_pair l.owner l.number m.closed) in
      stepped-quiet m (filter stays ls) is (All-filter stays IsLiveQuiet ls all)

  born-quiet : (place : ℕ) (p : Option Pair) → AreLiveQuiet (born place p)
  unfolding born
  born-quiet place None = All-nil IsLiveQuiet
  born-quiet place (Some p) =
      All-cons IsLiveQuiet (record { place = place; owner = p.pid; number = p.number; kq = empty_kqueue }) [] (All-nil Is) (All-nil IsLiveQuiet)

module _ {S A B C D : Type 0} {h : Hearing S} {k : Keeping A B C D} where
  -- on version 1 no knote of the system has a notice
  pub step_by-quiet : (place : ℕ) (q : Planned) (s : System h k) → s.version ≡ 1 → AreLiveQuiet s.live → AreLiveQuiet (step_by place q s).system.live
  unfolding step_by moment_of
  step_by-quiet place (Impossible why) s is all = all
  step_by-quiet place (Possible p) s is all =
      let m = moment_of s.version place p s.world in
      All-append IsLiveQuiet (lived m s.live) (born place p.born) (lived-quiet m s.live is all) (born-quiet place p.born)

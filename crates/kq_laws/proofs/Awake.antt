-- A knote that is level-triggered or has a notice, and whose condition holds, is active: one operation after the other,
-- and over the whole life.
use Rattle.std.proofs.Common.{◌≡◌, ℕ, zero, suc, ◌+◌, ◌-◌, Bool, true, false, cond, ltb, not, ◌||◌, length, List, [], ◌∷◌, ◌++◌, map, Option, Some, None, refl, sym, ap, ◌∙◌}
use Rattle.std.proofs.lemmas.Bool.{cond_both, true≢false, or_right}
use Rattle.std.proofs.lemmas.List.Elements.{All-nil, All-cons, All-head, All-tail, All-append, All-filter, All-weaker}
use Rattle.std.specs.List.{All}
use Rattle.std.specs.Option.{is_some, option_and_then}
use Rattle.kq_model.specs.declared.change.Change.{Change}
use Rattle.kq_model.specs.declared.filter.Filter.{Filter}
use Rattle.kq_model.specs.declared.filter.Filter.TheVariants.{Read, Write, Vnode, Proc, Signal, Timer, User, Aio, Lio, Fs, Procdesc, Sendfile, Empty}
use Rattle.kq_model.specs.declared.kevent.Kevent.{Kevent}
use Rattle.kq_model.specs.declared.key.Key.{Key}
use Rattle.kq_model.specs.declared.object.Hint.{Hint}
use Rattle.kq_model.specs.declared.object.Target.{Target}
use Rattle.kq_model.specs.declared.object.View.{View}
use Rattle.kq_model.specs.declared.reply.Reply.{Reply}
use Rattle.kq_model.specs.Call.{entry_of, is_answered, after, process, returned, by_entries, by_answer, concluded, call}
use Rattle.kq_model.specs.Caller.{Caller}
use Rattle.kq_model.specs.ChangedKnote.{key_of, activated, attended, begun, fresh, replaced, restarted, changed, switched, made, modified}
use Rattle.kq_model.specs.Clock.{Span, timers, expires_at, expired, waiting_of, clock_from, clocked}
use Rattle.kq_model.specs.Close.{Pair, is_closed, closed}
use Rattle.kq_model.specs.Following.{Fork, process_key, follows, child_knote, heir, with_heir, heir_in, forks_in, followed_each, followed}
use Rattle.kq_model.specs.Tallying.{tallying}
use Rattle.kq_model.specs.Hints.{hints_for, heard_by, hears_exit, unless_silent, alerted, if_there, knotes_alerted, notified}
use Rattle.kq_model.specs.Knote.{has_nothing, find_knote}
use Rattle.kq_model.specs.Look.{Seen, mark_of, look_user, look_by, notice_or, look}
use Rattle.kq_model.specs.Registration.{Refuse, Remove, Make, Modify, decision, carried_out, register}
use Rattle.kq_model.specs.Retrieval.{stays, reset, rested, knotes_after, with_idle, without_notice, with_notice_told, settled, turned_at_look, turned_at, turned, delivered, after_turn, retrieve, retrieval}
use Rattle.kq_model.specs.Tallied.{Decision, Knote, Kqueue, Processed, Retrieved}
use Rattle.kq_model.specs.Targets.{Posted}
use Rattle.kq_model.specs.TimerWalk.{Waiting, rung_at, walked}
use Rattle.kq_model.specs.Views.{Views}
use Rattle.kq_model.proofs.KnoteLaws.{by_test}
use Rattle.kq_laws.specs.Life.{Life, Step, Closes, Hints, Passes, Calls, stepped, lived}
use Rattle.kq_laws.specs.Wakes.{is_due, is_owed, IsAnnounced, IsToldOfWorld, AreToldOfWorld}
use Rattle.kq_laws.proofs.Lists.{with_knote-all, without_knote-all, found-all}

pub IsAwake : Views → Knote → Type 0
IsAwake views k = is_owed k ≡ true → k.enabled ≡ true → is_due views k ≡ true → k.active ≡ true

-- ---- a look does not see whether the knote is active

look_by-active : (f : Filter) (view : Option View) (k : Knote) (b : Bool) → look_by f view (record k { active = b }) ≡ look_by f view k
unfolding look_by mark_of look_user
look_by-active Read view k b = refl
look_by-active Write view k b = refl
look_by-active Vnode view k b = refl
look_by-active Proc view k b = refl
look_by-active Signal view k b = refl
look_by-active Timer view k b = refl
look_by-active User view k b = refl
look_by-active Aio view k b = refl
look_by-active Lio view k b = refl
look_by-active Fs view k b = refl
look_by-active Procdesc view k b = refl
look_by-active Sendfile view k b = refl
look_by-active Empty view k b = refl

look-active : (views : Views) (k : Knote) (b : Bool) → look views (record k { active = b }) ≡ look views k
unfolding look
look-active views k b =
    ap (notice_or k.notice) (look_by-active k.key.filter (option_and_then views.view k.target) k b)

-- and sees no more of the world than its views
pub look-view : (a b : Views) (k : Knote) → a.view ≡ b.view → look a k ≡ look b k
unfolding look
look-view a b k same =
    ap (λ (view : Target → Option View). notice_or k.notice (look_by k.key.filter (option_and_then view k.target) k))
    same

-- ---- one knote

awake-asleep : (views : Views) (k : Knote) → is_due views k ≡ false → IsAwake views k
unfolding IsAwake
awake-asleep views k off owed enabled due = absurd (true≢false (sym due ∙ off))

awake-unowed : (views : Views) (k : Knote) → is_owed k ≡ false → IsAwake views k
unfolding IsAwake
awake-unowed views k off owed enabled due = absurd (true≢false (sym owed ∙ off))

awake-active : (views : Views) (k : Knote) → k.active ≡ true → IsAwake views k
unfolding IsAwake
awake-active views k on owed enabled due = on

awake-disabled : (views : Views) (k : Knote) → k.enabled ≡ false → IsAwake views k
unfolding IsAwake
awake-disabled views k off owed enabled due = absurd (true≢false (sym enabled ∙ off))

looked-awake : (views : Views) (k : Knote) (seen : Option Seen) → look views k ≡ seen → IsAwake views (activated seen k)
unfolding activated
looked-awake views k None nothing = awake-asleep views k (ap is_some nothing)
looked-awake views k (Some seen) there = awake-active views (record k { active = true }) refl

attended-awake : (views : Views) (k : Knote) → IsAwake views (attended views k)
unfolding attended
attended-awake views k =
    by_test (λ b. k.enabled ≡ b → IsAwake views (cond b (activated (look views k) k) k)) k.enabled
    (λ _ _. looked-awake views k (look views k) refl) (λ _ off. awake-disabled views k off) refl

made-awake : (caller : Caller) (c : Change) → IsAwake caller.views (made caller c)
unfolding made
made-awake caller c = attended-awake caller.views (begun c.filter caller c (fresh caller c))

modified-awake : (caller : Caller) (c : Change) (k : Knote) → IsAwake caller.views (modified caller c k)
unfolding modified
modified-awake caller c k =
    attended-awake caller.views (switched c (changed c.filter c (restarted c.filter caller c (replaced c k))))

-- ---- hints

abbrev IfAwake : Views → Option Knote → Type 0
IfAwake views None = Unit {0}
IfAwake views (Some k) = IsAwake views k

notice-seen : (notice : Option ℕ) (seen : Option Seen) → is_some notice ≡ true
    → is_some (notice_or notice seen) ≡ true
unfolding notice_or
notice-seen None seen there = absurd (true≢false (sym there))
notice-seen (Some parent) seen there = refl

notice-due : (views : Views) (k : Knote) → is_some k.notice ≡ true → is_due views k ≡ true
unfolding look
notice-due views k there = notice-seen k.notice (look_by k.key.filter (option_and_then views.view k.target) k) there

-- with ONESHOT only its notice is owed
oneshot-awake : (views : Views) (k : Knote) → IsAwake views k → IsAwake views (record k { oneshot = true })
unfolding IsAwake stays
oneshot-awake views k awake owed enabled due =
    awake (or_right (not (k.oneshot || k.clear || k.dispatch)) (is_some k.notice) owed) enabled
    (notice-due views k owed)

unless_silent-awake : (views : Views) (exits : Bool) (k : Knote) → IsAwake views k → IfAwake views (unless_silent exits k)
unfolding unless_silent
unless_silent-awake views false k awake = awake
unless_silent-awake views true k awake =
    cond_both (has_nothing k) _ _ (IfAwake views) (λ _. tt)
    (λ _. oneshot-awake views k awake)

alerted-awake : (before views : Views) (hints : List Hint) (k : Knote) → IsAwake before k
    → (hints ≡ [] → is_due views k ≡ true → is_due before k ≡ true) → IfAwake views (alerted views hints k)
unfolding alerted IsAwake
alerted-awake before views [] k awake announced = λ owed enabled due. awake owed enabled (announced refl due)
alerted-awake before views (hint ∷ hints) k awake announced =
    let heard = heard_by (hint ∷ hints) k in
    unless_silent-awake views (hears_exit (hint ∷ hints) k) (activated (look views heard) heard)
    (looked-awake views heard (look views heard) refl)

there-awake : (views : Views) (found : Option Knote) → IfAwake views found → All (IsAwake views) (if_there found)
unfolding if_there
there-awake views None awake = All-nil (IsAwake views)
there-awake views (Some k) awake = All-cons (IsAwake views) k [] awake (All-nil (IsAwake views))

alerting-awake : (before views : Views) (posted : List Posted) (ks : List Knote) → All (IsAwake before) ks
    → All (IsAnnounced before posted views) ks → All (IsAwake views) (knotes_alerted views posted ks)
unfolding knotes_alerted
alerting-awake before views posted [] all announced = All-nil (IsAwake views)
alerting-awake before views posted (k ∷ ks) all announced =
    let found = alerted views (hints_for k posted) k in
    All-append (IsAwake views) (if_there found) (knotes_alerted views posted ks)
    (there-awake views found (alerted-awake before views (hints_for k posted) k (All-head (IsAwake before) k ks all)
    (All-head (IsAnnounced before posted views) k ks announced)))
    (alerting-awake before views posted ks (All-tail (IsAwake before) k ks all)
    (All-tail (IsAnnounced before posted views) k ks announced))

pub notified-awake : (before views : Views) (posted : List Posted) (kq : Kqueue) → All (IsAwake before) kq.knotes
    → All (IsAnnounced before posted views) kq.knotes → All (IsAwake views) (notified views posted kq).knotes
unfolding notified
notified-awake before views posted kq all announced = alerting-awake before views posted kq.knotes all announced

-- ---- children that are followed: a new knote is active

heir-awake : (views : Views) (f : Fork) (parent present : Option Knote) → IfAwake views (heir f parent present)
unfolding heir
heir-awake views f (Some k) None =
    cond_both (follows f.parent k) (Some (child_knote f k)) None (IfAwake views)
    (λ _. awake-active views (child_knote f k) refl) (λ _. tt)
heir-awake views f None present = tt
heir-awake views f (Some k) (Some x) = tt

with_heir-awake : (views : Views) (found : Option Knote) (kq : Kqueue) → IfAwake views found
    → All (IsAwake views) kq.knotes → All (IsAwake views) (with_heir found kq).knotes
unfolding with_heir
with_heir-awake views None kq awake all = all
with_heir-awake views (Some k) kq awake all =
    All-append (IsAwake views) kq.knotes (k ∷ []) all (All-cons (IsAwake views) k [] awake (All-nil (IsAwake views)))

each-awake : (views : Views) (fs : List Fork) (kq : Kqueue) → All (IsAwake views) kq.knotes
    → All (IsAwake views) (followed_each fs kq).knotes
unfolding followed_each
each-awake views [] kq all = all
each-awake views (f ∷ fs) kq all =
    each-awake views fs (with_heir (heir_in f kq) kq) (with_heir-awake views (heir_in f kq) kq
    (heir-awake views f (find_knote (process_key f.parent) kq.knotes) (find_knote (process_key f.child) kq.knotes)) all)

pub followed-awake : (views : Views) (version : ℕ) (posted : List Posted) (kq : Kqueue) → All (IsAwake views) kq.knotes
    → All (IsAwake views) (followed version posted kq).knotes
followed-awake views version posted kq all = each-awake views (forks_in version posted) kq all

-- ---- the clock, and closes

module _ (views : Views) where
  abbrev Are : Kqueue → Type 0
  Are kq = All (IsAwake views) kq.knotes

  pub closed-awake : (owner : ℕ) (pairs : List Pair) (kq : Kqueue) → Are kq → Are (closed owner pairs kq)
  unfolding closed
  closed-awake owner pairs kq all = All-filter (λ (k : Knote). not (is_closed owner pairs k.key)) (IsAwake views) kq.knotes all

  rung-awake : (moment : ℕ) (ks : List Knote) → All (IsAwake views) ks → All (IsAwake views) (map (rung_at timers moment) ks)
  rung-awake moment [] all = All-nil (IsAwake views)
  rung-awake moment (k ∷ ks) all =
      All-cons (IsAwake views) (rung_at timers moment k) (map (rung_at timers moment) ks)
      (cond_both (expires_at k moment) (expired k) k (IsAwake views) (λ _. awake-active views (expired k) refl)
      (λ _. All-head (IsAwake views) k ks all))
      (rung-awake moment ks (All-tail (IsAwake views) k ks all))

  walked-awake : (from n : ℕ) (w : Waiting Knote Key) → All (IsAwake views) w.items → All (IsAwake views) (walked timers from n w).items
  unfolding walked
  walked-awake from zero w all = all
  walked-awake from (suc n) w all =
      rung-awake (from + suc n) (walked timers from n w).items (walked-awake from n w all)

  pub clocked-awake : (span : Span) (kq : Kqueue) → Are kq → Are (clocked (Some span) kq)
  unfolding clocked clock_from
  clocked-awake span kq all = walked-awake span.from (span.to - span.from) (waiting_of kq) all

  -- ---- a retrieval

  rested-stays : (k : Knote) → k.clear || k.dispatch ≡ true → stays (rested k) ≡ false
  unfolding stays rested reset
  rested-stays k rests =
      by_test (λ b. k.clear ≡ b → stays_of (cond b (record k { seen = tallying.empty; triggered = false }) k) ≡ false) k.clear
      (λ _ _. by_flags k.oneshot) (λ _ _. by_flags k.oneshot) refl
    where
      stays_of : Knote → Bool
      stays_of x = not (x.oneshot || x.clear || x.dispatch)

      by_flags : (o : Bool) → not (o || k.clear || k.dispatch) ≡ false
      by_flags true = refl
      by_flags false = ap not rests

  rested-notice : (k : Knote) → (rested k).notice ≡ k.notice
  unfolding rested reset
  rested-notice k =
      by_test (λ b. (cond b (record k { seen = tallying.empty; triggered = false }) k).notice ≡ k.notice) k.clear
      (λ _. refl) (λ _. refl)

  rested-unowed : (k : Knote) → k.notice ≡ None → k.clear || k.dispatch ≡ true → is_owed (rested k) ≡ false
  rested-unowed k silent rests =
      ap (λ b. b || is_some (rested k).notice) (rested-stays k rests) ∙ ap is_some (rested-notice k ∙ silent)

  after-awake : (k : Knote) (ks : List Knote) → k.notice ≡ None → All (IsAwake views) ks
      → All (IsAwake views) (knotes_after k ks)
  unfolding knotes_after
  after-awake k ks silent all =
      cond_both k.oneshot _ _ (All (IsAwake views)) (λ _. without_knote-all (IsAwake views) k.key ks all)
      (λ _. cond_both (k.clear || k.dispatch) _ _ (All (IsAwake views))
      (λ rests. with_knote-all (IsAwake views) (rested k) ks
      (awake-unowed views (rested k) (rested-unowed k silent rests)) all)
      (λ _. all))

  idle-left : (k : Knote) (kq : Kqueue) → look views k ≡ None → Are kq → Are (with_idle k kq)
  idle-left k kq nothing all =
      with_knote-all (IsAwake views) (record k { active = false }) kq.knotes
      (awake-asleep views (record k { active = false }) (ap is_some (look-active views k false ∙ nothing))) all

  -- a notice was told: what was active is, unless nothing is seen any more
  told-left : (k : Knote) (kq : Kqueue) (seen : Option Seen) → look views k ≡ seen
      → (is_owed k ≡ true → k.enabled ≡ true → k.active ≡ true) → Are kq → Are (with_notice_told k kq seen)
  unfolding with_notice_told IsAwake
  told-left k kq None nothing on all = idle-left k kq nothing all
  told-left k kq (Some seen) there on all =
      with_knote-all (IsAwake views) k kq.knotes (λ owed enabled due. on owed enabled) all

  settled-left : (k : Knote) (kq : Kqueue) (notice : Option ℕ) → k.notice ≡ notice
      → (is_owed k ≡ true → k.enabled ≡ true → k.active ≡ true) → Are kq → Are (settled views k kq notice)
  unfolding settled stays
  settled-left k kq None silent on all = after-awake k kq.knotes silent all
  settled-left k kq (Some parent) there on all =
      told-left (without_notice k) kq (look views (without_notice k)) refl
      (λ owed. on (or_right (not (k.oneshot || k.clear || k.dispatch)) (is_some k.notice) (ap is_some there))) all

  looked-left : (k : Knote) (kq : Kqueue) (seen : Option Seen) → look views k ≡ seen → IsAwake views k → Are kq
      → Are (turned_at_look views k kq seen).kq
  unfolding turned_at_look IsAwake
  looked-left k kq None nothing awake all = idle-left k kq nothing all
  looked-left k kq (Some seen) there awake all =
      settled-left k kq k.notice refl (λ owed enabled. awake owed enabled (ap is_some there)) all

  found-left : (kq : Kqueue) (found : Option Knote) → IfAwake views found → Are kq → Are (turned_at views kq found).kq
  unfolding turned_at
  found-left kq None awake all = all
  found-left kq (Some k) awake all = looked-left k kq (look views k) refl awake all

  turned-left : (key : Key) (kq : Kqueue) → Are kq → Are (turned views key kq).kq
  unfolding turned
  turned-left key kq all =
      found-left kq (find_knote key kq.knotes) (found-all (IsAwake views) key kq.knotes all) all

  turn-left : (rest : ℕ → Kqueue → Retrieved) → ((room : ℕ) (kq : Kqueue) → Are kq → Are (rest room kq).kq)
      → (room : ℕ) (kq : Kqueue) (event : Option Kevent) → Are kq → Are (after_turn rest room kq event).kq
  unfolding after_turn delivered
  turn-left rest later room kq None all = later (suc room) kq all
  turn-left rest later room kq (Some event) all = later room kq all

  retrieve-awake : (keys : List Key) (room : ℕ) (kq : Kqueue) → Are kq → Are (retrieve views keys room kq).kq
  unfolding retrieve
  retrieve-awake [] room kq all = all
  retrieve-awake (key ∷ keys) zero kq all = all
  retrieve-awake (key ∷ keys) (suc room) kq all =
      turn-left (retrieve views keys) (retrieve-awake keys) room (turned views key kq).kq (turned views key kq).event
      (turned-left key kq all)

  retrieval-awake : (room : ℕ) (kq : Kqueue) → Are kq → Are (retrieval views room kq).kq
  unfolding retrieval
  retrieval-awake room kq all = retrieve-awake kq.queue room (record kq { queue = [] }) all

-- ---- a call

module _ (caller : Caller) where
  abbrev Calls-are : Kqueue → Type 0
  Calls-are kq = All (IsAwake caller.views) kq.knotes

  carried_out-awake : (c : Change) (kq : Kqueue) (d : Decision) → Calls-are kq → Calls-are (carried_out caller c kq d).kq
  unfolding carried_out
  carried_out-awake c kq (Refuse e) all = all
  carried_out-awake c kq Remove all = without_knote-all (IsAwake caller.views) (key_of c) kq.knotes all
  carried_out-awake c kq Make all =
      All-append (IsAwake caller.views) kq.knotes (made caller c ∷ []) all
      (All-cons (IsAwake caller.views) (made caller c) [] (made-awake caller c) (All-nil (IsAwake caller.views)))
  carried_out-awake c kq (Modify k) all =
      with_knote-all (IsAwake caller.views) (modified caller c k) kq.knotes (modified-awake caller c k) all

  register-awake : (c : Change) (kq : Kqueue) → Calls-are kq → Calls-are (register caller c kq).kq
  unfolding register
  register-awake c kq all = carried_out-awake c kq (decision caller (find_knote (key_of c) kq.knotes) c) all

  pub process-awake : (room : ℕ) (cs : List Change) (placed : List Kevent) (kq : Kqueue) → Calls-are kq
      → Calls-are (process caller room cs placed kq).kq
  unfolding process after
  process-awake room [] placed kq all = all
  process-awake room (c ∷ cs) placed kq all =
      let r = register caller c kq in
      let next = register-awake c kq all in
      cond_both (is_answered c r.error) _ _ Fine
      (λ _. cond_both (ltb (length placed) room) _ _ Fine
      (λ _. process-awake room cs (placed ++ entry_of c r.error ∷ []) r.kq next) (λ _. next))
      (λ _. process-awake room cs placed r.kq next)
    where
      Fine : Processed → Type 0
      Fine p = Calls-are p.kq

  by_entries-awake : (room : ℕ) (placed : List Kevent) (kq : Kqueue) → Calls-are kq → Calls-are (by_entries caller.views room placed kq).kq
  unfolding by_entries returned
  by_entries-awake room [] kq all = retrieval-awake caller.views room kq all
  by_entries-awake room (entry ∷ entries) kq all = all

  by_answer-awake : (room : ℕ) (p : Processed) (answer : Option Reply) → Calls-are p.kq → Calls-are (by_answer caller.views room p answer).kq
  unfolding by_answer
  by_answer-awake room p (Some reply) all = all
  by_answer-awake room p None all = by_entries-awake room p.placed p.kq all

  pub call-awake : (room : ℕ) (cs : List Change) (kq : Kqueue) → Calls-are kq → Calls-are (call caller room cs kq).kq
  unfolding call concluded
  call-awake room cs kq all =
      let p = process caller room cs [] kq in
      by_answer-awake room p p.answer (process-awake room cs [] kq all)

-- ---- the life

-- in a world that shows the same
pub awake-view : (a b : Views) (ks : List Knote) → a.view ≡ b.view → All (IsAwake a) ks → All (IsAwake b) ks
unfolding IsAwake
awake-view a b ks same all =
    All-weaker (IsAwake a) (IsAwake b)
    (λ k awake owed enabled due. awake owed enabled (ap is_some (look-view a b k same) ∙ due)) ks all

abbrev pub AreAwake : Life → Type 0
AreAwake l = All (IsAwake l.views) l.kq.knotes

step-awake : (s : Step) (l : Life) → IsToldOfWorld s l → AreAwake l → AreAwake (stepped s l)
step-awake (Closes owner pairs) l told all = closed-awake l.views owner pairs l.kq all
step-awake (Hints posted views) l told all =
    followed-awake views l.version posted (notified views posted l.kq)
    (notified-awake l.views views posted l.kq all told)
step-awake (Passes moment) l told all = clocked-awake l.views (record { from = l.now; to = moment }) l.kq all
step-awake (Calls caller changes room) l told all =
    awake-view caller.views l.views (call caller room changes l.kq).kq.knotes told
    (call-awake caller room changes l.kq (awake-view l.views caller.views l.kq.knotes (sym told) all))

pub life-awake : (steps : List Step) (l : Life) → AreToldOfWorld steps l → AreAwake l → AreAwake (lived steps l)
life-awake [] l told all = all
life-awake (s ∷ steps) l told all = life-awake steps (stepped s l) told.1 (step-awake s l told.0 all)

pub awake-is : (views : Views) (k : Knote) → IsAwake views k → is_owed k ≡ true → k.enabled ≡ true
    → is_due views k ≡ true → k.active ≡ true
unfolding IsAwake
awake-is views k awake = awake

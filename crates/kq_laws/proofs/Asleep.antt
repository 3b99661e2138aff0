-- A knote that is not active stays so where nothing is told to it: one operation after the other, and over a life.
use Rattle.std.proofs.Common.{◌≡◌, ℕ, zero, suc, ◌+◌, ◌-◌, true, false, ltb, not, ◌||◌, length, List, [], ◌∷◌, ◌++◌, map, Option, Some, None, refl, sym, ap, ◌∙◌, subst}
use Rattle.std.proofs.lemmas.Bool.{cond_both, true≢false, and_parts}
use Rattle.std.proofs.lemmas.List.Elements.{All-nil, All-cons, All-head, All-tail, All-append, All-filter}
use Rattle.std.specs.List.{All}
use Rattle.kq_model.specs.declared.change.Change.{Change}
use Rattle.kq_model.specs.declared.filter.Filter.{Filter}
use Rattle.kq_model.specs.declared.kevent.Kevent.{Kevent}
use Rattle.kq_model.specs.declared.key.Key.{Key}
use Rattle.kq_model.specs.declared.object.Hint.{Hint}
use Rattle.kq_model.specs.declared.object.Target.{Target}
use Rattle.kq_model.specs.declared.reply.Reply.{Reply}
use Rattle.kq_model.specs.Call.{entry_of, is_answered, after, process, returned, by_entries, by_answer, concluded, call}
use Rattle.kq_model.specs.Caller.{Caller}
use Rattle.kq_model.specs.ChangedKnote.{key_of, made, modified}
use Rattle.kq_model.specs.Clock.{Span, timers, expires_at, expired, waiting_of, clock_from, clocked}
use Rattle.kq_model.specs.Close.{Pair, is_closed, closed}
use Rattle.kq_model.specs.Following.{Fork, process_key, follows, child_knote, heir, with_heir, heir_in, forks_in, followed_each}
use Rattle.kq_model.specs.Hints.{hints_for, alerted, if_there, knotes_alerted, notified}
use Rattle.kq_model.specs.Knote.{key_eq, find_knote, is_timer}
use Rattle.kq_model.specs.Look.{Seen, look}
use Rattle.kq_model.specs.Registration.{Refuse, Remove, Make, Modify, decision, carried_out, register}
use Rattle.kq_model.specs.Retrieval.{rested, knotes_after, without_notice, with_notice_told, settled, turned_at_look, turned_at, turned, delivered, after_turn, retrieve, retrieval}
use Rattle.kq_model.specs.Tallied.{Decision, Knote, Kqueue, Processed, Retrieved}
use Rattle.kq_model.specs.Tallying.{tallying}
use Rattle.kq_model.specs.Targets.{Posted}
use Rattle.kq_model.specs.TimerWalk.{Waiting, rung_at, walked}
use Rattle.kq_model.specs.Views.{Views}
use Rattle.kq_model.proofs.AlertedKnote.{Follows, alerted-follows}
use Rattle.kq_model.proofs.KeyLaws.{same_key}
use Rattle.kq_model.proofs.KnoteLaws.{by_test, find_knote-key}
use Rattle.kq_model.proofs.RegistrationLaws.{made-key, modified-key}
use Rattle.kq_model.proofs.Subjects.{decision-subject}
use Rattle.kq_laws.specs.Clears.{AreOfOthers, TellsNothing, TellNothing}
use Rattle.kq_laws.specs.Life.{Life, Step, Closes, Hints, Passes, Calls, stepped, lived}
use Rattle.kq_laws.proofs.Lists.{with_knote-all, without_knote-all, found-all}

module _ (key : Key) where
  -- the knote of the key is not active
  abbrev pub IsAsleep : Knote → Type 0
  IsAsleep k = key_eq key k.key ≡ true → k.active ≡ false

  abbrev pub AreAsleep : Kqueue → Type 0
  AreAsleep kq = All IsAsleep kq.knotes

  abbrev pub IfAsleep : Option Knote → Type 0
  IfAsleep None = Unit {0}
  IfAsleep (Some k) = IsAsleep k

  -- ---- a retrieval wakes none

  after-asleep : (k : Knote) (ks : List Knote) → All IsAsleep ks → All IsAsleep (knotes_after k ks)
  unfolding knotes_after rested
  after-asleep k ks all =
      cond_both k.oneshot _ _ (All IsAsleep) (λ _. without_knote-all IsAsleep k.key ks all)
      (λ _. cond_both (k.clear || k.dispatch) _ _ (All IsAsleep)
      (λ _. with_knote-all IsAsleep (rested k) ks (λ _. refl) all) (λ _. all))

  told-asleep : (k : Knote) (kq : Kqueue) (seen : Option Seen) → IsAsleep k → AreAsleep kq
      → AreAsleep (with_notice_told k kq seen)
  unfolding with_notice_told
  told-asleep k kq None has all = with_knote-all IsAsleep (record k { active = false }) kq.knotes (λ _. refl) all
  told-asleep k kq (Some seen) has all = with_knote-all IsAsleep k kq.knotes has all

  settled-asleep : (views : Views) (k : Knote) (kq : Kqueue) (notice : Option ℕ) → IsAsleep k → AreAsleep kq
      → AreAsleep (settled views k kq notice)
  unfolding settled
  settled-asleep views k kq None has all = after-asleep k kq.knotes all
  settled-asleep views k kq (Some parent) has all =
      told-asleep (without_notice k) kq (look views (without_notice k)) has all

  looked-asleep : (views : Views) (k : Knote) (kq : Kqueue) (seen : Option Seen) → IsAsleep k → AreAsleep kq
      → AreAsleep (turned_at_look views k kq seen).kq
  unfolding turned_at_look
  looked-asleep views k kq None has all =
      with_knote-all IsAsleep (record k { active = false }) kq.knotes (λ _. refl) all
  looked-asleep views k kq (Some seen) has all = settled-asleep views k kq k.notice has all

  turned_at-asleep : (views : Views) (kq : Kqueue) (found : Option Knote) → IfAsleep found → AreAsleep kq
      → AreAsleep (turned_at views kq found).kq
  unfolding turned_at
  turned_at-asleep views kq None has all = all
  turned_at-asleep views kq (Some k) has all = looked-asleep views k kq (look views k) has all

  turned-asleep : (views : Views) (front : Key) (kq : Kqueue) → AreAsleep kq → AreAsleep (turned views front kq).kq
  unfolding turned
  turned-asleep views front kq all =
      turned_at-asleep views kq (find_knote front kq.knotes) (found-all IsAsleep front kq.knotes all) all

  pub turn-asleep : (rest : ℕ → Kqueue → Retrieved)
      → ((room : ℕ) (kq : Kqueue) → AreAsleep kq → AreAsleep (rest room kq).kq)
      → (room : ℕ) (kq : Kqueue) (event : Option Kevent) → AreAsleep kq → AreAsleep (after_turn rest room kq event).kq
  unfolding after_turn delivered
  turn-asleep rest keeps room kq None all = keeps (suc room) kq all
  turn-asleep rest keeps room kq (Some event) all = keeps room kq all

  pub retrieve-asleep : (views : Views) (keys : List Key) (room : ℕ) (kq : Kqueue) → AreAsleep kq
      → AreAsleep (retrieve views keys room kq).kq
  unfolding retrieve
  retrieve-asleep views [] room kq all = all
  retrieve-asleep views (front ∷ keys) zero kq all = all
  retrieve-asleep views (front ∷ keys) (suc room) kq all =
      turn-asleep (retrieve views keys) (retrieve-asleep views keys) room (turned views front kq).kq (turned views front kq).event
      (turned-asleep views front kq all)

  retrieval-asleep : (views : Views) (room : ℕ) (kq : Kqueue) → AreAsleep kq → AreAsleep (retrieval views room kq).kq
  unfolding retrieval
  retrieval-asleep views room kq all = retrieve-asleep views kq.queue room (record kq { queue = [] }) all

  -- ---- nor does a call that changes others

  pub apart-asleep : (k : Knote) → key_eq key k.key ≡ false → IsAsleep k
  apart-asleep k apart same = absurd (true≢false (sym same ∙ apart))

  -- of another key
  abbrev IsOther : Filter → ℕ → Option Target → Type 0
  IsOther filter ident target = key_eq key (record { ident = ident; filter = filter }) ≡ false

  abbrev DecidesOther : Decision → Type 0
  DecidesOther (Refuse e) = Unit {0}
  DecidesOther Remove = Unit {0}
  DecidesOther Make = Unit {0}
  DecidesOther (Modify k) = key_eq key k.key ≡ false

  abbrev IfOther : Option Knote → Type 0
  IfOther None = Unit {0}
  IfOther (Some k) = key_eq key k.key ≡ false

  found-other : (c : Change) (ks : List Knote) (found : Option Knote) → key_eq key (key_of c) ≡ false
      → find_knote (key_of c) ks ≡ found → IfOther found
  found-other c ks None apart is = tt
  found-other c ks (Some k) apart is = ap (key_eq key) (sym (find_knote-key (key_of c) ks k is)) ∙ apart

  carried_out-asleep : (caller : Caller) (c : Change) (kq : Kqueue) (d : Decision) → key_eq key (key_of c) ≡ false
      → DecidesOther d → AreAsleep kq → AreAsleep (carried_out caller c kq d).kq
  unfolding carried_out
  carried_out-asleep caller c kq (Refuse e) apart other all = all
  carried_out-asleep caller c kq Remove apart other all = without_knote-all IsAsleep (key_of c) kq.knotes all
  carried_out-asleep caller c kq Make apart other all =
      All-append IsAsleep kq.knotes (made caller c ∷ []) all
      (All-cons IsAsleep (made caller c) []
      (apart-asleep (made caller c) (ap (key_eq key) (made-key tallying caller c) ∙ apart)) (All-nil IsAsleep))
  carried_out-asleep caller c kq (Modify k) apart other all =
      with_knote-all IsAsleep (modified caller c k) kq.knotes
      (apart-asleep (modified caller c k) (ap (key_eq key) (modified-key tallying caller c k) ∙ other)) all

  register-asleep : (caller : Caller) (c : Change) (kq : Kqueue) → key_eq key (key_of c) ≡ false → AreAsleep kq
      → AreAsleep (register caller c kq).kq
  unfolding register
  register-asleep caller c kq apart all =
      let found = find_knote (key_of c) kq.knotes in
      carried_out-asleep caller c kq (decision caller found c) apart
      (decision-subject tallying IsOther caller found c (found-other c kq.knotes found apart refl)) all

  pub process-asleep : (caller : Caller) (room : ℕ) (cs : List Change) (placed : List Kevent) (kq : Kqueue)
      → AreOfOthers key cs
      → AreAsleep kq → AreAsleep (process caller room cs placed kq).kq
  unfolding process after
  process-asleep caller room [] placed kq others all = all
  process-asleep caller room (c ∷ cs) placed kq others all =
      let r = register caller c kq in
      let next = register-asleep caller c kq (All-head (λ x. key_eq key (key_of x) ≡ false) c cs others) all in
      let later = All-tail (λ x. key_eq key (key_of x) ≡ false) c cs others in
      cond_both (is_answered c r.error) _ _ Fine
      (λ _. cond_both (ltb (length placed) room) _ _ Fine
      (λ _. process-asleep caller room cs (placed ++ entry_of c r.error ∷ []) r.kq later next) (λ _. next))
      (λ _. process-asleep caller room cs placed r.kq later next)
    where
      Fine : Processed → Type 0
      Fine p = AreAsleep p.kq

  by_entries-asleep : (views : Views) (room : ℕ) (placed : List Kevent) (kq : Kqueue) → AreAsleep kq
      → AreAsleep (by_entries views room placed kq).kq
  unfolding by_entries returned
  by_entries-asleep views room [] kq all = retrieval-asleep views room kq all
  by_entries-asleep views room (entry ∷ entries) kq all = all

  by_answer-asleep : (views : Views) (room : ℕ) (p : Processed) (answer : Option Reply) → AreAsleep p.kq
      → AreAsleep (by_answer views room p answer).kq
  unfolding by_answer
  by_answer-asleep views room p (Some reply) all = all
  by_answer-asleep views room p None all = by_entries-asleep views room p.placed p.kq all

  call-asleep : (caller : Caller) (room : ℕ) (cs : List Change) (kq : Kqueue) → AreOfOthers key cs → AreAsleep kq
      → AreAsleep (call caller room cs kq).kq
  unfolding call concluded
  call-asleep caller room cs kq others all =
      let p = process caller room cs [] kq in
      by_answer-asleep caller.views room p p.answer (process-asleep caller room cs [] kq others all)

  -- ---- closes, hints for others, forks of others, and the clock

  unheard-asleep : (views : Views) (k : Knote) → IsAsleep k → IfAsleep (alerted views [] k)
  unfolding alerted
  unheard-asleep views k has = has

  followed-asleep : (k : Knote) (found : Option Knote) → Follows k found → key_eq key k.key ≡ false → IfAsleep found
  followed-asleep k None follows apart = tt
  followed-asleep k (Some x) follows apart = apart-asleep x (ap (key_eq key) follows.0 ∙ apart)

  alerted-asleep : (views : Views) (hints : List Hint) (k : Knote) → (key_eq key k.key ≡ true → hints ≡ []) → IsAsleep k
      → IfAsleep (alerted views hints k)
  alerted-asleep views hints k none has =
      by_test (λ b. key_eq key k.key ≡ b → IfAsleep (alerted views hints k)) (key_eq key k.key)
      (λ _ same. subst (λ (hs : List Hint). IfAsleep (alerted views hs k)) (sym (none same)) (unheard-asleep views k has))
      (λ _ apart. followed-asleep k (alerted views hints k) (alerted-follows views hints k) apart) refl

  there-asleep : (found : Option Knote) → IfAsleep found → All IsAsleep (if_there found)
  unfolding if_there
  there-asleep None has = All-nil IsAsleep
  there-asleep (Some k) has = All-cons IsAsleep k [] has (All-nil IsAsleep)

  alerting-asleep : (views : Views) (posted : List Posted) (ks : List Knote)
      → All (λ (k : Knote). key_eq key k.key ≡ true → hints_for k posted ≡ []) ks → All IsAsleep ks
      → All IsAsleep (knotes_alerted views posted ks)
  unfolding knotes_alerted
  alerting-asleep views posted [] none all = All-nil IsAsleep
  alerting-asleep views posted (k ∷ ks) none all =
      let NoHint = λ (x : Knote). key_eq key x.key ≡ true → hints_for x posted ≡ [] in
      let found = alerted views (hints_for k posted) k in
      All-append IsAsleep (if_there found) (knotes_alerted views posted ks)
      (there-asleep found (alerted-asleep views (hints_for k posted) k (All-head NoHint k ks none) (All-head IsAsleep k ks all)))
      (alerting-asleep views posted ks (All-tail NoHint k ks none) (All-tail IsAsleep k ks all))

  heir-asleep : (f : Fork) (parent present : Option Knote) → key_eq key (process_key f.child) ≡ false
      → IfAsleep (heir f parent present)
  unfolding heir
  heir-asleep f (Some k) None apart =
      cond_both (follows f.parent k) (Some (child_knote f k)) None IfAsleep
      (λ _. apart-asleep (child_knote f k) apart) (λ _. tt)
  heir-asleep f None present apart = tt
  heir-asleep f (Some k) (Some x) apart = tt

  with_heir-asleep : (found : Option Knote) (kq : Kqueue) → IfAsleep found → AreAsleep kq
      → AreAsleep (with_heir found kq)
  unfolding with_heir
  with_heir-asleep None kq has all = all
  with_heir-asleep (Some k) kq has all =
      All-append IsAsleep kq.knotes (k ∷ []) all (All-cons IsAsleep k [] has (All-nil IsAsleep))

  each-asleep : (fs : List Fork) (kq : Kqueue) → All (λ (f : Fork). key_eq key (process_key f.child) ≡ false) fs
      → AreAsleep kq
      → AreAsleep (followed_each fs kq)
  unfolding followed_each
  each-asleep [] kq others all = all
  each-asleep (f ∷ fs) kq others all =
      let Other = λ (x : Fork). key_eq key (process_key x.child) ≡ false in
      each-asleep fs (with_heir (heir_in f kq) kq) (All-tail Other f fs others)
      (with_heir-asleep (heir_in f kq) kq
      (heir-asleep f (find_knote (process_key f.parent) kq.knotes) (find_knote (process_key f.child) kq.knotes)
      (All-head Other f fs others)) all)

  rung-asleep : (moment : ℕ) (ks : List Knote) → is_timer key.filter ≡ false → All IsAsleep ks
      → All IsAsleep (map (rung_at timers moment) ks)
  rung-asleep moment [] other all = All-nil IsAsleep
  rung-asleep moment (k ∷ ks) other all =
      All-cons IsAsleep (rung_at timers moment k) (map (rung_at timers moment) ks)
      (cond_both (expires_at k moment) (expired k) k IsAsleep
      (λ rings same. absurd (true≢false (sym (and_parts (is_timer k.key.filter) _ rings).0
      ∙ subst (λ (o : Key). is_timer o.filter ≡ false) (same_key key k.key same) other)))
      (λ _. All-head IsAsleep k ks all))
      (rung-asleep moment ks other (All-tail IsAsleep k ks all))

  walked-asleep : (from n : ℕ) (w : Waiting Knote Key) → is_timer key.filter ≡ false → All IsAsleep w.items
      → All IsAsleep (walked timers from n w).items
  unfolding walked
  walked-asleep from zero w other all = all
  walked-asleep from (suc n) w other all =
      rung-asleep (from + suc n) (walked timers from n w).items other (walked-asleep from n w other all)

  clocked-asleep : (span : Span) (kq : Kqueue) → is_timer key.filter ≡ false → AreAsleep kq
      → AreAsleep (clocked (Some span) kq)
  unfolding clocked clock_from
  clocked-asleep span kq other all = walked-asleep span.from (span.to - span.from) (waiting_of kq) other all

  closed-asleep : (owner : ℕ) (pairs : List Pair) (kq : Kqueue) → AreAsleep kq → AreAsleep (closed owner pairs kq)
  unfolding closed
  closed-asleep owner pairs kq all =
      All-filter (λ (k : Knote). not (is_closed owner pairs k.key)) IsAsleep kq.knotes all

  notified-asleep : (views : Views) (posted : List Posted) (kq : Kqueue)
      → All (λ (k : Knote). key_eq key k.key ≡ true → hints_for k posted ≡ []) kq.knotes → AreAsleep kq
      → AreAsleep (notified views posted kq)
  unfolding notified
  notified-asleep views posted kq none all = alerting-asleep views posted kq.knotes none all

  -- ---- a life in which nothing is told to it

  step-asleep : (s : Step) (l : Life) → TellsNothing key s l → AreAsleep l.kq → AreAsleep (stepped s l).kq
  step-asleep (Closes owner pairs) l silent all = closed-asleep owner pairs l.kq all
  step-asleep (Hints posted views) l silent all =
      each-asleep (forks_in l.version posted) (notified views posted l.kq) silent.1
      (notified-asleep views posted l.kq silent.0 all)
  step-asleep (Passes moment) l silent all = clocked-asleep (record { from = l.now; to = moment }) l.kq silent all
  step-asleep (Calls caller changes room) l silent all = call-asleep caller room changes l.kq silent all

  pub life-asleep : (steps : List Step) (l : Life) → TellNothing key steps l → AreAsleep l.kq
      → AreAsleep (lived steps l).kq
  life-asleep [] l silent all = all
  life-asleep (s ∷ steps) l silent all = life-asleep steps (stepped s l) silent.1 (step-asleep s l silent.0 all)

-- Every operation on one kqueue keeps what holds of the filter and ident of its knotes and of the keys in its
-- queue, since only a knote's key comes into the queue.
use Rattle.std.proofs.Common.{◌≡◌, ℕ, zero, suc, ◌+◌, ◌-◌, not, ◌&&◌, ltb, length, List, [], ◌∷◌, ◌++◌, Option, Some, None, refl}
use Rattle.std.proofs.lemmas.Bool.{cond_both}
use Rattle.std.proofs.lemmas.List.Elements.{All-nil, All-head, All-tail, All-append, All-cons, All-filter, All-push}
use Rattle.std.specs.List.{All}
use Rattle.kq_model.specs.declared.change.Change.{Change}
use Rattle.kq_model.specs.declared.filter.Filter.{Filter}
use Rattle.kq_model.specs.declared.kevent.Kevent.{Kevent}
use Rattle.kq_model.specs.declared.key.Key.{Key}
use Rattle.kq_model.specs.declared.object.Hint.{Hint}
use Rattle.kq_model.specs.declared.object.Target.{Target}
use Rattle.kq_model.specs.declared.reply.Reply.{Reply}
use Rattle.kq_model.specs.Call.{Processed, entry_of, is_answered, after, process, returned, by_entries, by_answer, concluded, call}
use Rattle.kq_model.specs.Caller.{Caller}
use Rattle.kq_model.specs.ChangedKnote.{key_of, made, modified}
use Rattle.kq_model.specs.Clock.{Span, timers, waiting_of, clock_from, clocked}
use Rattle.kq_model.specs.Close.{Pair, is_closed, closed}
use Rattle.kq_model.specs.Following.{Fork, with_heir, heir_in, forks_in, followed_each, followed}
use Rattle.kq_model.specs.Hearing.{Hearing}
use Rattle.kq_model.specs.Hints.{hints_for, alerted, queue_with, queue_alerted, queue_after_all, notified}
use Rattle.kq_model.specs.Knote.{Knote, key_eq, has_key, without_key, queued, find_knote}
use Rattle.kq_model.specs.Kqueue.{Kqueue}
use Rattle.kq_model.specs.Look.{Seen, look}
use Rattle.kq_model.specs.Moment.{Moment, happened}
use Rattle.kq_model.specs.Registration.{Decision, Refuse, Remove, Make, Modify, Registered, is_restart, without_restarted, queue_for, decision, carried_out, register}
use Rattle.kq_model.specs.Retrieval.{Retrieved, stays, back_after, without_notice, with_notice_told, settled, turned_at_look, turned_at, turned, delivered, after_turn, retrieve, retrieval}
use Rattle.kq_model.specs.Subjects.{HasSubject, HaveSubjects, MakesSubject, MakeSubjects, FollowsSubject, FollowSubjects}
use Rattle.kq_model.specs.Targets.{Posted}
use Rattle.kq_model.specs.TimerWalk.{Waiting, is_fresh, queue_at, walked}
use Rattle.kq_model.specs.Views.{Views}
use Rattle.kq_model.proofs.Subjects.{find_knote-subject, made-subject, modified-subject, decision-subject, register-subjects}
use Rattle.kq_model.proofs.SubjectsCall.{turned-subjects, alerted-subject, walked-subjects, closed-subjects, notified-subjects, clocked-subjects, heir_in-subject, followed_each-subjects}

module _ {S : Type 0} (h : Hearing S) (R : Filter → ℕ → Type 0) where
  abbrev P : Filter → ℕ → Option Target → Type 0
  P filter ident target = R filter ident

  abbrev Is : Knote h → Type 0
  Is k = HasSubject P k

  abbrev Are : List (Knote h) → Type 0
  Are ks = HaveSubjects P ks

  abbrev IsKey : Key → Type 0
  IsKey key = R key.filter key.ident

  abbrev AreKeys : List Key → Type 0
  AreKeys keys = All IsKey keys

  -- of knotes and queue
  abbrev pub Hold : Kqueue h → Type 0
  Hold kq = Are kq.knotes × AreKeys kq.queue

  abbrev IfIs : Option (Knote h) → Type 0
  IfIs None = Unit {0}
  IfIs (Some k) = Is k

  abbrev Decides : Decision h → Type 0
  Decides (Refuse e) = Unit {0}
  Decides Remove = Unit {0}
  Decides Make = Unit {0}
  Decides (Modify k) = Is k

  -- ---- the queue of one knote

  without_key-keys : (key : Key) (queue : List Key) → AreKeys queue → AreKeys (without_key key queue)
  without_key-keys key queue all = All-filter (λ other. not (key_eq key other)) IsKey queue all

  queued-keys : (key : Key) (queue : List Key) → IsKey key → AreKeys queue → AreKeys (queued key queue)
  queued-keys key queue has all =
      cond_both (has_key key queue) queue (queue ++ key ∷ []) AreKeys (λ _. all) (λ _. All-push IsKey queue key all has)

  queue_for-keys : (k : Knote h) (queue : List Key) → Is k → AreKeys queue → AreKeys (queue_for k queue)
  unfolding queue_for
  queue_for-keys k queue has all =
      cond_both k.enabled _ _ AreKeys
      (λ _. cond_both k.active _ _ AreKeys (λ _. queued-keys k.key queue has all) (λ _. all))
      (λ _. without_key-keys k.key queue all)

  -- ---- a registration

  without_restarted-keys : (c : Change) (queue : List Key) → AreKeys queue → AreKeys (without_restarted c queue)
  without_restarted-keys c queue all =
      cond_both (is_restart c) _ _ AreKeys (λ _. without_key-keys (key_of c) queue all) (λ _. all)

  carried_out-keys : (caller : Caller) (c : Change) (kq : Kqueue h) (d : Decision h) → AreKeys kq.queue → Decides d
      → (d ≡ Make → R c.filter c.ident) → AreKeys (carried_out caller c kq d).kq.queue
  unfolding carried_out
  carried_out-keys caller c kq (Refuse e) all fine new = all
  carried_out-keys caller c kq Remove all fine new = without_key-keys (key_of c) kq.queue all
  carried_out-keys caller c kq Make all fine new =
      queue_for-keys (made caller c) kq.queue (made-subject h P caller c (new refl)) all
  carried_out-keys caller c kq (Modify k) all fine new =
      queue_for-keys (modified caller c k) (without_restarted c kq.queue) (modified-subject h P caller c k fine) (without_restarted-keys c kq.queue all)

  register-keys : (caller : Caller) (c : Change) (kq : Kqueue h) → Hold kq → MakesSubject P caller c kq → AreKeys (register caller c kq).kq.queue
  unfolding register
  register-keys caller c kq held new =
      carried_out-keys caller c kq (decision caller (find_knote (key_of c) kq.knotes) c) held.1
      (decision-subject h P caller (find_knote (key_of c) kq.knotes) c (find_knote-subject h P (key_of c) kq.knotes held.0)) new

  register-hold : (caller : Caller) (c : Change) (kq : Kqueue h) → Hold kq → MakesSubject P caller c kq → Hold (register caller c kq).kq
  register-hold caller c kq held new = (register-subjects h P caller c kq held.0 new, register-keys caller c kq held new)

  -- ---- a retrieval

  back_after-keys : (k : Knote h) (back : List Key) → Is k → AreKeys back → AreKeys (back_after k back)
  unfolding back_after
  back_after-keys k back has all = cond_both (stays k) _ _ AreKeys (λ _. All-push IsKey back k.key all has) (λ _. all)

  with_told-keys : (k : Knote h) (kq : Kqueue h) (seen : Option Seen) → Is k → AreKeys kq.queue → AreKeys (with_notice_told k kq seen).queue
  unfolding with_notice_told
  with_told-keys k kq None has all = all
  with_told-keys k kq (Some seen) has all = All-push IsKey kq.queue k.key all has

  settled-keys : (views : Views) (k : Knote h) (kq : Kqueue h) (notice : Option ℕ) → Is k → AreKeys kq.queue → AreKeys (settled views k kq notice).queue
  unfolding settled
  settled-keys views k kq None has all = back_after-keys k kq.queue has all
  settled-keys views k kq (Some parent) has all = with_told-keys (without_notice k) kq (look views (without_notice k)) has all

  turned_at_look-keys : (views : Views) (k : Knote h) (kq : Kqueue h) (seen : Option Seen) → Is k → AreKeys kq.queue → AreKeys (turned_at_look views k kq seen).kq.queue
  unfolding turned_at_look
  turned_at_look-keys views k kq None has all = all
  turned_at_look-keys views k kq (Some seen) has all = settled-keys views k kq k.notice has all

  turned_at-keys : (views : Views) (kq : Kqueue h) (found : Option (Knote h)) → IfIs found → AreKeys kq.queue → AreKeys (turned_at views kq found).kq.queue
  unfolding turned_at
  turned_at-keys views kq None has all = all
  turned_at-keys views kq (Some k) has all = turned_at_look-keys views k kq (look views k) has all

  turned-hold : (views : Views) (key : Key) (kq : Kqueue h) → Hold kq → Hold (turned views key kq).kq
  unfolding turned
  turned-hold views key kq held = (
    turned-subjects h P views key kq held.0,
    turned_at-keys views kq (find_knote key kq.knotes) (find_knote-subject h P key kq.knotes held.0) held.1,
  )

  after_turn-hold : (rest : ℕ → Kqueue h → Retrieved h) → ((room : ℕ) (kq : Kqueue h) → Hold kq → Hold (rest room kq).kq)
      → (room : ℕ) (kq : Kqueue h) (event : Option Kevent) → Hold kq → Hold (after_turn rest room kq event).kq
  unfolding after_turn delivered
  after_turn-hold rest keeps room kq None held = keeps (suc room) kq held
  after_turn-hold rest keeps room kq (Some event) held = keeps room kq held

  retrieve-hold : (views : Views) (keys : List Key) (room : ℕ) (kq : Kqueue h) → AreKeys keys → Hold kq → Hold (retrieve views keys room kq).kq
  unfolding retrieve
  retrieve-hold views [] room kq waiting held = held
  retrieve-hold views (key ∷ keys) zero kq waiting held = (held.0, All-append IsKey (key ∷ keys) kq.queue waiting held.1)
  retrieve-hold views (key ∷ keys) (suc room) kq waiting held =
      after_turn-hold (retrieve views keys) (λ more q has. retrieve-hold views keys more q (All-tail IsKey key keys waiting) has)
      room (turned views key kq).kq (turned views key kq).event (turned-hold views key kq held)

  retrieval-hold : (views : Views) (room : ℕ) (kq : Kqueue h) → Hold kq → Hold (retrieval views room kq).kq
  unfolding retrieval
  retrieval-hold views room kq held = retrieve-hold views kq.queue room (record kq { queue = [] }) held.1 (held.0, All-nil IsKey)

  -- ---- a call

  after-hold : (rest : List Kevent → Kqueue h → Processed h) → ((placed : List Kevent) (kq : Kqueue h) → Hold kq → Hold (rest placed kq).kq)
      → (room : ℕ) (c : Change) (placed : List Kevent) (r : Registered h) → Hold r.kq → Hold (after rest room c placed r).kq
  unfolding after
  after-hold rest keeps room c placed r held =
      cond_both (is_answered c r.error) _ _ Fine
      (λ _. cond_both (ltb (length placed) room) _ _ Fine (λ _. keeps (placed ++ entry_of c r.error ∷ []) r.kq held) (λ _. held))
      (λ _. keeps placed r.kq held)
    where
      Fine : Processed h → Type 0
      Fine p = Hold p.kq

  process-hold : (caller : Caller) (room : ℕ) (changes : List Change) (placed : List Kevent) (kq : Kqueue h) → MakeSubjects h P caller changes
      → Hold kq → Hold (process caller room changes placed kq).kq
  unfolding process
  process-hold caller room [] placed kq new held = held
  process-hold caller room (c ∷ changes) placed kq new held =
      after-hold (process caller room changes)
      (λ more q has. process-hold caller room changes more q (All-tail (λ x. (qq : Kqueue h) → MakesSubject P caller x qq) c changes new) has)
      room c placed (register caller c kq)
      (register-hold caller c kq held (All-head (λ x. (qq : Kqueue h) → MakesSubject P caller x qq) c changes new kq))

  by_entries-hold : (views : Views) (room : ℕ) (placed : List Kevent) (kq : Kqueue h) → Hold kq → Hold (by_entries views room placed kq).kq
  unfolding by_entries returned
  by_entries-hold views room [] kq held = retrieval-hold views room kq held
  by_entries-hold views room (entry ∷ entries) kq held = held

  by_answer-hold : (views : Views) (room : ℕ) (p : Processed h) (answer : Option Reply) → Hold p.kq → Hold (by_answer views room p answer).kq
  unfolding by_answer
  by_answer-hold views room p (Some reply) held = held
  by_answer-hold views room p None held = by_entries-hold views room p.placed p.kq held

  pub call-hold : (caller : Caller) (room : ℕ) (changes : List Change) (kq : Kqueue h) → MakeSubjects h P caller changes → Hold kq
      → Hold (call caller room changes kq).kq
  unfolding call concluded
  call-hold caller room changes kq new held =
      let p = process caller room changes [] kq in
      by_answer-hold caller.views room p p.answer (process-hold caller room changes [] kq new held)

  -- ---- closes, hints and the clock

  closed-hold : (owner : ℕ) (pairs : List Pair) (kq : Kqueue h) → Hold kq → Hold (closed owner pairs kq)
  unfolding closed
  closed-hold owner pairs kq held =
      (closed-subjects h P owner pairs kq held.0, All-filter (λ key. not (is_closed owner pairs key)) IsKey kq.queue held.1)

  queue_with-keys : (key : Key) (found : Option (Knote h)) (queue : List Key) → IfIs found → AreKeys queue → AreKeys (queue_with key found queue)
  unfolding queue_with
  queue_with-keys key None queue has all = without_key-keys key queue all
  queue_with-keys key (Some k) queue has all = queue_for-keys k queue has all

  queue_alerted-keys : (views : Views) (hints : List Hint) (k : Knote h) (queue : List Key) → Is k → AreKeys queue → AreKeys (queue_alerted views hints k queue)
  unfolding queue_alerted
  queue_alerted-keys views [] k queue has all = all
  queue_alerted-keys views (hint ∷ hints) k queue has all =
      queue_with-keys k.key (alerted views (hint ∷ hints) k) queue (alerted-subject h P views (hint ∷ hints) k has) all

  queue_after_all-keys : (views : Views) (posted : List Posted) (ks : List (Knote h)) (queue : List Key) → Are ks → AreKeys queue
      → AreKeys (queue_after_all views posted ks queue)
  unfolding queue_after_all
  queue_after_all-keys views posted [] queue have all = all
  queue_after_all-keys views posted (k ∷ ks) queue have all =
      queue_after_all-keys views posted ks (queue_alerted views (hints_for k posted) k queue) (All-tail Is k ks have)
      (queue_alerted-keys views (hints_for k posted) k queue (All-head Is k ks have) all)

  notified-hold : (views : Views) (posted : List Posted) (kq : Kqueue h) → Hold kq → Hold (notified views posted kq)
  unfolding notified
  notified-hold views posted kq held =
      (notified-subjects h P views posted kq held.0, queue_after_all-keys views posted kq.knotes kq.queue held.0 held.1)

  -- a child's knote comes with its key
  with_heir-keys : (heir : Option (Knote h)) (kq : Kqueue h) → IfIs heir → AreKeys kq.queue → AreKeys (with_heir heir kq).queue
  unfolding with_heir
  with_heir-keys None kq has all = all
  with_heir-keys (Some k) kq has all = queue_for-keys k kq.queue has all

  followed_each-keys : (fs : List Fork) (kq : Kqueue h) → All (FollowsSubject P) fs → Hold kq → AreKeys (followed_each fs kq).queue
  unfolding followed_each
  followed_each-keys [] kq passes held = held.1
  followed_each-keys (f ∷ fs) kq passes held =
      followed_each-keys fs (with_heir (heir_in f kq) kq) (All-tail (FollowsSubject P) f fs passes) (
        followed_one-subjects f kq (All-head (FollowsSubject P) f fs passes) held.0,
        with_heir-keys (heir_in f kq) kq (heir_in-subject h P f kq held.0 (All-head (FollowsSubject P) f fs passes)) held.1,
      )
    where
      followed_one-subjects : (f : Fork) (kq : Kqueue h) → FollowsSubject P f → Are kq.knotes → Are (with_heir (heir_in f kq) kq).knotes
      followed_one-subjects f kq passes all = followed_each-subjects h P (f ∷ []) kq (All-cons (FollowsSubject P) f [] passes (All-nil (FollowsSubject P))) all

  followed-hold : (version : ℕ) (posted : List Posted) (kq : Kqueue h) → FollowSubjects P version posted → Hold kq → Hold (followed version posted kq)
  followed-hold version posted kq passes held =
      (followed_each-subjects h P (forks_in version posted) kq passes held.0, followed_each-keys (forks_in version posted) kq passes held)

  queue_at-keys : (moment : ℕ) (ks : List (Knote h)) (queue : List Key) → Are ks → AreKeys queue → AreKeys (queue_at timers moment ks queue)
  unfolding queue_at
  queue_at-keys moment [] queue have all = all
  queue_at-keys moment (k ∷ ks) queue have all =
      queue_at-keys moment ks _ (All-tail Is k ks have)
      (cond_both (timers.expires k moment && is_fresh timers queue k) (queue ++ k.key ∷ []) queue AreKeys
      (λ _. All-push IsKey queue k.key all (All-head Is k ks have)) (λ _. all))

  walked-keys : (from n : ℕ) (w : Waiting (Knote h) Key) → Are w.items → AreKeys w.queue → AreKeys (walked timers from n w).queue
  unfolding walked
  walked-keys from zero w have all = all
  walked-keys from (suc n) w have all =
      queue_at-keys (from + suc n) (walked timers from n w).items (walked timers from n w).queue
      (walked-subjects h P from n w have) (walked-keys from n w have all)

  clocked-keys : (span : Option Span) (kq : Kqueue h) → Hold kq → AreKeys (clocked span kq).queue
  unfolding clocked clock_from
  clocked-keys None kq held = held.1
  clocked-keys (Some span) kq held = walked-keys span.from (span.to - span.from) (waiting_of kq) held.0 held.1

  clocked-hold : (span : Option Span) (kq : Kqueue h) → Hold kq → Hold (clocked span kq)
  clocked-hold span kq held = (clocked-subjects h P span kq held.0, clocked-keys span kq held)

  pub happened-hold : (owner : ℕ) (m : Moment) (kq : Kqueue h) → FollowSubjects P m.version m.hints → Hold kq → Hold (happened owner m kq)
  unfolding happened
  happened-hold owner m kq passes held =
      clocked-hold m.clock _ (followed-hold m.version m.hints _ passes
      (notified-hold m.views m.hints _ (closed-hold owner m.closed kq held)))

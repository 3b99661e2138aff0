-- The reply to an event has at most as many events as the room of its call.
use Rattle.std.proofs.Common.{◌≡◌, ℕ, zero, suc, ◌<◌, ◌≤◌, Bool, true, cond, eqb, List, [], ◌∷◌, ◌++◌, length, nat_lt, Option, Some, None, refl, sym, subst, arith}
use Rattle.std.proofs.lemmas.List.{length_push}
use borrow.Author.Tests.{ltb-true}
use Rattle.kq_model.specs.declared.change.Change.{Change}
use Rattle.kq_model.specs.declared.errno.Errno.{Errno}
use Rattle.kq_model.specs.declared.event.Event.{Event}
use Rattle.kq_model.specs.declared.kevent.Kevent as kevents
use Rattle.kq_model.specs.declared.key.Key.{Key}
use Rattle.kq_model.specs.declared.reply.Reply.{Reply}
use Rattle.kq_model.specs.declared.reply.Reply.TheVariants as reply
use Rattle.kq_model.specs.Call.{Processed, after, by_answer, by_entries, call, concluded, ended, entry_of, is_answered, process, returned}
use Rattle.kq_model.specs.Caller.{Caller}
use Rattle.kq_model.specs.Hearing.{Hearing}
use Rattle.kq_model.specs.Kqueue.{Kqueue}
use Rattle.kq_model.specs.Moment.{Moment, called_at, caller_at, happened, moment_of}
use Rattle.kq_model.specs.Objects.{Keeping}
use Rattle.kq_model.specs.Plans.{plan}
use Rattle.kq_model.specs.Registration.{Registered, register}
use Rattle.kq_model.specs.Report.{events_in}
use Rattle.kq_model.specs.Retrieval.{Retrieved, after_turn, delivered, retrieval, retrieve, turned}
use Rattle.kq_model.specs.System.{Live, System, answer, reply_to, step, step_by}
use Rattle.kq_model.specs.Tallied as system
use Rattle.kq_model.specs.Views.{Views}
use Rattle.kq_model.specs.World.{Call, Impossible, Planned, Possible, seen_world}
use Rattle.kq_model.proofs.KnoteLaws.{by_test}
use Rattle.kq_merge.specs.Bounds.{line_bound}
use Rattle.kq_merge.specs.Rooms.{HasAtMost, answer_bound, bytes_for, room_of}
use Rattle.kq_merge.proofs.Calling.{CallsWithin, PlansWithin, plan_within}

weaker : (small large : ℕ) (r : Reply) → small ≤ large → HasAtMost small r → HasAtMost large r
weaker small large reply.Done le fits = tt
weaker small large (reply.Events events) le fits = omega arith
weaker small large (reply.Failed e) le fits = tt
weaker small large (reply.Impossible why) le fits = tt

abbrev AnswerFits : ℕ → Option Reply → Type 0
AnswerFits room None = Unit {0}
AnswerFits room (Some r) = HasAtMost room r

ended_fits : (room : ℕ) (e : Option Errno) (placed : List kevents.Kevent) → length placed ≤ room
    → HasAtMost room (ended e placed)
unfolding ended
ended_fits room None placed fits = fits
ended_fits room (Some e) placed fits = tt

module _ {S : Type 0} {h : Hearing S} where
  -- ---- a retrieval

  after_turn_fits : (rest : ℕ → Kqueue h → Retrieved h) → ((n : ℕ) (kq : Kqueue h) → length (rest n kq).events ≤ n)
      → (room : ℕ) (kq : Kqueue h) (next : Option kevents.Kevent)
      → length (after_turn rest room kq next).events ≤ suc room
  unfolding after_turn delivered
  after_turn_fits rest fits room kq None = fits (suc room) kq
  after_turn_fits rest fits room kq (Some next) = let less = fits room kq in omega arith

  retrieve_fits : (views : Views) (keys : List Key) (room : ℕ) (kq : Kqueue h)
      → length (retrieve views keys room kq).events ≤ room
  unfolding retrieve
  retrieve_fits views [] room kq = omega arith
  retrieve_fits views (key ∷ keys) zero kq = omega arith
  retrieve_fits views (key ∷ keys) (suc room) kq =
      after_turn_fits (retrieve views keys) (λ n q. retrieve_fits views keys n q) room (turned views key kq).kq
      (turned views key kq).event

  retrieval_fits : (views : Views) (room : ℕ) (kq : Kqueue h) → length (retrieval views room kq).events ≤ room
  unfolding retrieval
  retrieval_fits views room kq = retrieve_fits views kq.queue room (record kq { queue = [] })

  -- ---- the changes

  abbrev ProcessedFits : ℕ → Processed h → Type 0
  ProcessedFits room p = (length p.placed ≤ room) × AnswerFits room p.answer

  abbrev after_by : (List kevents.Kevent → Kqueue h → Processed h) → Change → List kevents.Kevent → Registered h → Bool
      → Bool → Processed h
  after_by rest c placed r answered fits = cond answered
      (cond fits (rest (placed ++ entry_of c r.error ∷ []) r.kq)
      (record { kq = r.kq; placed = placed; answer = Some (ended r.error placed) })) (rest placed r.kq)

  after_fits : (rest : List kevents.Kevent → Kqueue h → Processed h) (room : ℕ) (c : Change)
      (placed : List kevents.Kevent) (r : Registered h) → length placed ≤ room
      → ((es : List kevents.Kevent) (kq : Kqueue h) → length es ≤ room → ProcessedFits room (rest es kq))
      → ProcessedFits room (after rest room c placed r)
  unfolding after
  after_fits rest room c placed r fits all =
      by_test (λ b. ProcessedFits room (after_by rest c placed r b (nat_lt (length placed) room)))
      (is_answered c r.error)
      (λ _. by_test (λ f. nat_lt (length placed) room ≡ f → ProcessedFits room (after_by rest c placed r true f))
      (nat_lt (length placed) room)
      (λ _ e. let less : length placed < room = ltb-true (length placed) room e in
      all (placed ++ entry_of c r.error ∷ []) r.kq (omega (arith, length_push placed (entry_of c r.error))))
      (λ _ e. (fits, ended_fits room r.error placed fits)) refl)
      (λ _. all placed r.kq fits)

  process_fits : (caller : Caller) (room : ℕ) (cs : List Change) (placed : List kevents.Kevent) (kq : Kqueue h)
      → length placed ≤ room → ProcessedFits room (process caller room cs placed kq)
  unfolding process
  process_fits caller room [] placed kq fits = (fits, tt)
  process_fits caller room (c ∷ cs) placed kq fits =
      after_fits (process caller room cs) room c placed (register caller c kq) fits
      (λ es q less. process_fits caller room cs es q less)

  -- ---- the call

  by_entries_fits : (views : Views) (room : ℕ) (es : List kevents.Kevent) (kq : Kqueue h) → length es ≤ room
      → HasAtMost room (by_entries views room es kq).reply
  unfolding by_entries returned
  by_entries_fits views room [] kq fits = retrieval_fits views room kq
  by_entries_fits views room (e ∷ es) kq fits = fits

  by_answer_fits : (views : Views) (room : ℕ) (p : Processed h) (a : Option Reply) → length p.placed ≤ room
      → AnswerFits room a → HasAtMost room (by_answer views room p a).reply
  unfolding by_answer
  by_answer_fits views room p (Some r) fits answered = answered
  by_answer_fits views room p None fits answered = by_entries_fits views room p.placed p.kq fits

  call_fits : (caller : Caller) (room : ℕ) (cs : List Change) (kq : Kqueue h)
      → HasAtMost room (call caller room cs kq).reply
  unfolding call concluded
  call_fits caller room cs kq =
      let p = process caller room cs [] kq in
      let fits = process_fits caller room cs [] kq (omega arith) in
      by_answer_fits caller.views room p p.answer fits.0 fits.1

  -- ---- the live kqueues

  answer_fits : (m : Moment) (c : Call) (ls : List (Live h)) → HasAtMost c.room (answer m c ls)
  unfolding answer called_at
  answer_fits m c [] = tt
  answer_fits m c (l ∷ ls) =
      by_test (λ b. HasAtMost c.room (cond b (called_at l.owner m c l.kq).reply (answer m c ls))) (eqb c.kqueue l.place)
      (λ _. call_fits (caller_at l.owner m) c.room c.changes (happened l.owner m l.kq))
      (λ _. answer_fits m c ls)

  reply_to_fits : (room : ℕ) (m : Moment) (c : Option Call) (ls : List (Live h)) → CallsWithin room c
      → HasAtMost room (reply_to m c ls)
  unfolding reply_to
  reply_to_fits room m None ls within = tt
  reply_to_fits room m (Some c) ls within = weaker c.room room (answer m c ls) within (answer_fits m c ls)

-- ---- the step

module _ {S A B C D : Type 0} {h : Hearing S} {k : Keeping A B C D} where
  step_by_fits : (room place : ℕ) (p : Planned) (s : System h k) → PlansWithin room p
      → HasAtMost room (step_by place p s).reply
  unfolding step_by
  step_by_fits room place (Impossible why) s within = tt
  step_by_fits room place (Possible p) s within =
      reply_to_fits room (moment_of s.version place p s.world) p.call s.live within.calls

  pub step_fits : (place : ℕ) (e : Event) (s : System h k) → HasAtMost (room_of e) (step place e s).reply
  unfolding step
  step_fits place e s =
      step_by_fits (room_of e) place (plan place e (seen_world s.world)) s (plan_within place e (seen_world s.world))

-- a step of the system, as the definitions have it
abbrev IsReplyOf : ℕ → Event → system.System → Reply → Type 0
IsReplyOf place e old r = r ≡ (step place e old).reply

-- the reply has at most so many events
pub reply_fits : (place : ℕ) (e : Event) (old : system.System) (r : Reply) (room : ℕ) → IsReplyOf place e old r
    → room_of e ≤ room → HasAtMost room r
reply_fits place e old r room is le =
    weaker (room_of e) room r le (subst (λ (x : Reply). HasAtMost (room_of e) x) (sym is) (step_fits place e old))

bound_by : (room : ℕ) (r : Reply) → HasAtMost room r → line_bound r ≤ bytes_for room
unfolding events_in
bound_by room reply.Done fits = omega arith
bound_by room (reply.Events events) fits = omega arith
bound_by room (reply.Failed e) fits = omega arith
bound_by room (reply.Impossible why) fits = omega arith

-- its line fits into the bytes for such a reply
pub line_fits : (place : ℕ) (e : Event) (old : system.System) (r : Reply) (bytes : ℕ) → IsReplyOf place e old r
    → answer_bound e ≤ bytes → line_bound r ≤ bytes
line_fits place e old r bytes is le =
    let fits = reply_fits place e old r (room_of e) is (omega arith) in
    let within = bound_by (room_of e) r fits in omega arith

-- What waits in the queue and is due is returned, where there is room for it and for what waits in front.
use Rattle.std.proofs.Common.{◌≡◌, ℕ, zero, suc, ◌<◌, Bool, true, false, cond, ◌&&◌, ◌||◌, List, [], ◌∷◌, Option, Some, None, inl, inr, refl, sym, ap, ◌∙◌, subst, arith}
use Rattle.std.proofs.lemmas.Bool.{cond_both, true≢false, or_left, or_right}
use Rattle.std.specs.List.{All}
use Rattle.std.specs.Option.{is_some}
use Rattle.kq_model.specs.declared.change.Change.{Change}
use Rattle.kq_model.specs.declared.kevent.Kevent.{Kevent}
use Rattle.kq_model.specs.declared.key.Key.{Key}
use Rattle.kq_model.specs.declared.reply.Reply.{Reply}
use Rattle.kq_model.specs.declared.reply.Reply.TheVariants.{Events}
use Rattle.kq_model.specs.Call.{is_answered, after, process, returned, by_entries, by_answer, concluded, call}
use Rattle.kq_model.specs.CallLaws.{AreQuiet, kqueue_after_changes}
use Rattle.kq_model.specs.Caller.{Caller}
use Rattle.kq_model.specs.Knote.{key_eq, has_key, find_knote}
use Rattle.kq_model.specs.Kqueue.{AreOnce, is_waiting, IsSound}
use Rattle.kq_model.specs.Look.{Seen, look}
use Rattle.kq_model.specs.Registration.{register}
use Rattle.kq_model.specs.Retrieval.{event_of, rested, knotes_after, with_idle, without_notice, with_notice_told, settled, with_delivered, turned_at_look, turned_at, turned, delivered, after_turn, retrieve, retrieval}
use Rattle.kq_model.specs.Tallied.{Called, Knote, Kqueue, Processed, Retrieved, Turned}
use Rattle.kq_model.specs.Views.{Views}
use Rattle.kq_model.proofs.KeyLaws.{same_key, key_eq-refl}
use Rattle.kq_model.proofs.KnoteLaws.{by_test, find_knote-key, find_knote-with_other, find_knote-without_other}
use Rattle.kq_kevent.proofs.AnswerLaws.{IsSound-process}
use Rattle.kq_kevent.proofs.SoundLaws.{waiting-some}
use Rattle.kq_kevent.proofs.TurnLaws.{turned-idle, turned-delivered}
use Rattle.kq_kevent.proofs.TurnSound.{rested-key}
use Rattle.kq_laws.specs.Life.{born, lived}
use Rattle.kq_laws.specs.Wakes.{due_at, ahead, IsAmong, LosesNoWakeUp, ReturnsDue}
use Rattle.kq_laws.proofs.Awake.{IsAwake, awake-is, awake-view, life-awake, process-awake}
use Rattle.kq_laws.proofs.Lists.{found-is}
use Rattle.std.proofs.lemmas.List.Elements.{All-nil}

-- ---- a turn leaves the knotes of other keys

after-other : (other : Key) (k : Knote) (ks : List Knote) → key_eq k.key other ≡ false
    → find_knote other (knotes_after k ks) ≡ find_knote other ks
unfolding knotes_after
after-other other k ks apart =
    cond_both k.oneshot _ _ Same (λ _. find_knote-without_other other k.key ks apart)
    (λ _. cond_both (k.clear || k.dispatch) _ _ Same
    (λ _. find_knote-with_other other (rested k) ks (ap (λ (o : Key). key_eq o other) (rested-key k) ∙ apart)) (λ _. refl))
  where
    Same : List Knote → Type 0
    Same after = find_knote other after ≡ find_knote other ks

told-other : (other : Key) (k : Knote) (kq : Kqueue) (seen : Option Seen) → key_eq k.key other ≡ false
    → find_knote other (with_notice_told k kq seen).knotes ≡ find_knote other kq.knotes
unfolding with_notice_told
told-other other k kq None apart = find_knote-with_other other (record k { active = false }) kq.knotes apart
told-other other k kq (Some seen) apart = find_knote-with_other other k kq.knotes apart

settled-other : (views : Views) (other : Key) (k : Knote) (kq : Kqueue) (notice : Option ℕ) → key_eq k.key other ≡ false
    → find_knote other (settled views k kq notice).knotes ≡ find_knote other kq.knotes
unfolding settled
settled-other views other k kq None apart = after-other other k kq.knotes apart
settled-other views other k kq (Some parent) apart =
    told-other other (without_notice k) kq (look views (without_notice k)) apart

looked-other : (views : Views) (other : Key) (k : Knote) (kq : Kqueue) (seen : Option Seen) → key_eq k.key other ≡ false
    → find_knote other (turned_at_look views k kq seen).kq.knotes ≡ find_knote other kq.knotes
unfolding turned_at_look
looked-other views other k kq None apart = find_knote-with_other other (record k { active = false }) kq.knotes apart
looked-other views other k kq (Some seen) apart = settled-other views other k kq k.notice apart

found-other : (views : Views) (key other : Key) (kq : Kqueue) (found : Option Knote) → find_knote key kq.knotes ≡ found
    → key_eq key other ≡ false → find_knote other (turned_at views kq found).kq.knotes ≡ find_knote other kq.knotes
unfolding turned_at
found-other views key other kq None is apart = refl
found-other views key other kq (Some k) is apart =
    looked-other views other k kq (look views k)
    (ap (λ (o : Key). key_eq o other) (sym (find_knote-key key kq.knotes k is)) ∙ apart)

pub turned-other : (views : Views) (key other : Key) (kq : Kqueue) → key_eq key other ≡ false
    → find_knote other (turned views key kq).kq.knotes ≡ find_knote other kq.knotes
unfolding turned
turned-other views key other kq apart = found-other views key other kq (find_knote key kq.knotes) refl apart

turned-none : (views : Views) (key : Key) (kq : Kqueue) → find_knote key kq.knotes ≡ None
    → turned views key kq ≡ record { kq = kq; event = None }
unfolding turned turned_at
turned-none views key kq none = ap (turned_at views kq) none

-- ---- the walk

-- the knotes of these keys are as they were
abbrev Agree : List Key → List Knote → List Knote → Type 0
Agree keys ks first = (key : Key) → has_key key keys ≡ true → find_knote key ks ≡ find_knote key first

in_rest : (key front : Key) (keys : List Key) → key_eq key front ≡ false → has_key key (front ∷ keys) ≡ true → has_key key keys ≡ true
in_rest key front keys apart there = sym (ap (λ b. b || has_key key keys) apart) ∙ there

agree-next : (views : Views) (front : Key) (keys : List Key) (kq : Kqueue) (first : List Knote) → has_key front keys ≡ false
    → Agree (front ∷ keys) kq.knotes first → Agree keys (turned views front kq).kq.knotes first
agree-next views front keys kq first once agree = λ other there.
    by_test (λ b. key_eq front other ≡ b → find_knote other (turned views front kq).kq.knotes ≡ find_knote other first) (key_eq front other)
    (λ _ same. absurd (true≢false (sym there ∙ subst (λ (o : Key). has_key o keys ≡ false) (same_key front other same) once)))
    (λ _ apart. turned-other views front other kq apart ∙ agree other (or_right (key_eq other front) (has_key other keys) there)) refl

abbrev following : Views → List Key → ℕ → Turned → Retrieved
following views keys room t = after_turn (retrieve views keys) room t.kq t.event

module _ (views : Views) (first : List Knote) (key : Key) (k : Knote) (seen : Seen) (here : find_knote key first ≡ Some k) (holds : look views k ≡ Some seen) where
  abbrev Finds : Retrieved → Type 0
  Finds r = IsAmong (event_of k seen) r.events

  abbrev Later : List Key → Type 0
  Later keys = (room : ℕ) (kq : Kqueue) → Agree keys kq.knotes first → has_key key keys ≡ true → ahead views first key keys < room
      → Finds (retrieve views keys room kq)

  following-none : (keys : List Key) (room : ℕ) (q : Kqueue) → Finds (retrieve views keys (suc room) q)
      → Finds (following views keys room (record { kq = q; event = None }))
  unfolding after_turn
  following-none keys room q finds = finds

  following-some : (keys : List Key) (room : ℕ) (q : Kqueue) (event : Kevent) → Finds (retrieve views keys room q)
      → Finds (following views keys room (record { kq = q; event = Some event }))
  unfolding after_turn delivered
  following-some keys room q event finds = inr finds

  following-this : (keys : List Key) (room : ℕ) (q : Kqueue) → Finds (following views keys room (record { kq = q; event = Some (event_of k seen) }))
  unfolding after_turn delivered
  following-this keys room q = inl refl

  at_front : (keys : List Key) (room : ℕ) (kq : Kqueue) → find_knote key kq.knotes ≡ Some k → Finds (following views keys room (turned views key kq))
  at_front keys room kq found =
      subst (λ (t : Turned). Finds (following views keys room t)) (sym (turned-delivered views key kq k seen found holds))
      (following-this keys room (with_delivered views k kq))

  ahead-is : (front : Key) (keys : List Key) (d : Bool) → key_eq key front ≡ false → due_at views (find_knote front first) ≡ d
      → ahead views first key (front ∷ keys) ≡ cond d (suc (ahead views first key keys)) (ahead views first key keys)
  ahead-is front keys d apart due =
      let behind = ahead views first key keys in
      ap (λ b. cond b 0 (cond (due_at views (find_knote front first)) (suc behind) behind)) apart
      ∙ ap (λ b. cond b (suc behind) behind) due

  module _ (front : Key) (keys : List Key) (room : ℕ) (kq : Kqueue) (later : Later keys) (apart : key_eq key front ≡ false)
      (next : Agree keys (turned views front kq).kq.knotes first) (there : has_key key keys ≡ true)
      (left : ahead views first key (front ∷ keys) < suc room) where
    -- the front is not due, and takes no room
    idle_front : (q : Kqueue) → turned views front kq ≡ record { kq = q; event = None } → due_at views (find_knote front first) ≡ false
        → Finds (following views keys room (turned views front kq))
    idle_front q is off =
        let same = ahead-is front keys false apart off in
        subst (λ (t : Turned). Agree keys t.kq.knotes first → Finds (following views keys room t)) (sym is)
        (λ agree. following-none keys room q (later (suc room) q agree there (omega (arith, left, same)))) next

    due_front : (q : Kqueue) (event : Kevent) → turned views front kq ≡ record { kq = q; event = Some event }
        → due_at views (find_knote front first) ≡ true → Finds (following views keys room (turned views front kq))
    due_front q event is on =
        let more = ahead-is front keys true apart on in
        subst (λ (t : Turned). Agree keys t.kq.knotes first → Finds (following views keys room t)) (sym is)
        (λ agree. following-some keys room q event (later room q agree there (omega (arith, left, more)))) next

    looked_front : (x : Knote) → find_knote front kq.knotes ≡ Some x → find_knote front first ≡ Some x → (sees : Option Seen) → look views x ≡ sees
        → Finds (following views keys room (turned views front kq))
    looked_front x found same None nothing =
        idle_front (with_idle x kq) (turned-idle views front kq x found nothing) (ap (due_at views) same ∙ ap is_some nothing)
    looked_front x found same (Some sees) there_is =
        due_front (with_delivered views x kq) (event_of x sees) (turned-delivered views front kq x sees found there_is)
        (ap (due_at views) same ∙ ap is_some there_is)

    other_front : find_knote front kq.knotes ≡ find_knote front first → (found : Option Knote) → find_knote front first ≡ found
        → Finds (following views keys room (turned views front kq))
    other_front agrees None none = idle_front kq (turned-none views front kq (agrees ∙ none)) (ap (due_at views) none)
    other_front agrees (Some x) is = looked_front x (agrees ∙ is) is (look views x) refl

  walk : (keys : List Key) → AreOnce keys → Later keys
  unfolding retrieve
  walk [] once room kq agree there left = absurd (true≢false (sym there))
  walk (front ∷ keys) once zero kq agree there left = absurd (omega (arith, left))
  walk (front ∷ keys) once (suc room) kq agree there left =
      by_test (λ b. key_eq key front ≡ b → Finds (following views keys room (turned views front kq))) (key_eq key front)
      (λ _ same. let at = same_key key front same in
      subst (λ (o : Key). Finds (following views keys room (turned views o kq))) at
      (at_front keys room kq (agree key there ∙ here)))
      (λ _ apart. other_front front keys room kq (walk keys once.1) apart (agree-next views front keys kq first once.0 agree)
      (in_rest key front keys apart there) left
      (agree front (or_left (key_eq front front) (has_key front keys) (key_eq-refl front))) (find_knote front first) refl) refl

retrieval-finds : (views : Views) (room : ℕ) (kq : Kqueue) (key : Key) (k : Knote) (seen : Seen) → AreOnce kq.queue
    → find_knote key kq.knotes ≡ Some k → look views k ≡ Some seen → has_key key kq.queue ≡ true
    → ahead views kq.knotes key kq.queue < room → IsAmong (event_of k seen) (retrieval views room kq).events
unfolding retrieval
retrieval-finds views room kq key k seen once found holds there left =
    walk views kq.knotes key k seen found holds kq.queue once room (record kq { queue = [] }) (λ _ _. refl) there left

-- ---- a call whose changes are quiet

abbrev IsThrough : List Kevent → Processed → Type 0
IsThrough placed p = (p.placed ≡ placed) × (p.answer ≡ None)

process-quiet : (caller : Caller) (room : ℕ) (cs : List Change) (placed : List Kevent) (kq : Kqueue) → AreQuiet caller cs kq
    → IsThrough placed (process caller room cs placed kq)
unfolding process after
process-quiet caller room [] placed kq quiet = (refl, refl)
process-quiet caller room (c ∷ cs) placed kq quiet =
    let r = register caller c kq in
    cond_both (is_answered c r.error) _ _ (IsThrough placed)
    (λ answered. absurd (true≢false (sym answered ∙ quiet.0)))
    (λ _. process-quiet caller room cs placed r.kq quiet.1)

quiet-call : (caller : Caller) (room : ℕ) (cs : List Change) (kq : Kqueue) → AreQuiet caller cs kq
    → call caller room cs kq ≡ returned (retrieval caller.views room (kqueue_after_changes caller room cs kq))
unfolding call concluded by_answer by_entries
quiet-call caller room cs kq quiet =
    let p = process caller room cs [] kq in
    let through = process-quiet caller room cs [] kq quiet in
    ap (by_answer caller.views room p) through.1 ∙ ap (λ es. by_entries caller.views room es p.kq) through.0

pub quiet-reply : (caller : Caller) (room : ℕ) (cs : List Change) (kq : Kqueue) → AreQuiet caller cs kq
    → (call caller room cs kq).reply ≡ Events (retrieval caller.views room (kqueue_after_changes caller room cs kq)).events
unfolding returned
quiet-reply caller room cs kq quiet = ap (λ (c : Called). c.reply) (quiet-call caller room cs kq quiet)

pub quiet-kq : (caller : Caller) (room : ℕ) (cs : List Change) (kq : Kqueue) → AreQuiet caller cs kq
    → (call caller room cs kq).kq ≡ (retrieval caller.views room (kqueue_after_changes caller room cs kq)).kq
unfolding returned
quiet-kq caller room cs kq quiet = ap (λ (c : Called). c.kq) (quiet-call caller room cs kq quiet)

-- ---- the law

waits : (views : Views) (kq : Kqueue) (key : Key) (k : Knote) → IsSound kq → find_knote key kq.knotes ≡ Some k → k.active ≡ true
    → k.enabled ≡ true → has_key key kq.queue ≡ true
waits views kq key k sound found active enabled =
    sound.waiting key ∙ ap is_waiting found ∙ waiting-some k ∙ ap (λ b. b && k.enabled) active ∙ enabled

-- what is active while it is due is returned, by a call that is told of the same world
pub returns_due : (caller : Caller) (room : ℕ) (changes : List Change) (kq : Kqueue) (reply : Reply) → IsSound kq
    → All (IsAwake caller.views) kq.knotes → reply ≡ (call caller room changes kq).reply → AreQuiet caller changes kq
    → ReturnsDue caller.views room (kqueue_after_changes caller room changes kq) reply
returns_due caller room changes kq reply sound all is quiet =
    λ key k seen found owed enabled holds left.
    let awake : IsAwake caller.views k = found-is (IsAwake caller.views) key next.knotes k all_next found in
    let active = awake-is caller.views k awake owed enabled (ap is_some holds) in (
      (retrieval caller.views room next).events,
      is ∙ quiet-reply caller room changes kq quiet,
      retrieval-finds caller.views room next key k seen sound_next.once found holds
          (waits caller.views next key k sound_next found active enabled) left,
    )
  where
    next : Kqueue
    next = kqueue_after_changes caller room changes kq

    sound_next : IsSound next
    sound_next = IsSound-process caller room changes [] kq sound

    all_next : All (IsAwake caller.views) next.knotes
    all_next = process-awake caller room changes [] kq all

pub loses_no_wake_up : (caller : Caller) (room : ℕ) (changes : List Change) (kq : Kqueue) (reply : Reply) → IsSound kq
    → reply ≡ (call caller room changes kq).reply → LosesNoWakeUp caller room changes kq reply
loses_no_wake_up caller room changes kq reply sound is birth views steps told reached same quiet =
    let start = born caller.version birth views in
    returns_due caller room changes kq reply sound
    (subst (λ (q : Kqueue). All (IsAwake caller.views) q.knotes) reached
    (awake-view (lived steps start).views caller.views (lived steps start).kq.knotes (sym same)
    (life-awake steps start told (All-nil (IsAwake views))))) is quiet

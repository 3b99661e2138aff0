-- A knote that was returned with CLEAR is not active, and what is not active is not returned.
use Rattle.std.proofs.Common.{◌≡◌, ℕ, zero, suc, Bool, true, false, cond, not, ◌||◌, ◌&&◌, List, [], ◌∷◌, Option, Some, None, refl, sym, ap, ◌∙◌, subst}
use Rattle.std.proofs.lemmas.Bool.{cond_both, true≢false, or_parts}
use Rattle.std.proofs.lemmas.List.Elements.{All-nil, All-cons}
use Rattle.std.specs.List.{All, list_any}
use Rattle.kq_model.specs.declared.change.Change.{Change}
use Rattle.kq_model.specs.declared.kevent.Kevent.{Kevent}
use Rattle.kq_model.specs.declared.key.Key.{Key}
use Rattle.kq_model.specs.declared.reply.Reply.{Reply}
use Rattle.kq_model.specs.Bits.{asks, error}
use Rattle.kq_model.specs.Call.{call}
use Rattle.kq_model.specs.CallLaws.{key_of_event, kqueue_after_changes}
use Rattle.kq_model.specs.Caller.{Caller}
use Rattle.kq_model.specs.Knote.{key_eq, has_key, find_knote, without_knote, with_knote}
use Rattle.kq_model.specs.Kqueue.{IsSound, is_waiting}
use Rattle.kq_model.specs.Look.{Seen, look}
use Rattle.kq_model.specs.Retrieval.{event_of, rested, knotes_after, settled, turned_at_look, turned_at, turned, delivered, after_turn, retrieve, retrieval}
use Rattle.kq_model.specs.Tallied.{Knote, Kqueue, Retrieved, Turned}
use Rattle.kq_model.specs.Views.{Views}
use Rattle.kq_model.proofs.KeyLaws.{same_key, key_eq-refl, key_eq-sym}
use Rattle.kq_model.proofs.KnoteLaws.{by_test, find_knote-key}
use Rattle.kq_kevent.proofs.AnswerLaws.{IsSound-process}
use Rattle.kq_kevent.proofs.TurnSound.{rested-key}
use Rattle.kq_laws.specs.Clears.{IsCleared, ReturnsNewsAlone}
use Rattle.kq_laws.specs.Life.{Calls, stepped}
use Rattle.kq_laws.specs.Timers.{is_event_of, returns}
use Rattle.kq_laws.proofs.Lists.{with_knote-others, without_knote-others, found-all}
use Rattle.kq_laws.proofs.Returned.{quiet-kq, quiet-reply, turned-other}
use Rattle.kq_laws.proofs.Asleep as asleep

module _ (key : Key) where
  abbrev IsAsleep : Knote → Type 0
  IsAsleep k = asleep.IsAsleep key k

  abbrev AreAsleep : Kqueue → Type 0
  AreAsleep kq = asleep.AreAsleep key kq

  abbrev IfAsleep : Option Knote → Type 0
  IfAsleep found = asleep.IfAsleep key found

  -- ---- the event of a turn

  module _ (views : Views) where
    -- an event of a turn is of the key whose turn it is
    abbrev IfOf : Key → Option Kevent → Type 0
    IfOf front None = Unit {0}
    IfOf front (Some e) = front ≡ key_of_event e

    looked-of : (front : Key) (x : Knote) (kq : Kqueue) (seen : Option Seen) → front ≡ x.key
        → IfOf front (turned_at_look views x kq seen).event
    unfolding turned_at_look event_of
    looked-of front x kq None is = tt
    looked-of front x kq (Some seen) is = is

    found-of : (front : Key) (kq : Kqueue) (found : Option Knote) → find_knote front kq.knotes ≡ found
        → IfOf front (turned_at views kq found).event
    unfolding turned_at
    found-of front kq None is = tt
    found-of front kq (Some x) is = looked-of front x kq (look views x) (find_knote-key front kq.knotes x is)

    turned-of : (front : Key) (kq : Kqueue) → IfOf front (turned views front kq).event
    unfolding turned
    turned-of front kq = found-of front kq (find_knote front kq.knotes) refl

    abbrev has_event : Retrieved → Bool
    has_event r = list_any (is_event_of key) r.events

    -- an event of another key is none of this one
    other-event : (front : Key) (e : Kevent) (events : List Kevent) → key_eq key front ≡ false → front ≡ key_of_event e
        → list_any (is_event_of key) (e ∷ events) ≡ list_any (is_event_of key) events
    other-event front e events apart is =
        ap (λ b. (b && not (asks e.flags error)) || list_any (is_event_of key) events)
        (ap (key_eq key) (sym is) ∙ apart)

    turn-others : (front : Key) (rest : ℕ → Kqueue → Retrieved) (room : ℕ) (kq : Kqueue) (event : Option Kevent)
        → key_eq key front ≡ false → IfOf front event
        → (room_left : ℕ) × (has_event (after_turn rest room kq event) ≡ has_event (rest room_left kq))
        × ((after_turn rest room kq event).kq ≡ (rest room_left kq).kq)
    unfolding after_turn delivered
    turn-others front rest room kq None apart is = (suc room, refl, refl)
    turn-others front rest room kq (Some e) apart is =
        (room, other-event front e (rest room kq).events apart is, refl)

  -- ---- the turn in which it is returned

  abbrev Any : Knote → Type 0
  Any k = Unit {0}

  any-all : (ks : List Knote) → All Any ks
  any-all [] = All-nil Any
  any-all (k ∷ ks) = All-cons Any k ks tt (any-all ks)

  module _ (views : Views) (k : Knote) (clear : k.clear ≡ true) (silent : k.notice ≡ None) where
    put-asleep : (x : Knote) (ks : List Knote) → key ≡ x.key → x.active ≡ false → All IsAsleep (with_knote x ks)
    put-asleep x ks same off =
        with_knote-others Any IsAsleep x ks (λ _. off)
        (λ y apart _. asleep.apart-asleep key y (ap (λ (o : Key). key_eq o y.key) same ∙ apart)) (any-all ks)

    gone-asleep : (ks : List Knote) → All IsAsleep (without_knote key ks)
    gone-asleep ks =
        without_knote-others Any IsAsleep key ks (λ y apart _. asleep.apart-asleep key y apart) (any-all ks)

    cleared-asleep : (ks : List Knote) → key ≡ k.key → All IsAsleep (knotes_after k ks)
    unfolding knotes_after rested
    cleared-asleep ks same =
        cond_both k.oneshot _ _ (All IsAsleep)
        (λ _. subst (λ (o : Key). All IsAsleep (without_knote o ks)) same (gone-asleep ks))
        (λ _. subst (λ b. All IsAsleep (cond (b || k.dispatch) (with_knote (rested k) ks) ks)) (sym clear)
        (put-asleep (rested k) ks (same ∙ sym (rested-key k)) refl))

    returned-asleep : (kq : Kqueue) (seen : Option Seen) → key ≡ k.key → AreAsleep (turned_at_look views k kq seen).kq
    unfolding turned_at_look settled
    returned-asleep kq None same = put-asleep (record k { active = false }) kq.knotes same refl
    returned-asleep kq (Some seen) same =
        subst (λ notice. AreAsleep (settled views k kq notice)) (sym silent) (cleared-asleep kq.knotes same)

    turn-sleeps : (kq : Kqueue) → find_knote key kq.knotes ≡ Some k → AreAsleep (turned views key kq).kq
    unfolding turned turned_at
    turn-sleeps kq found =
        subst (λ (o : Option Knote). AreAsleep (turned_at views kq o).kq) (sym found)
        (returned-asleep kq (look views k) (find_knote-key key kq.knotes k found))

    sleeps : (keys : List Key) (room : ℕ) (kq : Kqueue) → find_knote key kq.knotes ≡ Some k
        → has_event views (retrieve views keys room kq) ≡ true → AreAsleep (retrieve views keys room kq).kq
    unfolding retrieve
    sleeps [] room kq found has = absurd (true≢false (sym has))
    sleeps (front ∷ keys) zero kq found has = absurd (true≢false (sym has))
    sleeps (front ∷ keys) (suc room) kq found has =
        let t : Turned = turned views front kq in
        by_test (λ b. key_eq key front ≡ b → AreAsleep (after_turn (retrieve views keys) room t.kq t.event).kq) (key_eq key front)
        (λ _ same. asleep.turn-asleep key (retrieve views keys) (asleep.retrieve-asleep key views keys) room t.kq t.event
        (subst (λ (o : Key). AreAsleep (turned views o kq).kq) (same_key key front same) (turn-sleeps kq found)))
        (λ _ apart.
        let step = turn-others views front (retrieve views keys) room t.kq t.event apart (turned-of views front kq) in
        subst AreAsleep (sym step.2)
        (sleeps keys step.0 t.kq (turned-other views front key kq (key_eq-sym front key ∙ apart) ∙ found) (sym step.1 ∙ has))) refl

  -- ---- what is not in the queue is not returned

  absent-none : (views : Views) (keys : List Key) (room : ℕ) (kq : Kqueue) → has_key key keys ≡ false
      → list_any (is_event_of key) (retrieve views keys room kq).events ≡ false
  unfolding retrieve
  absent-none views [] room kq absent = refl
  absent-none views (front ∷ keys) zero kq absent = refl
  absent-none views (front ∷ keys) (suc room) kq absent =
      let t : Turned = turned views front kq in
      let parts = or_parts (key_eq key front) (has_key key keys) absent in
      let step = turn-others views front (retrieve views keys) room t.kq t.event parts.0 (turned-of views front kq) in
      step.1 ∙ absent-none views keys step.0 t.kq parts.1

  not-waiting : (ks : List Knote) (found : Option Knote) → find_knote key ks ≡ found → IfAsleep found
      → is_waiting found ≡ false
  unfolding is_waiting
  not-waiting ks None is off = refl
  not-waiting ks (Some k) is off =
      let here = subst (λ (o : Key). key_eq key o ≡ true) (find_knote-key key ks k is) (key_eq-refl key) in
      ap (λ b. b && k.enabled) (off here)

  retrieval-none : (views : Views) (room : ℕ) (kq : Kqueue) → IsSound kq → AreAsleep kq
      → list_any (is_event_of key) (retrieval views room kq).events ≡ false
  unfolding retrieval
  retrieval-none views room kq sound all =
      absent-none views kq.queue room (record kq { queue = [] })
      (sound.waiting key
      ∙ not-waiting kq.knotes (find_knote key kq.knotes) refl (found-all IsAsleep key kq.knotes all))

  retrieval-sleeps : (views : Views) (k : Knote) → k.clear ≡ true → k.notice ≡ None → (room : ℕ) (kq : Kqueue)
      → find_knote key kq.knotes ≡ Some k → list_any (is_event_of key) (retrieval views room kq).events ≡ true
      → AreAsleep (retrieval views room kq).kq
  unfolding retrieval
  retrieval-sleeps views k clear silent room kq found has =
      sleeps views k clear silent kq.queue room (record kq { queue = [] }) found has

  -- ---- the law

  call-sleeps : (caller : Caller) (changes : List Change) (room : ℕ) (kq : Kqueue)
      → IsCleared key caller changes room kq
      → AreAsleep (call caller room changes kq).kq
  call-sleeps caller changes room kq cleared =
      subst AreAsleep (sym (quiet-kq caller room changes kq cleared.quiet))
      (retrieval-sleeps caller.views cleared.knote cleared.clear cleared.silent room (kqueue_after_changes caller room changes kq)
      cleared.found
      (sym (ap (returns key) (quiet-reply caller room changes kq cleared.quiet)) ∙ cleared.returned))

pub returns_news_alone : (key : Key) (caller : Caller) (room : ℕ) (changes : List Change) (kq : Kqueue)
    (reply : Reply) → IsSound kq
    → reply ≡ (call caller room changes kq).reply → ReturnsNewsAlone key caller room changes kq reply
returns_news_alone key caller room changes kq reply sound is l by asked most since cleared silent reached others quiet =
    let idle : AreAsleep key kq =
    subst (AreAsleep key) reached
    (asleep.life-asleep key since (stepped (Calls by asked most) l) silent (call-sleeps key by asked most l.kq cleared)) in
    ap (returns key) (is ∙ quiet-reply caller room changes kq quiet)
    ∙ retrieval-none key caller.views room (kqueue_after_changes caller room changes kq)
    (IsSound-process caller room changes [] kq sound) (asleep.process-asleep key caller room changes [] kq others idle)

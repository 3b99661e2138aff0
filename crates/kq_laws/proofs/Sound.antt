-- The kqueue stays sound in each step of its life: keys differ, and the queue holds each active enabled knote once and
-- nothing else.
use Rattle.std.proofs.Common.{◌≡◌, ℕ, zero, suc, ◌+◌, ◌-◌, ◌≤◌, Bool, true, false, cond, not, ◌&&◌, ◌||◌, List, [], ◌∷◌, ◌++◌, map, filter, length, Option, Some, None, option_map, refl, sym, ap, ◌∙◌, subst, arith}
use Rattle.std.proofs.lemmas.Bool.{cond_both, and_parts}
use Rattle.kq_model.specs.declared.change.Change.{Change}
use Rattle.kq_model.specs.declared.kevent.Kevent.{Kevent}
use Rattle.kq_model.specs.declared.key.Key.{Key}
use Rattle.kq_model.specs.declared.reply.Reply.{Reply}
use Rattle.kq_model.specs.Call.{process, returned, by_entries, by_answer, concluded, call}
use Rattle.kq_model.specs.Caller.{Caller}
use Rattle.kq_model.specs.Clock.{Span, expires_at, expired, timers, waiting_of, kqueue_of_waiting, clock_from, clocked}
use Rattle.kq_model.specs.Close.{Pair, is_closed, closed}
use Rattle.kq_model.specs.Following.{Fork, with_heir, heir_in, forks_in, followed_each, followed}
use Rattle.kq_model.specs.Hints.{notified}
use Rattle.kq_model.specs.Knote.{key_eq, has_key, find_knote}
use Rattle.kq_model.specs.Kqueue.{AreOnce, HaveOwnKeys, is_waiting, IsSound}
use Rattle.kq_model.specs.Look.{Seen, look}
use Rattle.kq_model.specs.Retrieval.{turned_at_look, turned_at, turned, delivered, after_turn, retrieval}
use Rattle.kq_model.specs.Tallied.{Knote, Kqueue, Processed, Retrieved}
use Rattle.kq_model.specs.Targets.{Posted}
use Rattle.kq_model.specs.TimerWalk.{Waiting, rung_at, queue_at, moment_step, walked}
use Rattle.kq_model.specs.Views.{Views}
use Rattle.kq_model.proofs.Following.{heir-absent}
use Rattle.kq_model.proofs.HintLaws.{notified-law}
use Rattle.kq_model.proofs.KeyLaws.{same_key, key_eq-sym}
use Rattle.kq_model.proofs.KeyLists.{and_false, or_false, has_key-filter, AreOnce-filter}
use Rattle.kq_model.proofs.KnoteLaws.{by_test, find_knote-here, find_knote-later}
use Rattle.kq_kevent.proofs.AnswerLaws.{IsSound-process}
use Rattle.kq_kevent.proofs.QueueLaws.{has_key-push_same, has_key-push_other, AreOnce-push}
use Rattle.kq_kevent.proofs.SoundLaws.{IsSound-made}
use Rattle.kq_kevent.proofs.TurnLaws.{kqueue_of, length-turned, going, after_going, retrieval-going, going-none, going-full, going-turned}
use Rattle.kq_kevent.proofs.TurnSound.{IsSound-with_idle, IsSound-with_delivered, front_present}

and_true : (b : Bool) → b && true ≡ b
and_true true = refl
and_true false = refl

-- ---- closes: of the knotes, as of the queue, those of some keys stay

abbrev if_kept : Bool → Option Knote → Option Knote
if_kept b found = cond b found None

kept-none : (b : Bool) → None ≡ if_kept b None
kept-none true = refl
kept-none false = refl

module _ (keeps : Key → Bool) where
  abbrev kept : List Knote → List Knote
  kept ks = filter (λ (k : Knote). keeps k.key) ks

  find-kept : (key : Key) (ks : List Knote) → find_knote key (kept ks) ≡ if_kept (keeps key) (find_knote key ks)
  unfolding find_knote
  find-kept key [] = kept-none (keeps key)
  find-kept key (x ∷ ks) =
      by_test (λ b. key_eq key x.key ≡ b
      → find_knote key (cond (keeps x.key) (x ∷ kept ks) (kept ks)) ≡ if_kept (keeps key) (cond b (Some x) (find_knote key ks)))
      (key_eq key x.key)
      (λ _ same.
      by_test (λ b. keeps x.key ≡ b → find_knote key (cond b (x ∷ kept ks) (kept ks)) ≡ if_kept (keeps key) (Some x)) (keeps x.key)
      (λ _ on. find_knote-here key x (kept ks) same ∙ sym (ap (λ b. if_kept b (Some x)) (at same ∙ on)))
      (λ _ off. find-kept key ks ∙ ap (λ b. if_kept b (find_knote key ks)) (at same ∙ off)
      ∙ sym (ap (λ b. if_kept b (Some x)) (at same ∙ off))) refl)
      (λ _ apart.
      by_test (λ b. find_knote key (cond b (x ∷ kept ks) (kept ks)) ≡ find_knote key (kept ks)) (keeps x.key)
      (λ _. find_knote-later key x (kept ks) apart) (λ _. refl) ∙ find-kept key ks) refl
    where
      at : key_eq key x.key ≡ true → keeps key ≡ keeps x.key
      at same = ap keeps (same_key key x.key same)

  own-kept : (ks : List Knote) → HaveOwnKeys ks → HaveOwnKeys (kept ks)
  own-kept [] own = tt
  own-kept (x ∷ ks) own =
      cond_both (keeps x.key) (x ∷ kept ks) (kept ks) (λ (some : List Knote). HaveOwnKeys some)
      (λ _. (find-kept x.key ks ∙ ap (if_kept (keeps x.key)) own.0 ∙ sym (kept-none (keeps x.key)), own-kept ks own.1))
      (λ _. own-kept ks own.1)

  waits-kept : (b : Bool) (found : Option Knote) → is_waiting found && b ≡ is_waiting (if_kept b found)
  unfolding is_waiting
  waits-kept true found = and_true (is_waiting found)
  waits-kept false found = and_false (is_waiting found)

  kept-sound : (kq : Kqueue) → IsSound kq → IsSound (kqueue_of (kept kq.knotes) (filter keeps kq.queue))
  kept-sound kq sound = record {
    own_keys = own-kept kq.knotes sound.own_keys;
    once = AreOnce-filter keeps kq.queue sound.once;
    waiting = λ key.
        has_key-filter keeps key kq.queue ∙ ap (λ b. b && keeps key) (sound.waiting key)
        ∙ waits-kept (keeps key) (find_knote key kq.knotes) ∙ ap is_waiting (sym (find-kept key kq.knotes));
  }

pub closed-sound : (owner : ℕ) (pairs : List Pair) (kq : Kqueue) → IsSound kq → IsSound (closed owner pairs kq)
unfolding closed
closed-sound owner pairs kq sound = kept-sound (λ key. not (is_closed owner pairs key)) kq sound

-- ---- hints

pub notified-sound : (views : Views) (posted : List Posted) (kq : Kqueue) → IsSound kq → IsSound (notified views posted kq)
notified-sound views posted kq sound = (notified-law views posted kq sound).sound

-- ---- children that are followed: each new knote has a key of its own

heir-sound : (found : Option Knote) (kq : Kqueue) → IsSound kq
    → ((k : Knote) → found ≡ Some k → find_knote k.key kq.knotes ≡ None) → IsSound (with_heir found kq)
unfolding with_heir
heir-sound None kq sound new = sound
heir-sound (Some k) kq sound new = IsSound-made kq k sound (new k refl)

each-sound : (fs : List Fork) (kq : Kqueue) → IsSound kq → IsSound (followed_each fs kq)
unfolding followed_each
each-sound [] kq sound = sound
each-sound (f ∷ fs) kq sound =
    each-sound fs (with_heir (heir_in f kq) kq) (heir-sound (heir_in f kq) kq sound (heir-absent f kq))

pub followed-sound : (version : ℕ) (posted : List Posted) (kq : Kqueue) → IsSound kq
    → IsSound (followed version posted kq)
followed-sound version posted kq sound = each-sound (forks_in version posted) kq sound

-- ---- the clock: at each moment those that expire become active, and go to the queue where they are enabled

module _ (moment : ℕ) where
  abbrev rung : Knote → Knote
  rung k = rung_at timers moment k

  rung-key : (k : Knote) → (rung k).key ≡ k.key
  rung-key k =
      cond_both (expires_at k moment) (expired k) k (λ (x : Knote). x.key ≡ k.key) (λ _. refl) (λ _. refl)

  find-rung : (key : Key) (ks : List Knote) → find_knote key (map rung ks) ≡ option_map rung (find_knote key ks)
  unfolding find_knote
  find-rung key [] = refl
  find-rung key (x ∷ ks) =
      ap (λ (o : Key). cond (key_eq key o) (Some (rung x)) (find_knote key (map rung ks))) (rung-key x)
      ∙ by_test (λ b. cond b (Some (rung x)) (find_knote key (map rung ks)) ≡ option_map rung (cond b (Some x) (find_knote key ks)))
      (key_eq key x.key) (λ _. refl) (λ _. find-rung key ks)

  own-rung : (ks : List Knote) → HaveOwnKeys ks → HaveOwnKeys (map rung ks)
  own-rung [] own = tt
  own-rung (x ∷ ks) own = (
    ap (λ (o : Key). find_knote o (map rung ks)) (rung-key x) ∙ find-rung x.key ks ∙ ap (option_map rung) own.0,
    own-rung ks own.1,
  )

  -- the queue after one knote
  abbrev after_one : Knote → List Key → List Key
  after_one x queue = cond (expires_at x moment && (x.enabled && not (has_key x.key queue))) (queue ++ x.key ∷ []) queue

  absent : (b : Bool) → not b ≡ true → b ≡ false
  absent true off = sym off
  absent false off = refl

  one-once : (x : Knote) (queue : List Key) → AreOnce queue → AreOnce (after_one x queue)
  one-once x queue once =
      let new = not (has_key x.key queue) in
      cond_both (expires_at x moment && (x.enabled && new)) (queue ++ x.key ∷ []) queue AreOnce
      (λ fresh. AreOnce-push x.key queue once
      (absent (has_key x.key queue) (and_parts x.enabled new (and_parts (expires_at x moment) (x.enabled && new) fresh).1).1))
      (λ _. once)

  one-same : (key : Key) (queue : List Key) (expires enabled there : Bool) → has_key key queue ≡ there
      → has_key key (cond (expires && (enabled && not there)) (queue ++ key ∷ []) queue) ≡ there || (expires && enabled)
  one-same key queue true true true is = is
  one-same key queue true true false is = has_key-push_same key queue
  one-same key queue true false true is = is
  one-same key queue true false false is = is
  one-same key queue false enabled true is = is
  one-same key queue false enabled false is = is

  one-has : (key : Key) (x : Knote) (queue : List Key)
      → has_key key (after_one x queue) ≡ has_key key queue || (key_eq key x.key && (expires_at x moment && x.enabled))
  one-has key x queue =
      by_test (λ b. key_eq key x.key ≡ b
      → has_key key (after_one x queue) ≡ has_key key queue || (b && (expires_at x moment && x.enabled))) (key_eq key x.key)
      (λ _ same. subst
      (λ (o : Key). has_key o (after_one x queue) ≡ has_key o queue || (expires_at x moment && x.enabled))
      (sym (same_key key x.key same))
      (one-same x.key queue (expires_at x moment) x.enabled (has_key x.key queue) refl))
      (λ _ apart.
      cond_both (expires_at x moment && (x.enabled && not (has_key x.key queue))) (queue ++ x.key ∷ []) queue
      (λ (q : List Key). has_key key q ≡ has_key key queue)
      (λ _. has_key-push_other key x.key queue (key_eq-sym x.key key ∙ apart)) (λ _. refl)
      ∙ sym (or_false (has_key key queue))) refl

  -- it expires now, and may go to the queue
  abbrev rings : Option Knote → Bool
  rings None = false
  rings (Some k) = expires_at k moment && k.enabled

  all-once : (ks : List Knote) (queue : List Key) → AreOnce queue → AreOnce (queue_at timers moment ks queue)
  unfolding queue_at
  all-once [] queue once = once
  all-once (x ∷ ks) queue once = all-once ks (after_one x queue) (one-once x queue once)

  all-has : (key : Key) (ks : List Knote) (queue : List Key) → HaveOwnKeys ks
      → has_key key (queue_at timers moment ks queue) ≡ has_key key queue || rings (find_knote key ks)
  unfolding queue_at find_knote
  all-has key [] queue own = sym (or_false (has_key key queue))
  all-has key (x ∷ ks) queue own =
      all-has key ks (after_one x queue) own.1
      ∙ ap (λ b. b || rings (find_knote key ks)) (one-has key x queue)
      ∙ by_test (λ b. key_eq key x.key ≡ b
      → (has_key key queue || (b && (expires_at x moment && x.enabled))) || rings (find_knote key ks)
      ≡ has_key key queue || rings (cond b (Some x) (find_knote key ks))) (key_eq key x.key)
      (λ _ same.
      let now = has_key key queue || (expires_at x moment && x.enabled) in
      ap (λ (o : Option Knote). now || rings o) (ap (λ (o : Key). find_knote o ks) (same_key key x.key same) ∙ own.0)
      ∙ or_false now)
      (λ _ _. ap (λ b. b || rings (find_knote key ks)) (or_false (has_key key queue))) refl

  or_so : (a b : Bool) → (a && b) || b ≡ b
  or_so true true = refl
  or_so true false = refl
  or_so false true = refl
  or_so false false = refl

  waits-rung : (found : Option Knote) → is_waiting found || rings found ≡ is_waiting (option_map rung found)
  unfolding is_waiting
  waits-rung None = refl
  waits-rung (Some k) =
      by_test (λ b. (k.active && k.enabled) || (b && k.enabled) ≡ is_waiting (Some (cond b (expired k) k))) (expires_at k moment)
      (λ _. or_so k.active k.enabled) (λ _. or_false (k.active && k.enabled))

  moment-sound : (w : Waiting Knote Key) → IsSound (kqueue_of_waiting w) → IsSound (kqueue_of_waiting (moment_step timers moment w))
  moment-sound w sound = record {
    own_keys = own-rung w.items sound.own_keys;
    once = all-once w.items w.queue sound.once;
    waiting = λ key.
        all-has key w.items w.queue sound.own_keys ∙ ap (λ b. b || rings (find_knote key w.items)) (sound.waiting key)
        ∙ waits-rung (find_knote key w.items) ∙ ap is_waiting (sym (find-rung key w.items));
  }

walked-sound : (from n : ℕ) (w : Waiting Knote Key) → IsSound (kqueue_of_waiting w) → IsSound (kqueue_of_waiting (walked timers from n w))
unfolding walked
walked-sound from zero w sound = sound
walked-sound from (suc n) w sound = moment-sound (from + suc n) (walked timers from n w) (walked-sound from n w sound)

pub clocked-sound : (span : Option Span) (kq : Kqueue) → IsSound kq → IsSound (clocked span kq)
unfolding clocked clock_from
clocked-sound None kq sound = sound
clocked-sound (Some span) kq sound = walked-sound span.from (span.to - span.from) (waiting_of kq) sound

-- ---- a retrieval: turn by turn

module _ (views : Views) where
  looked-sound : (ks : List Knote) (key : Key) (rest : List Key) (k : Knote) (seen : Option Seen) → IsSound (kqueue_of ks (key ∷ rest))
      → find_knote key ks ≡ Some k → IsSound (turned_at_look views k (kqueue_of ks rest) seen).kq
  unfolding turned_at_look
  looked-sound ks key rest k None sound here = IsSound-with_idle ks key rest k sound here
  looked-sound ks key rest k (Some seen) sound here = IsSound-with_delivered views ks key rest k sound here

  found-sound : (ks : List Knote) (key : Key) (rest : List Key) (found : Option Knote) → find_knote key ks ≡ found
      → IsSound (kqueue_of ks (key ∷ rest)) → IsSound (turned_at views (kqueue_of ks rest) found).kq
  unfolding turned_at
  found-sound ks key rest None none sound = absurd (front_present ks key rest sound none)
  found-sound ks key rest (Some k) here sound = looked-sound ks key rest k (look views k) sound here

  turned-sound : (ks : List Knote) (key : Key) (rest : List Key) → IsSound (kqueue_of ks (key ∷ rest))
      → IsSound (turned views key (kqueue_of ks rest)).kq
  unfolding turned
  turned-sound ks key rest sound = found-sound ks key rest (find_knote key ks) refl sound

  abbrev IsSoundAfter : Retrieved → Type 0
  IsSoundAfter r = IsSound r.kq

  after-sound : (n room : ℕ) (kq : Kqueue) (event : Option Kevent) → ((left : ℕ) → IsSoundAfter (going views n left kq))
      → IsSoundAfter (after_going views n room event kq)
  unfolding after_turn delivered
  after-sound n room kq None all = all (suc room)
  after-sound n room kq (Some event) all = all room

  going-sound : (n room : ℕ) (ks : List Knote) (queue : List Key) → n ≤ length queue → IsSound (kqueue_of ks queue)
      → IsSoundAfter (going views n room (kqueue_of ks queue))
  going-sound zero room ks queue within sound = subst IsSoundAfter (sym (going-none views room (kqueue_of ks queue))) sound
  going-sound (suc n) zero ks queue within sound = subst IsSoundAfter (sym (going-full views (suc n) (kqueue_of ks queue))) sound
  going-sound (suc n) (suc room) ks [] within sound = absurd (omega (arith, within))
  going-sound (suc n) (suc room) ks (key ∷ rest) within sound =
      let next = (turned views key (kqueue_of ks rest)).kq in
      subst IsSoundAfter (sym (going-turned views n room ks key rest (omega (arith, within))))
      (after-sound n room next (turned views key (kqueue_of ks rest)).event
      (λ left. going-sound n left next.knotes next.queue (omega (arith, within, length-turned views key ks rest))
      (turned-sound ks key rest sound)))

  retrieval-sound : (room : ℕ) (kq : Kqueue) → IsSound kq → IsSoundAfter (retrieval views room kq)
  retrieval-sound room kq sound =
      subst IsSoundAfter (sym (retrieval-going views room kq))
      (going-sound (length kq.queue) room kq.knotes kq.queue (omega arith) sound)

  -- ---- a call

  by_entries-sound : (room : ℕ) (placed : List Kevent) (kq : Kqueue) → IsSound kq → IsSound (by_entries views room placed kq).kq
  unfolding by_entries returned
  by_entries-sound room [] kq sound = retrieval-sound room kq sound
  by_entries-sound room (entry ∷ entries) kq sound = sound

  by_answer-sound : (room : ℕ) (p : Processed) (answer : Option Reply) → IsSound p.kq → IsSound (by_answer views room p answer).kq
  unfolding by_answer
  by_answer-sound room p (Some reply) sound = sound
  by_answer-sound room p None sound = by_entries-sound room p.placed p.kq sound

pub call-sound : (caller : Caller) (room : ℕ) (cs : List Change) (kq : Kqueue) → IsSound kq → IsSound (call caller room cs kq).kq
unfolding call concluded
call-sound caller room cs kq sound =
    let p = process caller room cs [] kq in
    by_answer-sound caller.views room p p.answer (IsSound-process caller room cs [] kq sound)

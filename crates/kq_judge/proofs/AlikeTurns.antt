-- Events taken out of kqueues that are alike, of the same keys, leave kqueues that are alike, whatever the orders and
-- at whichever idle knotes was looked.
use Rattle.std.proofs.Common.{◌≡◌, ℕ, zero, suc, Bool, true, false, cond, not, ◌&&◌, ◌||◌, List, [], ◌∷◌, map, Option, Some, None, option_map, refl, sym, ap, ◌∙◌, subst}
use Rattle.std.proofs.lemmas.Option.{none-some, same_Some}
use Rattle.std.specs.Option.{is_some}
use Rattle.std.specs.Prelude.{option_and_then}
use Rattle.kq_model.specs.declared.kevent.Kevent.{Kevent}
use Rattle.kq_model.specs.declared.key.Key.{Key}
use Rattle.kq_model.specs.CallLaws.{key_of_event}
use Rattle.kq_model.specs.Knote.{key_eq, find_knote, with_knote, without_knote}
use Rattle.kq_model.specs.Look.{Seen, look}
use Rattle.kq_model.specs.Retrieval.{event_of, reset, rested, knotes_after, without_notice, with_notice_told, settled, turned_at_look, turned_at, turned, delivered, after_turn, retrieve, retrieval}
use Rattle.kq_model.specs.Tallied.{Knote, Kqueue, Retrieved, Turned}
use Rattle.kq_model.specs.Tallying.{tallying}
use Rattle.kq_model.specs.Views.{Views}
use Rattle.kq_model.proofs.KeyLaws.{same_key}
use Rattle.kq_model.proofs.KnoteLaws.{by_test, find_knote-key, find_knote-with_same, find_knote-without_same}
use Rattle.kq_kevent.proofs.TurnLaws.{kqueue_of}
use Rattle.kq_kevent.proofs.TurnSound.{rested-key}
use Rattle.kq_judge.specs.Allowed.{event_seen, event_due}
use Rattle.kq_judge.proofs.Alike.{AreAlike, Tells, told, told-so, alike-itself, alike-back, alike-then}
use Rattle.kq_judge.proofs.FirstLaws.{turn-event, turn-other}
use Rattle.kq_judge.proofs.PendingLaws.{event_of-key}
use Rattle.kq_judge.proofs.Telling.{is_ready, telling, made_active, look-active, look-telling, telling-active, telling-again, telling-unready, and_again}

-- ---- what is found of a key that was put in or taken out

pub put-found : (x k : Knote) (key : Key) (ks : List Knote) → x.key ≡ k.key → find_knote key ks ≡ Some k
    → find_knote key (with_knote x ks) ≡ Some x
put-found x k key ks same found =
    let at : key ≡ x.key = find_knote-key key ks k found ∙ sym same in
    subst (λ (o : Key). find_knote o ks ≡ Some k → find_knote o (with_knote x ks) ≡ Some x) (sym at)
    (λ here. find_knote-with_same x ks ∙ ap (option_map (λ _. x)) here) found

gone-found : (k : Knote) (key : Key) (ks : List Knote) → find_knote key ks ≡ Some k
    → find_knote key (without_knote k.key ks) ≡ None
gone-found k key ks found =
    subst (λ (o : Key). find_knote o (without_knote k.key ks) ≡ None) (sym (find_knote-key key ks k found))
    (find_knote-without_same k.key ks)

-- ---- what a turn makes of the knote of its key

module _ (views : Views) where
  abbrev told_knote : Knote → Option Seen → Option Knote
  told_knote k None = Some (made_active false k)
  told_knote k (Some seen) = Some k

  abbrev settled_knote : Knote → Option ℕ → Option Knote
  settled_knote k None = cond k.oneshot None (cond (k.clear || k.dispatch) (Some (rested k)) (Some k))
  settled_knote k (Some parent) = told_knote (without_notice k) (look views (without_notice k))

  abbrev looked_knote : Knote → Option Seen → Option Knote
  looked_knote k None = Some (made_active false k)
  looked_knote k (Some seen) = settled_knote k k.notice

  abbrev turned_knote : Option Knote → Option Knote
  turned_knote None = None
  turned_knote (Some k) = looked_knote k (look views k)

  module _ (key : Key) (k : Knote) (kq : Kqueue) (found : find_knote key kq.knotes ≡ Some k) where
    told-finds : (s : Option Seen)
        → find_knote key (with_notice_told (without_notice k) kq s).knotes ≡ told_knote (without_notice k) s
    unfolding with_notice_told
    told-finds None = put-found (made_active false (without_notice k)) k key kq.knotes refl found
    told-finds (Some seen) = put-found (without_notice k) k key kq.knotes refl found

    settled-finds : (n : Option ℕ) → find_knote key (settled views k kq n).knotes ≡ settled_knote k n
    unfolding settled knotes_after
    settled-finds None =
        by_test (λ b. find_knote key (cond b (without_knote k.key kq.knotes)
        (cond (k.clear || k.dispatch) (with_knote (rested k) kq.knotes) kq.knotes))
        ≡ cond b None (cond (k.clear || k.dispatch) (Some (rested k)) (Some k))) k.oneshot
        (λ _. gone-found k key kq.knotes found)
        (λ _. by_test (λ b. find_knote key (cond b (with_knote (rested k) kq.knotes) kq.knotes)
        ≡ cond b (Some (rested k)) (Some k)) (k.clear || k.dispatch)
        (λ _. put-found (rested k) k key kq.knotes (rested-key k) found) (λ _. found))
    settled-finds (Some parent) = told-finds (look views (without_notice k))

    looked-finds : (s : Option Seen) → find_knote key (turned_at_look views k kq s).kq.knotes ≡ looked_knote k s
    unfolding turned_at_look
    looked-finds None = put-found (made_active false k) k key kq.knotes refl found
    looked-finds (Some seen) = settled-finds k.notice

  turned_at-finds : (key : Key) (kq : Kqueue) (o : Option Knote) → find_knote key kq.knotes ≡ o
      → find_knote key (turned_at views kq o).kq.knotes ≡ turned_knote o
  unfolding turned_at
  turned_at-finds key kq None none = none
  turned_at-finds key kq (Some k) found = looked-finds key k kq found (look views k)

  turned-finds : (key : Key) (kq : Kqueue)
      → find_knote key (turned views key kq).kq.knotes ≡ turned_knote (find_knote key kq.knotes)
  unfolding turned
  turned-finds key kq = turned_at-finds key kq (find_knote key kq.knotes) refl

  -- ---- it is told by what the knote has to tell

  abbrev cleared : Knote → Knote
  cleared k = record k { seen = tallying.empty; triggered = false }

  abbrev at_rest : Knote → Knote → Knote
  at_rest k x = record x { active = false; enabled = k.enabled && not k.dispatch }

  rested-telling : (k : Knote) → rested (telling views k) ≡ rested k
  unfolding rested reset
  rested-telling k =
      by_test (λ b. at_rest k (cond b (cleared (telling views k)) (telling views k)) ≡ at_rest k (cond b (cleared k) k)) k.clear
      (λ _. refl) (λ _. refl)

  ready-some : (k : Knote) (seen : Seen) → look views k ≡ Some seen → is_ready views k ≡ k.enabled
  ready-some k seen holds = ap (λ s. k.enabled && is_some s) holds ∙ and_true k.enabled
    where
      and_true : (b : Bool) → b && true ≡ b
      and_true true = refl
      and_true false = refl

  untold-tells : (k n : Knote) (seen : Seen) (s : Option Seen) → n ≡ without_notice k → look views k ≡ Some seen → look views n ≡ s
      → told views (told_knote n s) ≡ told views (told_knote (made_active (k.active && is_ready views k) n) s)
  untold-tells k n seen None is holds nothing = refl
  untold-tells k n seen (Some other) is holds something =
      let ready : is_ready views k ≡ is_ready views n =
      ready-some k seen holds ∙ sym (ap (λ (x : Knote). x.enabled) is) ∙ sym (ready-some n other something) in
      ap Some (sym (telling-active views n (k.active && is_ready views k)
      ∙ ap (λ r. made_active ((k.active && r) && is_ready views n) n) ready
      ∙ ap (λ b. made_active b n) (and_again k.active (is_ready views n))
      ∙ ap (λ (x : Knote). made_active (x.active && is_ready views n) n) (sym is)))

  settled-tells : (k : Knote) (seen : Seen) (n : Option ℕ) → look views k ≡ Some seen
      → told views (settled_knote k n) ≡ told views (settled_knote (telling views k) n)
  settled-tells k seen None holds =
      by_test (λ b. told views (cond b None (cond (k.clear || k.dispatch) (Some (rested k)) (Some k)))
      ≡ told views (cond b None (cond (k.clear || k.dispatch) (Some (rested (telling views k))) (Some (telling views k))))) k.oneshot
      (λ _. refl)
      (λ _. by_test (λ b. told views (cond b (Some (rested k)) (Some k))
      ≡ told views (cond b (Some (rested (telling views k))) (Some (telling views k)))) (k.clear || k.dispatch)
      (λ _. ap (λ (x : Knote). Some (telling views x)) (sym (rested-telling k)))
      (λ _. ap Some (sym (telling-again views k))))
  settled-tells k seen (Some parent) holds =
      let n = without_notice k in
      untold-tells k n seen (look views n) refl holds refl
      ∙ ap (λ s. told views (told_knote (made_active (k.active && is_ready views k) n) s))
      (sym (look-active views n (k.active && is_ready views k)))

  looked-tells : (k : Knote) (s : Option Seen) → look views k ≡ s
      → told views (looked_knote k s) ≡ told views (looked_knote (telling views k) s)
  looked-tells k None nothing = refl
  looked-tells k (Some seen) holds = settled-tells k seen k.notice holds

  turned-tells : Tells views views turned_knote
  turned-tells None = refl
  turned-tells (Some k) =
      looked-tells k (look views k) refl
      ∙ ap (λ s. told views (looked_knote (telling views k) s)) (sym (look-telling views k))

  -- ---- a turn of one key in two kqueues

  pub turned-alike : (key : Key) (kq lq : Kqueue) → AreAlike views kq.knotes lq.knotes
      → AreAlike views (turned views key kq).kq.knotes (turned views key lq).kq.knotes
  turned-alike key kq lq alike = record {
    same = λ other.
        by_test (λ b. key_eq key other ≡ b
        → told views (find_knote other (turned views key kq).kq.knotes) ≡ told views (find_knote other (turned views key lq).kq.knotes))
        (key_eq key other)
        (λ _ here. subst (λ (o : Key). told views (find_knote o (turned views key kq).kq.knotes)
        ≡ told views (find_knote o (turned views key lq).kq.knotes)) (same_key key other here)
        (ap (told views) (turned-finds key kq)
        ∙ told-so views views turned_knote turned-tells (find_knote key kq.knotes) (find_knote key lq.knotes) (alike.same key)
        ∙ sym (ap (told views) (turned-finds key lq))))
        (λ _ apart. ap (told views) (turn-other views key other kq apart) ∙ alike.same other
        ∙ sym (ap (told views) (turn-other views key other lq apart))) refl;
  }

  -- one that returned nothing
  idle-tells : (o : Option Knote) → option_and_then (event_seen views) o ≡ None → told views (turned_knote o) ≡ told views o
  idle-tells None none = refl
  idle-tells (Some k) none = by (look views k) refl none
    where
      by : (s : Option Seen) → look views k ≡ s → option_map (event_of k) s ≡ None
          → told views (looked_knote k s) ≡ told views (Some k)
      by None nothing _ = ap Some (telling-unready views k false k.active (ap (λ s. k.enabled && is_some s) nothing ∙ and_false k.enabled))
        where
          and_false : (b : Bool) → b && false ≡ false
          and_false true = refl
          and_false false = refl
      by (Some seen) holds absent = absurd (none-some (event_of k seen) (sym absent))

  idle-alike : (key : Key) (kq : Kqueue) → (turned views key kq).event ≡ None
      → AreAlike views (turned views key kq).kq.knotes kq.knotes
  idle-alike key kq none = record {
    same = λ other.
        by_test (λ b. key_eq key other ≡ b
        → told views (find_knote other (turned views key kq).kq.knotes) ≡ told views (find_knote other kq.knotes)) (key_eq key other)
        (λ _ here. subst (λ (o : Key). told views (find_knote o (turned views key kq).kq.knotes) ≡ told views (find_knote o kq.knotes))
        (same_key key other here)
        (ap (told views) (turned-finds key kq)
        ∙ idle-tells (find_knote key kq.knotes) (sym (turn-event views key kq) ∙ none)))
        (λ _ apart. ap (told views) (turn-other views key other kq apart)) refl;
  }

  -- the event of a turn is of its key
  event-key : (key : Key) (kq : Kqueue) (e : Kevent) → (turned views key kq).event ≡ Some e → key_of_event e ≡ key
  event-key key kq e is = by (find_knote key kq.knotes) refl (sym (turn-event views key kq) ∙ is)
    where
      seen_by : (k : Knote) (s : Option Seen) → option_map (event_of k) s ≡ Some e → key_of_event e ≡ k.key
      seen_by k None some = absurd (none-some e some)
      seen_by k (Some seen) some = ap key_of_event (sym (same_Some (event_of k seen) e some)) ∙ event_of-key k seen

      by : (o : Option Knote) → find_knote key kq.knotes ≡ o → option_and_then (event_seen views) o ≡ Some e → key_of_event e ≡ key
      by None none some = absurd (none-some e some)
      by (Some k) found some = seen_by k (look views k) some ∙ sym (find_knote-key key kq.knotes k found)

  -- ---- the whole walk: its knotes are told by the turns of those that were returned

  abbrev turn_of : Key → List Knote → List Knote
  turn_of key ks = (turned views key (kqueue_of ks [])).kq.knotes

  abbrev turns_of : List Key → List Knote → List Knote
  turns_of [] ks = ks
  turns_of (key ∷ keys) ks = turns_of keys (turn_of key ks)

  turns-alike : (keys : List Key) (ks ls : List Knote) → AreAlike views ks ls → AreAlike views (turns_of keys ks) (turns_of keys ls)
  turns-alike [] ks ls alike = alike
  turns-alike (key ∷ keys) ks ls alike =
      turns-alike keys (turn_of key ks) (turn_of key ls) (turned-alike key (kqueue_of ks []) (kqueue_of ls []) alike)

  abbrev keys_in : Retrieved → List Key
  keys_in r = map key_of_event r.events

  abbrev IsToldBy : List Knote → Retrieved → Type 0
  IsToldBy ks r = AreAlike views r.kq.knotes (turns_of (keys_in r) ks)

  after-told : (keys : List Key) (key : Key) (room : ℕ) (kq : Kqueue) (o : Option Kevent)
      → ((left : ℕ) (q : Kqueue) → IsToldBy q.knotes (retrieve views keys left q))
      → (turned views key kq).event ≡ o
      → IsToldBy kq.knotes (after_turn (retrieve views keys) room (turned views key kq).kq o)
  unfolding after_turn delivered
  after-told keys key room kq None later none =
      let next = (turned views key kq).kq in
      let r = retrieve views keys (suc room) next in
      alike-then views r.kq.knotes (turns_of (keys_in r) next.knotes) (turns_of (keys_in r) kq.knotes) (later (suc room) next)
      (turns-alike (keys_in r) next.knotes kq.knotes (idle-alike key kq none))
  after-told keys key room kq (Some e) later some =
      let next = (turned views key kq).kq in
      let r = retrieve views keys room next in
      alike-then views r.kq.knotes (turns_of (keys_in r) next.knotes) (turns_of (key_of_event e ∷ keys_in r) kq.knotes) (later room next)
      (turns-alike (keys_in r) next.knotes (turn_of (key_of_event e) kq.knotes)
      (subst (λ (o : Key). AreAlike views next.knotes (turn_of o kq.knotes)) (sym (event-key key kq e some))
      (turned-alike key kq (kqueue_of kq.knotes []) (alike-itself views kq.knotes))))

  walk-told : (keys : List Key) (room : ℕ) (kq : Kqueue) → IsToldBy kq.knotes (retrieve views keys room kq)
  unfolding retrieve
  walk-told [] room kq = alike-itself views kq.knotes
  walk-told (key ∷ keys) zero kq = alike-itself views kq.knotes
  walk-told (key ∷ keys) (suc room) kq =
      after-told keys key room kq (turned views key kq).event (walk-told keys) refl

  pub taken-alike : (room : ℕ) (kq lq : Kqueue) → AreAlike views kq.knotes lq.knotes
      → map key_of_event (retrieval views room kq).events ≡ map key_of_event (retrieval views room lq).events
      → AreAlike views (retrieval views room kq).kq.knotes (retrieval views room lq).kq.knotes
  unfolding retrieval
  taken-alike room kq lq alike keys =
      let r = retrieve views kq.queue room (kqueue_of kq.knotes []) in
      let s = retrieve views lq.queue room (kqueue_of lq.knotes []) in
      alike-then views r.kq.knotes (turns_of (keys_in r) kq.knotes) s.kq.knotes
      (walk-told kq.queue room (kqueue_of kq.knotes []))
      (alike-then views (turns_of (keys_in r) kq.knotes) (turns_of (keys_in s) lq.knotes) s.kq.knotes
      (subst (λ (x : List Key). AreAlike views (turns_of (keys_in r) kq.knotes) (turns_of x lq.knotes)) keys
      (turns-alike (keys_in r) kq.knotes lq.knotes alike))
      (alike-back views s.kq.knotes (turns_of (keys_in s) lq.knotes) (walk-told lq.queue room (kqueue_of lq.knotes []))))

-- The turns make up the retrieval.
use Rattle.std.proofs.Common.{◌≡◌, ℕ, suc, ◌+◌, ◌-◌, ◌≤◌, Bool, true, false, not, cond, ◌||◌, List, [], ◌∷◌, ◌++◌, length, slice_get, take, drop, Option, Some, None, refl, sym, ap, ◌∙◌, subst, arith}
use Rattle.std.proofs.lemmas.Bool.{or_parts, or_from}
use Rattle.std.proofs.lemmas.Option.{same_Some}
use Rattle.std.proofs.lemmas.List.{append_assoc, take_all, drop_all, take-append-drop, take-append-le, drop-append-le, append-nil, length_push}
use Rattle.kq_model.specs.declared.kevent.Kevent.{Kevent}
use Rattle.kq_model.specs.declared.key.Key.{Key}
use Rattle.kq_model.specs.Knote.{find_knote, with_knote, without_knote}
use Rattle.kq_model.specs.Look.{Seen, look}
use Rattle.kq_model.specs.Retrieval.{event_of, rested, stays, knotes_after, back_after, with_idle, without_notice, with_notice_told, settled, with_delivered, turned_at_look, turned_at, turned, delivered, after_turn, retrieve, retrieval}
use Rattle.kq_model.specs.Tallied.{Knote, Kqueue, Retrieved, Turned}
use Rattle.kq_model.specs.Views.{Views}
use Rattle.kq_model.proofs.KnoteLaws.{by_test}
use Rattle.kq_knote.proofs.CountLaws.{length-with_knote}

-- ---- the cases of a turn

-- the knotes with what is left of the queue
abbrev pub kqueue_of : List Knote → List Key → Kqueue
kqueue_of ks q = record { knotes = ks; queue = q }

turned-found : (views : Views) (key : Key) (kq : Kqueue) (k : Knote) → find_knote key kq.knotes ≡ Some k
    → turned views key kq ≡ turned_at_look views k kq (look views k)
unfolding turned turned_at
turned-found views key kq k here = ap (turned_at views kq) here

pub turned-idle : (views : Views) (key : Key) (kq : Kqueue) (k : Knote) → find_knote key kq.knotes ≡ Some k
    → look views k ≡ None → turned views key kq ≡ record { kq = with_idle k kq; event = None }
unfolding turned_at_look
turned-idle views key kq k here nothing = turned-found views key kq k here ∙ ap (turned_at_look views k kq) nothing

pub turned-delivered : (views : Views) (key : Key) (kq : Kqueue) (k : Knote) (seen : Seen)
    → find_knote key kq.knotes ≡ Some k → look views k ≡ Some seen → turned views key kq ≡ record
    { kq = with_delivered views k kq; event = Some (event_of k seen) }
unfolding turned_at_look
turned-delivered views key kq k seen here there = turned-found views key kq k here ∙ ap (turned_at_look views k kq) there

-- none comes and none goes where a notice was told
pub length-with_told : (k : Knote) (kq : Kqueue) (seen : Option Seen) → length (with_notice_told k kq seen).knotes ≡ length kq.knotes
unfolding with_notice_told
length-with_told k kq None = length-with_knote (record k { active = false }) kq.knotes
length-with_told k kq (Some seen) = length-with_knote k kq.knotes

-- ---- what is behind in the queue is as before, and a turn adds to its end

abbrev pushed : Knote → List Key → Bool → List Key
pushed k q b = cond b (q ++ k.key ∷ []) q

-- the key at the front is the first of the queue
pub front-key : (queue : List Key) (front key : Key) (rest : List Key) → slice_get queue 0 ≡ Some front → queue ≡ key ∷ rest → front ≡ key
front-key queue front key rest first is = sym (same_Some key front (ap (λ (q : List Key). slice_get q 0) (sym is) ∙ first))

-- a knote that has no notice, and stays as it is, has its key taken to the back
pub delivered-level : (views : Views) (k : Knote) (ks : List Knote) (rest : List Key) → stays k ≡ true → k.notice ≡ None
    → with_delivered views k (kqueue_of ks rest) ≡ kqueue_of ks (rest ++ k.key ∷ [])
unfolding settled knotes_after back_after stays
delivered-level views k ks rest level none =
    let all = sym (not-not (k.oneshot || k.clear || k.dispatch)) ∙ ap not level in
    let two = or_parts (k.oneshot || k.clear) k.dispatch all in
    let one = or_parts k.oneshot k.clear two.0 in
    ap (settled views k (kqueue_of ks rest)) none
    ∙ ap (λ b. kqueue_of (cond b (without_knote k.key ks) (cond (k.clear || k.dispatch) (with_knote (rested k) ks) ks)) (back_after k rest)) one.0
    ∙ ap (λ b. kqueue_of (cond b (with_knote (rested k) ks) ks) (back_after k rest)) (or_from k.clear k.dispatch one.1 two.1)
    ∙ ap (λ b. kqueue_of ks (pushed k rest b)) level
  where
    not-not : (b : Bool) → not (not b) ≡ b
    not-not true = refl
    not-not false = refl

take-back_after : (k : Knote) (n : ℕ) (q : List Key) → n ≤ length q → take n (back_after k q) ≡ take n q
unfolding back_after
take-back_after k n q within =
    by_test (λ b. take n (pushed k q b) ≡ take n q) (stays k) (λ _. take-append-le n q (k.key ∷ []) within) (λ _. refl)

drop-back_after : (k : Knote) (n : ℕ) (q : List Key) → n ≤ length q → drop n (back_after k q) ≡ back_after k (drop n q)
unfolding back_after
drop-back_after k n q within =
    by_test (λ b. drop n (pushed k q b) ≡ pushed k (drop n q) b) (stays k)
    (λ _. drop-append-le n q (k.key ∷ []) within) (λ _. refl)

length-back_after : (k : Knote) (q : List Key) → length q ≤ length (back_after k q)
unfolding back_after
length-back_after k q =
    by_test (λ b. length q ≤ length (pushed k q b)) (stays k) (λ _. omega (arith, length_push q k.key))
    (λ _. omega arith)

-- a turn with the whole queue behind, and with the end of it
record AreAlike (n : ℕ) (rest : List Key) (whole part : Turned) : Type 0 where
  event : whole.event ≡ part.event
  knotes : whole.kq.knotes ≡ part.kq.knotes
  front : take n whole.kq.queue ≡ take n rest
  back : drop n whole.kq.queue ≡ part.kq.queue
  longer : length rest ≤ length whole.kq.queue

abbrev turn_with : Kqueue → Kevent → Turned
turn_with kq event = record { kq = kq; event = Some event }

alike_told : (n : ℕ) (ks : List Knote) (rest : List Key) (k : Knote) (e : Kevent) (seen : Option Seen) → n ≤ length rest
    → AreAlike n rest (turn_with (with_notice_told k (kqueue_of ks rest) seen) e) (turn_with (with_notice_told k (kqueue_of ks (drop n rest)) seen) e)
unfolding with_notice_told
alike_told n ks rest k e None within =
    record { event = refl; knotes = refl; front = refl; back = refl; longer = omega arith }
alike_told n ks rest k e (Some seen) within = record {
  event = refl;
  knotes = refl;
  front = take-append-le n rest (k.key ∷ []) within;
  back = drop-append-le n rest (k.key ∷ []) within;
  longer = omega (arith, length_push rest k.key);
}

alike_settled : (views : Views) (n : ℕ) (ks : List Knote) (rest : List Key) (k : Knote) (e : Kevent) (notice : Option ℕ) → n ≤ length rest
    → AreAlike n rest (turn_with (settled views k (kqueue_of ks rest) notice) e)
    (turn_with (settled views k (kqueue_of ks (drop n rest)) notice) e)
unfolding settled
alike_settled views n ks rest k e None within = record {
  event = refl;
  knotes = refl;
  front = take-back_after k n rest within;
  back = drop-back_after k n rest within;
  longer = length-back_after k rest;
}
alike_settled views n ks rest k e (Some parent) within =
    alike_told n ks rest (without_notice k) e (look views (without_notice k)) within

alike_at_look : (views : Views) (n : ℕ) (ks : List Knote) (rest : List Key) (k : Knote) (seen : Option Seen) → n ≤ length rest
    → AreAlike n rest (turned_at_look views k (kqueue_of ks rest) seen) (turned_at_look views k (kqueue_of ks (drop n rest)) seen)
unfolding turned_at_look
alike_at_look views n ks rest k None within =
    record { event = refl; knotes = refl; front = refl; back = refl; longer = omega arith }
alike_at_look views n ks rest k (Some seen) within = alike_settled views n ks rest k (event_of k seen) k.notice within

alike_at : (views : Views) (n : ℕ) (ks : List Knote) (rest : List Key) (f : Option Knote) → n ≤ length rest
    → AreAlike n rest (turned_at views (kqueue_of ks rest) f) (turned_at views (kqueue_of ks (drop n rest)) f)
unfolding turned_at
alike_at views n ks rest None within =
    record { event = refl; knotes = refl; front = refl; back = refl; longer = omega arith }
alike_at views n ks rest (Some k) within = alike_at_look views n ks rest k (look views k) within

alike : (views : Views) (key : Key) (n : ℕ) (ks : List Knote) (rest : List Key) → n ≤ length rest
    → AreAlike n rest (turned views key (kqueue_of ks rest)) (turned views key (kqueue_of ks (drop n rest)))
unfolding turned
alike views key n ks rest within = alike_at views n ks rest (find_knote key ks) within

-- a turn takes no more than one key out
pub length-turned : (views : Views) (key : Key) (ks : List Knote) (rest : List Key) → length rest ≤ length
    (turned views key (kqueue_of ks rest)).kq.queue
length-turned views key ks rest = (alike views key 0 ks rest (omega arith)).longer

-- ---- the turns make up the retrieval

-- what is still to come: so many keys at the front are what is left of the queue as it stood
abbrev pub going : Views → ℕ → ℕ → Kqueue → Retrieved
going views n room kq = retrieve views (take n kq.queue) room (kqueue_of kq.knotes (drop n kq.queue))

-- events that were delivered before
abbrev pub preceded : List Kevent → Retrieved → Retrieved
preceded events r = record r { events = events ++ r.events }

pub retrieval-going : (views : Views) (room : ℕ) (kq : Kqueue) → retrieval views room kq ≡ going views
    (length kq.queue) room kq
unfolding retrieval
retrieval-going views room kq =
    ap (λ keys. retrieve views keys room (kqueue_of kq.knotes []))
    (sym (take_all (length kq.queue) kq.queue (omega arith)))
    ∙ ap (λ (back : List Key). retrieve views (take (length kq.queue) kq.queue) room (kqueue_of kq.knotes back))
    (sym (drop_all (length kq.queue) kq.queue (omega arith)))

pub going-none : (views : Views) (room : ℕ) (kq : Kqueue) → going views 0 room kq ≡ record { kq = kq; events = [] }
unfolding retrieve
going-none views room kq = refl

pub going-full : (views : Views) (n : ℕ) (kq : Kqueue) → going views n 0 kq ≡ record { kq = kq; events = [] }
unfolding retrieve
going-full views n kq =
    at_keys (take n kq.queue) (drop n kq.queue) kq.knotes ∙ ap (λ (q : List Key). whole kq.knotes q)
    (take-append-drop n kq.queue)
  where
    whole : List Knote → List Key → Retrieved
    whole ks q = record { kq = record { knotes = ks; queue = q }; events = [] }

    at_keys : (keys back : List Key) (ks : List Knote) → retrieve views keys 0 (kqueue_of ks back) ≡ whole ks
        (keys ++ back)
    at_keys [] back ks = refl
    at_keys (key ∷ keys) back ks = refl

-- what a turn leaves to come
abbrev pub after_going : Views → ℕ → ℕ → Option Kevent → Kqueue → Retrieved
after_going views n room event kq = after_turn (λ left. going views n left) room kq event

going-event : (views : Views) (n room : ℕ) (kq : Kqueue) (e : Option Kevent)
    → after_turn (retrieve views (take n kq.queue)) room (kqueue_of kq.knotes (drop n kq.queue)) e
    ≡ after_going views n room e kq
unfolding after_turn
going-event views n room kq None = refl
going-event views n room kq (Some event) = refl

after_alike : (views : Views) (n room : ℕ) (rest : List Key) (whole part : Turned) → AreAlike n rest whole part
    → after_turn (retrieve views (take n rest)) room part.kq part.event ≡ after_going views n room whole.event whole.kq
after_alike views n room rest whole part same =
    ap (λ keys. after_turn (retrieve views keys) room part.kq part.event) (sym same.front)
    ∙ ap (λ (ks : List Knote). after_turn (retrieve views (take n whole.kq.queue)) room
    (kqueue_of ks part.kq.queue) part.event) (sym same.knotes)
    ∙ ap (λ (q : List Key). after_turn (retrieve views (take n whole.kq.queue)) room
    (kqueue_of whole.kq.knotes q) part.event) (sym same.back)
    ∙ ap (λ e. after_turn (retrieve views (take n whole.kq.queue)) room
    (kqueue_of whole.kq.knotes (drop n whole.kq.queue)) e) (sym same.event)
    ∙ going-event views n room whole.kq whole.event

-- where room is left, the next turn is the next step of the retrieval
pub going-turned : (views : Views) (n room : ℕ) (ks : List Knote) (key : Key) (rest : List Key) → n ≤ length rest
    → going views (suc n) (suc room) (kqueue_of ks (key ∷ rest)) ≡ after_going views n room
    (turned views key (kqueue_of ks rest)).event (turned views key (kqueue_of ks rest)).kq
unfolding retrieve
going-turned views n room ks key rest within =
    after_alike views n room rest (turned views key (kqueue_of ks rest))
    (turned views key (kqueue_of ks (drop n rest))) (alike views key n ks rest within)

-- ---- a loop of turns: at its start, at each turn, and at its two ends

pub loop_start : (views : Views) (room n : ℕ) (kq : Kqueue) (events : List Kevent) → events ≡ [] → n ≡ length kq.queue
    → retrieval views room kq ≡ preceded events (going views (n - 0) (room - length events) kq)
loop_start views room n kq events none all =
    subst (λ (es : List Kevent). retrieval views room kq ≡ preceded es (going views (n - 0) (room - length es) kq))
    (sym none)
    (retrieval-going views room kq
    ∙ ap (λ m. going views m room kq) (let e : length kq.queue ≡ n - 0 = omega arith in e)
    ∙ ap (λ r. going views (n - 0) r kq) (let e : room ≡ room - 0 = omega arith in e))

-- the kqueue and the event of the turn of the key at the front
pub record IsTurn (views : Views) (kq next : Kqueue) (event : Option Kevent) : Type 0 where
  pub leaves : (key : Key) (rest : List Key) → kq.queue ≡ key ∷ rest
      → next ≡ (turned views key (record kq { queue = rest })).kq
  pub gives : (key : Key) (rest : List Key) → kq.queue ≡ key ∷ rest
      → event ≡ (turned views key (record kq { queue = rest })).event

-- it is enough to know it of the key that was taken
IsTurn-of : (views : Views) (kq next : Kqueue) (event : Option Kevent) (front : Key) (behind : List Key)
    → kq.queue ≡ front ∷ behind → record { kq = next; event = event } ≡ turned views front
    (kqueue_of kq.knotes behind) → IsTurn views kq next event
IsTurn-of views kq next event front behind first is = record {
  leaves = λ key rest there. ap (λ (t : Turned). t.kq) (is ∙ moved key rest there);
  gives = λ key rest there. ap (λ (t : Turned). t.event) (is ∙ moved key rest there);
}
  where
    moved : (key : Key) (rest : List Key) → kq.queue ≡ key ∷ rest → turned views front (kqueue_of kq.knotes behind)
        ≡ turned views key (kqueue_of kq.knotes rest)
    moved key rest there =
        let both : front ∷ behind ≡ key ∷ rest = sym first ∙ there in
        let same_key : front ≡ key = cc in
        let same_rest : behind ≡ rest = cc in
        ap (λ k. turned views k (kqueue_of kq.knotes behind)) same_key
        ∙ ap (λ (q : List Key). turned views key (kqueue_of kq.knotes q)) same_rest

pub IsTurn-idle : (views : Views) (kq next : Kqueue) (front : Key) (behind : List Key) (k : Knote)
    → kq.queue ≡ front ∷ behind → find_knote front kq.knotes ≡ Some k → look views k ≡ None → next ≡ with_idle k
    (kqueue_of kq.knotes behind) → IsTurn views kq next None
IsTurn-idle views kq next front behind k first here nothing is =
    IsTurn-of views kq next None front behind first
    (ap (λ (after : Kqueue). turn after None) is
    ∙ sym (turned-idle views front (kqueue_of kq.knotes behind) k here nothing))
  where
    turn : Kqueue → Option Kevent → Turned
    turn after event = record { kq = after; event = event }

pub IsTurn-delivered : (views : Views) (kq next : Kqueue) (front : Key) (behind : List Key) (k : Knote) (seen : Seen)
    (e : Kevent) → kq.queue ≡ front ∷ behind → find_knote front kq.knotes ≡ Some k → look views k ≡ Some seen
    → next ≡ with_delivered views k (kqueue_of kq.knotes behind) → e ≡ event_of k seen → IsTurn views kq next (Some e)
IsTurn-delivered views kq next front behind k seen e first here there is event =
    IsTurn-of views kq next (Some e) front behind first
    (ap (λ (after : Kqueue). turn after e) is ∙ ap (λ x. turn (with_delivered views k (kqueue_of kq.knotes behind)) x) event
    ∙ sym (turned-delivered views front (kqueue_of kq.knotes behind) k seen here there))
  where
    turn : Kqueue → Kevent → Turned
    turn after x = record { kq = after; event = Some x }

pub turn-shortens : (views : Views) (kq next : Kqueue) (event : Option Kevent) (q : List Key) → kq.queue ≡ q
    → IsTurn views kq next event → length q ≤ length next.queue + 1
turn-shortens views kq next event [] is turn = omega arith
turn-shortens views kq next event (key ∷ rest) is turn =
    let grown = ap (λ (k : Kqueue). length k.queue) (turn.leaves key rest is) in
    omega (arith, length-turned views key kq.knotes rest)

going-turn : (views : Views) (n j : ℕ) (kq next : Kqueue) (event : Option Kevent) (q : List Key) → kq.queue ≡ q
    → suc n ≤ length q → IsTurn views kq next event → going views (suc n) (suc j) kq ≡ after_going views n j event next
going-turn views n j kq next event [] is within turn = absurd (omega arith)
going-turn views n j kq next event (key ∷ rest) is within turn =
    ap (λ (keys : List Key). going views (suc n) (suc j) (kqueue_of kq.knotes keys)) is
    ∙ going-turned views n j kq.knotes key rest (omega arith)
    ∙ ap (λ e. after_going views n j e (turned views key (kqueue_of kq.knotes rest)).kq) (sym (turn.gives key rest is))
    ∙ ap (λ (k : Kqueue). after_going views n j event k) (sym (turn.leaves key rest is))

loop_turn : (views : Views) (r : Retrieved) (events : List Kevent) (m k n j : ℕ) (kq next : Kqueue)
    (event : Option Kevent) → r ≡ preceded events (going views m k kq) → m ≡ suc n → k ≡ suc j
    → suc n ≤ length kq.queue → IsTurn views kq next event → r ≡ preceded events (after_going views n j event next)
loop_turn views r events m k n j kq next event so_far more left within turn =
    so_far
    ∙ ap (λ x. preceded events (going views x k kq)) more
    ∙ ap (λ x. preceded events (going views (suc n) x kq)) left
    ∙ ap (preceded events) (going-turn views n j kq next event kq.queue refl within turn)

pub loop_idle : (views : Views) (r : Retrieved) (events : List Kevent) (m k n j : ℕ) (kq next : Kqueue)
    → r ≡ preceded events (going views m k kq) → m ≡ suc n → k ≡ suc j → suc n ≤ length kq.queue
    → IsTurn views kq next None → r ≡ preceded events (going views n (suc j) next)
unfolding after_turn
loop_idle views r events m k n j kq next so_far more left within turn =
    loop_turn views r events m k n j kq next None so_far more left within turn

preceded-delivered : (events : List Kevent) (e : Kevent) (r : Retrieved) → preceded events (delivered e r) ≡ preceded
    (events ++ e ∷ []) r
unfolding delivered
preceded-delivered events e r =
    ap (λ (es : List Kevent). retrieved r.kq es) (sym (append_assoc events (e ∷ []) r.events))
  where
    retrieved : Kqueue → List Kevent → Retrieved
    retrieved kq es = record { kq = kq; events = es }

pub loop_delivers : (views : Views) (r : Retrieved) (events : List Kevent) (m k n j : ℕ) (kq next : Kqueue)
    (e : Kevent) → r ≡ preceded events (going views m k kq) → m ≡ suc n → k ≡ suc j → suc n ≤ length kq.queue
    → IsTurn views kq next (Some e) → r ≡ preceded (events ++ e ∷ []) (going views n j next)
unfolding after_turn
loop_delivers views r events m k n j kq next e so_far more left within turn =
    loop_turn views r events m k n j kq next (Some e) so_far more left within turn
    ∙ preceded-delivered events e (going views n j next)

preceded-done : (events : List Kevent) (kq : Kqueue) → preceded events (record { kq = kq; events = [] }) ≡ record
    { kq = kq; events = events }
preceded-done events kq = ap (λ (es : List Kevent). retrieved kq es) (append-nil events)
  where
    retrieved : Kqueue → List Kevent → Retrieved
    retrieved q es = record { kq = q; events = es }

pub loop_full : (views : Views) (r : Retrieved) (events : List Kevent) (m k : ℕ) (kq : Kqueue) → r ≡ preceded events
    (going views m k kq) → k ≡ 0 → r ≡ record { kq = kq; events = events }
loop_full views r events m k kq so_far full =
    so_far ∙ ap (λ x. preceded events (going views m x kq)) full ∙ ap (preceded events) (going-full views m kq)
    ∙ preceded-done events kq

pub loop_done : (views : Views) (r : Retrieved) (events : List Kevent) (m k : ℕ) (kq : Kqueue) → r ≡ preceded events
    (going views m k kq) → m ≡ 0 → r ≡ record { kq = kq; events = events }
loop_done views r events m k kq so_far over =
    so_far ∙ ap (λ x. preceded events (going views x k kq)) over ∙ ap (preceded events) (going-none views k kq)
    ∙ preceded-done events kq

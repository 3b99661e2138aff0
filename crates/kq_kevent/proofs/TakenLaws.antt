-- What a retrieval returns, in the words of its user: some of the queue in its order, each knote at most
-- once and only where its condition holds, and nothing held back.
use Rattle.std.proofs.Common.{◌≡◌, ℕ, zero, suc, ◌<◌, ◌≤◌, Bool, true, false, cond, ◌||◌, ◌⊎◌, inl, inr, List, [], ◌∷◌, map, length, Option, Some, None, refl, sym, ap, ◌∙◌, subst, arith}
use Rattle.std.proofs.lemmas.Bool.{true≢false, or_parts, or_left, or_right}
use Rattle.std.proofs.lemmas.Option.{none-some, same_Some}
use Rattle.kq_model.specs.declared.event_flags.EvFlags.{EvFlags}
use Rattle.kq_model.specs.declared.kevent.Kevent.{Kevent}
use Rattle.kq_model.specs.declared.key.Key.{Key}
use Rattle.kq_model.specs.Bits.{asks, flag_if, oneshot, clear, dispatch, eof, error}
use Rattle.kq_model.specs.CallLaws.{Each, key_of_event, AreInOrder, IsDue, IsLastOfOneshot, IsIdle, AreTaken}
use Rattle.kq_model.specs.Knote.{key_eq, has_key, find_knote, with_knote, without_knote}
use Rattle.kq_model.specs.Kqueue.{AreOnce, IsSound}
use Rattle.kq_model.specs.Look.{Seen, look}
use Rattle.kq_model.specs.Retrieval.{event_flags, event_of, rested, knotes_after, with_idle, without_notice, with_notice_told, settled, with_delivered, turned_at_look, turned_at, turned, delivered, after_turn, retrieve, retrieval}
use Rattle.kq_model.specs.Views.{Views}
use Rattle.kq_model.specs.Tallied.{Knote, Kqueue, Retrieved, Turned}
use Rattle.kq_model.proofs.KeyLaws.{same_key, key_eq-refl, key_eq-sym}
use Rattle.kq_model.proofs.KnoteLaws.{by_test, find_knote-key, find_knote-with_other, find_knote-with_none, find_knote-without_same, find_knote-without_other, find_knote-without_none}
use Rattle.kq_kevent.proofs.TurnSound.{rested-key}

-- ---- the flags of an event

abbrev flags_by : Bool → Bool → Bool → Bool → EvFlags
flags_by o c d e = flag_if e eof (flag_if d dispatch (flag_if c clear (flag_if o oneshot (record { 0 = 0 }))))

flags-oneshot : (o c d e : Bool) → asks (flags_by o c d e) oneshot ≡ o
flags-oneshot true true true true = refl
flags-oneshot true true true false = refl
flags-oneshot true true false true = refl
flags-oneshot true true false false = refl
flags-oneshot true false true true = refl
flags-oneshot true false true false = refl
flags-oneshot true false false true = refl
flags-oneshot true false false false = refl
flags-oneshot false true true true = refl
flags-oneshot false true true false = refl
flags-oneshot false true false true = refl
flags-oneshot false true false false = refl
flags-oneshot false false true true = refl
flags-oneshot false false true false = refl
flags-oneshot false false false true = refl
flags-oneshot false false false false = refl

flags-error : (o c d e : Bool) → asks (flags_by o c d e) error ≡ false
flags-error true true true true = refl
flags-error true true true false = refl
flags-error true true false true = refl
flags-error true true false false = refl
flags-error true false true true = refl
flags-error true false true false = refl
flags-error true false false true = refl
flags-error true false false false = refl
flags-error false true true true = refl
flags-error false true true false = refl
flags-error false true false true = refl
flags-error false true false false = refl
flags-error false false true true = refl
flags-error false false true false = refl
flags-error false false false true = refl
flags-error false false false false = refl

event-oneshot : (k : Knote) (seen : Seen) → asks (event_of k seen).flags oneshot ≡ k.oneshot
unfolding event_of event_flags
event-oneshot k seen = flags-oneshot k.oneshot k.clear k.dispatch seen.eof

event-error : (k : Knote) (seen : Seen) → asks (event_of k seen).flags error ≡ false
unfolding event_of event_flags
event-error k seen = flags-error k.oneshot k.clear k.dispatch seen.eof

event-key : (k : Knote) (seen : Seen) → key_of_event (event_of k seen) ≡ k.key
unfolding event_of
event-key k seen = refl

-- ---- some of a list in its order

pub nil_in_order : (q : List Key) → AreInOrder [] q
nil_in_order [] = refl
nil_in_order (x ∷ q) = inl (nil_in_order q)

in_order-absent : (key : Key) (keys q : List Key) → AreInOrder keys q → has_key key q ≡ false
    → has_key key keys ≡ false
in_order-absent key keys [] within absent = ap (has_key key) within
in_order-absent key keys (x ∷ q) (inl later) absent =
    in_order-absent key keys q later (or_parts (key_eq key x) (has_key key q) absent).1
in_order-absent key keys (x ∷ q) (inr first) absent =
    let parts = or_parts (key_eq key x) (has_key key q) absent in
    ap (has_key key) first.1 ∙ ap (λ b. b || has_key key first.0) parts.0
    ∙ in_order-absent key first.0 q first.2 parts.1

pub in_order-once : (keys q : List Key) → AreInOrder keys q → AreOnce q → AreOnce keys
in_order-once keys [] within once = subst AreOnce (sym within) tt
in_order-once keys (x ∷ q) (inl later) once = in_order-once keys q later once.1
in_order-once keys (x ∷ q) (inr first) once =
    subst AreOnce (sym first.1) (in_order-absent x first.0 q first.2 once.0, in_order-once first.0 q first.2 once.1)

-- ---- other knotes, and knotes that are gone

knotes_after-other : (key : Key) (k : Knote) (ks : List Knote) → key_eq k.key key ≡ false
    → find_knote key (knotes_after k ks) ≡ find_knote key ks
unfolding knotes_after
knotes_after-other key k ks apart =
    by_test
    (λ o. find_knote key
    (cond o (without_knote k.key ks) (cond (k.clear || k.dispatch) (with_knote (rested k) ks) ks))
    ≡ find_knote key ks) k.oneshot
    (λ _. find_knote-without_other key k.key ks apart)
    (λ _. by_test (λ r. find_knote key (cond r (with_knote (rested k) ks) ks) ≡ find_knote key ks)
    (k.clear || k.dispatch)
    (λ _. find_knote-with_other key (rested k) ks (ap (λ o. key_eq o key) (rested-key k) ∙ apart)) (λ _. refl))

knotes_after-none : (key : Key) (k : Knote) (ks : List Knote) → find_knote key ks ≡ None
    → find_knote key (knotes_after k ks) ≡ None
unfolding knotes_after
knotes_after-none key k ks none =
    by_test
    (λ o. find_knote key
    (cond o (without_knote k.key ks) (cond (k.clear || k.dispatch) (with_knote (rested k) ks) ks)) ≡ None) k.oneshot
    (λ _. find_knote-without_none key k.key ks none)
    (λ _. by_test (λ r. find_knote key (cond r (with_knote (rested k) ks) ks) ≡ None) (k.clear || k.dispatch)
    (λ _. find_knote-with_none key (rested k) ks none) (λ _. none))

knotes_after-oneshot : (k : Knote) (ks : List Knote) → k.oneshot ≡ true → find_knote k.key (knotes_after k ks) ≡ None
unfolding knotes_after
knotes_after-oneshot k ks once =
    ap (λ o. find_knote k.key
    (cond o (without_knote k.key ks) (cond (k.clear || k.dispatch) (with_knote (rested k) ks) ks))) once
    ∙ find_knote-without_same k.key ks

-- the same of a knote that was settled, with a notice or without
told-other : (key : Key) (k : Knote) (kq : Kqueue) (seen : Option Seen) → key_eq k.key key ≡ false
    → find_knote key (with_notice_told k kq seen).knotes ≡ find_knote key kq.knotes
unfolding with_notice_told
told-other key k kq None apart = find_knote-with_other key (record k { active = false }) kq.knotes apart
told-other key k kq (Some seen) apart = find_knote-with_other key k kq.knotes apart

pub settled-other : (views : Views) (key : Key) (k : Knote) (kq : Kqueue) (notice : Option ℕ) → key_eq k.key key ≡ false
    → find_knote key (settled views k kq notice).knotes ≡ find_knote key kq.knotes
unfolding settled
settled-other views key k kq None apart = knotes_after-other key k kq.knotes apart
settled-other views key k kq (Some parent) apart = told-other key (without_notice k) kq (look views (without_notice k)) apart

told-none : (key : Key) (k : Knote) (kq : Kqueue) (seen : Option Seen) → find_knote key kq.knotes ≡ None
    → find_knote key (with_notice_told k kq seen).knotes ≡ None
unfolding with_notice_told
told-none key k kq None none = find_knote-with_none key (record k { active = false }) kq.knotes none
told-none key k kq (Some seen) none = find_knote-with_none key k kq.knotes none

settled-none : (views : Views) (key : Key) (k : Knote) (kq : Kqueue) (notice : Option ℕ) → find_knote key kq.knotes ≡ None
    → find_knote key (settled views k kq notice).knotes ≡ None
unfolding settled
settled-none views key k kq None none = knotes_after-none key k kq.knotes none
settled-none views key k kq (Some parent) none = told-none key (without_notice k) kq (look views (without_notice k)) none

settled-oneshot : (views : Views) (k : Knote) (kq : Kqueue) (notice : Option ℕ) → notice ≡ None → k.oneshot ≡ true
    → find_knote k.key (settled views k kq notice).knotes ≡ None
unfolding settled
settled-oneshot views k kq None is once = knotes_after-oneshot k kq.knotes once
settled-oneshot views k kq (Some parent) is once = absurd (none-some parent (sym is))

none_looked : (views : Views) (key : Key) (k : Knote) (kq : Kqueue) (seen : Option Seen) → find_knote key kq.knotes ≡ None
    → find_knote key (turned_at_look views k kq seen).kq.knotes ≡ None
unfolding turned_at_look
none_looked views key k kq None none = find_knote-with_none key (record k { active = false }) kq.knotes none
none_looked views key k kq (Some seen) none = settled-none views key k kq k.notice none

none_turned : (views : Views) (key : Key) (kq : Kqueue) (f : Option Knote) → find_knote key kq.knotes ≡ None
    → find_knote key (turned_at views kq f).kq.knotes ≡ None
unfolding turned_at
none_turned views key kq None none = none
none_turned views key kq (Some k) none = none_looked views key k kq (look views k) none

turn-none : (views : Views) (key front : Key) (kq : Kqueue) → find_knote key kq.knotes ≡ None
    → find_knote key (turned views front kq).kq.knotes ≡ None
unfolding turned
turn-none views key front kq none = none_turned views key kq (find_knote front kq.knotes) none

none_after : (key : Key) (rest : ℕ → Kqueue → Retrieved) → ((r : ℕ) (l : Kqueue) → find_knote key l.knotes ≡ None
    → find_knote key (rest r l).kq.knotes ≡ None) → (room : ℕ) (kq : Kqueue) (event : Option Kevent)
    → find_knote key kq.knotes ≡ None → find_knote key (after_turn rest room kq event).kq.knotes ≡ None
unfolding after_turn delivered
none_after key rest step room kq None none = step (suc room) kq none
none_after key rest step room kq (Some event) none = step room kq none

-- a retrieval makes no knote
retrieve-none : (views : Views) (key : Key) (keys : List Key) (room : ℕ) (kq : Kqueue)
    → find_knote key kq.knotes ≡ None → find_knote key (retrieve views keys room kq).kq.knotes ≡ None
unfolding retrieve
retrieve-none views key [] room kq none = none
retrieve-none views key (x ∷ keys) zero kq none = none
retrieve-none views key (x ∷ keys) (suc room) kq none =
    none_after key (retrieve views keys) (λ r l n. retrieve-none views key keys r l n) room (turned views x kq).kq
    (turned views x kq).event (turn-none views key x kq none)

-- ---- what a retrieval has done with the keys in front of it

-- the knotes of these keys are as they were
abbrev pub Agree : List Key → List Knote → List Knote → Type 0
Agree keys ks first = (key : Key) → has_key key keys ≡ true → find_knote key ks ≡ find_knote key first

record IsRun (views : Views) (first : List Knote) (keys : List Key) (room : ℕ) (r : Retrieved) : Type 0 where
  in_order : AreInOrder (map key_of_event r.events) keys
  within : length r.events ≤ room
  due : Each (IsDue views first) r.events
  oneshot_gone : Each (IsLastOfOneshot first r.kq.knotes) r.events
  no_error : Each (λ e. asks e.flags error ≡ false) r.events
  complete : length r.events < room → (key : Key) → has_key key keys ≡ true
      → (has_key key (map key_of_event r.events) ≡ true) ⊎ IsIdle views first key

-- a key that is in a list from which the front differs is in the rest
in_rest : (key front : Key) (keys : List Key) → key_eq front key ≡ false → has_key key (front ∷ keys) ≡ true
    → has_key key keys ≡ true
in_rest key front keys apart there = sym (ap (λ b. b || has_key key keys) (key_eq-sym key front ∙ apart)) ∙ there

run_skips : (views : Views) (first : List Knote) (key : Key) (keys : List Key) (room : ℕ) (r : Retrieved)
    → IsRun views first keys room r → IsIdle views first key → IsRun views first (key ∷ keys) room r
run_skips views first key keys room r run idle = record {
  in_order = inl run.in_order;
  within = run.within;
  due = run.due;
  oneshot_gone = run.oneshot_gone;
  no_error = run.no_error;
  complete = λ less other there.
      by_test (λ b. key_eq key other ≡ b → (has_key other (map key_of_event r.events) ≡ true) ⊎ IsIdle views first
      other) (key_eq key other)
      (λ _ same. inr (subst (λ (o : Key). IsIdle views first o) (same_key key other same) idle))
      (λ _ apart. run.complete less other (in_rest other key keys apart there)) refl;
}

run_delivers : (views : Views) (first : List Knote) (key : Key) (keys : List Key) (room : ℕ) (r : Retrieved)
    (k : Knote) (seen : Seen) → key ≡ k.key → find_knote key first ≡ Some k → look views k ≡ Some seen
    → (k.notice ≡ None → k.oneshot ≡ true → find_knote k.key r.kq.knotes ≡ None) → IsRun views first keys room r
    → IsRun views first (key ∷ keys) (suc room) (delivered (event_of k seen) r)
unfolding delivered
run_delivers views first key keys room r k seen at here holds gone run =
    let of_key : key_of_event (event_of k seen) ≡ key = event-key k seen ∙ sym at in
    record {
      in_order = inr (map key_of_event r.events, ap (λ o. o ∷ map key_of_event r.events) of_key, run.in_order);
      within = omega (arith, run.within);
      due = (
        record {
          knote = k;
          seen = seen;
          found = ap (λ o. find_knote o first) of_key ∙ here;
          holds = holds;
          is =
              refl;
        },
        run.due,
      );
      oneshot_gone = (
        λ other found none once. ap (λ o. find_knote o r.kq.knotes) (event-key k seen)
            ∙ gone (ap (λ (n : Knote). n.notice) (same_Some k other (sym here ∙ ap (λ o. find_knote o first) (sym of_key) ∙ found)) ∙ none)
            (sym (event-oneshot k seen) ∙ once),
        run.oneshot_gone,
      );
      no_error = (event-error k seen, run.no_error);
      complete = λ less other there.
          by_test (λ b. key_eq key other ≡ b → (has_key other (map key_of_event (event_of k seen ∷ r.events)) ≡ true)
          ⊎ IsIdle views first other) (key_eq key other)
          (λ _ same. inl (or_left _ (has_key other (map key_of_event r.events))
          (ap (λ o. key_eq other o) (of_key ∙ same_key key other same) ∙ key_eq-refl other)))
          (λ _ apart. pass other (run.complete (omega arith) other (in_rest other key keys apart there))) refl;
    }
  where
    pass : (other : Key) → (has_key other (map key_of_event r.events) ≡ true) ⊎ IsIdle views first other
        → (has_key other (map key_of_event (event_of k seen ∷ r.events)) ≡ true) ⊎ IsIdle views first other
    pass other (inl there) = inl (or_right _ _ there)
    pass other (inr idle) = inr idle

-- ---- the whole walk

pub agree_still : (key : Key) (keys : List Key) (ks after first : List Knote) → has_key key keys ≡ false
    → Agree (key ∷ keys) ks first
    → ((other : Key) → key_eq key other ≡ false → find_knote other after ≡ find_knote other ks)
    → Agree keys after first
agree_still key keys ks after first absent agree others = λ other there.
    by_test (λ b. key_eq key other ≡ b → find_knote other after ≡ find_knote other first) (key_eq key other)
    (λ _ same. absurd
    (true≢false (sym there ∙ subst (λ (o : Key). has_key o keys ≡ false) (same_key key other same) absent)))
    (λ _ apart. others other apart ∙ agree other (or_right (key_eq other key) (has_key other keys) there)) refl

-- the later keys, whatever was done before
abbrev Later : Views → List Knote → List Key → Type 0
Later views first keys =
    (room : ℕ) (kq : Kqueue) → Agree keys kq.knotes first → IsRun views first keys room (retrieve views keys room kq)

-- what follows the turn of one key
abbrev pub following : Views → List Key → ℕ → Turned → Retrieved
following views keys room t = after_turn (retrieve views keys) room t.kq t.event

run_look : (views : Views) (first : List Knote) (key : Key) (keys : List Key) → has_key key keys ≡ false
    → Later views first keys → (room : ℕ) (kq : Kqueue) → Agree (key ∷ keys) kq.knotes first → (k : Knote)
    → find_knote key kq.knotes ≡ Some k → (seen : Option Seen) → look views k ≡ seen → IsRun views first (key ∷ keys)
    (suc room) (following views keys room (turned_at_look views k kq seen))
unfolding turned_at_look after_turn
run_look views first key keys absent later room kq agree k here None nothing =
    let at = find_knote-key key kq.knotes k here in
    let idle : Knote = record k { active = false } in
    run_skips views first key keys (suc room) (retrieve views keys (suc room) (with_idle k kq))
    (later (suc room) (with_idle k kq)
    (agree_still key keys kq.knotes (with_knote idle kq.knotes) first absent agree
    (λ other apart. find_knote-with_other other idle kq.knotes (ap (λ o. key_eq o other) (sym at) ∙ apart))))
    (λ other there. ap (look views)
    (same_Some other k (sym there ∙ sym (agree key (or_left (key_eq key key) (has_key key keys) (key_eq-refl key)))
    ∙ here)) ∙ nothing)
run_look views first key keys absent later room kq agree k here (Some seen) sees =
    let at = find_knote-key key kq.knotes k here in
    let left = with_delivered views k kq in
    run_delivers views first key keys room (retrieve views keys room left) k seen at
    (sym (agree key (or_left (key_eq key key) (has_key key keys) (key_eq-refl key))) ∙ here) sees
    (λ none once. retrieve-none views k.key keys room left (settled-oneshot views k kq k.notice none once))
    (later room left
    (agree_still key keys kq.knotes left.knotes first absent agree
    (λ other apart. settled-other views other k kq k.notice (ap (λ o. key_eq o other) (sym at) ∙ apart))))

run_front : (views : Views) (first : List Knote) (key : Key) (keys : List Key) → has_key key keys ≡ false
    → Later views first keys → (room : ℕ) (kq : Kqueue) → Agree (key ∷ keys) kq.knotes first → (f : Option Knote)
    → find_knote key kq.knotes ≡ f → IsRun views first (key ∷ keys) (suc room)
    (following views keys room (turned_at views kq f))
unfolding turned_at after_turn
run_front views first key keys absent later room kq agree None none =
    run_skips views first key keys (suc room) (retrieve views keys (suc room) kq)
    (later (suc room) kq (agree_still key keys kq.knotes kq.knotes first absent agree (λ _ _. refl)))
    (λ k there. absurd
    (none-some k (sym none ∙ agree key (or_left (key_eq key key) (has_key key keys) (key_eq-refl key)) ∙ there)))
run_front views first key keys absent later room kq agree (Some k) here =
    run_look views first key keys absent later room kq agree k here (look views k) refl

run_turn : (views : Views) (first : List Knote) (key : Key) (keys : List Key) → has_key key keys ≡ false
    → Later views first keys → (room : ℕ) (kq : Kqueue) → Agree (key ∷ keys) kq.knotes first
    → IsRun views first (key ∷ keys) (suc room) (following views keys room (turned views key kq))
unfolding turned
run_turn views first key keys absent later room kq agree =
    run_front views first key keys absent later room kq agree (find_knote key kq.knotes) refl

run : (views : Views) (first : List Knote) (keys : List Key) (room : ℕ) (kq : Kqueue) → AreOnce keys
    → Agree keys kq.knotes first → IsRun views first keys room (retrieve views keys room kq)
unfolding retrieve
run views first [] room kq once agree = record {
  in_order = refl;
  within = omega arith;
  due = tt;
  oneshot_gone = tt;
  no_error = tt;
  complete = λ less key there. absurd (true≢false (sym there));
}
run views first (key ∷ keys) zero kq once agree = record {
  in_order = nil_in_order (key ∷ keys);
  within = omega arith;
  due = tt;
  oneshot_gone = tt;
  no_error = tt;
  complete = λ less other there. absurd (omega arith);
}
run views first (key ∷ keys) (suc room) kq once agree =
    run_turn views first key keys once.0 (λ r l a. run views first keys r l once.1 a) room kq agree

pub AreTaken-retrieval : (views : Views) (room : ℕ) (kq : Kqueue) → IsSound kq → AreTaken views room kq
    (retrieval views room kq).kq (retrieval views room kq).events
unfolding retrieval
AreTaken-retrieval views room kq sound =
    let taken = run views kq.knotes kq.queue room (record kq { queue = [] }) sound.once (λ _ _. refl) in
    record {
      in_order = taken.in_order;
      once = in_order-once (map key_of_event (retrieve views kq.queue room (record kq { queue = [] })).events)
          kq.queue taken.in_order sound.once;
      within = taken.within;
      due = taken.due;
      oneshot_gone = taken.oneshot_gone;
      no_error = taken.no_error;
      complete = taken.complete;
    }

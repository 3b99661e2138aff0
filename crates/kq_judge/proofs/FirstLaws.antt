-- What a retrieval returns: the first of those in the queue whose conditions hold. The turn of one knote changes no
-- other.
use Rattle.std.proofs.Common.{◌≡◌, ℕ, zero, suc, true, false, List, [], ◌∷◌, take, Option, Some, None, refl, sym, ap, ◌∙◌}
use Rattle.std.proofs.Math.Seq.{take-nil}
use Rattle.std.proofs.lemmas.Bool.{or_left}
use Rattle.std.specs.List.{filter_map, cons_option}
use Rattle.std.specs.Option.{option_map}
use Rattle.std.specs.Prelude.{option_and_then}
use Rattle.kq_model.specs.declared.kevent.Kevent.{Kevent}
use Rattle.kq_model.specs.declared.key.Key.{Key}
use Rattle.kq_model.specs.Knote.{key_eq, has_key, find_knote}
use Rattle.kq_model.specs.Kqueue.{AreOnce, IsSound}
use Rattle.kq_model.specs.Look.{Seen, look}
use Rattle.kq_model.specs.Retrieval.{event_of, turned_at_look, turned_at, turned, delivered, after_turn, retrieve, retrieval}
use Rattle.kq_model.specs.Tallied.{Knote, Kqueue}
use Rattle.kq_model.specs.Views.{Views}
use Rattle.kq_model.proofs.KeyLaws.{key_eq-refl}
use Rattle.kq_model.proofs.KnoteLaws.{find_knote-key, find_knote-with_other}
use Rattle.kq_kevent.proofs.TakenLaws.{settled-other, Agree, agree_still}
use Rattle.kq_judge.specs.Allowed.{event_seen, event_due, ReturnsTheFirst}

-- ---- one turn

looked-event : (views : Views) (k : Knote) (kq : Kqueue) (s : Option Seen)
    → (turned_at_look views k kq s).event ≡ option_map (event_of k) s
unfolding turned_at_look
looked-event views k kq None = refl
looked-event views k kq (Some seen) = refl

found-event : (views : Views) (kq : Kqueue) (f : Option Knote)
    → (turned_at views kq f).event ≡ option_and_then (event_seen views) f
unfolding turned_at
found-event views kq None = refl
found-event views kq (Some k) = looked-event views k kq (look views k)

pub turn-event : (views : Views) (front : Key) (kq : Kqueue)
    → (turned views front kq).event ≡ event_due views kq.knotes front
unfolding turned
turn-event views front kq = found-event views kq (find_knote front kq.knotes)

looked-other : (views : Views) (key : Key) (k : Knote) (kq : Kqueue) (s : Option Seen) → key_eq k.key key ≡ false
    → find_knote key (turned_at_look views k kq s).kq.knotes ≡ find_knote key kq.knotes
unfolding turned_at_look
looked-other views key k kq None apart = find_knote-with_other key (record k { active = false }) kq.knotes apart
looked-other views key k kq (Some seen) apart = settled-other views key k kq k.notice apart

found-other : (views : Views) (front key : Key) (kq : Kqueue) (f : Option Knote) → find_knote front kq.knotes ≡ f
    → key_eq front key ≡ false → find_knote key (turned_at views kq f).kq.knotes ≡ find_knote key kq.knotes
unfolding turned_at
found-other views front key kq None found apart = refl
found-other views front key kq (Some k) found apart =
    looked-other views key k kq (look views k)
    (ap (λ o. key_eq o key) (sym (find_knote-key front kq.knotes k found)) ∙ apart)

pub turn-other : (views : Views) (front key : Key) (kq : Kqueue) → key_eq front key ≡ false
    → find_knote key (turned views front kq).kq.knotes ≡ find_knote key kq.knotes
unfolding turned
turn-other views front key kq apart = found-other views front key kq (find_knote front kq.knotes) refl apart

-- ---- the whole walk

-- what the later keys give, whatever was done before
abbrev Later : Views → List Knote → List Key → Kqueue → Type 0
Later views first keys kq =
    (room : ℕ) → (retrieve views keys room kq).events ≡ take room (filter_map (event_due views first) keys)

after-event : (views : Views) (first : List Knote) (keys : List Key) (room : ℕ) (kq : Kqueue) (o : Option Kevent)
    → Later views first keys kq
    → (after_turn (retrieve views keys) room kq o).events
    ≡ take (suc room) (cons_option o (filter_map (event_due views first) keys))
unfolding after_turn delivered
after-event views first keys room kq None later = later (suc room)
after-event views first keys room kq (Some e) later = ap (λ (es : List Kevent). e ∷ es) (later room)

firsts : (views : Views) (first : List Knote) (keys : List Key) (room : ℕ) (kq : Kqueue) → AreOnce keys
    → Agree keys kq.knotes first
    → (retrieve views keys room kq).events ≡ take room (filter_map (event_due views first) keys)
unfolding retrieve
firsts views first [] room kq once agree = sym (take-nil room)
firsts views first (key ∷ keys) zero kq once agree = refl
firsts views first (key ∷ keys) (suc room) kq once agree =
    let next = (turned views key kq).kq in
    let there : has_key key (key ∷ keys) ≡ true = or_left (key_eq key key) (has_key key keys) (key_eq-refl key) in
    let event : (turned views key kq).event ≡ event_due views first key =
    turn-event views key kq ∙ ap (option_and_then (event_seen views)) (agree key there) in
    after-event views first keys room next (turned views key kq).event
    (λ left. firsts views first keys left next once.1
    (agree_still key keys kq.knotes next.knotes first once.0 agree
    (λ other apart. turn-other views key other kq apart)))
    ∙ ap (λ (o : Option Kevent). take (suc room) (cons_option o (filter_map (event_due views first) keys))) event

pub returns-the_first : (views : Views) (room : ℕ) (kq : Kqueue) → AreOnce kq.queue → ReturnsTheFirst views room kq
unfolding retrieval
returns-the_first views room kq once =
    firsts views kq.knotes kq.queue room (record kq { queue = [] }) once (λ _ _. refl)

pub returns_first : (views : Views) (room : ℕ) (kq : Kqueue) → IsSound kq → ReturnsTheFirst views room kq
returns_first views room kq sound = returns-the_first views room kq sound.once

-- How many events a retrieval gives: one for each key of the queue whose knote's condition holds, up to the room.
use Rattle.std.proofs.Common.{◌≡◌, ℕ, zero, suc, ◌+◌, ◌<◌, ◌≤◌, min, Bool, true, false, cond, ◌⊎◌, inl, inr, List, [], ◌∷◌, length, take, slice_get, get_or, Option, Some, None, refl, sym, ap, ◌∙◌, count_by, arith}
use Rattle.std.proofs.lemmas.Bool.{or_left}
use Rattle.std.proofs.lemmas.List.{take_all}
use Rattle.std.proofs.lemmas.List.Sums.{sum_by-cons, sum_by_more, sum_by-take-le}
use Rattle.std.proofs.lemmas.Option.{none-some, get_or_from_slice_get, slice_get_cases, slice_get_within}
use Rattle.std.specs.Prelude.{is_some}
use Rattle.std.specs.Option.{option_and_then}
use Rattle.kq_model.specs.declared.kevent.Kevent.{Kevent}
use Rattle.kq_model.specs.declared.key.Key.{Key}
use Rattle.kq_model.specs.declared.reply.Reply.TheVariants.{Events}
use Rattle.kq_model.specs.Call.{process, returned, by_entries, by_answer, concluded, call}
use Rattle.kq_model.specs.Caller.{Caller}
use Rattle.kq_model.specs.Knote.{key_eq, has_key, find_knote, with_knote}
use Rattle.kq_model.specs.Kqueue.{AreOnce, IsSound}
use Rattle.kq_model.specs.Look.{Seen, look}
use Rattle.kq_model.specs.Retrieval.{event_of, with_idle, with_delivered, turned_at_look, turned_at, turned, delivered, after_turn, retrieve, retrieval}
use Rattle.kq_model.specs.Views.{Views}
use Rattle.kq_model.specs.Tallied.{Knote, Kqueue, Retrieved}
use Rattle.kq_model.proofs.KeyLaws.{key_eq-refl}
use Rattle.kq_model.proofs.KnoteLaws.{find_knote-key, find_knote-with_other}
use Rattle.kq_kevent.specs.Foretold.{is_due}
use Rattle.kq_kevent.proofs.TakenLaws.{Agree, agree_still, following, settled-other}

-- so many of the keys are due, up to the room
abbrev IsCounted : Views → List Knote → List Key → ℕ → Retrieved → Type 0
IsCounted views first keys room r = length r.events ≡ min room (count_by (is_due views first) keys)

count-cons : (views : Views) (first : List Knote) (key : Key) (keys : List Key) (due : Bool) → is_due views first key ≡ due
    → count_by (is_due views first) (key ∷ keys) ≡ cond due 1 0 + count_by (is_due views first) keys
count-cons views first key keys due is =
    sum_by-cons (λ (k : Key). cond (is_due views first k) 1 0) key keys ∙ ap (λ b. cond b 1 0 + count_by (is_due views first) keys) is

count_skips : (views : Views) (first : List Knote) (key : Key) (keys : List Key) (room : ℕ) (r : Retrieved)
    → IsCounted views first keys room r → is_due views first key ≡ false → IsCounted views first (key ∷ keys) room r
count_skips views first key keys room r counted off =
    let more = count-cons views first key keys false off in omega (arith, counted, more)

count_delivers : (views : Views) (first : List Knote) (key : Key) (keys : List Key) (room : ℕ) (r : Retrieved) (e : Kevent)
    → IsCounted views first keys room r → is_due views first key ≡ true → IsCounted views first (key ∷ keys) (suc room) (delivered e r)
unfolding delivered
count_delivers views first key keys room r e counted on =
    let more = count-cons views first key keys true on in omega (arith, counted, more)

front_agrees : (key : Key) (keys : List Key) (ks first : List Knote) → Agree (key ∷ keys) ks first → find_knote key ks ≡ find_knote key first
front_agrees key keys ks first agree = agree key (or_left (key_eq key key) (has_key key keys) (key_eq-refl key))

due_as : (views : Views) (first : List Knote) (key : Key) (k : Knote) (seen : Option Seen) → find_knote key first ≡ Some k → look views k ≡ seen
    → is_due views first key ≡ is_some seen
due_as views first key k seen here sees = ap (λ (o : Option Knote). is_some (option_and_then (look views) o)) here ∙ ap (λ (o : Option Seen). is_some o) sees

abbrev CountLater : Views → List Knote → List Key → Type 0
CountLater views first keys =
    (room : ℕ) (kq : Kqueue) → Agree keys kq.knotes first → IsCounted views first keys room (retrieve views keys room kq)

count_look : (views : Views) (first : List Knote) (key : Key) (keys : List Key) → has_key key keys ≡ false
    → CountLater views first keys → (room : ℕ) (kq : Kqueue) → Agree (key ∷ keys) kq.knotes first → (k : Knote)
    → find_knote key kq.knotes ≡ Some k → (seen : Option Seen) → look views k ≡ seen
    → IsCounted views first (key ∷ keys) (suc room) (following views keys room (turned_at_look views k kq seen))
unfolding turned_at_look after_turn
count_look views first key keys absent later room kq agree k here None nothing =
    let at = find_knote-key key kq.knotes k here in
    let idle : Knote = record k { active = false } in
    count_skips views first key keys (suc room) (retrieve views keys (suc room) (with_idle k kq))
    (later (suc room) (with_idle k kq)
    (agree_still key keys kq.knotes (with_knote idle kq.knotes) first absent agree
    (λ other apart. find_knote-with_other other idle kq.knotes (ap (λ o. key_eq o other) (sym at) ∙ apart))))
    (due_as views first key k None (sym (front_agrees key keys kq.knotes first agree) ∙ here) nothing)
count_look views first key keys absent later room kq agree k here (Some seen) sees =
    let at = find_knote-key key kq.knotes k here in
    let left = with_delivered views k kq in
    count_delivers views first key keys room (retrieve views keys room left) (event_of k seen)
    (later room left
    (agree_still key keys kq.knotes left.knotes first absent agree
    (λ other apart. settled-other views other k kq k.notice (ap (λ o. key_eq o other) (sym at) ∙ apart))))
    (due_as views first key k (Some seen) (sym (front_agrees key keys kq.knotes first agree) ∙ here) sees)

count_front : (views : Views) (first : List Knote) (key : Key) (keys : List Key) → has_key key keys ≡ false
    → CountLater views first keys → (room : ℕ) (kq : Kqueue) → Agree (key ∷ keys) kq.knotes first → (f : Option Knote)
    → find_knote key kq.knotes ≡ f → IsCounted views first (key ∷ keys) (suc room) (following views keys room (turned_at views kq f))
unfolding turned_at after_turn
count_front views first key keys absent later room kq agree None none =
    count_skips views first key keys (suc room) (retrieve views keys (suc room) kq)
    (later (suc room) kq (agree_still key keys kq.knotes kq.knotes first absent agree (λ _ _. refl)))
    (ap (λ (o : Option Knote). is_some (option_and_then (look views) o)) (sym (front_agrees key keys kq.knotes first agree) ∙ none))
count_front views first key keys absent later room kq agree (Some k) here =
    count_look views first key keys absent later room kq agree k here (look views k) refl

count_turn : (views : Views) (first : List Knote) (key : Key) (keys : List Key) → has_key key keys ≡ false
    → CountLater views first keys → (room : ℕ) (kq : Kqueue) → Agree (key ∷ keys) kq.knotes first
    → IsCounted views first (key ∷ keys) (suc room) (following views keys room (turned views key kq))
unfolding turned
count_turn views first key keys absent later room kq agree =
    count_front views first key keys absent later room kq agree (find_knote key kq.knotes) refl

count_run : (views : Views) (first : List Knote) (keys : List Key) (room : ℕ) (kq : Kqueue) → AreOnce keys
    → Agree keys kq.knotes first → IsCounted views first keys room (retrieve views keys room kq)
unfolding retrieve
count_run views first [] room kq once agree = omega arith
count_run views first (key ∷ keys) zero kq once agree = omega arith
count_run views first (key ∷ keys) (suc room) kq once agree =
    count_turn views first key keys once.0 (λ r l a. count_run views first keys r l once.1 a) room kq agree

pub retrieval-count : (views : Views) (room : ℕ) (kq : Kqueue) → IsSound kq
    → length (retrieval views room kq).events ≡ min room (count_by (is_due views kq.knotes) kq.queue)
unfolding retrieval
retrieval-count views room kq sound =
    count_run views kq.knotes kq.queue room (record kq { queue = [] }) sound.once (λ _ _. refl)

-- a call without changes is a retrieval
pub poll-reply : (by : Caller) (room : ℕ) (kq : Kqueue) → (call by room [] kq).reply ≡ Events (retrieval by.views room kq).events
unfolding call process concluded by_answer by_entries returned
poll-reply by room kq = refl

-- ---- a walk over the queue counts them

module _ (p : Key → Bool) (q : List Key) (i count room : ℕ) (so_far : count ≡ count_by p (take i q)) where
  pub count-over : length q ≤ i → count ≤ room → count ≡ min room (count_by p q)
  count-over over within = let all = so_far ∙ ap (count_by p) (take_all i q over) in omega (arith, all, within)

  pub count-full : count ≡ room → count ≡ min room (count_by p q)
  count-full full = let part = sum_by-take-le (λ (k : Key). cond (p k) 1 0) q i in omega (arith, so_far, full, part)

  pub count-stops : None ≡ slice_get q i → count ≤ room → count ≡ min room (count_by p q)
  count-stops none within = by (slice_get_cases q i).1
    where
      by : ((x : Key) × (i < length q) × (slice_get q i ≡ Some x) × (get_or q i x ≡ x)) ⊎ ((length q ≤ i) × (slice_get q i ≡ None))
          → count ≡ min room (count_by p q)
      by (inl there) = absurd (none-some there.0 (none ∙ there.2))
      by (inr over) = count-over over.0 within

  pub count-goes : (key : Key) (due : Bool) (more : ℕ) → slice_get q i ≡ Some key → due ≡ p key → more ≡ count + cond due 1 0
      → more ≡ count_by p (take (i + 1) q)
  count-goes key due more at is adds =
      let one = sum_by_more (λ (k : Key). cond (p k) 1 0) q i key (slice_get_within q i key at)
      ∙ ap (λ (k : Key). count_by p (take i q) + cond (p k) 1 0) (get_or_from_slice_get q i key key at) in
      adds ∙ ap (λ b. count + cond b 1 0) is ∙ ap (λ n. n + cond (p key) 1 0) so_far ∙ sym one

pub one-or-none : (b : Bool) → cond b 1 0 ≤ 1
one-or-none true = omega arith
one-or-none false = omega arith

-- Which answers some order of the queue gives: those whose events are pending, each once, no more than there is room
-- for, and none held back.
use Rattle.std.proofs.Common.{◌≡◌, ℕ, ◌<◌, ◌≤◌, true, not, ◌||◌, ◌⊎◌, inl, inr, List, [], ◌∷◌, ◌++◌, map, take, length, Option, Some, None, refl, sym, ap, ◌∙◌, subst, arith}
use Rattle.std.proofs.Math.Seq.{take-append_seam}
use Rattle.std.proofs.lemmas.Bool.{true≢false, or_left, or_right, and_parts, cases_lt}
use Rattle.std.proofs.lemmas.List.{take_all, append-nil}
use Rattle.std.proofs.lemmas.List.Elements.{filter_map-append, length_all_zip}
use Rattle.std.proofs.lemmas.List.Sorted.{IsPermutation-refl, list_any-IsPermutation}
use Rattle.std.proofs.lemmas.Option.{none-some}
use Rattle.std.specs.List.{filter_map, cons_option}
use Rattle.std.specs.Option.{option_map}
use Rattle.std.specs.Prelude.{option_and_then}
use Rattle.kq_model.specs.declared.kevent.Kevent.{Kevent}
use Rattle.kq_model.specs.declared.key.Key.{Key}
use Rattle.kq_model.specs.CallLaws.{Each, key_of_event, AreInOrder, IsDue, IsIdle}
use Rattle.kq_model.specs.Knote.{key_eq, has_key}
use Rattle.kq_model.specs.Kqueue.{AreOnce, IsSound}
use Rattle.kq_model.specs.Retrieval.{event_of, retrieval}
use Rattle.kq_model.specs.Tallied.{Knote, Kqueue}
use Rattle.kq_model.specs.Views.{Views}
use Rattle.kq_model.proofs.KeyLaws.{same_key, key_eq-refl}
use Rattle.kq_model.proofs.KeyLists.{has_key-filter}
use Rattle.kq_model.proofs.KnoteLaws.{by_test}
use Rattle.kq_kevent.specs.Arranged.{arranged, without_keys, AreAllIn}
use Rattle.kq_kevent.proofs.ArrangeLaws.{arranged-first, arranged-same, AreOnce-arranged}
use Rattle.kq_kevent.proofs.TakenLaws.{AreTaken-retrieval}
use Rattle.kq_judge.specs.declared.member.Ignored.{Ignored}
use Rattle.kq_judge.specs.declared.member.Member.{Member}
use Rattle.kq_judge.specs.declared.member.Member.TheVariants.{Flags, Fflags, Datum, Udata}
use Rattle.kq_judge.specs.Allowed.{IsAllowed, event_seen, event_due, with_answer_first, IsGivenInFront}
use Rattle.kq_judge.specs.Judged.{IsRightEvent, AreRight}
use Rattle.kq_judge.specs.Pending.{IsPending}
use Rattle.kq_judge.specs.Same.{IsSame, AreSame, AgreeOn}
use Rattle.kq_judge.proofs.FirstLaws.{returns_first, returns-the_first}
use Rattle.kq_judge.proofs.OrderLaws.{AreOnce-IsPermutation}
use Rattle.kq_judge.proofs.PendingLaws.{pending-due, pending-queued, due-pending}

-- with room left over, each kevent that is pending is in the answer
abbrev pub IsComplete : Views → ℕ → Kqueue → List Kevent → Type 0
IsComplete views room kq own =
    length own < room → (key : Key) (e : Kevent) → IsPending views kq.knotes key e
    → has_key key (map key_of_event own) ≡ true

pub record IsRight (ignored : List Ignored) (views : Views) (room : ℕ) (kq : Kqueue) (own : List Kevent) : Type 0 where
  pub right : AreRight ignored views kq.knotes own
  pub within : length own ≤ room
  pub complete : IsComplete views room kq own

-- ---- events that are the same

agree_on_itself : (member : Member) (e : Kevent) → AgreeOn member e e
agree_on_itself Flags e = refl
agree_on_itself Fflags e = refl
agree_on_itself Datum e = refl
agree_on_itself Udata e = refl

pub same_as_itself : (ignored : List Ignored) (events : List Kevent) → AreSame ignored events events
same_as_itself ignored [] = tt
same_as_itself ignored (e ∷ events) =
    (record { key = refl; members = λ member compared. agree_on_itself member e }, same_as_itself ignored events)

pub same-keys : (ignored : List Ignored) (xs ys : List Kevent) → AreSame ignored xs ys
    → map key_of_event xs ≡ map key_of_event ys
same-keys ignored [] [] same = refl
same-keys ignored [] (y ∷ ys) same = absurd same
same-keys ignored (x ∷ xs) [] same = absurd same
same-keys ignored (x ∷ xs) (y ∷ ys) same =
    ap (λ key. key ∷ map key_of_event xs) same.0.key
    ∙ ap (λ keys. key_of_event y ∷ keys) (same-keys ignored xs ys same.1)

-- ---- the model's own answer

pub own_allowed : (ignored : List Ignored) (views : Views) (room : ℕ) (kq : Kqueue)
    → IsAllowed ignored views room kq (retrieval views room kq).events
own_allowed ignored views room kq = record {
  order = kq.queue;
  permutes = IsPermutation-refl kq.queue;
  same = same_as_itself ignored (retrieval views room kq).events;
}

-- ---- what is right is given by the order that has the answer's kevents in front

right-gives : (ignored : List Ignored) (views : Views) (ks : List Knote) (own : List Kevent)
    → Each (IsRightEvent ignored views ks) own
    → AreSame ignored (filter_map (event_due views ks) (map key_of_event own)) own
right-gives ignored views ks [] each = tt
right-gives ignored views ks (e ∷ own) each =
    subst (λ (o : Option Kevent). AreSame ignored
    (cons_option o (filter_map (event_due views ks) (map key_of_event own))) (e ∷ own))
    (sym (pending-due views ks (key_of_event e) each.0.expected each.0.pending))
    (each.0.same, right-gives ignored views ks own each.1)

-- where no key gives an event
none-given : (views : Views) (ks : List Knote) (keys : List Key)
    → ((key : Key) → has_key key keys ≡ true → event_due views ks key ≡ None)
    → filter_map (event_due views ks) keys ≡ []
none-given views ks [] none = refl
none-given views ks (key ∷ keys) none =
    ap (λ (o : Option Kevent). cons_option o (filter_map (event_due views ks) keys))
    (none key (or_left (key_eq key key) (has_key key keys) (key_eq-refl key)))
    ∙ none-given views ks keys (λ other there. none other (or_right (key_eq other key) (has_key other keys) there))

-- the keys of right events are in the queue
right-within : (ignored : List Ignored) (views : Views) (kq : Kqueue) (own : List Kevent) → IsSound kq
    → Each (IsRightEvent ignored views kq.knotes) own
    → AreAllIn (map key_of_event own) kq.queue
right-within ignored views kq [] sound each key there = absurd (true≢false (sym there))
right-within ignored views kq (e ∷ own) sound each key there =
    by_test (λ b. key_eq key (key_of_event e) ≡ b → b || has_key key (map key_of_event own) ≡ true
    → has_key key kq.queue ≡ true) (key_eq key (key_of_event e))
    (λ _ same _. subst (λ (o : Key). has_key o kq.queue ≡ true) (sym (same_key key (key_of_event e) same))
    (pending-queued views kq (key_of_event e) each.0.expected sound each.0.pending))
    (λ _ apart later. right-within ignored views kq own sound each.1 key later) refl there

-- the others give nothing where there is room
others-idle : (ignored : List Ignored) (views : Views) (room : ℕ) (kq : Kqueue) (own : List Kevent) → IsSound kq
    → IsComplete views room kq own → length own < room → (key : Key)
    → has_key key (without_keys (map key_of_event own) kq.queue) ≡ true
    → event_due views kq.knotes key ≡ None
others-idle ignored views room kq own sound complete less key there = by (event_due views kq.knotes key) refl
  where
    both : (has_key key kq.queue ≡ true) × (not (has_key key (map key_of_event own)) ≡ true)
    both = and_parts (has_key key kq.queue) (not (has_key key (map key_of_event own)))
        (sym (has_key-filter (λ o. not (has_key o (map key_of_event own))) key kq.queue) ∙ there)

    by : (o : Option Kevent) → event_due views kq.knotes key ≡ o → event_due views kq.knotes key ≡ None
    by None is = is
    by (Some e) is =
        absurd (true≢false (sym both.1 ∙ ap not (complete less key e (due-pending views kq key e sound both.0 is))))

-- so the first of all, in this order, are the answer
first-in_front : (ignored : List Ignored) (views : Views) (room : ℕ) (kq : Kqueue) (own : List Kevent) → IsSound kq
    → IsRight ignored views room kq own
    → take room (filter_map (event_due views kq.knotes) (arranged (map key_of_event own) kq.queue))
    ≡ filter_map (event_due views kq.knotes) (map key_of_event own)
first-in_front ignored views room kq own sound right =
    ap (λ keys. take room (filter_map due keys)) (arranged-first (map key_of_event own) kq.queue right.right.once
    (right-within ignored views kq own sound right.right.each))
    ∙ ap (take room) (filter_map-append due (map key_of_event own) others) ∙ by (cases_lt (length own) room)
  where
    due : Key → Option Kevent
    due = event_due views kq.knotes

    others : List Key
    others = without_keys (map key_of_event own) kq.queue

    given : List Kevent
    given = filter_map due (map key_of_event own)

    long : length given ≡ length own
    long = length_all_zip (IsSame ignored) given own (right-gives ignored views kq.knotes own right.right.each)

    by : (length own < room) ⊎ (room ≤ length own) → take room (given ++ filter_map due others) ≡ given
    by (inl less) =
        ap (λ (rest : List Kevent). take room (given ++ rest))
        (none-given views kq.knotes others (others-idle ignored views room kq own sound right.complete less))
        ∙ ap (take room) (append-nil given) ∙ take_all room given (omega (arith, long, less))
    by (inr full) =
        let exact : room ≡ length given = omega (arith, long, full, right.within) in
        ap (λ n. take n (given ++ filter_map due others)) exact ∙ take-append_seam given (filter_map due others)

pub right-given : (ignored : List Ignored) (views : Views) (room : ℕ) (kq : Kqueue) (own : List Kevent) → IsSound kq
    → IsRight ignored views room kq own → IsGivenInFront ignored views room kq own
right-given ignored views room kq own sound right =
    subst (λ (events : List Kevent). AreSame ignored events own)
    (sym (returns-the_first views room (with_answer_first own kq)
    (AreOnce-arranged (map key_of_event own) kq.queue sound.once)
    ∙ first-in_front ignored views room kq own sound right))
    (right-gives ignored views kq.knotes own right.right.each)

pub right-allowed : (ignored : List Ignored) (views : Views) (room : ℕ) (kq : Kqueue) (own : List Kevent) → IsSound kq
    → IsRight ignored views room kq own → IsAllowed ignored views room kq own
right-allowed ignored views room kq own sound right = record {
  order = arranged (map key_of_event own) kq.queue;
  permutes = arranged-same (map key_of_event own) kq.queue sound.once;
  same = right-given ignored views room kq own sound right;
}

-- ---- what some order gives is right

in_order-there : (key : Key) (keys queue : List Key) → AreInOrder keys queue → has_key key keys ≡ true
    → has_key key queue ≡ true
in_order-there key keys [] within there = absurd (true≢false (sym there ∙ ap (has_key key) within))
in_order-there key keys (x ∷ queue) (inl later) there =
    or_right (key_eq key x) (has_key key queue) (in_order-there key keys queue later there)
in_order-there key keys (x ∷ queue) (inr first) there =
    by_test (λ b. key_eq key x ≡ b → b || has_key key first.0 ≡ true → b || has_key key queue ≡ true) (key_eq key x)
    (λ _ _ _. refl) (λ _ _ later. in_order-there key first.0 queue first.2 later) refl
    (sym (ap (has_key key) first.1) ∙ there)

-- an event that is due, of a key in the queue, is pending
pending-from_due : (views : Views) (kq : Kqueue) (e : Kevent) → IsSound kq
    → has_key (key_of_event e) kq.queue ≡ true → IsDue views kq.knotes e
    → IsPending views kq.knotes (key_of_event e) e
pending-from_due views kq e sound there due =
    due-pending views kq (key_of_event e) e sound there
    (ap (option_and_then (event_seen views)) due.found ∙ ap (option_map (event_of due.knote)) due.holds
    ∙ ap (λ (x : Kevent). Some x) (sym due.is))

given-right : (ignored : List Ignored) (views : Views) (kq : Kqueue) (events own : List Kevent) → IsSound kq
    → ((key : Key) → has_key key (map key_of_event events) ≡ true → has_key key kq.queue ≡ true)
    → Each (IsDue views kq.knotes) events → AreSame ignored events own
    → Each (IsRightEvent ignored views kq.knotes) own
given-right ignored views kq [] [] sound within due same = tt
given-right ignored views kq [] (y ∷ own) sound within due same = absurd same
given-right ignored views kq (x ∷ events) [] sound within due same = absurd same
given-right ignored views kq (x ∷ events) (y ∷ own) sound within due same = (
  record {
    expected = x;
    pending = subst (λ (key : Key). IsPending views kq.knotes key x) same.0.key
        (pending-from_due views kq x sound
        (within (key_of_event x) (or_left (key_eq (key_of_event x) (key_of_event x))
        (has_key (key_of_event x) (map key_of_event events)) (key_eq-refl (key_of_event x)))) due.0);
    same = same.0;
  },
  given-right ignored views kq events own sound
      (λ key there. within key (or_right (key_eq key (key_of_event x)) (has_key key (map key_of_event events)) there))
      due.1 same.1,
)

-- the kqueue in another order is as sound
pub IsSound-ordered : (kq : Kqueue) (order : List Key) → IsSound kq → AreOnce order
    → ((key : Key) → has_key key kq.queue ≡ has_key key order) → IsSound (record kq { queue = order })
IsSound-ordered kq order sound once same = record {
  own_keys = sound.own_keys;
  once = once;
  waiting = λ key. sym (same key) ∙ sound.waiting key;
}

-- where an event is pending, its knote is not idle
pending-not_idle : (views : Views) (ks : List Knote) (key : Key) (e : Kevent) → IsPending views ks key e
    → IsIdle views ks key → ⊥
pending-not_idle views ks key e p idle = none-some p.seen (sym (idle p.knote p.found) ∙ p.holds)

pub allowed-right : (ignored : List Ignored) (views : Views) (room : ℕ) (kq : Kqueue) (own : List Kevent) → IsSound kq
    → IsAllowed ignored views room kq own → IsRight ignored views room kq own
allowed-right ignored views room kq own sound allowed =
    let given = (retrieval views room (record kq { queue = allowed.order })).events in
    let alike : (key : Key) → has_key key kq.queue ≡ has_key key allowed.order =
    λ key. list_any-IsPermutation (key_eq key) kq.queue allowed.order allowed.permutes in
    let ordered : IsSound (record kq { queue = allowed.order }) = IsSound-ordered kq allowed.order sound
    (AreOnce-IsPermutation kq.queue allowed.order allowed.permutes sound.once) alike in
    let taken = AreTaken-retrieval views room (record kq { queue = allowed.order }) ordered in
    let keys = same-keys ignored given own allowed.same in
    let long = length_all_zip (IsSame ignored) given own allowed.same in
    record {
      right = record {
        each = given-right ignored views kq given own sound
            (λ key there. alike key ∙ in_order-there key (map key_of_event given) allowed.order taken.in_order there)
            taken.due allowed.same;
        once = subst AreOnce keys taken.once;
      };
      within = omega (arith, long, taken.within);
      complete = λ less key e p.
          by key e p (taken.complete (omega (arith, long, less)) key
          (sym (alike key) ∙ pending-queued views kq key e sound p)) keys;
    }
  where
    by : (key : Key) (e : Kevent) → IsPending views kq.knotes key e
        → (has_key key (map key_of_event (retrieval views room (record kq { queue = allowed.order })).events) ≡ true)
        ⊎ IsIdle views kq.knotes key
        → map key_of_event (retrieval views room (record kq { queue = allowed.order })).events ≡ map key_of_event own
        → has_key key (map key_of_event own) ≡ true
    by key e p (inl there) keys = ap (has_key key) (sym keys) ∙ there
    by key e p (inr idle) keys = absurd (pending-not_idle views kq.knotes key e p idle)

pub allowed_given : (ignored : List Ignored) (views : Views) (room : ℕ) (kq : Kqueue) (own : List Kevent) → IsSound kq
    → IsAllowed ignored views room kq own → IsGivenInFront ignored views room kq own
allowed_given ignored views room kq own sound allowed =
    right-given ignored views room kq own sound (allowed-right ignored views room kq own sound allowed)

-- what a judgement cites
pub ruleset judging = (own_allowed, allowed_given, returns_first)

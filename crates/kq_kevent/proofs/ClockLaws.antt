-- Timers that ring in the order of their first expirations, ties in order of registration, leave what the clock leaves that goes
-- from moment to moment.
use Rattle.std.proofs.Common.{◌≡◌, ℕ, zero, suc, ◌+◌, ◌-◌, ◌<◌, ◌≤◌, Bool, true, false, cond, ◌&&◌, eqb, leb, ltb, List, [], ◌∷◌, ◌++◌, map, filter, ◌⊎◌, inl, inr, Some, refl, sym, ap, ap₂, ◌∙◌, subst, arith}
use Rattle.std.proofs.lemmas.Bool.{le-leb, lt-leb, lt-ltb, le-ltb, ltb-true, ltb-false, cases_lt, eqb-true}
use Rattle.std.specs.List.{AllByRecursion}
use Rattle.std.specs.Option.{option_map}
use Rattle.kq_model.specs.declared.key.Key.{Key}
use Rattle.kq_model.specs.Clock.{expires_at, timers, clock_from, clocked}
use Rattle.kq_model.specs.Tallying.{tallying}
use Rattle.kq_model.specs.Knote.{key_eq, has_key, find_knote}
use Rattle.kq_model.specs.Kqueue.{IsSound, HaveOwnKeys, is_waiting}
use Rattle.kq_model.specs.Tallied.{Knote, Kqueue}
use Rattle.kq_model.specs.Ticks.{last_moment}
use Rattle.kq_model.specs.TimerWalk.{is_fresh}
use Rattle.kq_model.specs.WalkedAtOnce.{in_order}
use Rattle.kq_model.proofs.ClockLaw.{clock_from-at_once}
use Rattle.kq_model.proofs.KeyLaws.{key_eq-sym}
use Rattle.kq_model.proofs.KnoteLaws.{by_test}
use Rattle.kq_model.proofs.TicksFirst.{next_tick-is, counted-expired}
use Rattle.kq_model.proofs.TimerWalkKeys.{key_eq-laws, distinct_keys}
use Rattle.kq_model.proofs.TimerWalkMember.{IsAmong, all_among, list_any-in_order}
use Rattle.kq_model.proofs.TimerWalkQueue.{filter-agree, All-like}
use Rattle.kq_model.proofs.TimerWalkSort.{sorted_step}
use Rattle.kq_knote.specs.Quiet.{AreLater}
use Rattle.kq_knote.proofs.TimerLaws.{rung-none}
use Rattle.kq_timer.proofs.Sorted.{All-filter, All-passing, All-in_order, two-filter, two-in_order, filter-in_order}
use Rattle.kq_kevent.specs.Ringing.{first_of, ticks_of, rung, rung_each, firsts_at, AreOutside, IsClocked}
use Rattle.kq_kevent.proofs.RingLaws.{key_in, rung-key, AreApart, AreThere, found_all, apart_all, map-alike, rung_if, rung_if-first, joining, rung_each-knotes, rung_each-queue, rung_each-append}
use Rattle.kq_kevent.proofs.SoundLaws.{waiting-some}
use Rattle.kq_kevent.proofs.TurnLaws.{kqueue_of}

-- ---- when a knote expires first

pub first-later : (from : ℕ) (k : Knote) → from ≤ last_moment → from < first_of from k
first-later from k begun = (next_tick-is (expires_at k) from begun).after

-- ---- lists

-- what passes a test, of what passes another
filter-twice : {X : Type 0} (p q : X → Bool) (xs : List X) → filter p (filter q xs) ≡ filter (λ x. q x && p x) xs
filter-twice p q [] = refl
filter-twice p q (x ∷ xs) = split (q x) (p x) (filter-twice p q xs)
  where
    split : (a b : Bool) → filter p (filter q xs) ≡ filter (λ x. q x && p x) xs
        → (filter p (cond a (x ∷ filter q xs) (filter q xs)) ≡ cond (a && p x) (x ∷ filter (λ x. q x && p x) xs) (filter (λ x. q x && p x) xs))
    split true b e = ap (λ rest. cond (p x) (x ∷ rest) rest) e
    split false b e = e

-- a test finds the same among items of which those that pass it stay as they are
filter-changed : {X : Type 0} (p : X → Bool) (f : X → X) (xs : List X) → AllByRecursion (λ x. (p (f x) ≡ p x) × (p x ≡ true → f x ≡ x)) xs
    → filter p (map f xs) ≡ filter p xs
filter-changed p f [] all = refl
filter-changed p f (x ∷ xs) all =
    by_test (λ b. p x ≡ b → cond (p (f x)) (f x ∷ filter p (map f xs)) (filter p (map f xs)) ≡ cond b (x ∷ filter p xs) (filter p xs)) (p x)
    (λ _ e. ap (λ b. cond b (f x ∷ filter p (map f xs)) (filter p (map f xs))) (all.0.0 ∙ e) ∙ ap₂ (λ y rest. y ∷ rest) (all.0.1 e) (filter-changed p f xs all.1))
    (λ _ e. ap (λ b. cond b (f x ∷ filter p (map f xs)) (filter p (map f xs))) (all.0.0 ∙ e) ∙ filter-changed p f xs all.1) refl

pub filter-alike : {X : Type 0} (p q : X → Bool) → ((x : X) → p x ≡ q x) → (xs : List X) → filter p xs ≡ filter q xs
filter-alike p q same xs = λ i. filter (λ x. same x i) xs

-- ---- tests

and_true : (b : Bool) → (b && true) ≡ b
and_true true = refl
and_true false = refl

and_false : (b : Bool) → (b && false) ≡ false
and_false true = refl
and_false false = refl

-- not after a moment is before the one behind it
leb-suc : (n m : ℕ) → leb n m ≡ ltb n (suc m)
leb-suc n m = by_place (cases_lt m n)
  where
    by_place : (m < n) ⊎ (n ≤ m) → leb n m ≡ ltb n (suc m)
    by_place (inl h) = lt-leb n m h ∙ sym (le-ltb n (suc m) (omega (arith, h)))
    by_place (inr h) = le-leb n m h ∙ sym (lt-ltb n (suc m) (omega (arith, h)))

pub leb-more : (n m : ℕ) → leb n m ≡ ltb n (m + 1)
leb-more n m = by_place (cases_lt m n)
  where
    by_place : (m < n) ⊎ (n ≤ m) → leb n m ≡ ltb n (m + 1)
    by_place (inl h) = lt-leb n m h ∙ sym (le-ltb n (m + 1) (omega (arith, h)))
    by_place (inr h) = le-leb n m h ∙ sym (lt-ltb n (m + 1) (omega (arith, h)))

-- ---- those that ring before a moment

module _ (from to : ℕ) where
  abbrev pub is_before : ℕ → Knote → Bool
  is_before moment k = ltb (first_of from k) moment

  abbrev pub ringing_before : ℕ → List Knote → List Knote
  ringing_before moment ks = in_order (first_of from) (filter (is_before moment) ks)

  pub there-before : (moment : ℕ) (ks : List Knote) → HaveOwnKeys ks → AreThere ks (ringing_before moment ks)
  there-before moment ks own =
      All-in_order (first_of from) (λ k. find_knote k.key ks ≡ Some k) (filter (is_before moment) ks)
      (All-filter (λ k. find_knote k.key ks ≡ Some k) (is_before moment) ks (found_all ks own))

  pub apart-before : (moment : ℕ) (ks : List Knote) → HaveOwnKeys ks → AreApart (ringing_before moment ks)
  apart-before moment ks own =
      two-in_order (first_of from) (λ (a : Knote) (b : Knote). key_eq a.key b.key ≡ false) (λ a b e. key_eq-sym b.key a.key ∙ e) (filter (is_before moment) ks)
      (two-filter (λ (a : Knote) (b : Knote). key_eq a.key b.key ≡ false) (is_before moment) ks (apart_all ks own))

  -- a knote is among them just where it expires before
  among-before : (moment : ℕ) (ks : List Knote) → HaveOwnKeys ks
      → AllByRecursion (λ x. has_key x.key (map key_in (ringing_before moment ks)) ≡ is_before moment x) ks
  unfolding IsAmong
  among-before moment ks own =
      All-like (IsAmong (timers {h = tallying}) (is_before moment) ks) (λ x. has_key x.key (map key_in (ringing_before moment ks)) ≡ is_before moment x)
      (λ x is. list_any-in_order (key_eq x.key) key_in (first_of from) (filter (is_before moment) ks) ∙ is) ks
      (all_among (timers {h = tallying}) key_eq-laws (is_before moment) ks (distinct_keys ks own))

  -- ---- the moment of the next one

  not_yet : (moment : ℕ) (k : Knote) → from ≤ last_moment → (first_of from k ≤ from) ⊎ (moment ≤ first_of from k) → is_before moment k ≡ false
  not_yet moment k begun (inl past) = absurd (omega (arith, past, first-later from k begun))
  not_yet moment k begun (inr over) = le-ltb (first_of from k) moment over

  none-before : (moment : ℕ) (ks : List Knote) → from ≤ last_moment → AreOutside from from moment ks → filter (is_before moment) ks ≡ []
  none-before moment [] begun outside = refl
  none-before moment (k ∷ ks) begun outside =
      ap (λ b. cond b (k ∷ filter (is_before moment) ks) (filter (is_before moment) ks)) (not_yet moment k begun outside.0) ∙ none-before moment ks begun outside.1

  -- none rings before the first moment
  pub ringing-none : (moment : ℕ) (ks : List Knote) → from ≤ last_moment → AreOutside from from moment ks → ringing_before moment ks ≡ []
  unfolding in_order
  ringing-none moment ks begun outside = ap (in_order (first_of from)) (none-before moment ks begun outside)

  -- with none between, the same ring before the next moment and up to this one
  before-next : (moment next : ℕ) (ks : List Knote) → moment < next → AreOutside from moment next ks → filter (is_before next) ks ≡ filter (λ k. leb (first_of from k) moment) ks
  before-next moment next ks later outside =
      filter-agree (is_before next) (λ k. leb (first_of from k) moment) ks
      (All-like (λ k. (first_of from k ≤ moment) ⊎ (next ≤ first_of from k)) (λ k. is_before next k ≡ leb (first_of from k) moment) agree ks outside)
    where
      agree : (k : Knote) → (first_of from k ≤ moment) ⊎ (next ≤ first_of from k) → is_before next k ≡ leb (first_of from k) moment
      agree k (inl h) = lt-ltb (first_of from k) next (omega (arith, h, later)) ∙ sym (le-leb (first_of from k) moment h)
      agree k (inr h) = le-ltb (first_of from k) next h ∙ sym (lt-leb (first_of from k) moment (omega (arith, h, later)))

  -- those before a moment and then those at it
  up_to : (moment : ℕ) (ks : List Knote) → from < moment
      → in_order (first_of from) (filter (λ k. leb (first_of from k) moment) ks) ≡ ringing_before moment ks ++ firsts_at from moment ks
  up_to zero ks later = absurd (omega (arith, later))
  up_to (suc last) ks later =
      ap (in_order (first_of from))
      (filter-alike (λ k. leb (first_of from k) (suc last)) (λ k. leb (first_of from k) (suc last) && true) (λ k. sym (and_true (leb (first_of from k) (suc last)))) ks)
      ∙ sym (sorted_step (first_of from) (λ _. true) last ks)
      ∙ ap₂ (λ (a : List Knote) (b : List Knote). a ++ b)
      (ap (in_order (first_of from))
      (filter-alike (λ k. leb (first_of from k) last && true) (is_before (suc last)) (λ k. and_true (leb (first_of from k) last) ∙ leb-suc (first_of from k) last) ks))
      (filter-alike (λ k. eqb (first_of from k) (suc last) && true) (λ k. eqb (first_of from k) (suc last)) (λ k. and_true (eqb (first_of from k) (suc last))) ks)

  -- ---- after some rang

  module _ (kq : Kqueue) (own : HaveOwnKeys kq.knotes) where
    knotes-before : (moment : ℕ) → (rung_each from to (ringing_before moment kq.knotes) kq).knotes ≡ map (rung_if from to (map key_in (ringing_before moment kq.knotes))) kq.knotes
    knotes-before moment =
        rung_each-knotes from to (ringing_before moment kq.knotes) kq own (there-before moment kq.knotes own) (apart-before moment kq.knotes own)

    -- those that expire first at the moment have not rung
    pub firsts-after : (moment : ℕ) → firsts_at from moment (rung_each from to (ringing_before moment kq.knotes) kq).knotes ≡ firsts_at from moment kq.knotes
    firsts-after moment =
        ap (firsts_at from moment) (knotes-before moment)
        ∙ filter-changed (λ k. eqb (first_of from k) moment) (rung_if from to (map key_in (ringing_before moment kq.knotes))) kq.knotes
        (All-like (λ x. has_key x.key (map key_in (ringing_before moment kq.knotes)) ≡ is_before moment x)
        (λ x. (eqb (first_of from (rung_if from to (map key_in (ringing_before moment kq.knotes)) x)) moment ≡ eqb (first_of from x) moment)
        × (eqb (first_of from x) moment ≡ true → rung_if from to (map key_in (ringing_before moment kq.knotes)) x ≡ x))
        (λ x is. (
          ap (λ n. eqb n moment) (rung_if-first from to (map key_in (ringing_before moment kq.knotes)) x),
          λ at. ap (λ b. cond b (rung from to x) x) (is ∙ on_time x at),
        )) kq.knotes (among-before moment kq.knotes own))
      where
        on_time : (x : Knote) → eqb (first_of from x) moment ≡ true → is_before moment x ≡ false
        on_time x at = le-ltb (first_of from x) moment (omega (arith, eqb-true (first_of from x) moment at))

    -- that none expires first between two moments is seen of the knotes also after some rang: those up to a moment are those
    -- before the one behind it
    outside-after : (moment low high : ℕ) → AreOutside from low high (rung_each from to (ringing_before moment kq.knotes) kq).knotes → AreOutside from low high kq.knotes
    outside-after moment low high outside = unrung kq.knotes (subst (AreOutside from low high) (knotes-before moment) outside)
      where
        unrung : (ks : List Knote) → AreOutside from low high (map (rung_if from to (map key_in (ringing_before moment kq.knotes))) ks) → AreOutside from low high ks
        unrung [] all = tt
        unrung (k ∷ ks) all = (
          subst (λ n. (n ≤ low) ⊎ (high ≤ n)) (rung_if-first from to (map key_in (ringing_before moment kq.knotes)) k) all.0,
          unrung ks all.1,
        )

    outside-up_to : (moment next : ℕ) (after : Kqueue) → after ≡ rung_each from to (in_order (first_of from) (filter (λ k. leb (first_of from k) moment) kq.knotes)) kq
        → AreOutside from moment next after.knotes → AreOutside from moment next kq.knotes
    outside-up_to moment next after is outside =
        outside-after (moment + 1) moment next
        (subst (λ (q : Kqueue). AreOutside from moment next q.knotes) (is ∙ ap (λ ks. rung_each from to (in_order (first_of from) ks) kq)
        (filter-alike (λ k. leb (first_of from k) moment) (is_before (moment + 1)) (λ k. leb-more (first_of from k) moment) kq.knotes)) outside)

    -- and then those at the moment
    pub rung-next-at : (moment next : ℕ) (now after : Kqueue) → from < moment → moment < next → now ≡ rung_each from to (ringing_before moment kq.knotes) kq
        → after ≡ rung_each from to (firsts_at from moment now.knotes) now → AreOutside from moment next after.knotes → after ≡ rung_each from to (ringing_before next kq.knotes) kq
    rung-next-at moment next now after later more so_far is outside =
        let both = is ∙ ap (λ (q : Kqueue). rung_each from to (firsts_at from moment q.knotes) q) so_far
        ∙ ap (λ ks. rung_each from to ks (rung_each from to (ringing_before moment kq.knotes) kq)) (firsts-after moment)
        ∙ sym (rung_each-append from to (ringing_before moment kq.knotes) (firsts_at from moment kq.knotes) kq) in
        let up_to_now = both ∙ ap (λ ks. rung_each from to ks kq) (sym (up_to moment kq.knotes later)) in
        up_to_now ∙ ap (λ ks. rung_each from to (in_order (first_of from) ks) kq)
        (sym (before-next moment next kq.knotes more (outside-up_to moment next after up_to_now outside)))

  -- ---- all that expire

  module _ (kq : Kqueue) (sound : IsSound kq) (ordered : from ≤ to) (within : to ≤ last_moment) where
    abbrev all_due : List Knote
    all_due = ringing_before (to + 1) kq.knotes

    reached : from + (to - from) ≡ to
    reached = omega (arith, ordered)

    -- a knote expires up to `to` just where it does so first
    due-ticks : (k : Knote) → is_before (to + 1) k ≡ ltb 0 (ticks_of from to k)
    due-ticks k =
        sym (leb-more (first_of from k) to)
        ∙ ap (λ n. leb (first_of from k) n) (sym reached)
        ∙ sym (counted-expired (expires_at k) from last_moment (first_of from k) (to - from)
        (next_tick-is (expires_at k) from (omega (arith, ordered, within))) (omega (arith, reached, within)))

    due-some : AllByRecursion (λ k. 0 < ticks_of from to k) all_due
    due-some =
        All-in_order (first_of from) (λ k. 0 < ticks_of from to k) (filter (is_before (to + 1)) kq.knotes)
        (All-passing (λ k. find_knote k.key kq.knotes ≡ Some k) (λ k. 0 < ticks_of from to k) (is_before (to + 1))
        (λ k _ due. ltb-true 0 (ticks_of from to k) (sym (due-ticks k) ∙ due)) kq.knotes (found_all kq.knotes sound.own_keys))

    disabled-out : (k : Knote) → find_knote k.key kq.knotes ≡ Some k → k.enabled ≡ false → has_key k.key kq.queue ≡ false
    disabled-out k here off =
        sound.waiting k.key ∙ ap is_waiting here ∙ waiting-some k ∙ ap (λ b. k.active && b) off ∙ and_false k.active

    due-out : AllByRecursion (λ k. k.enabled ≡ false → has_key k.key kq.queue ≡ false) all_due
    due-out =
        All-in_order (first_of from) (λ k. k.enabled ≡ false → has_key k.key kq.queue ≡ false) (filter (is_before (to + 1)) kq.knotes)
        (All-filter (λ k. k.enabled ≡ false → has_key k.key kq.queue ≡ false) (is_before (to + 1)) kq.knotes
        (All-like (λ k. find_knote k.key kq.knotes ≡ Some k) (λ k. k.enabled ≡ false → has_key k.key kq.queue ≡ false) disabled-out kq.knotes (found_all kq.knotes sound.own_keys)))

    -- one that does not expire has no expirations
    not_due : (k : Knote) → is_before (to + 1) k ≡ false → k ≡ rung from to k
    not_due k over = rung-none (ticks_of from to k) k (ltb-false 0 (ticks_of from to k) (sym (due-ticks k) ∙ over))

    all-knotes : (rung_each from to all_due kq).knotes ≡ map (rung from to) kq.knotes
    all-knotes =
        knotes-before kq sound.own_keys (to + 1)
        ∙ map-alike (rung_if from to (map key_in all_due)) (rung from to) kq.knotes
        (All-like (λ x. has_key x.key (map key_in all_due) ≡ is_before (to + 1) x) (λ x. rung_if from to (map key_in all_due) x ≡ rung from to x)
        (λ x is. ap (λ b. cond b (rung from to x) x) is
        ∙ by_test (λ b. is_before (to + 1) x ≡ b → cond b (rung from to x) x ≡ rung from to x) (is_before (to + 1) x)
        (λ _ _. refl) (λ _ over. not_due x over) refl) kq.knotes (among-before (to + 1) kq.knotes sound.own_keys))

    all-queue : (rung_each from to all_due kq).queue
        ≡ kq.queue ++ map key_in (in_order (first_of from) (filter (λ x. ltb 0 (ticks_of from to x) && is_fresh (timers {h = tallying}) kq.queue x) kq.knotes))
    all-queue =
        rung_each-queue from to all_due kq (apart-before (to + 1) kq.knotes sound.own_keys) due-some due-out
        ∙ ap (λ ks. kq.queue ++ map key_in ks)
        (filter-in_order (first_of from) (joining from to kq.queue) (filter (is_before (to + 1)) kq.knotes)
        ∙ ap (in_order (first_of from)) (filter-twice (joining from to kq.queue) (is_before (to + 1)) kq.knotes
        ∙ (λ i. filter (λ x. due-ticks x i && joining from to kq.queue x) kq.knotes)))

    -- they leave what the clock leaves
    pub all-rung : rung_each from to all_due kq ≡ clock_from from to kq
    all-rung =
        ap₂ kqueue_of all-knotes all-queue
        ∙ sym (clock_from-at_once from to kq ordered within sound.own_keys)

    rung-found : (key : Key) (ks : List Knote) → find_knote key (map (rung from to) ks) ≡ option_map (rung from to) (find_knote key ks)
    unfolding find_knote
    rung-found key [] = refl
    rung-found key (k ∷ ks) =
        ap (λ o. cond (key_eq key o) (Some (rung from to k)) (find_knote key (map (rung from to) ks))) (rung-key from to k)
        ∙ by_test (λ b. cond b (Some (rung from to k)) (find_knote key (map (rung from to) ks)) ≡ option_map (rung from to) (cond b (Some k) (find_knote key ks))) (key_eq key k.key)
        (λ _. refl) (λ _. rung-found key ks)

    pub clocked-laws : (after : Kqueue) → after ≡ clocked (Some (record { from = from; to = to })) kq → IsClocked from to kq after
    unfolding clocked
    clocked-laws after is =
        let all = is ∙ sym all-rung in
        record {
          knotes = λ key. ap (λ (q : Kqueue). find_knote key q.knotes) all ∙ ap (find_knote key) all-knotes ∙ rung-found key kq.knotes;
          more = map key_in (in_order (first_of from) (filter (λ x. ltb 0 (ticks_of from to x) && is_fresh (timers {h = tallying}) kq.queue x) kq.knotes));
          queue = ap (λ (q : Kqueue). q.queue) all ∙ all-queue;
        }

    -- where all rang before a moment that is past `to`, that is all of them
    pub all-clocked : (moment : ℕ) → to < moment → moment ≤ to + 1 → rung_each from to (ringing_before moment kq.knotes) kq ≡ clocked (Some (record { from = from; to = to })) kq
    unfolding clocked
    all-clocked moment over within_one =
        let last : moment ≡ to + 1 = omega (arith, over, within_one) in
        ap (λ m. rung_each from to (ringing_before m kq.knotes) kq) last ∙ all-rung

    -- where none expires, nothing changes
    pub quiet-clocked : AreLater from to kq.knotes → kq ≡ clocked (Some (record { from = from; to = to })) kq
    unfolding rung_each
    quiet-clocked later =
        ap (λ ks. rung_each from to ks kq) (sym (ringing-none (to + 1) kq.knotes (omega (arith, ordered, within)) (outside kq.knotes later)))
        ∙ all-clocked (to + 1) (omega arith) (omega arith)
      where
        outside : (ks : List Knote) → AreLater from to ks → AreOutside from from (to + 1) ks
        outside [] all = tt
        outside (k ∷ ks) all = (inr (omega (arith, all.0)), outside ks all.1)

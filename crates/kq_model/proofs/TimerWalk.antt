-- The law of the walk: going from moment to moment gives each item as many expirations as moments at
-- which it expires, and the queue's back those that expired and were not in it, by their first
-- expirations, and of two at one moment the first of the list first.
use Rattle.std.proofs.Common.{◌≡◌, ℕ, zero, suc, ◌+◌, ◌<◌, ◌≤◌, Bool, true, false, cond, not, ◌&&◌, ◌||◌, eqb, leb, List, [], ◌∷◌, ◌++◌, map, ◌⊎◌, inl, inr, refl, sym, ap, ◌∙◌, append_assoc, append-nil, add-one, add-zero, arith}
use Rattle.std.specs.Cmp.{IsEquivalence}
use Rattle.std.specs.List.{filter, IsDistinct}
use Rattle.std.proofs.lemmas.Bool.{cases_order, le-leb, lt-leb, eq-eqb, ne_eqb, and_left, and_right}
use Rattle.std.proofs.lemmas.List.{map-append}
use Rattle.std.proofs.lemmas.List.Folds.{list_any-append}
use Rattle.kq_model.specs.NextTicks.{counted}
use Rattle.kq_model.specs.TimerWalk.{Alarms, Waiting, is_queued, is_fresh, rung_at, queue_at, walked, moment_step}
use Rattle.kq_model.specs.WalkedAtOnce.{rung_times, in_order, walked_at_once, KeepsAlarms, IsFirstPassing}
use Rattle.kq_model.proofs.TimerWalkSort.{sorted_step}
use Rattle.kq_model.proofs.TimerWalkQueue.{filter-agree, filter-none, All-like, joins, queue_at-joins}
use Rattle.kq_model.proofs.TimerWalkMember.{IsAmong, list_any-in_order, all_among}

-- ---- which items join at one moment more

-- an item that expires now and has not before expires first now
first_now : (test : ℕ → Bool) (from to last first : ℕ) → from ≤ last → suc last ≤ to → IsFirstPassing test from to first
    → (test (suc last) && not (leb first last)) ≡ eqb first (suc last)
first_now test from to last first begun within is = by_order (cases_order first (suc last))
  where
    by_order : (first ≡ suc last) ⊎ ((first < suc last) ⊎ (suc last < first)) → (test (suc last) && not (leb first last)) ≡ eqb first (suc last)
    by_order (inl e) =
        let passes = rw e at (is.passes (omega arith)) in
        let late : leb first last ≡ false = lt-leb first last (omega arith) in
        rw (passes, late, eq-eqb first (suc last) e)
    by_order (inr (inl h)) =
        let early : leb first last ≡ true = le-leb first last (omega arith) in
        let other : eqb first (suc last) ≡ false = ne_eqb first (suc last) (λ e. omega arith) in
        rw (early, other) (and_right _ _ refl)
    by_order (inr (inr h)) =
        let not_yet : test (suc last) ≡ false = is.least (suc last) (omega arith) h within in
        let other : eqb first (suc last) ≡ false = ne_eqb first (suc last) (λ e. omega arith) in
        rw (not_yet, other)

-- an item that was queued before, or by the walk so far
joins_tests : (now enabled queued early : Bool) → (now && (enabled && not (queued || (early && (enabled && not queued))))) ≡ ((now && not early) && (enabled && not queued))
joins_tests false enabled queued early = refl
joins_tests true false queued true = refl
joins_tests true false queued false = refl
joins_tests true true true true = refl
joins_tests true true true false = refl
joins_tests true true false true = refl
joins_tests true true false false = refl

module _ {X Key : Type 0} (a : Alarms X Key) (first : X → ℕ) (queue : List Key) where
  -- the items that the walk has queued by the moment `last`
  abbrev pub queued_by : ℕ → X → Bool
  queued_by last x = leb (first x) last && is_fresh a queue x

  abbrev pub queue_by : ℕ → List X → List Key
  queue_by last xs = queue ++ map a.key (in_order first (filter (queued_by last) xs))

  is_queued-queue_by : (last : ℕ) (xs : List X) (x : X) → IsAmong a (queued_by last) xs x → is_queued a (queue_by last xs) x ≡ (is_queued a queue x || queued_by last x)
  unfolding IsAmong
  is_queued-queue_by last xs x among =
      list_any-append (a.same (a.key x)) queue (map a.key (in_order first (filter (queued_by last) xs)))
      ∙ ap (λ b. is_queued a queue x || b) (list_any-in_order (a.same (a.key x)) a.key first (filter (queued_by last) xs) ∙ among)

  queue_step : IsEquivalence a.same → (from to last : ℕ) → from ≤ last → suc last ≤ to → ((x : X) → IsFirstPassing (a.expires x) from to (first x))
      → (xs : List X) → IsDistinct a.same (map a.key xs) → queue_at a (suc last) xs (queue_by last xs) ≡ queue_by (suc last) xs
  queue_step laws from to last begun within firsts xs distinct =
      queue_at-joins a laws (suc last) xs (queue_by last xs) distinct
      ∙ ap (λ ys. queue_by last xs ++ map a.key ys) (filter-agree (joins a (suc last) (queue_by last xs)) new xs
      (All-like (IsAmong a (queued_by last) xs) (λ x. joins a (suc last) (queue_by last xs) x ≡ new x) agree xs (all_among a laws (queued_by last) xs distinct)))
      ∙ append_assoc queue _ _
      ∙ ap (λ ks. queue ++ ks) (sym (map-append a.key _ _) ∙ ap (map a.key) (sorted_step first (is_fresh a queue) last xs))
    where
      new : X → Bool
      new x = eqb (first x) (suc last) && is_fresh a queue x

      agree : (x : X) → IsAmong a (queued_by last) xs x → joins a (suc last) (queue_by last xs) x ≡ new x
      agree x among =
          ap (λ b. a.expires x (suc last) && (a.enabled x && not b)) (is_queued-queue_by last xs x among)
          ∙ joins_tests (a.expires x (suc last)) (a.enabled x) (is_queued a queue x) (leb (first x) last)
          ∙ ap (λ b. b && is_fresh a queue x) (first_now (a.expires x) from to last (first x) begun within (firsts x))

-- ---- what an expiration keeps

map-same : {X Y Z : Type 0} (g : Y → Z) (f : X → Y) (h : X → Z) → ((x : X) → g (f x) ≡ h x) → (xs : List X) → map g (map f xs) ≡ map h xs
map-same g f h same [] = refl
map-same g f h same (x ∷ xs) = λ i. same x i ∷ map-same g f h same xs i

map-self : {X : Type 0} (f : X → X) → ((x : X) → f x ≡ x) → (xs : List X) → map f xs ≡ xs
map-self f same [] = refl
map-self f same (x ∷ xs) = λ i. same x i ∷ map-self f same xs i

module _ {X Key : Type 0} (a : Alarms X Key) (keeps : KeepsAlarms a) where
  key-rung_times : (n : ℕ) (x : X) → a.key (rung_times a n x) ≡ a.key x
  unfolding rung_times
  key-rung_times zero x = refl
  key-rung_times (suc n) x = keeps.key (rung_times a n x) ∙ key-rung_times n x

  enabled-rung_times : (n : ℕ) (x : X) → a.enabled (rung_times a n x) ≡ a.enabled x
  unfolding rung_times
  enabled-rung_times zero x = refl
  enabled-rung_times (suc n) x = keeps.enabled (rung_times a n x) ∙ enabled-rung_times n x

  expires-rung_times : (n : ℕ) (x : X) (moment : ℕ) → a.expires (rung_times a n x) moment ≡ a.expires x moment
  unfolding rung_times
  expires-rung_times zero x moment = refl
  expires-rung_times (suc n) x moment = keeps.expires (rung_times a n x) moment ∙ expires-rung_times n x moment

  rung_times-more : (n : ℕ) (x : X) (t : Bool) → cond t (a.rung (rung_times a n x)) (rung_times a n x) ≡ rung_times a (n + cond t 1 0) x
  unfolding rung_times
  rung_times-more n x true = rw add-one
  rung_times-more n x false = rw add-zero

  -- an item after the n moments after `from`
  told : ℕ → ℕ → X → X
  told from n x = rung_times a (counted (a.expires x) from n) x

  rung_at-told : (from n : ℕ) (x : X) → rung_at a (from + suc n) (told from n x) ≡ told from (suc n) x
  unfolding counted told
  rung_at-told from n x =
      ap (λ t. cond t (a.rung (told from n x)) (told from n x)) (expires-rung_times _ x (from + suc n))
      ∙ rung_times-more (counted (a.expires x) from n) x (a.expires x (from + suc n))

  -- what one item adds to the queue at a moment
  abbrev pushed : ℕ → X → List Key → List Key
  pushed moment x queue = cond (joins a moment queue x) (queue ++ a.key x ∷ []) queue

  pushed-rung_times : (n moment : ℕ) (x : X) (queue : List Key) → pushed moment (rung_times a n x) queue ≡ pushed moment x queue
  pushed-rung_times n moment x queue = rw (expires-rung_times n x moment, enabled-rung_times n x, key-rung_times n x)

  queue_at-told : (from n moment : ℕ) (xs : List X) (queue : List Key) → queue_at a moment (map (told from n) xs) queue ≡ queue_at a moment xs queue
  unfolding queue_at told
  queue_at-told from n moment [] queue = refl
  queue_at-told from n moment (x ∷ xs) queue =
      ap (queue_at a moment (map (told from n) xs)) (pushed-rung_times (counted (a.expires x) from n) moment x queue)
      ∙ queue_at-told from n moment xs (pushed moment x queue)

-- ---- the law

module _ {X Key : Type 0} (a : Alarms X Key) (laws : IsEquivalence a.same) (keeps : KeepsAlarms a) (first : X → ℕ) (from to : ℕ) (w : Waiting X Key)
    (firsts : (x : X) → IsFirstPassing (a.expires x) from to (first x)) (distinct : IsDistinct a.same (map a.key w.items)) where
  items_at_start : map (told a keeps from 0) w.items ≡ w.items
  unfolding told rung_times counted
  items_at_start = map-self (told a keeps from 0) (λ x. refl) w.items

  queue_at_start : queue_by a first w.queue (from + 0) w.items ≡ w.queue
  unfolding in_order
  queue_at_start =
      rw (filter-none (queued_by a first w.queue (from + 0)) (λ x. let later = (firsts x).after in and_left _ _ (lt-leb (first x) (from + 0) (omega arith))) w.items)
      (simp append-nil)

  queue_next : (n : ℕ) → suc (from + n) ≤ to → queue_at a (from + suc n) w.items (queue_by a first w.queue (from + n) w.items) ≡ queue_by a first w.queue (from + suc n) w.items
  queue_next n within =
      let now : from + suc n ≡ suc (from + n) = omega arith in
      rw now (queue_step a first w.queue laws from to (from + n) (omega arith) within firsts w.items distinct)

  next_waiting : (n : ℕ) → suc (from + n) ≤ to → moment_step a (from + suc n) (walked_at_once a first from n w) ≡ walked_at_once a first from (suc n) w
  unfolding told
  next_waiting n within =
      let items = map-same (rung_at a (from + suc n)) (told a keeps from n) (told a keeps from (suc n)) (rung_at-told a keeps from n) w.items in
      let queue = queue_at-told a keeps from n (from + suc n) w.items (queue_by a first w.queue (from + n) w.items) ∙ queue_next n within in
      λ i. record { items = items i; queue = queue i }

  pub walked-at_once : (n : ℕ) → from + n ≤ to → walked a from n w ≡ walked_at_once a first from n w
  unfolding walked told
  walked-at_once zero within = λ i. record { items = sym items_at_start i; queue = sym queue_at_start i }
  walked-at_once (suc n) within =
      ap (moment_step a (from + suc n)) (walked-at_once n (omega arith)) ∙ next_waiting n (omega arith)

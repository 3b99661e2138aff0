-- What timers leave that ring one after the other: each of them has its expirations, and the queue has behind it those that are
-- enabled and were not in it.
use Rattle.std.proofs.Common.{◌≡◌, ℕ, zero, suc, ◌<◌, Bool, true, false, cond, not, ◌&&◌, ◌||◌, List, [], ◌∷◌, ◌++◌, map, filter, Some, None, append_assoc, append-nil, refl, sym, ap, ap₂, ◌∙◌, subst, arith}
use Rattle.std.proofs.lemmas.Bool.{true≢false}
use Rattle.std.proofs.lemmas.Option.{none-some, same_Some}
use Rattle.std.specs.List.{AllByRecursion}
use Rattle.kq_model.specs.declared.key.Key.{Key}
use Rattle.kq_model.specs.Clock.{timers}
use Rattle.kq_model.specs.Tallying.{tallying}
use Rattle.kq_model.specs.Knote.{key_eq, has_key, without_key, find_knote, with_knote}
use Rattle.kq_model.specs.Kqueue.{HaveOwnKeys}
use Rattle.kq_model.specs.Registration.{queue_for}
use Rattle.kq_model.specs.Tallied.{Knote, Kqueue}
use Rattle.kq_model.specs.WalkedAtOnce.{rung_times}
use Rattle.kq_model.proofs.KeyLaws.{same_key, key_eq-refl, key_eq-sym}
use Rattle.kq_model.proofs.KnoteLaws.{by_test, find_knote-here, find_knote-later, find_knote-with_other, HaveOwnKeys-with}
use Rattle.kq_model.proofs.TimerWalkQueue.{filter-agree, All-like, All-both}
use Rattle.kq_timer.proofs.Sorted.{AreTwoByTwo}
use Rattle.kq_kevent.specs.Ringing.{first_of, ticks_of, rung, with_rung, rung_each}
use Rattle.kq_kevent.proofs.QueueLaws.{has_key-push_other, without_key-absent, queue_for-disabled, queue_for-there, queue_for-comes}

abbrev pub key_in : Knote → Key
key_in k = k.key

-- ---- what an expiration keeps

pub rung_times-key : (n : ℕ) (k : Knote) → (rung_times (timers {h = tallying}) n k).key ≡ k.key
unfolding rung_times
rung_times-key zero k = refl
rung_times-key (suc n) k = rung_times-key n k

pub rung_times-enabled : (n : ℕ) (k : Knote) → (rung_times (timers {h = tallying}) n k).enabled ≡ k.enabled
unfolding rung_times
rung_times-enabled zero k = refl
rung_times-enabled (suc n) k = rung_times-enabled n k

pub rung_times-target : (n : ℕ) (k : Knote) → (rung_times (timers {h = tallying}) n k).target ≡ k.target
unfolding rung_times
rung_times-target zero k = refl
rung_times-target (suc n) k = rung_times-target n k

pub rung_times-active : (n : ℕ) (k : Knote) → 0 < n → (rung_times (timers {h = tallying}) n k).active ≡ true
unfolding rung_times
rung_times-active zero k some = absurd (omega (arith, some))
rung_times-active (suc n) k some = refl

pub rung_times-idle : (n : ℕ) (k : Knote) → (rung_times (timers {h = tallying}) n k).active ≡ false → k.active ≡ false
unfolding rung_times
rung_times-idle zero k idle = idle
rung_times-idle (suc n) k idle = absurd (true≢false idle)

pub rung_times-first : (from n : ℕ) (k : Knote) → first_of from (rung_times (timers {h = tallying}) n k) ≡ first_of from k
unfolding rung_times
rung_times-first from zero k = refl
rung_times-first from (suc n) k = rung_times-first from n k

-- ---- two keys that differ

abbrev pub AreApart : List Knote → Type 0
AreApart ks = AreTwoByTwo (λ (a : Knote) (b : Knote). key_eq a.key b.key ≡ false) ks

-- each of them is found
abbrev pub AreThere : List Knote → List Knote → Type 0
AreThere ks some = AllByRecursion (λ k. find_knote k.key ks ≡ Some k) some

absent_key : (key : Key) (ks : List Knote) → AllByRecursion (λ k. key_eq key k.key ≡ false) ks → has_key key (map key_in ks) ≡ false
absent_key key [] all = refl
absent_key key (k ∷ ks) all = ap (λ b. b || has_key key (map key_in ks)) all.0 ∙ absent_key key ks all.1

-- each knote of a list is found there
pub found_all : (ks : List Knote) → HaveOwnKeys ks → AreThere ks ks
found_all [] own = tt
found_all (x ∷ ks) own = (
  find_knote-here x.key x ks (key_eq-refl x.key),
  All-like (λ k. find_knote k.key ks ≡ Some k) (λ k. find_knote k.key (x ∷ ks) ≡ Some k)
      (λ k there. find_knote-later k.key x ks (other k there) ∙ there) ks (found_all ks own.1),
)
  where
    other : (k : Knote) → find_knote k.key ks ≡ Some k → key_eq k.key x.key ≡ false
    other k there =
        by_test (λ b. key_eq k.key x.key ≡ b → b ≡ false) (key_eq k.key x.key)
        (λ _ same. absurd (none-some k (sym own.0 ∙ ap (λ key. find_knote key ks) (sym (same_key k.key x.key same)) ∙ there)))
        (λ _ _. refl) refl

apart_behind : (x : Knote) (ks : List Knote) → find_knote x.key ks ≡ None → AreThere ks ks → AllByRecursion (λ k. key_eq x.key k.key ≡ false) ks
apart_behind x ks absent there =
    All-like (λ k. find_knote k.key ks ≡ Some k) (λ k. key_eq x.key k.key ≡ false)
    (λ k here. by_test (λ b. key_eq x.key k.key ≡ b → b ≡ false) (key_eq x.key k.key)
    (λ _ same. absurd (none-some k (sym absent ∙ ap (λ key. find_knote key ks) (same_key x.key k.key same) ∙ here)))
    (λ _ _. refl) refl) ks there

pub apart_all : (ks : List Knote) → HaveOwnKeys ks → AreApart ks
apart_all [] own = tt
apart_all (x ∷ ks) own = (apart_behind x ks own.0 (found_all ks own.1), apart_all ks own.1)

-- ---- maps

pub map-alike : {X Y : Type 0} (f g : X → Y) (xs : List X) → AllByRecursion (λ x. f x ≡ g x) xs → map f xs ≡ map g xs
map-alike f g [] all = refl
map-alike f g (x ∷ xs) all = ap₂ (λ a rest. a ∷ rest) all.0 (map-alike f g xs all.1)

map-twice : {X Y Z : Type 0} (g : Y → Z) (f : X → Y) (both : X → Z) → ((x : X) → g (f x) ≡ both x) → (xs : List X) → map g (map f xs) ≡ map both xs
map-twice g f both same [] = refl
map-twice g f both same (x ∷ xs) = ap₂ (λ a rest. a ∷ rest) (same x) (map-twice g f both same xs)

map-self : {X : Type 0} (f : X → X) → ((x : X) → f x ≡ x) → (xs : List X) → map f xs ≡ xs
map-self f same [] = refl
map-self f same (x ∷ xs) = ap₂ (λ a rest. a ∷ rest) (same x) (map-self f same xs)

-- ---- the knotes

module _ (from to : ℕ) where
  pub rung-key : (k : Knote) → (rung from to k).key ≡ k.key
  rung-key k = rung_times-key (ticks_of from to k) k

  -- a knote after those of these keys rang
  abbrev pub rung_if : List Key → Knote → Knote
  rung_if keys x = cond (has_key x.key keys) (rung from to x) x

  pub rung_if-key : (keys : List Key) (x : Knote) → (rung_if keys x).key ≡ x.key
  rung_if-key keys x = by_test (λ b. (cond b (rung from to x) x).key ≡ x.key) (has_key x.key keys) (λ _. rung-key x) (λ _. refl)

  pub rung_if-first : (keys : List Key) (x : Knote) → first_of from (rung_if keys x) ≡ first_of from x
  rung_if-first keys x =
      by_test (λ b. first_of from (cond b (rung from to x) x) ≡ first_of from x) (has_key x.key keys)
      (λ _. rung_times-first from (ticks_of from to x) x) (λ _. refl)

  -- it takes the place of the one that is it
  put-rung : (k x : Knote) → (key_eq k.key x.key ≡ true → x ≡ k)
      → cond (key_eq (rung from to k).key x.key) (rung from to k) x ≡ rung_if (k.key ∷ []) x
  put-rung k x same =
      ap (λ key. cond (key_eq key x.key) (rung from to k) x) (rung-key k)
      ∙ by_test (λ b. key_eq k.key x.key ≡ b → cond b (rung from to k) x ≡ cond (b || false) (rung from to x) x) (key_eq k.key x.key)
      (λ _ e. ap (rung from to) (sym (same e))) (λ _ _. refl) refl
      ∙ ap (λ b. cond (b || false) (rung from to x) x) (key_eq-sym k.key x.key)

  with_knote-rung : (k : Knote) (ks : List Knote) → HaveOwnKeys ks → find_knote k.key ks ≡ Some k → with_knote (rung from to k) ks ≡ map (rung_if (k.key ∷ [])) ks
  with_knote-rung k ks own there =
      map-alike (λ x. cond (key_eq (rung from to k).key x.key) (rung from to k) x) (rung_if (k.key ∷ [])) ks
      (All-like (λ x. find_knote x.key ks ≡ Some x) (λ x. cond (key_eq (rung from to k).key x.key) (rung from to k) x ≡ rung_if (k.key ∷ []) x)
      (λ x here. put-rung k x (λ e. same_Some x k (sym here ∙ ap (λ key. find_knote key ks) (sym (same_key k.key x.key e)) ∙ there))) ks (found_all ks own))

  -- a knote rings once
  rung-twice : (k : Knote) (keys : List Key) → has_key k.key keys ≡ false → (x : Knote) → rung_if keys (rung_if (k.key ∷ []) x) ≡ rung_if (k.key ∷ keys) x
  rung-twice k keys absent x =
      by_test (λ b. key_eq x.key k.key ≡ b → rung_if keys (cond (b || false) (rung from to x) x) ≡ cond (b || has_key x.key keys) (rung from to x) x) (key_eq x.key k.key)
      (λ _ same. ap (λ b. cond b (rung from to (rung from to x)) (rung from to x))
      (ap (λ key. has_key key keys) (rung-key x ∙ same_key x.key k.key same) ∙ absent))
      (λ _ _. refl) refl

  pub there-after : (k : Knote) (ks some : List Knote) → AllByRecursion (λ x. key_eq k.key x.key ≡ false) some → AreThere ks some → AreThere (with_knote (rung from to k) ks) some
  there-after k ks some apart there =
      All-both (λ x. key_eq k.key x.key ≡ false) (λ x. find_knote x.key ks ≡ Some x) (λ x. find_knote x.key (with_knote (rung from to k) ks) ≡ Some x)
      (λ x other here. find_knote-with_other x.key (rung from to k) ks (ap (λ key. key_eq key x.key) (rung-key k) ∙ other) ∙ here) some apart there

  pub rung_each-knotes : (some : List Knote) (kq : Kqueue) → HaveOwnKeys kq.knotes → AreThere kq.knotes some → AreApart some
      → (rung_each from to some kq).knotes ≡ map (rung_if (map key_in some)) kq.knotes
  unfolding rung_each
  rung_each-knotes [] kq own there apart = sym (map-self (rung_if []) (λ x. refl) kq.knotes)
  rung_each-knotes (k ∷ some) kq own there apart =
      rung_each-knotes some (with_rung from to k kq) (HaveOwnKeys-with (rung from to k) kq.knotes own)
      (there-after k kq.knotes some apart.0 there.1) apart.1
      ∙ ap (map (rung_if (map key_in some))) (with_knote-rung k kq.knotes own there.0)
      ∙ map-twice (rung_if (map key_in some)) (rung_if (k.key ∷ [])) (rung_if (map key_in (k ∷ some)))
      (rung-twice k (map key_in some) (absent_key k.key some apart.0)) kq.knotes

  -- ---- the queue

  -- it goes to the back of this queue once it rings
  abbrev pub joining : List Key → Knote → Bool
  joining queue k = k.enabled && not (has_key k.key queue)

  abbrev AreDue : List Knote → Type 0
  AreDue some = AllByRecursion (λ k. 0 < ticks_of from to k) some

  -- a disabled knote is not in the queue
  abbrev AreOut : List Key → List Knote → Type 0
  AreOut queue some = AllByRecursion (λ k. k.enabled ≡ false → has_key k.key queue ≡ false) some

  abbrev pushed : Knote → List Key → Bool → List Key
  pushed k queue b = cond b (queue ++ k.key ∷ []) queue

  queue_for-rung : (k : Knote) (queue : List Key) → 0 < ticks_of from to k → (k.enabled ≡ false → has_key k.key queue ≡ false)
      → queue_for (rung from to k) queue ≡ pushed k queue (joining queue k)
  queue_for-rung k queue due out =
      let same = rung-key k in
      let enabled = rung_times-enabled (ticks_of from to k) k in
      by_test (λ e. k.enabled ≡ e → queue_for (rung from to k) queue ≡ pushed k queue (e && not (has_key k.key queue))) k.enabled
      (λ _ on. by_test (λ b. has_key k.key queue ≡ b → queue_for (rung from to k) queue ≡ pushed k queue (true && not b)) (has_key k.key queue)
      (λ _ there. queue_for-there (rung from to k) queue (enabled ∙ on) (ap (λ key. has_key key queue) same ∙ there))
      (λ _ absent. queue_for-comes (rung from to k) queue (enabled ∙ on) (rung_times-active (ticks_of from to k) k due)
      (ap (λ key. has_key key queue) same ∙ absent)
      ∙ ap (λ key. queue ++ key ∷ []) same) refl)
      (λ _ off. queue_for-disabled (rung from to k) queue (enabled ∙ off) ∙ ap (λ key. without_key key queue) same
      ∙ without_key-absent k.key queue (out off)) refl

  -- what one pushes changes nothing for the others
  has_key-pushed : (k x : Knote) (queue : List Key) (b : Bool) → key_eq k.key x.key ≡ false → has_key x.key (pushed k queue b) ≡ has_key x.key queue
  has_key-pushed k x queue true other = has_key-push_other x.key k.key queue other
  has_key-pushed k x queue false other = refl

  out-after : (k : Knote) (queue : List Key) (b : Bool) (some : List Knote) → AllByRecursion (λ x. key_eq k.key x.key ≡ false) some → AreOut queue some
      → AreOut (pushed k queue b) some
  out-after k queue b some apart out =
      All-both (λ x. key_eq k.key x.key ≡ false) (λ x. x.enabled ≡ false → has_key x.key queue ≡ false) (λ x. x.enabled ≡ false → has_key x.key (pushed k queue b) ≡ false)
      (λ x other absent off. has_key-pushed k x queue b other ∙ absent off) some apart out

  joining-after : (k : Knote) (queue : List Key) (b : Bool) (some : List Knote) → AllByRecursion (λ x. key_eq k.key x.key ≡ false) some
      → filter (joining (pushed k queue b)) some ≡ filter (joining queue) some
  joining-after k queue b some apart =
      filter-agree (joining (pushed k queue b)) (joining queue) some
      (All-like (λ x. key_eq k.key x.key ≡ false) (λ x. joining (pushed k queue b) x ≡ joining queue x)
      (λ x other. ap (λ t. x.enabled && not t) (has_key-pushed k x queue b other)) some apart)

  pushed-all : (k : Knote) (queue : List Key) (b : Bool) (others : List Knote)
      → pushed k queue b ++ map key_in others ≡ queue ++ map key_in (cond b (k ∷ others) others)
  pushed-all k queue true others = append_assoc queue (k.key ∷ []) (map key_in others)
  pushed-all k queue false others = refl

  pub rung_each-queue : (some : List Knote) (kq : Kqueue) → AreApart some → AreDue some → AreOut kq.queue some
      → (rung_each from to some kq).queue ≡ kq.queue ++ map key_in (filter (joining kq.queue) some)
  unfolding rung_each
  rung_each-queue [] kq apart due out = sym (append-nil kq.queue)
  rung_each-queue (k ∷ some) kq apart due out =
      let here = queue_for-rung k kq.queue due.0 out.0 in
      rung_each-queue some (with_rung from to k kq) apart.1 due.1
      (subst (λ (q : List Key). AreOut q some) (sym here) (out-after k kq.queue (joining kq.queue k) some apart.0 out.1))
      ∙ ap (λ q. q ++ map key_in (filter (joining q) some)) here
      ∙ ap (λ rest. pushed k kq.queue (joining kq.queue k) ++ map key_in rest) (joining-after k kq.queue (joining kq.queue k) some apart.0)
      ∙ pushed-all k kq.queue (joining kq.queue k) (filter (joining kq.queue) some)

  -- ---- one list after the other

  pub rung_each-append : (some more : List Knote) (kq : Kqueue) → rung_each from to (some ++ more) kq ≡ rung_each from to more (rung_each from to some kq)
  unfolding rung_each
  rung_each-append [] more kq = refl
  rung_each-append (k ∷ some) more kq = rung_each-append some more (with_rung from to k kq)

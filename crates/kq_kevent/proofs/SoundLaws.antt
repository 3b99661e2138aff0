-- The kqueue stays sound: keys differ, and the queue holds each active enabled knote once and nothing else.
use Rattle.std.proofs.Common.{◌≡◌, cond, ◌≤◌, true, false, ◌&&◌, List, [], ◌∷◌, ◌++◌, length, Option, Some, None, refl, sym, ap, ◌∙◌, subst}
use Rattle.std.proofs.lemmas.Bool.{true≢false, and_left}
use Rattle.std.specs.Option.{option_map}
use Rattle.kq_model.specs.declared.change.Change.{Change}
use Rattle.kq_model.specs.declared.key.Key.{Key}
use Rattle.kq_model.specs.ChangedKnote.{key_of}
use Rattle.kq_model.specs.Tallying.{tallying}
use Rattle.kq_model.specs.Knote.{key_eq, has_key, without_key, find_knote, with_knote, without_knote}
use Rattle.kq_model.specs.Kqueue.{AreOnce, HaveOwnKeys, is_waiting, IsSound, empty_kqueue}
use Rattle.kq_model.specs.Registration.{queue_for, is_restart, with_made, with_removed, with_modified}
use Rattle.kq_model.specs.Tallied.{Knote, Kqueue}
use Rattle.kq_model.proofs.KeyLaws.{same_key, key_eq-refl, key_eq-sym, has_key-without_same, has_key-without_other}
use Rattle.kq_model.proofs.KnoteLaws.{by_test, found_or, find_knote-none, find_knote-here, find_knote-later, find_knote-append, find_knote-with_same, find_knote-with_other, find_knote-without_same, find_knote-without_other, HaveOwnKeys-append, HaveOwnKeys-with, HaveOwnKeys-without}
use Rattle.kq_kevent.specs.Telling.{HeardMore}
use Rattle.kq_kevent.proofs.QueueLaws.{has_key-queue_for_same, has_key-queue_for_other, AreOnce-queue_for, AreOnce-without, without_key-absent, queue_for-disabled, queue_for-there}
use Rattle.kq_knote.proofs.CountLaws.{length-keys}

pub waiting-none : is_waiting {h = tallying} None ≡ false
unfolding is_waiting
waiting-none = refl

pub waiting-some : (k : Knote) → is_waiting (Some k) ≡ k.active && k.enabled
unfolding is_waiting
waiting-some k = refl

pub IsSound-empty : IsSound {h = tallying} empty_kqueue
IsSound-empty = record {
  own_keys = tt;
  once = tt;
  waiting = λ key. sym (ap is_waiting (find_knote-none tallying key) ∙ waiting-none);
}

-- a key without a knote is not in the queue
pub IsSound-absent : (kq : Kqueue) → IsSound kq → (key : Key) → find_knote key kq.knotes ≡ None
    → has_key key kq.queue ≡ false
IsSound-absent kq sound key absent = sound.waiting key ∙ ap is_waiting absent ∙ waiting-none

-- that of a knote is there exactly where the knote is active and enabled
pub waiting-present : (kq : Kqueue) → IsSound kq → (key : Key) (k : Knote) → find_knote key kq.knotes ≡ Some k
    → has_key key kq.queue ≡ is_waiting (Some k)
waiting-present kq sound key k there = sound.waiting key ∙ ap is_waiting there

-- the queue has no more keys than there are knotes
pub length-queue : (kq : Kqueue) → IsSound kq → length kq.queue ≤ length kq.knotes
length-queue kq sound =
    length-keys kq.queue kq.knotes sound.once
    (λ key there none. true≢false (sym there ∙ IsSound-absent kq sound key none))

-- a knote that came is there
pub found-made : (k : Knote) (ks : List Knote) → find_knote k.key ks ≡ None → find_knote k.key (ks ++ k ∷ []) ≡ Some k
found-made k ks absent =
    find_knote-append k.key ks (k ∷ []) ∙ ap (λ f. found_or f (find_knote k.key (k ∷ []))) absent
    ∙ find_knote-here k.key k [] (key_eq-refl k.key)

-- and so is one that took the place of another
pub found-put : (k before : Knote) (ks : List Knote) → find_knote k.key ks ≡ Some before → find_knote k.key (with_knote k ks) ≡ Some k
found-put k before ks there = find_knote-with_same k ks ∙ ap (option_map (λ _. k)) there

-- a knote comes, or takes the place of the one of its key, and its key goes where it belongs
IsSound-put : (kq : Kqueue) (ks : List Knote) (q : List Key) (k : Knote) → IsSound kq → HaveOwnKeys ks
    → find_knote k.key ks ≡ Some k
    → ((key : Key) → key_eq k.key key ≡ false → find_knote key ks ≡ find_knote key kq.knotes) → AreOnce q
    → ((key : Key) → key_eq k.key key ≡ false → has_key key q ≡ has_key key kq.queue)
    → (k.active ≡ false → has_key k.key q ≡ false) → IsSound (record { knotes = ks; queue = queue_for k q })
IsSound-put kq ks q k sound own here others once queued idle = record {
  own_keys = own;
  once = AreOnce-queue_for k q once;
  waiting = λ key.
      by_test (λ b. key_eq k.key key ≡ b → has_key key (queue_for k q) ≡ is_waiting (find_knote key ks))
      (key_eq k.key key)
      (λ _ same. subst (λ (other : Key). has_key other (queue_for k q) ≡ is_waiting (find_knote other ks))
      (same_key k.key key same)
      (has_key-queue_for_same k q idle ∙ sym (waiting-some k) ∙ ap is_waiting (sym here)))
      (λ _ apart. has_key-queue_for_other key k q apart ∙ queued key apart ∙ sound.waiting key
      ∙ ap is_waiting (sym (others key apart))) refl;
}

pub IsSound-made : (kq : Kqueue) (k : Knote) → IsSound kq → find_knote k.key kq.knotes ≡ None
    → IsSound (with_made k kq)
IsSound-made kq k sound absent =
    IsSound-put kq (kq.knotes ++ k ∷ []) kq.queue k sound
    (HaveOwnKeys-append kq.knotes k sound.own_keys absent)
    (found-made k kq.knotes absent)
    (λ key apart. find_knote-append key kq.knotes (k ∷ []) ∙ or_nothing (find_knote key kq.knotes) _
    (find_knote-later key k [] (key_eq-sym key k.key ∙ apart) ∙ find_knote-none tallying key))
    sound.once (λ _ _. refl) (λ _. IsSound-absent kq sound k.key absent)
  where
    or_nothing : (f g : Option Knote) → g ≡ None → found_or f g ≡ f
    or_nothing None g none = none
    or_nothing (Some x) g none = refl

pub IsSound-modified : (kq : Kqueue) (c : Change) (k before : Knote) → IsSound kq → k.key ≡ key_of c
    → find_knote k.key kq.knotes ≡ Some before → (is_restart c ≡ false → k.active ≡ false → before.active ≡ false)
    → IsSound (with_modified c k kq)
IsSound-modified kq c k before sound of_key there stays =
    by_test
    (λ b. is_restart c ≡ b
    → IsSound
    (record {
      knotes = with_knote k kq.knotes;
      queue = queue_for k (cond b (without_key (key_of c) kq.queue) kq.queue);
    })) (is_restart c)
    (λ _ _. IsSound-put kq (with_knote k kq.knotes) (without_key (key_of c) kq.queue) k sound own here others
    (AreOnce-without (key_of c) kq.queue sound.once)
    (λ key apart. has_key-without_other key (key_of c) kq.queue (ap (λ o. key_eq o key) (sym of_key) ∙ apart))
    (λ _. ap (λ o. has_key o (without_key (key_of c) kq.queue)) of_key ∙ has_key-without_same (key_of c) kq.queue))
    (λ _ same. IsSound-put kq (with_knote k kq.knotes) kq.queue k sound own here others sound.once (λ _ _. refl)
    (λ idle. sound.waiting k.key ∙ ap is_waiting there ∙ waiting-some before ∙ and_left before.active before.enabled
    (stays same idle))) refl
  where
    own : HaveOwnKeys (with_knote k kq.knotes)
    own = HaveOwnKeys-with k kq.knotes sound.own_keys

    here : find_knote k.key (with_knote k kq.knotes) ≡ Some k
    here = found-put k before kq.knotes there

    others : (key : Key) → key_eq k.key key ≡ false → find_knote key (with_knote k kq.knotes)
        ≡ find_knote key kq.knotes
    others = λ key apart. find_knote-with_other key k kq.knotes apart

-- a knote takes the place of the one of its key, which was active only if it is
pub IsSound-put_back : (kq : Kqueue) (k before : Knote) → IsSound kq → find_knote k.key kq.knotes ≡ Some before
    → (k.active ≡ false → before.active ≡ false)
    → IsSound (record { knotes = with_knote k kq.knotes; queue = queue_for k kq.queue })
IsSound-put_back kq k before sound there stays =
    IsSound-put kq (with_knote k kq.knotes) kq.queue k sound (HaveOwnKeys-with k kq.knotes sound.own_keys)
    (found-put k before kq.knotes there)
    (λ key apart. find_knote-with_other key k kq.knotes apart) sound.once (λ _ _. refl)
    (λ idle. sound.waiting k.key ∙ ap is_waiting there ∙ waiting-some before ∙ and_left before.active before.enabled
    (stays idle))

-- what an active knote heard moves nothing in the queue
pub kept-queue : (kq : Kqueue) (k before : Knote) → IsSound kq → find_knote k.key kq.knotes ≡ Some before
    → k.active ≡ true → HeardMore before k → queue_for k kq.queue ≡ kq.queue
kept-queue kq k before sound there active more =
    let waits : has_key k.key kq.queue ≡ k.enabled = sound.waiting k.key ∙ ap is_waiting there ∙ waiting-some before
    ∙ sym (ap (λ (n : Knote). n.active && n.enabled) more) ∙ ap (λ a. a && k.enabled) active in
    by_test (λ e. k.enabled ≡ e → queue_for k kq.queue ≡ kq.queue) k.enabled
    (λ _ on. queue_for-there k kq.queue on (waits ∙ on))
    (λ _ off. queue_for-disabled k kq.queue off ∙ without_key-absent k.key kq.queue (waits ∙ off)) refl

pub IsSound-removed : (kq : Kqueue) (gone : Key) → IsSound kq → IsSound (with_removed gone kq)
IsSound-removed kq gone sound = record {
  own_keys = HaveOwnKeys-without gone kq.knotes sound.own_keys;
  once = AreOnce-without gone kq.queue sound.once;
  waiting = λ key.
      by_test (λ b. key_eq gone key ≡ b → has_key key (without_key gone kq.queue) ≡ is_waiting
      (find_knote key (without_knote gone kq.knotes))) (key_eq gone key)
      (λ _ same. subst (λ (other : Key). has_key other (without_key gone kq.queue) ≡ is_waiting
      (find_knote other (without_knote gone kq.knotes))) (same_key gone key same)
      (has_key-without_same gone kq.queue ∙ sym (ap is_waiting (find_knote-without_same gone kq.knotes)
      ∙ waiting-none)))
      (λ _ apart. has_key-without_other key gone kq.queue apart ∙ sound.waiting key
      ∙ ap is_waiting (sym (find_knote-without_other key gone kq.knotes apart))) refl;
}

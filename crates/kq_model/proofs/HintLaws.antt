-- What the hints of one record make of the knotes of a kqueue and of its queue.
use Rattle.std.proofs.Common.{◌≡◌, Bool, true, false, cond, not, ◌&&◌, ◌||◌, inl, inr, List, [], ◌∷◌, ◌++◌, filter, Option, Some, None, refl, sym, ap, ◌∙◌, subst}
use Rattle.std.proofs.lemmas.Bool.{true≢false, and_parts}
use Rattle.std.proofs.lemmas.List.{append-nil, append_assoc, map-append}
use Rattle.std.proofs.lemmas.List.Elements.{filter-append, filter_agree}
use Rattle.std.specs.List.{list_any}
use Rattle.std.specs.Option.{is_some, is_none, option_and_then}
use Rattle.kq_model.specs.declared.key.Key.{Key}
use Rattle.kq_model.specs.CallLaws.{AreInOrder}
use Rattle.kq_model.specs.Hearing.{Hearing}
use Rattle.kq_model.specs.HintLaws.{begins_to_wait, IsNotified}
use Rattle.kq_model.specs.Hints.{hints_for, alerted, if_there, knotes_alerted, queue_after_all, notified}
use Rattle.kq_model.specs.Knote.{Knote, key_eq, has_key, find_knote}
use Rattle.kq_model.specs.Kqueue.{Kqueue, AreOnce, HaveOwnKeys, is_waiting, IsSound}
use Rattle.kq_model.specs.RegistrationLaws.{keys_of}
use Rattle.kq_model.specs.Targets.{Posted}
use Rattle.kq_model.specs.Views.{Views}
use Rattle.kq_model.proofs.KeyLaws.{same_key, key_eq-refl, key_eq-sym, has_key-append, has_key-without_other}
use Rattle.kq_model.proofs.KeyLists.{and_false, or_false, has_key-filter, AreOnce-filter, AreOnce-append, filter_agree_among, filter_both, filter_true}
use Rattle.kq_model.proofs.KnoteLaws.{by_test, found_or, find_knote-none, find_knote-key, find_knote-head, find_knote-tail, find_knote-here, find_knote-later, find_knote-append}
use Rattle.kq_model.proofs.AlertedKnote.{neither, waits_after, AgreeBesides, Follows, alerted-follows, staying, coming, queue_alerted-is, if_there-other, if_there-same, or_nothing}

module _ {S : Type 0} {h : Hearing S} where
  -- ---- the list of knotes, in a world and with hints

  module _ (views : Views) (posted : List Posted) where
    abbrev left : Knote h → Option (Knote h)
    left k = alerted views (hints_for k posted) k

    left-follows : (k : Knote h) → Follows k (left k)
    left-follows k = alerted-follows views (hints_for k posted) k

    abbrev alerting : List (Knote h) → List (Knote h)
    alerting ks = knotes_alerted views posted ks

    alerting-absent : (key : Key) (ks : List (Knote h)) → find_knote key ks ≡ None → find_knote key (alerting ks) ≡ None
    unfolding knotes_alerted
    alerting-absent key [] absent = find_knote-none h key
    alerting-absent key (k ∷ ks) absent =
        find_knote-append key (if_there (left k)) (alerting ks)
        ∙ ap (λ f. found_or f (find_knote key (alerting ks)))
        (if_there-other key k (left k) (left-follows k) (find_knote-head key k ks absent))
        ∙ alerting-absent key ks (find_knote-tail key k ks absent)

    -- the knote of a key is what is left of the one that it had
    pub find_knote-alerting : (key : Key) (ks : List (Knote h)) → HaveOwnKeys ks
        → find_knote key (alerting ks) ≡ option_and_then left (find_knote key ks)
    unfolding knotes_alerted
    find_knote-alerting key [] own =
        find_knote-none h key ∙ sym (ap (option_and_then left) (find_knote-none h key))
    find_knote-alerting key (k ∷ ks) own =
        by_test (λ b. key_eq key k.key ≡ b → find_knote key (if_there (left k) ++ alerting ks)
        ≡ option_and_then left (find_knote key (k ∷ ks))) (key_eq key k.key)
        (λ _ same. find_knote-append key (if_there (left k)) (alerting ks)
        ∙ ap (found_or (find_knote key (if_there (left k)))) (alerting-absent key ks
        (subst (λ (o : Key). find_knote o ks ≡ None) (sym (same_key key k.key same)) own.0))
        ∙ or_nothing (find_knote key (if_there (left k))) ∙ if_there-same key k (left k) (left-follows k) same
        ∙ sym (ap (option_and_then left) (find_knote-here key k ks same)))
        (λ _ apart. find_knote-append key (if_there (left k)) (alerting ks)
        ∙ ap (λ f. found_or f (find_knote key (alerting ks))) (if_there-other key k (left k) (left-follows k) apart)
        ∙ find_knote-alerting key ks own.1 ∙ sym (ap (option_and_then left) (find_knote-later key k ks apart))) refl

    HaveOwnKeys-led : (k : Knote h) (found : Option (Knote h)) (ks : List (Knote h)) → Follows k found
        → find_knote k.key ks ≡ None → HaveOwnKeys ks → HaveOwnKeys (if_there found ++ ks)
    unfolding if_there
    HaveOwnKeys-led k None ks follows absent own = own
    HaveOwnKeys-led k (Some x) ks follows absent own =
        (subst (λ (o : Key). find_knote o ks ≡ None) (sym follows.0) absent, own)

    HaveOwnKeys-alerting : (ks : List (Knote h)) → HaveOwnKeys ks → HaveOwnKeys (alerting ks)
    unfolding knotes_alerted
    HaveOwnKeys-alerting [] own = tt
    HaveOwnKeys-alerting (k ∷ ks) own =
        HaveOwnKeys-led k (left k) (alerting ks) (left-follows k) (alerting-absent k.key ks own.0)
        (HaveOwnKeys-alerting ks own.1)

    led_in_order : (k : Knote h) (found : Option (Knote h)) (ks : List (Knote h)) (keys : List Key) → Follows k found
        → AreInOrder (keys_of ks) keys → AreInOrder (keys_of (if_there found ++ ks)) (k.key ∷ keys)
    unfolding if_there
    led_in_order k None ks keys follows order = inl order
    led_in_order k (Some x) ks keys follows order = inr (keys_of ks, ap (λ key. key ∷ keys_of ks) follows.0, order)

    alerted_in_order : (ks : List (Knote h)) → AreInOrder (keys_of (alerting ks)) (keys_of ks)
    unfolding knotes_alerted
    alerted_in_order [] = refl
    alerted_in_order (k ∷ ks) =
        led_in_order k (left k) (alerting ks) (keys_of ks) (left-follows k) (alerted_in_order ks)

    -- ---- which knotes are gone

    abbrev is_gone : List (Knote h) → Key → Bool
    is_gone ks key = list_any (λ k. key_eq key k.key && is_none (left k)) ks

    is_gone-absent : (key : Key) (ks : List (Knote h)) → find_knote key ks ≡ None → is_gone ks key ≡ false
    is_gone-absent key [] absent = refl
    is_gone-absent key (k ∷ ks) absent =
        ap (λ b. (b && is_none (left k)) || is_gone ks key) (find_knote-head key k ks absent)
        ∙ is_gone-absent key ks (find_knote-tail key k ks absent)

    abbrev leaves : Option (Knote h) → Bool
    leaves None = false
    leaves (Some k) = is_none (left k)

    is_gone-found : (key : Key) (ks : List (Knote h)) → HaveOwnKeys ks → is_gone ks key ≡ leaves (find_knote key ks)
    is_gone-found key [] own = sym (ap leaves (find_knote-none h key))
    is_gone-found key (k ∷ ks) own =
        by_test (λ b. key_eq key k.key ≡ b → is_gone (k ∷ ks) key ≡ leaves (find_knote key (k ∷ ks))) (key_eq key k.key)
        (λ _ same. ap (λ b. (b && is_none (left k)) || is_gone ks key) same
        ∙ ap (λ b. is_none (left k) || b) (is_gone-absent key ks
        (subst (λ (o : Key). find_knote o ks ≡ None) (sym (same_key key k.key same)) own.0))
        ∙ or_false (is_none (left k)) ∙ sym (ap leaves (find_knote-here key k ks same)))
        (λ _ apart. ap (λ b. (b && is_none (left k)) || is_gone ks key) apart ∙ is_gone-found key ks own.1
        ∙ sym (ap leaves (find_knote-later key k ks apart))) refl

    not_none : (found : Option (Knote h)) → not (is_none found) ≡ is_some found
    not_none None = refl
    not_none (Some x) = refl

    waiting_stays : (found : Option (Knote h)) → is_waiting found ≡ true
        → not (leaves found) ≡ is_some (option_and_then left found)
    unfolding is_waiting
    waiting_stays None waits = absurd (true≢false (sym waits))
    waiting_stays (Some k) waits = not_none (left k)

    -- ---- the queue after some of the knotes

    abbrev AreQueued : List Key → List (Knote h) → Type 0
    AreQueued queue [] = Unit {0}
    AreQueued queue (k ∷ ks) = (has_key k.key queue ≡ k.active && k.enabled) × AreQueued queue ks

    AreQueued-moved : (key : Key) (queue after : List Key) (ks : List (Knote h)) → find_knote key ks ≡ None
        → AgreeBesides key queue after → AreQueued queue ks → AreQueued after ks
    AreQueued-moved key queue after [] absent agree queued = tt
    AreQueued-moved key queue after (x ∷ ks) absent agree queued = (
      agree x.key (find_knote-head key x ks absent) ∙ queued.0,
      AreQueued-moved key queue after ks (find_knote-tail key x ks absent) agree queued.1,
    )

    staying-agrees : (key : Key) (found : Option (Knote h)) (queue : List Key)
        → AgreeBesides key queue (staying key found queue)
    staying-agrees key None queue other apart = has_key-without_other other key queue apart
    staying-agrees key (Some x) queue other apart = refl

    coming-other : (k : Knote h) (found : Option (Knote h)) (queue : List Key) (other : Key) → Follows k found
        → key_eq k.key other ≡ false → has_key other (coming found queue) ≡ false
    unfolding if_there
    coming-other k None queue other follows apart = refl
    coming-other k (Some x) queue other follows apart =
        by_test (λ b. has_key other (keys_of (cond b (x ∷ []) [])) ≡ false) (begins_to_wait queue x)
        (λ _. ap (λ b. b || false) (ap (key_eq other) follows.0 ∙ key_eq-sym other k.key ∙ apart)) (λ _. refl)

    abbrev moved : Knote h → List Key → List Key
    moved k queue = staying k.key (left k) queue ++ coming (left k) queue

    moved-agrees : (k : Knote h) (queue : List Key) → AgreeBesides k.key queue (moved k queue)
    moved-agrees k queue other apart =
        has_key-append other (staying k.key (left k) queue) (coming (left k) queue)
        ∙ ap (λ b. has_key other (staying k.key (left k) queue) || b)
        (coming-other k (left k) queue other (left-follows k) apart)
        ∙ or_false (has_key other (staying k.key (left k) queue)) ∙ staying-agrees k.key (left k) queue other apart

    -- what begins to wait is the same for a queue with which the old one agrees about its keys
    led-begins : (key : Key) (queue after : List Key) (k : Knote h) (found : Option (Knote h)) → Follows k found
        → key_eq key k.key ≡ false → AgreeBesides key queue after
        → filter (begins_to_wait after) (if_there found) ≡ filter (begins_to_wait queue) (if_there found)
    unfolding if_there
    led-begins key queue after k None follows apart agree = refl
    led-begins key queue after k (Some x) follows apart agree =
        ap (λ b. cond (x.active && x.enabled && not b) (x ∷ []) [])
        (agree x.key (ap (key_eq key) follows.0 ∙ apart))

    alerting-begins : (key : Key) (queue after : List Key) (ks : List (Knote h)) → find_knote key ks ≡ None
        → AgreeBesides key queue after
        → filter (begins_to_wait after) (alerting ks) ≡ filter (begins_to_wait queue) (alerting ks)
    unfolding knotes_alerted
    alerting-begins key queue after [] absent agree = refl
    alerting-begins key queue after (k ∷ ks) absent agree =
        filter-append (begins_to_wait after) (if_there (left k)) (alerting ks)
        ∙ ap (λ xs. xs ++ filter (begins_to_wait after) (alerting ks))
        (led-begins key queue after k (left k) (left-follows k) (find_knote-head key k ks absent) agree)
        ∙ ap (λ xs. filter (begins_to_wait queue) (if_there (left k)) ++ xs)
        (alerting-begins key queue after ks (find_knote-tail key k ks absent) agree)
        ∙ sym (filter-append (begins_to_wait queue) (if_there (left k)) (alerting ks))

    kept-staying : (gone : Key → Bool) (key : Key) (found : Option (Knote h)) (queue : List Key)
        → filter (λ x. not (gone x)) (staying key found queue)
        ≡ filter (λ x. not ((key_eq x key && is_none found) || gone x)) queue
    kept-staying gone key None queue =
        filter_both (λ x. not (gone x)) (λ x. not (key_eq key x)) queue
        ∙ filter_agree (λ x. not (key_eq key x) && not (gone x)) (λ x. not ((key_eq x key && true) || gone x))
        (λ x. ap (λ b. not b && not (gone x)) (key_eq-sym key x) ∙ neither (key_eq x key) (gone x)) queue
    kept-staying gone key (Some y) queue =
        filter_agree (λ x. not (gone x)) (λ x. not ((key_eq x key && false) || gone x))
        (λ x. sym (ap (λ b. not (b || gone x)) (and_false (key_eq x key)))) queue

    kept-coming : (gone : Key → Bool) (k : Knote h) (found : Option (Knote h)) (queue : List Key) → Follows k found
        → gone k.key ≡ false → filter (λ x. not (gone x)) (coming found queue) ≡ coming found queue
    unfolding if_there
    kept-coming gone k None queue follows stays = refl
    kept-coming gone k (Some x) queue follows stays =
        by_test (λ b. filter (λ y. not (gone y)) (keys_of (cond b (x ∷ []) [])) ≡ keys_of (cond b (x ∷ []) []))
        (begins_to_wait queue x)
        (λ _. ap (λ b. cond (not b) (x.key ∷ []) []) (ap gone follows.0 ∙ stays)) (λ _. refl)

    queue_after_all-is : (ks : List (Knote h)) (queue : List Key) → HaveOwnKeys ks → AreQueued queue ks
        → queue_after_all views posted ks queue
        ≡ filter (λ key. not (is_gone ks key)) queue ++ keys_of (filter (begins_to_wait queue) (alerting ks))
    unfolding queue_after_all knotes_alerted
    queue_after_all-is [] queue own queued = sym (append-nil (filter (λ key. true) queue) ∙ filter_true queue)
    queue_after_all-is (k ∷ ks) queue own queued =
        let found = left k in
        let came = coming found queue in
        let begin = filter (begins_to_wait queue) (alerting ks) in
        ap (queue_after_all views posted ks) (queue_alerted-is views (hints_for k posted) k queue queued.0)
        ∙ queue_after_all-is ks (moved k queue) own.1
        (AreQueued-moved k.key queue (moved k queue) ks own.0 (moved-agrees k queue) queued.1)
        ∙ ap (λ xs. xs ++ keys_of (filter (begins_to_wait (moved k queue)) (alerting ks)))
        (filter-append (λ key. not (is_gone ks key)) (staying k.key found queue) came)
        ∙ ap (λ xs. (xs ++ filter (λ key. not (is_gone ks key)) came)
        ++ keys_of (filter (begins_to_wait (moved k queue)) (alerting ks)))
        (kept-staying (is_gone ks) k.key found queue)
        ∙ ap (λ xs. (filter (λ key. not (is_gone (k ∷ ks) key)) queue ++ xs)
        ++ keys_of (filter (begins_to_wait (moved k queue)) (alerting ks)))
        (kept-coming (is_gone ks) k found queue (left-follows k) (is_gone-absent k.key ks own.0))
        ∙ ap (λ xs. (filter (λ key. not (is_gone (k ∷ ks) key)) queue ++ came) ++ keys_of xs)
        (alerting-begins k.key queue (moved k queue) ks own.0 (moved-agrees k queue))
        ∙ append_assoc (filter (λ key. not (is_gone (k ∷ ks) key)) queue) came (keys_of begin)
        ∙ ap (λ xs. filter (λ key. not (is_gone (k ∷ ks) key)) queue ++ xs)
        (sym (ap keys_of (filter-append (begins_to_wait queue) (if_there found) (alerting ks))
        ∙ map-append (λ (x : Knote h). x.key) (filter (begins_to_wait queue) (if_there found)) begin))

  -- ---- a sound kqueue

  AreQueued-from : (views : Views) (posted : List Posted) (ks : List (Knote h)) (queue : List Key) → HaveOwnKeys ks
      → ((key : Key) → is_some (find_knote key ks) ≡ true → has_key key queue ≡ is_waiting (find_knote key ks))
      → AreQueued views posted queue ks
  unfolding is_waiting
  AreQueued-from views posted [] queue own waiting = tt
  AreQueued-from views posted (k ∷ ks) queue own waiting =
      let here = find_knote-here k.key k ks (key_eq-refl k.key) in (
        waiting k.key (ap is_some here) ∙ ap is_waiting here,
        AreQueued-from views posted ks queue own.1 (λ key there.
            by_test (λ b. key_eq key k.key ≡ b → has_key key queue ≡ is_waiting (find_knote key ks)) (key_eq key k.key)
            (λ _ same. absurd (true≢false (sym there
            ∙ ap is_some (subst (λ (o : Key). find_knote o ks ≡ None) (sym (same_key key k.key same)) own.0))))
            (λ _ apart. let later = find_knote-later key k ks apart in
            waiting key (ap is_some later ∙ there) ∙ ap is_waiting later) refl),
      )

  -- what is found passes the test
  abbrev passes : (Knote h → Bool) → Option (Knote h) → Bool
  passes test None = false
  passes test (Some k) = test k

  has_key-kept : (test : Knote h → Bool) (key : Key) (ks : List (Knote h)) → HaveOwnKeys ks
      → has_key key (keys_of (filter test ks)) ≡ passes test (find_knote key ks)
  has_key-kept test key [] own = sym (ap (passes test) (find_knote-none h key))
  has_key-kept test key (k ∷ ks) own =
      let rest = filter test ks in
      by_test (λ b. key_eq key k.key ≡ b
      → has_key key (keys_of (cond (test k) (k ∷ rest) rest)) ≡ passes test (find_knote key (k ∷ ks))) (key_eq key k.key)
      (λ _ same. by_test (λ b. has_key key (keys_of (cond b (k ∷ rest) rest)) ≡ b) (test k)
      (λ _. ap (λ b. b || has_key key (keys_of rest)) same)
      (λ _. has_key-kept test key ks own.1 ∙ ap (passes test)
      (subst (λ (o : Key). find_knote o ks ≡ None) (sym (same_key key k.key same)) own.0))
      ∙ sym (ap (passes test) (find_knote-here key k ks same)))
      (λ _ apart. by_test (λ b. has_key key (keys_of (cond b (k ∷ rest) rest)) ≡ has_key key (keys_of rest)) (test k)
      (λ _. ap (λ b. b || has_key key (keys_of rest)) apart) (λ _. refl)
      ∙ has_key-kept test key ks own.1 ∙ sym (ap (passes test) (find_knote-later key k ks apart))) refl

  AreOnce-kept : (test : Knote h → Bool) (ks : List (Knote h)) → HaveOwnKeys ks → AreOnce (keys_of (filter test ks))
  AreOnce-kept test [] own = tt
  AreOnce-kept test (k ∷ ks) own =
      by_test (λ b. AreOnce (keys_of (cond b (k ∷ filter test ks) (filter test ks)))) (test k)
      (λ _. (has_key-kept test k.key ks own.1 ∙ ap (passes test) own.0, AreOnce-kept test ks own.1))
      (λ _. AreOnce-kept test ks own.1)

  begins-queued : (queue : List Key) (ks : List (Knote h)) (key : Key) (found : Option (Knote h))
      → find_knote key ks ≡ found → has_key key queue ≡ true → passes (begins_to_wait queue) found ≡ false
  begins-queued queue ks key None is there = refl
  begins-queued queue ks key (Some x) is there =
      ap (λ b. x.active && x.enabled && not b)
      (subst (λ (o : Key). has_key o queue ≡ true) (find_knote-key key ks x is) there) ∙ neither_then x.active x.enabled
    where
      neither_then : (a b : Bool) → a && b && false ≡ false
      neither_then true true = refl
      neither_then true false = refl
      neither_then false b = refl

  left_waiting : (queue : List Key) (k : Knote h) (found : Option (Knote h)) → Follows k found
      → has_key k.key queue ≡ k.active && k.enabled
      → ((k.active && k.enabled) && is_some found) || passes (begins_to_wait queue) found ≡ is_waiting found
  unfolding is_waiting
  left_waiting queue k None follows here = or_false ((k.active && k.enabled) && false) ∙ and_false (k.active && k.enabled)
  left_waiting queue k (Some x) follows here =
      ap (λ b. ((k.active && k.enabled) && true) || (x.active && x.enabled && not b))
      (ap (λ (o : Key). has_key o queue) follows.0 ∙ here)
      ∙ ap (λ e. ((k.active && k.enabled) && true) || (x.active && e && not (k.active && k.enabled))) follows.1
      ∙ waits_after k.active k.enabled x.active follows.2
      ∙ sym (ap (λ e. x.active && e) follows.1)

  found_waiting : (views : Views) (posted : List Posted) (queue : List Key) (key : Key) (ks : List (Knote h))
      (found : Option (Knote h)) → find_knote key ks ≡ found → has_key key queue ≡ is_waiting found
      → (is_waiting found && is_some (option_and_then (left views posted) found))
      || passes (begins_to_wait queue) (option_and_then (left views posted) found)
      ≡ is_waiting (option_and_then (left views posted) found)
  unfolding is_waiting
  found_waiting views posted queue key ks None is here = refl
  found_waiting views posted queue key ks (Some k) is here =
      left_waiting queue k (left views posted k) (left-follows views posted k)
      (subst (λ (o : Key). has_key o queue ≡ k.active && k.enabled) (find_knote-key key ks k is) here)

  pub notified-law : (views : Views) (posted : List Posted) (kq : Kqueue h) → IsSound kq
      → IsNotified kq (notified views posted kq)
  unfolding notified
  notified-law views posted kq sound = record {
    order = alerted_in_order views posted kq.knotes;
    queue = queue_is;
    sound = record { own_keys = own; once = subst AreOnce (sym queue_is) once; waiting = waiting };
  }
    where
      after : List (Knote h)
      after = knotes_alerted views posted kq.knotes

      own : HaveOwnKeys after
      own = HaveOwnKeys-alerting views posted kq.knotes sound.own_keys

      there : Key → Bool
      there key = is_some (find_knote key after)

      found_is : (key : Key) → find_knote key after ≡ option_and_then (left views posted) (find_knote key kq.knotes)
      found_is key = find_knote-alerting views posted key kq.knotes sound.own_keys

      stays : (key : Key) → has_key key kq.queue ≡ true → not (is_gone views posted kq.knotes key) ≡ there key
      stays key queued =
          ap not (is_gone-found views posted key kq.knotes sound.own_keys)
          ∙ waiting_stays views posted (find_knote key kq.knotes) (sym (sound.waiting key) ∙ queued)
          ∙ ap is_some (sym (found_is key))

      begin : List Key
      begin = keys_of (filter (begins_to_wait kq.queue) after)

      queue_is : queue_after_all views posted kq.knotes kq.queue ≡ filter there kq.queue ++ begin
      queue_is =
          queue_after_all-is views posted kq.knotes kq.queue sound.own_keys
          (AreQueued-from views posted kq.knotes kq.queue sound.own_keys (λ key _. sound.waiting key))
          ∙ ap (λ xs. xs ++ begin)
          (filter_agree_among (λ key. not (is_gone views posted kq.knotes key)) there kq.queue stays)

      begins : (key : Key) → has_key key begin ≡ passes (begins_to_wait kq.queue) (find_knote key after)
      begins key = has_key-kept (begins_to_wait kq.queue) key after own

      once : AreOnce (filter there kq.queue ++ begin)
      once =
          AreOnce-append (filter there kq.queue) begin (AreOnce-filter there kq.queue sound.once)
          (AreOnce-kept (begins_to_wait kq.queue) after own)
          (λ key queued. begins key ∙ begins-queued kq.queue after key (find_knote key after) refl
          (and_parts (has_key key kq.queue) (there key) (sym (has_key-filter there key kq.queue) ∙ queued)).0)

      waiting : (key : Key) → has_key key (queue_after_all views posted kq.knotes kq.queue) ≡ is_waiting (find_knote key after)
      waiting key =
          ap (has_key key) queue_is ∙ has_key-append key (filter there kq.queue) begin
          ∙ ap (λ b. b || has_key key begin) (has_key-filter there key kq.queue)
          ∙ ap (λ b. (has_key key kq.queue && there key) || b) (begins key)
          ∙ ap (λ b. (b && there key) || passes (begins_to_wait kq.queue) (find_knote key after)) (sound.waiting key)
          ∙ ap (λ f. (is_waiting (find_knote key kq.knotes) && is_some f) || passes (begins_to_wait kq.queue) f) (found_is key)
          ∙ found_waiting views posted kq.queue key kq.knotes (find_knote key kq.knotes) refl (sound.waiting key)
          ∙ ap is_waiting (sym (found_is key))

-- The kqueue stays sound through each turn of a retrieval.
use Rattle.std.proofs.Common.{◌≡◌, ℕ, Option, Bool, true, false, cond, not, ◌&&◌, ◌||◌, List, [], ◌∷◌, ◌++◌, Some, None, refl, sym, ap, ◌∙◌, subst}
use Rattle.std.proofs.lemmas.Bool.{true≢false, or_left}
use Rattle.std.specs.Option.{option_map}
use Rattle.kq_model.specs.declared.key.Key.{Key}
use Rattle.kq_model.specs.Tallying.{tallying}
use Rattle.kq_model.specs.Knote.{key_eq, has_key, find_knote, with_knote, without_knote}
use Rattle.kq_model.specs.Kqueue.{HaveOwnKeys, is_waiting, IsSound}
use Rattle.kq_model.specs.Look.{Seen, look}
use Rattle.kq_model.specs.Retrieval.{reset, rested, knotes_after, stays, back_after, with_idle, without_notice, with_notice_told, settled, with_delivered}
use Rattle.kq_model.specs.Views.{Views}
use Rattle.kq_model.specs.Tallied.{Knote}
use Rattle.kq_model.proofs.KeyLaws.{same_key, key_eq-refl, key_eq-sym}
use Rattle.kq_model.proofs.KnoteLaws.{by_test, find_knote-key, find_knote-with_same, find_knote-with_other, find_knote-without_same, find_knote-without_other, HaveOwnKeys-with, HaveOwnKeys-without}
use Rattle.kq_kevent.proofs.QueueLaws.{has_key-push_same, has_key-push_other, AreOnce-push}
use Rattle.kq_kevent.proofs.SoundLaws.{waiting-none, waiting-some}

-- another key is in the queue as it was before the front was taken out
other_waits : (key other : Key) (rest : List Key) → key_eq key other ≡ false
    → has_key other (key ∷ rest) ≡ has_key other rest
other_waits key other rest apart = ap (λ b. b || has_key other rest) (key_eq-sym other key ∙ apart)

-- the front is taken out, and its knote waits no more
IsSound-off : (ks after : List Knote) (key : Key) (rest : List Key)
    → IsSound (record { knotes = ks; queue = key ∷ rest }) → HaveOwnKeys after
    → is_waiting (find_knote key after) ≡ false
    → ((other : Key) → key_eq key other ≡ false → find_knote other after ≡ find_knote other ks)
    → IsSound (record { knotes = after; queue = rest })
IsSound-off ks after key rest sound own off others = record {
  own_keys = own;
  once = sound.once.1;
  waiting = λ other.
      by_test (λ b. key_eq key other ≡ b → has_key other rest ≡ is_waiting (find_knote other after)) (key_eq key other)
      (λ _ same. subst (λ (o : Key). has_key o rest ≡ is_waiting (find_knote o after)) (same_key key other same)
      (sound.once.0 ∙ sym off))
      (λ _ apart. sym (other_waits key other rest apart) ∙ sound.waiting other
      ∙ ap is_waiting (sym (others other apart))) refl;
}

-- a knote that is not active takes its place
IsSound-idled : (ks : List Knote) (key : Key) (rest : List Key) (k idle : Knote)
    → IsSound (record { knotes = ks; queue = key ∷ rest }) → find_knote key ks ≡ Some k → idle.key ≡ k.key
    → idle.active ≡ false → IsSound (record { knotes = with_knote idle ks; queue = rest })
IsSound-idled ks key rest k idle sound here same inactive =
    let at : key ≡ idle.key = find_knote-key key ks k here ∙ sym same in
    IsSound-off ks (with_knote idle ks) key rest sound (HaveOwnKeys-with idle ks sound.own_keys)
    (ap (λ o. is_waiting (find_knote o (with_knote idle ks))) at
    ∙ ap is_waiting (find_knote-with_same idle ks ∙ ap (option_map (λ _. idle)) (ap (λ o. find_knote o ks) (sym at)
    ∙ here))
    ∙ waiting-some idle ∙ ap (λ b. b && idle.enabled) inactive)
    (λ other apart. find_knote-with_other other idle ks (ap (λ o. key_eq o other) (sym at) ∙ apart))

pub IsSound-with_idle : (ks : List Knote) (key : Key) (rest : List Key) (k : Knote)
    → IsSound (record { knotes = ks; queue = key ∷ rest }) → find_knote key ks ≡ Some k
    → IsSound (with_idle k (record { knotes = ks; queue = rest }))
IsSound-with_idle ks key rest k sound here =
    IsSound-idled ks key rest k (record k { active = false }) sound here refl refl

pub rested-key : (k : Knote) → (rested k).key ≡ k.key
unfolding rested reset
rested-key k =
    by_test (λ b. (cond b (record k { seen = tallying.empty; triggered = false }) k).key ≡ k.key) k.clear (λ _. refl)
    (λ _. refl)

rested-active : (k : Knote) → (rested k).active ≡ false
unfolding rested
rested-active k = refl

abbrev knotes_by : Knote → List Knote → Bool → Bool → List Knote
knotes_by k ks oneshot rests = cond oneshot (without_knote k.key ks) (cond rests (with_knote (rested k) ks) ks)

abbrev back_by : Knote → List Key → Bool → List Key
back_by k rest leaves = cond (not leaves) (rest ++ k.key ∷ []) rest

or_assoc : (a b c : Bool) → a || b || c ≡ a || (b || c)
or_assoc true b c = refl
or_assoc false b c = refl

-- the front goes to the back
to_back : (ks : List Knote) (key : Key) (rest : List Key) → IsSound (record { knotes = ks; queue = key ∷ rest })
    → IsSound (record { knotes = ks; queue = rest ++ key ∷ [] })
to_back ks key rest sound = record {
  own_keys = sound.own_keys;
  once = AreOnce-push key rest sound.once.1 sound.once.0;
  waiting = λ other.
      by_test (λ b. key_eq key other ≡ b → has_key other (rest ++ key ∷ []) ≡ is_waiting (find_knote other ks))
      (key_eq key other)
      (λ _ same. subst (λ (o : Key). has_key o (rest ++ key ∷ []) ≡ is_waiting (find_knote o ks))
      (same_key key other same)
      (has_key-push_same key rest ∙ sym (or_left (key_eq key key) (has_key key rest) (key_eq-refl key))
      ∙ sound.waiting key))
      (λ _ apart. has_key-push_other other key rest apart ∙ sym (other_waits key other rest apart)
      ∙ sound.waiting other) refl;
}

-- a knote that waits where the one of its key did takes its place
IsSound-same : (ks : List Knote) (queue : List Key) (k next : Knote) → IsSound (record { knotes = ks; queue = queue })
    → find_knote next.key ks ≡ Some k → is_waiting (Some next) ≡ is_waiting (Some k)
    → IsSound (record { knotes = with_knote next ks; queue = queue })
IsSound-same ks queue k next sound here same = record {
  own_keys = HaveOwnKeys-with next ks sound.own_keys;
  once = sound.once;
  waiting = λ other.
      by_test (λ b. key_eq next.key other ≡ b → has_key other queue ≡ is_waiting (find_knote other (with_knote next ks)))
      (key_eq next.key other)
      (λ _ at. subst (λ (o : Key). has_key o queue ≡ is_waiting (find_knote o (with_knote next ks))) (same_key next.key other at)
      (sound.waiting next.key ∙ ap is_waiting here ∙ sym same
      ∙ ap is_waiting (sym (find_knote-with_same next ks ∙ ap (option_map (λ _. next)) here))))
      (λ _ apart. sound.waiting other ∙ ap is_waiting (sym (find_knote-with_other other next ks apart))) refl;
}

-- a knote whose notice was told
IsSound-told : (ks : List Knote) (key : Key) (rest : List Key) (k : Knote) (seen : Option Seen)
    → IsSound (record { knotes = ks; queue = key ∷ rest }) → find_knote key ks ≡ Some k
    → IsSound (with_notice_told (without_notice k) (record { knotes = ks; queue = rest }) seen)
unfolding with_notice_told is_waiting
IsSound-told ks key rest k None sound here =
    IsSound-idled ks key rest k (record (without_notice k) { active = false }) sound here refl refl
IsSound-told ks key rest k (Some seen) sound here =
    let at : key ≡ k.key = find_knote-key key ks k here in
    subst (λ (o : Key). IsSound (record { knotes = with_knote (without_notice k) ks; queue = rest ++ o ∷ [] })) at
    (to_back (with_knote (without_notice k) ks) key rest
    (IsSound-same ks (key ∷ rest) k (without_notice k) sound (ap (λ o. find_knote o ks) (sym at) ∙ here) refl))

IsSound-untold : (ks : List Knote) (key : Key) (rest : List Key) (k : Knote)
    → IsSound (record { knotes = ks; queue = key ∷ rest }) → find_knote key ks ≡ Some k
    → IsSound (record { knotes = knotes_after k ks; queue = back_after k rest })
unfolding knotes_after back_after stays
IsSound-untold ks key rest k sound here =
    let at : key ≡ k.key = find_knote-key key ks k here in
    rw (or_assoc k.oneshot k.clear k.dispatch)
    (by_test
    (λ o. IsSound
    (record {
      knotes = knotes_by k ks o (k.clear || k.dispatch);
      queue = back_by k rest
          (o || (k.clear || k.dispatch));
    })) k.oneshot
    (λ _. subst (λ (o : Key). IsSound (record { knotes = without_knote o ks; queue = rest })) at
    (IsSound-off ks (without_knote key ks) key rest sound (HaveOwnKeys-without key ks sound.own_keys)
    (ap is_waiting (find_knote-without_same key ks) ∙ waiting-none)
    (λ other apart. find_knote-without_other other key ks apart)))
    (λ _. by_test (λ r. IsSound (record { knotes = knotes_by k ks false r; queue = back_by k rest r }))
    (k.clear || k.dispatch)
    (λ _. IsSound-idled ks key rest k (rested k) sound here (rested-key k) (rested-active k))
    (λ _. subst (λ (o : Key). IsSound (record { knotes = ks; queue = rest ++ o ∷ [] })) at
    (to_back ks key rest sound))))

pub IsSound-with_delivered : (views : Views) (ks : List Knote) (key : Key) (rest : List Key) (k : Knote)
    → IsSound (record { knotes = ks; queue = key ∷ rest }) → find_knote key ks ≡ Some k
    → IsSound (with_delivered views k (record { knotes = ks; queue = rest }))
unfolding settled
IsSound-with_delivered views ks key rest k sound here = by k.notice
  where
    by : (notice : Option ℕ) → IsSound (settled views k (record { knotes = ks; queue = rest }) notice)
    by None = IsSound-untold ks key rest k sound here
    by (Some parent) = IsSound-told ks key rest k (look views (without_notice k)) sound here

-- the front of a sound queue has a knote
pub front_present : (ks : List Knote) (key : Key) (rest : List Key)
    → IsSound (record { knotes = ks; queue = key ∷ rest }) → find_knote key ks ≡ None → ⊥
front_present ks key rest sound absent =
    true≢false (sym (or_left (key_eq key key) (has_key key rest) (key_eq-refl key)) ∙ sound.waiting key
    ∙ ap is_waiting absent ∙ waiting-none)

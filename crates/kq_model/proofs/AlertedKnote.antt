-- One knote that hints are for: what they leave of it, and its key in the queue.
use Rattle.std.proofs.Common.{◌≡◌, Bool, true, false, cond, not, ◌&&◌, ◌||◌, List, [], ◌∷◌, ◌++◌, filter, Option, Some, None, refl, sym, ap, ◌∙◌}
use Rattle.std.proofs.lemmas.Bool.{cond_both, true≢false}
use Rattle.std.proofs.lemmas.List.{append-nil}
use Rattle.kq_model.specs.declared.key.Key.{Key}
use Rattle.kq_model.specs.declared.object.Hint.{Hint}
use Rattle.kq_model.specs.ChangedKnote.{activated}
use Rattle.kq_model.specs.Hearing.{Hearing}
use Rattle.kq_model.specs.HintLaws.{begins_to_wait}
use Rattle.kq_model.specs.Hints.{kept, added, heard_by, hears_exit, unless_silent, alerted, if_there, queue_with, queue_alerted}
use Rattle.kq_model.specs.Knote.{Knote, has_nothing, key_eq, has_key, without_key, find_knote}
use Rattle.kq_model.specs.Look.{Seen, look}
use Rattle.kq_model.specs.Registration.{queue_for}
use Rattle.kq_model.specs.RegistrationLaws.{keys_of}
use Rattle.kq_model.specs.Views.{Views}
use Rattle.kq_model.proofs.KeyLists.{and_off, without_key-absent}
use Rattle.kq_model.proofs.KnoteLaws.{found_or, find_knote-none, find_knote-here, find_knote-later}

-- ---- tests

-- a knote that waits already does not begin to
waits_already : (active enabled here : Bool) → here ≡ active && enabled → active && enabled && not here ≡ false
waits_already true true here is = ap not is
waits_already true false here is = refl
waits_already false enabled here is = refl

pub neither : (a b : Bool) → not a && not b ≡ not ((a && true) || b)
neither true b = refl
neither false b = refl

-- before and after one record, whether a knote waits
pub waits_after : (active enabled now : Bool) → (active ≡ true → now ≡ true)
    → ((active && enabled) && true) || (now && enabled && not (active && enabled)) ≡ now && enabled
waits_after true true true stays = refl
waits_after true true false stays = absurd (true≢false (sym (stays refl)))
waits_after true false true stays = refl
waits_after true false false stays = refl
waits_after false true true stays = refl
waits_after false true false stays = refl
waits_after false false true stays = refl
waits_after false false false stays = refl

-- the other keys are in both lists or in neither
abbrev pub AgreeBesides : Key → List Key → List Key → Type 0
AgreeBesides key queue after = (other : Key) → key_eq key other ≡ false → has_key other after ≡ has_key other queue

module _ {S : Type 0} {h : Hearing S} where
  -- ---- one knote: it keeps its key, is enabled as before, and does not cease to be active

  abbrev AreAlike : Knote h → Knote h → Type 0
  AreAlike k x = (x.key ≡ k.key) × (x.enabled ≡ k.enabled) × (x.active ≡ k.active)

  abbrev pub Follows : Knote h → Option (Knote h) → Type 0
  Follows k None = Unit {0}
  Follows k (Some x) = (x.key ≡ k.key) × (x.enabled ≡ k.enabled) × (k.active ≡ true → x.active ≡ true)

  added-alike : (hint : Option Hint) (k : Knote h) → AreAlike k (added hint k)
  unfolding added
  added-alike None k = (refl, refl, refl)
  added-alike (Some hint) k = (refl, refl, refl)

  heard_by-alike : (hints : List Hint) (k : Knote h) → AreAlike k (heard_by hints k)
  unfolding heard_by
  heard_by-alike [] k = (refl, refl, refl)
  heard_by-alike (hint ∷ hints) k =
      let first = added-alike (kept k.fflags hint) k in
      let later = heard_by-alike hints (added (kept k.fflags hint) k) in
      (later.0 ∙ first.0, later.1 ∙ first.1, later.2 ∙ first.2)

  activated-follows : (seen : Option Seen) (k x : Knote h) → AreAlike k x → Follows k (Some (activated seen x))
  unfolding activated
  activated-follows None k x alike = (alike.0, alike.1, λ active. alike.2 ∙ active)
  activated-follows (Some seen) k x alike = (alike.0, alike.1, λ active. refl)

  unless_silent-follows : (exits : Bool) (k x : Knote h) → Follows k (Some x) → Follows k (unless_silent exits x)
  unfolding unless_silent
  unless_silent-follows false k x follows = follows
  unless_silent-follows true k x follows = cond_both (has_nothing x) _ _ (Follows k) (λ _. tt) (λ _. follows)

  pub alerted-follows : (views : Views) (hints : List Hint) (k : Knote h) → Follows k (alerted views hints k)
  unfolding alerted
  alerted-follows views [] k = (refl, refl, λ active. active)
  alerted-follows views (hint ∷ hints) k =
      let heard = heard_by (hint ∷ hints) k in
      unless_silent-follows (hears_exit (hint ∷ hints) k) k (activated (look views heard) heard)
      (activated-follows (look views heard) k heard (heard_by-alike (hint ∷ hints) k))

  -- ---- the queue for one knote: out where it is gone, and else what was there and perhaps its key behind it

  abbrev pub staying : Key → Option (Knote h) → List Key → List Key
  staying key None queue = without_key key queue
  staying key (Some x) queue = queue

  abbrev pub coming : Option (Knote h) → List Key → List Key
  coming found queue = keys_of (filter (begins_to_wait queue) (if_there found))

  put_by : (x : Knote h) (queue : List Key) (active enabled here : Bool)
      → (enabled ≡ false → without_key x.key queue ≡ queue)
      → cond enabled (cond active (cond here queue (queue ++ x.key ∷ [])) queue) (without_key x.key queue)
      ≡ queue ++ keys_of (cond (active && enabled && not here) (x ∷ []) [])
  put_by x queue true true true absent = sym (append-nil queue)
  put_by x queue true true false absent = refl
  put_by x queue false true here absent = sym (append-nil queue)
  put_by x queue true false here absent = absent refl ∙ sym (append-nil queue)
  put_by x queue false false here absent = absent refl ∙ sym (append-nil queue)

  queue_for-is : (x : Knote h) (queue : List Key) → (x.enabled ≡ false → without_key x.key queue ≡ queue)
      → queue_for x queue ≡ queue ++ coming (Some x) queue
  unfolding queue_for if_there
  queue_for-is x queue absent = put_by x queue x.active x.enabled (has_key x.key queue) absent

  queue_with-is : (k : Knote h) (found : Option (Knote h)) (queue : List Key) → Follows k found
      → has_key k.key queue ≡ k.active && k.enabled
      → queue_with k.key found queue ≡ staying k.key found queue ++ coming found queue
  unfolding queue_with if_there
  queue_with-is k None queue follows waits = sym (append-nil (without_key k.key queue))
  queue_with-is k (Some x) queue follows waits =
      queue_for-is x queue (λ disabled. without_key-absent x.key queue
      (ap (λ (o : Key). has_key o queue) follows.0 ∙ waits ∙ and_off k.active k.enabled (sym follows.1 ∙ disabled)))

  pub queue_alerted-is : (views : Views) (hints : List Hint) (k : Knote h) (queue : List Key)
      → has_key k.key queue ≡ k.active && k.enabled
      → queue_alerted views hints k queue
      ≡ staying k.key (alerted views hints k) queue ++ coming (alerted views hints k) queue
  unfolding queue_alerted alerted if_there
  queue_alerted-is views [] k queue waits =
      sym (ap (λ b. queue ++ keys_of (cond b (k ∷ []) [])) (waits_already k.active k.enabled (has_key k.key queue) waits)
      ∙ append-nil queue)
  queue_alerted-is views (hint ∷ hints) k queue waits =
      queue_with-is k (alerted views (hint ∷ hints) k) queue (alerted-follows views (hint ∷ hints) k) waits

  -- ---- what is found among the knotes afterwards

  pub if_there-other : (key : Key) (k : Knote h) (found : Option (Knote h)) → Follows k found → key_eq key k.key ≡ false
      → find_knote key (if_there found) ≡ None
  unfolding if_there
  if_there-other key k None follows apart = find_knote-none h key
  if_there-other key k (Some x) follows apart =
      find_knote-later key x [] (ap (key_eq key) follows.0 ∙ apart) ∙ find_knote-none h key

  pub if_there-same : (key : Key) (k : Knote h) (found : Option (Knote h)) → Follows k found → key_eq key k.key ≡ true
      → find_knote key (if_there found) ≡ found
  unfolding if_there
  if_there-same key k None follows same = find_knote-none h key
  if_there-same key k (Some x) follows same = find_knote-here key x [] (ap (key_eq key) follows.0 ∙ same)

  pub or_nothing : (found : Option (Knote h)) → found_or found None ≡ found
  or_nothing None = refl
  or_nothing (Some x) = refl

-- A retrieval commutes with a change of how what was heard is kept, and gives the same events.
use Rattle.std.proofs.Common.{◌≡◌, ℕ, zero, suc, false, cond, ◌||◌, List, [], ◌∷◌, ◌++◌, map, Option, Some, None, refl, sym, ap, ◌∙◌}
use Rattle.std.specs.Option.{option_map}
use Rattle.kq_model.specs.declared.filter.Filter.{Filter}
use Rattle.kq_model.specs.declared.kevent.Kevent.{Kevent}
use Rattle.kq_model.specs.declared.key.Key.{Key}
use Rattle.kq_model.specs.Hearing.{Hearing}
use Rattle.kq_model.specs.Knote.{Knote, find_knote, with_knote, without_knote}
use Rattle.kq_model.specs.Kqueue.{Kqueue}
use Rattle.kq_model.specs.Look.{Seen, look}
use Rattle.kq_model.specs.Recast.{IsHearingMap, recast, recast_kqueue}
use Rattle.kq_model.specs.Retrieval.{Retrieved, Turned, event_flags, event_of, reset, rested, knotes_after, stays, back_after, with_delivered, turned_at_look, turned_at, turned, delivered, after_turn, retrieve, retrieval, without_notice, with_notice_told, settled}
use Rattle.kq_model.specs.Views.{Views}
use Rattle.kq_model.proofs.RecastKnote.{cond-map, find_knote-recast, with_knote-recast, without_knote-recast, look-recast}

module _ {S T : Type 0} {h : Hearing S} {g : Hearing T} {f : Filter → S → T} (is : IsHearingMap h g f) where
  abbrev re : Knote h → Knote g
  re k = recast g f k

  abbrev re_kq : Kqueue h → Kqueue g
  re_kq kq = recast_kqueue g f kq

  abbrev kqueue : List (Knote g) → List Key → Kqueue g
  kqueue knotes queue = record { knotes = knotes; queue = queue }

  abbrev recast_turned : Turned h → Turned g
  recast_turned t = record { kq = re_kq t.kq; event = t.event }

  abbrev pub recast_retrieved : Retrieved h → Retrieved g
  recast_retrieved r = record { kq = re_kq r.kq; events = r.events }

  event_of-recast : (k : Knote h) (seen : Seen) → event_of (re k) seen ≡ event_of k seen
  unfolding event_of event_flags
  event_of-recast k seen = refl

  -- a knote that heard something else
  abbrev hearing : Knote g → T → Knote g
  hearing k s = record k { seen = s }

  reset-recast : (k : Knote h) → reset (re k) ≡ re (reset k)
  unfolding reset
  reset-recast k =
      ap (λ s. cond k.clear (record (re k) { seen = s; triggered = false }) (re k)) (sym (is.empty k.key.filter))
      ∙ sym (cond-map re k.clear (record k { seen = h.empty; triggered = false }) k)

  abbrev resting : Knote g → Knote g → Knote g
  resting k r = record r { active = false; enabled = (rested k).enabled }

  rested-recast : (k : Knote h) → rested (re k) ≡ re (rested k)
  unfolding rested
  rested-recast k = ap (resting (re k)) (reset-recast k)

  knotes_after-recast : (k : Knote h) (ks : List (Knote h)) → knotes_after (re k) (map re ks) ≡ map re (knotes_after k ks)
  unfolding knotes_after
  knotes_after-recast k ks =
      ap (λ gone. cond k.oneshot gone (cond (k.clear || k.dispatch) (with_knote (rested (re k)) (map re ks)) (map re ks))) (without_knote-recast is k.key ks)
      ∙ ap (λ r. cond k.oneshot (map re (without_knote k.key ks)) (cond (k.clear || k.dispatch) (with_knote r (map re ks)) (map re ks))) (rested-recast k)
      ∙ ap (λ put. cond k.oneshot (map re (without_knote k.key ks)) (cond (k.clear || k.dispatch) put (map re ks))) (with_knote-recast is (rested k) ks)
      ∙ ap (λ stay. cond k.oneshot (map re (without_knote k.key ks)) stay) (sym (cond-map (map re) (k.clear || k.dispatch) (with_knote (rested k) ks) ks))
      ∙ sym (cond-map (map re) k.oneshot (without_knote k.key ks) (cond (k.clear || k.dispatch) (with_knote (rested k) ks) ks))

  back_after-recast : (k : Knote h) (back : List Key) → back_after (re k) back ≡ back_after k back
  unfolding back_after stays
  back_after-recast k back = refl

  -- ---- one turn

  with_told-recast : (k : Knote h) (kq : Kqueue h) (seen : Option Seen) → with_notice_told (re k) (re_kq kq) seen ≡ re_kq (with_notice_told k kq seen)
  unfolding with_notice_told
  with_told-recast k kq None = ap (λ ks. kqueue ks kq.queue) (with_knote-recast is (record k { active = false }) kq.knotes)
  with_told-recast k kq (Some seen) = ap (λ ks. kqueue ks (kq.queue ++ k.key ∷ [])) (with_knote-recast is k kq.knotes)

  settled-recast : (views : Views) (k : Knote h) (kq : Kqueue h) (notice : Option ℕ) → settled views (re k) (re_kq kq) notice ≡ re_kq (settled views k kq notice)
  unfolding settled
  settled-recast views k kq None =
      ap (λ ks. kqueue ks (back_after (re k) kq.queue)) (knotes_after-recast k kq.knotes)
      ∙ ap (kqueue (map re (knotes_after k kq.knotes))) (back_after-recast k kq.queue)
  settled-recast views k kq (Some parent) =
      ap (with_notice_told (re (without_notice k)) (re_kq kq)) (look-recast is views (without_notice k))
      ∙ with_told-recast (without_notice k) kq (look views (without_notice k))

  turned_at_look-recast : (views : Views) (k : Knote h) (kq : Kqueue h) (seen : Option Seen)
      → turned_at_look views (re k) (re_kq kq) seen ≡ recast_turned (turned_at_look views k kq seen)
  unfolding turned_at_look
  turned_at_look-recast views k kq None = ap (λ ks. idle (kqueue ks kq.queue)) (with_knote-recast is (record k { active = false }) kq.knotes)
    where
      idle : Kqueue g → Turned g
      idle left = record { kq = left; event = None }
  turned_at_look-recast views k kq (Some seen) =
      ap (λ left. given left (event_of (re k) seen)) (settled-recast views k kq k.notice)
      ∙ ap (given (re_kq (with_delivered views k kq))) (event_of-recast k seen)
    where
      given : Kqueue g → Kevent → Turned g
      given left event = record { kq = left; event = Some event }

  turned_at-recast : (views : Views) (kq : Kqueue h) (found : Option (Knote h)) → turned_at views (re_kq kq) (option_map re found) ≡ recast_turned (turned_at views kq found)
  unfolding turned_at
  turned_at-recast views kq None = refl
  turned_at-recast views kq (Some k) =
      ap (turned_at_look views (re k) (re_kq kq)) (look-recast is views k) ∙ turned_at_look-recast views k kq (look views k)

  turned-recast : (views : Views) (key : Key) (kq : Kqueue h) → turned views key (re_kq kq) ≡ recast_turned (turned views key kq)
  unfolding turned
  turned-recast views key kq =
      ap (turned_at views (re_kq kq)) (find_knote-recast is key kq.knotes) ∙ turned_at-recast views kq (find_knote key kq.knotes)

  -- ---- the retrieval

  delivered-recast : (event : Kevent) (r : Retrieved h) → delivered event (recast_retrieved r) ≡ recast_retrieved (delivered event r)
  unfolding delivered
  delivered-recast event r = refl

  after_turn-recast : (rest : ℕ → Kqueue g → Retrieved g) (other : ℕ → Kqueue h → Retrieved h) → ((room : ℕ) (kq : Kqueue h) → rest room (re_kq kq) ≡ recast_retrieved (other room kq))
      → (room : ℕ) (kq : Kqueue h) (event : Option Kevent) → after_turn rest room (re_kq kq) event ≡ recast_retrieved (after_turn other room kq event)
  unfolding after_turn
  after_turn-recast rest other same room kq None = same (suc room) kq
  after_turn-recast rest other same room kq (Some event) = ap (delivered event) (same room kq) ∙ delivered-recast event (other room kq)

  pub retrieve-recast : (views : Views) (keys : List Key) (room : ℕ) (kq : Kqueue h) → retrieve views keys room (re_kq kq) ≡ recast_retrieved (retrieve views keys room kq)
  unfolding retrieve
  retrieve-recast views [] room kq = refl
  retrieve-recast views (key ∷ keys) zero kq = refl
  retrieve-recast views (key ∷ keys) (suc room) kq =
      ap (λ (t : Turned g). after_turn (retrieve views keys) room t.kq t.event) (turned-recast views key kq)
      ∙ after_turn-recast (retrieve views keys) (retrieve views keys) (retrieve-recast views keys) room (turned views key kq).kq (turned views key kq).event

  pub retrieval-recast : (views : Views) (room : ℕ) (kq : Kqueue h) → retrieval views room (re_kq kq) ≡ recast_retrieved (retrieval views room kq)
  unfolding retrieval
  retrieval-recast views room kq = retrieve-recast views kq.queue room (record kq { queue = [] })

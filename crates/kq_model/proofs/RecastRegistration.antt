-- A registration commutes with a change of how what was heard is kept.
use Rattle.std.proofs.Common.{◌≡◌, true, false, cond, List, [], ◌∷◌, ◌++◌, map, Option, Some, None, refl, sym, ap, ◌∙◌}
use Rattle.std.proofs.lemmas.List.{map-append}
use Rattle.std.specs.Option.{option_map}
use Rattle.kq_model.specs.declared.change.Change.{Change}
use Rattle.kq_model.specs.declared.errno.Errno.{Errno}
use Rattle.kq_model.specs.declared.errno.Errno.TheVariants.{ENOENT, EBADF, EINVAL}
use Rattle.kq_model.specs.declared.filter.Filter.{Filter}
use Rattle.kq_model.specs.declared.key.Key.{Key}
use Rattle.kq_model.specs.Bits.{asks, add, delete}
use Rattle.kq_model.specs.Caller.{Caller}
use Rattle.kq_model.specs.ChangedKnote.{key_of, made, modified}
use Rattle.kq_model.specs.Hearing.{Hearing}
use Rattle.kq_model.specs.Knote.{Knote, find_knote}
use Rattle.kq_model.specs.Kqueue.{Kqueue}
use Rattle.kq_model.specs.Recast.{IsHearingMap, recast, recast_kqueue}
use Rattle.kq_model.specs.Refusals.{is_malformed, is_unopened, own_refusal}
use Rattle.kq_model.specs.Registration.{Decision, Refuse, Remove, Make, Modify, Registered, unless_refused, decided, decision, queue_for, with_made, with_removed, with_modified, without_restarted, carried_out, register}
use Rattle.kq_model.proofs.RecastKnote.{cond-map, find_knote-recast, with_knote-recast, without_knote-recast, made-recast, modified-recast}

module _ {S T : Type 0} {h : Hearing S} {g : Hearing T} {f : Filter → S → T} (is : IsHearingMap h g f) where
  abbrev re : Knote h → Knote g
  re k = recast g f k

  abbrev re_kq : Kqueue h → Kqueue g
  re_kq kq = recast_kqueue g f kq

  abbrev kqueue : List (Knote g) → List Key → Kqueue g
  kqueue knotes queue = record { knotes = knotes; queue = queue }

  recast_decision : Decision h → Decision g
  recast_decision (Refuse e) = Refuse e
  recast_decision Remove = Remove
  recast_decision Make = Make
  recast_decision (Modify k) = Modify (re k)

  abbrev pub recast_registered : Registered h → Registered g
  recast_registered r = record { kq = re_kq r.kq; error = r.error }

  unless_refused-recast : (e : Option Errno) (d : Decision h) → unless_refused e (recast_decision d) ≡ recast_decision (unless_refused e d)
  unfolding unless_refused recast_decision
  unless_refused-recast None d = refl
  unless_refused-recast (Some e) d = refl

  decided-recast : (caller : Caller) (present : Option (Knote h)) (c : Change) → decided caller (option_map re present) c ≡ recast_decision (decided caller present c)
  unfolding decided recast_decision
  decided-recast caller None c =
      ap (λ d. cond (asks c.flags add) d (Refuse ENOENT)) (unless_refused-recast (own_refusal c.filter caller true c) Make)
      ∙ sym (cond-map recast_decision (asks c.flags add) _ _)
  decided-recast caller (Some k) c =
      ap (λ d. cond (asks c.flags delete) Remove (cond (asks c.flags add) d (Modify (re k))))
      (unless_refused-recast (own_refusal c.filter caller false c) (Modify k))
      ∙ ap (λ d. cond (asks c.flags delete) Remove d) (sym (cond-map recast_decision (asks c.flags add) _ _))
      ∙ sym (cond-map recast_decision (asks c.flags delete) _ _)

  decision-recast : (caller : Caller) (present : Option (Knote h)) (c : Change) → decision caller (option_map re present) c ≡ recast_decision (decision caller present c)
  unfolding decision recast_decision
  decision-recast caller present c =
      ap (λ d. cond (is_malformed c) (Refuse EINVAL) (cond (is_unopened caller c) (Refuse EBADF) d)) (decided-recast caller present c)
      ∙ ap (λ d. cond (is_malformed c) (Refuse EINVAL) d) (sym (cond-map recast_decision (is_unopened caller c) _ _))
      ∙ sym (cond-map recast_decision (is_malformed c) _ _)

  -- ---- the kqueue

  pub queue_for-recast : (k : Knote h) (queue : List Key) → queue_for (re k) queue ≡ queue_for k queue
  unfolding queue_for
  queue_for-recast k queue = refl

  with_made-recast : (k : Knote h) (kq : Kqueue h) → with_made (re k) (re_kq kq) ≡ re_kq (with_made k kq)
  with_made-recast k kq =
      ap (λ ks. kqueue ks (queue_for (re k) kq.queue)) (sym (map-append re kq.knotes (k ∷ [])))
      ∙ ap (kqueue (map re (kq.knotes ++ k ∷ []))) (queue_for-recast k kq.queue)

  with_removed-recast : (key : Key) (kq : Kqueue h) → with_removed key (re_kq kq) ≡ re_kq (with_removed key kq)
  with_removed-recast key kq = ap (λ ks. kqueue ks (with_removed key kq).queue) (without_knote-recast is key kq.knotes)

  with_modified-recast : (c : Change) (k : Knote h) (kq : Kqueue h) → with_modified c (re k) (re_kq kq) ≡ re_kq (with_modified c k kq)
  with_modified-recast c k kq =
      ap (λ ks. kqueue ks (queue_for (re k) (without_restarted c kq.queue))) (with_knote-recast is k kq.knotes)
      ∙ ap (kqueue (re_kq (with_modified c k kq)).knotes) (queue_for-recast k (without_restarted c kq.queue))

  abbrev done : Kqueue g → Registered g
  done kq = record { kq = kq; error = None }

  carried_out-recast : (caller : Caller) (c : Change) (kq : Kqueue h) (d : Decision h) → carried_out caller c (re_kq kq) (recast_decision d) ≡ recast_registered (carried_out caller c kq d)
  unfolding carried_out recast_decision
  carried_out-recast caller c kq (Refuse e) = refl
  carried_out-recast caller c kq Remove = ap done (with_removed-recast (key_of c) kq)
  carried_out-recast caller c kq Make =
      ap (λ k. done (with_made k (re_kq kq))) (made-recast is caller c) ∙ ap done (with_made-recast (made caller c) kq)
  carried_out-recast caller c kq (Modify k) =
      ap (λ n. done (with_modified c n (re_kq kq))) (modified-recast is caller c k)
      ∙ ap done (with_modified-recast c (modified caller c k) kq)

  pub register-recast : (caller : Caller) (c : Change) (kq : Kqueue h) → register caller c (re_kq kq) ≡ recast_registered (register caller c kq)
  unfolding register
  register-recast caller c kq =
      let present = find_knote (key_of c) kq.knotes in
      ap (λ p. carried_out caller c (re_kq kq) (decision caller p c)) (find_knote-recast is (key_of c) kq.knotes)
      ∙ ap (carried_out caller c (re_kq kq)) (decision-recast caller present c)
      ∙ carried_out-recast caller c kq (decision caller present c)

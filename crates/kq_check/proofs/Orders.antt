-- What a judgement of events says of their order.
use Rattle.std.proofs.Common.{◌≡◌, ℕ, List, map, take, Option, Some, None, refl, sym, ap, ◌∙◌, subst}
use Rattle.std.specs.List.{filter_map}
use Rattle.kq_judge.specs.declared.member.Ignored.{Ignored}
use Rattle.kq_judge.specs.Allowed.{IsAllowed, ReturnsTheFirst, event_due}
use Rattle.kq_judge.specs.Same.{AreSame}
use Rattle.kq_model.specs.declared.kevent.Kevent.{Kevent}
use Rattle.kq_model.specs.Retrieval.{retrieval}
use Rattle.kq_model.specs.Tallied.{Kqueue, Live, System}
use Rattle.kq_model.specs.Views.{Views}
use Rattle.kq_model.specs.World.{views_of}
use Rattle.kq_check.specs.declared.verdict.Verdict.TheVariants.{Equal, Allowed, Refused}
use Rattle.kq_check.specs.Stepped.{IsInOrder, IsInSome, IsOrder}

-- the kqueue that was judged is the live one, and sees the world of the system
pub record IsThatOne (found : Option Live) (s : System) (views : Views) (kq : Kqueue) : Type 0 where
  pub live : Live
  pub is : found ≡ Some live
  pub kq_is : kq ≡ live.kq
  pub views_is : views ≡ views_of s.world

some_order : (ignored : List Ignored) (room : ℕ) (own : List Kevent) (live : Live) (s : System) (views : Views) (kq : Kqueue)
    → kq ≡ live.kq → views ≡ views_of s.world → IsAllowed ignored views room kq own → IsInSome ignored room live s own
some_order ignored room own live s views kq kq_is views_is allowed =
    let P : Kqueue → Type 0 = λ k. IsAllowed ignored (views_of s.world) room k own in
    let Q : Views → Type 0 = λ v. IsAllowed ignored v room kq own in
    subst P kq_is (subst Q views_is allowed)

some_allowed : (ignored : List Ignored) (room : ℕ) (own : List Kevent) (live : Live) (s : System) (views : Views) (kq : Kqueue)
    → kq ≡ live.kq → views ≡ views_of s.world → IsInSome ignored room live s own → IsAllowed ignored views room kq own
some_allowed ignored room own live s views kq kq_is views_is allowed =
    let P : Kqueue → Type 0 = λ k. IsAllowed ignored (views_of s.world) room k own in
    let Q : Views → Type 0 = λ v. IsAllowed ignored v room kq own in
    subst Q (sym views_is) (subst P (sym kq_is) allowed)

the_events : (room : ℕ) (live : Live) (s : System) (views : Views) (kq : Kqueue) (events : List Kevent)
    → kq ≡ live.kq → views ≡ views_of s.world → events ≡ take room (filter_map (event_due views kq.knotes) kq.queue)
    → ReturnsTheFirst views room kq → events ≡ (retrieval (views_of s.world) room live.kq).events
the_events room live s views kq events kq_is views_is there first =
    there ∙ sym first ∙ ap (λ v. (retrieval v room kq).events) views_is ∙ ap (λ k. (retrieval (views_of s.world) room k).events) kq_is

pub no_kqueue : (ignored : List Ignored) (room : ℕ) (own : List Kevent) (found : Option Live) (s : System)
    → found ≡ None → IsOrder ignored room own found s Refused
no_kqueue ignored room own found s none = rw none refl

pub no_order : (ignored : List Ignored) (room : ℕ) (own : List Kevent) (found : Option Live) (s : System) (views : Views) (kq : Kqueue)
    → IsThatOne found s views kq → (IsAllowed ignored views room kq own → ⊥) → IsOrder ignored room own found s Refused
no_order ignored room own found s views kq one refused =
    rw one.is (λ allowed. refused (some_allowed ignored room own one.live s views kq one.kq_is one.views_is allowed))

pub this_order : (ignored : List Ignored) (room : ℕ) (own : List Kevent) (found : Option Live) (s : System) (views : Views) (kq : Kqueue) (events : List Kevent)
    → IsThatOne found s views kq → events ≡ take room (filter_map (event_due views kq.knotes) kq.queue)
    → ReturnsTheFirst views room kq → AreSame ignored events own → IsOrder ignored room own found s Equal
this_order ignored room own found s views kq events one there first same =
    let P : List Kevent → Type 0 = λ es. AreSame ignored es own in
    rw one.is (subst P (the_events room one.live s views kq events one.kq_is one.views_is there first) same)

pub other_order : (ignored : List Ignored) (room : ℕ) (own : List Kevent) (found : Option Live) (s : System) (views : Views) (kq : Kqueue) (events : List Kevent)
    → IsThatOne found s views kq → events ≡ take room (filter_map (event_due views kq.knotes) kq.queue)
    → ReturnsTheFirst views room kq → (AreSame ignored events own → ⊥) → IsAllowed ignored views room kq own
    → IsOrder ignored room own found s Allowed
other_order ignored room own found s views kq events one there first differs allowed =
    let P : List Kevent → Type 0 = λ es. AreSame ignored es own in
    rw one.is (
      (λ same. differs (subst P (sym (the_events room one.live s views kq events one.kq_is one.views_is there first)) same)),
      some_order ignored room own one.live s views kq one.kq_is one.views_is allowed,
    )

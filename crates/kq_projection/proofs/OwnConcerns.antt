-- What concerns a kqueue that names these stands by rising place, and its records have the rest of its items.
use Rattle.std.proofs.Common.{◌≡◌, ◌<◌, ℕ, suc, ℤ, pos, negsuc, ◌+◌, true, cond, eqb, List, [], ◌∷◌, Option, Some, None, refl, sym, ap, subst, ◌∙◌, arith}
use Rattle.std.proofs.lemmas.List.Elements.{All-head, All-tail}
use Rattle.std.specs.List.{All}
use Rattle.kq_model.specs.declared.change.Change.{Change}
use Rattle.kq_model.specs.declared.event.Event.{Event}
use Rattle.kq_model.specs.declared.event.Event.TheVariants as event
use Rattle.kq_model.specs.declared.object.Named.{Named}
use Rattle.kq_model.specs.declared.object.Named.TheVariants as named
use Rattle.kq_model.specs.Clock.{Span}
use Rattle.kq_model.specs.Moment.{Moment, moment_of}
use Rattle.kq_model.specs.Moments.{moment_by, moments_from, world_by}
use Rattle.kq_model.specs.Objects.{counted}
use Rattle.kq_model.specs.PrivateList.{Concern, concern_of, concerns, own_call, own_clock, private_by}
use Rattle.kq_model.specs.References.{Names}
use Rattle.kq_model.specs.World.{Call, World, Planned, Impossible, Possible, empty_world, named_by}
use Rattle.kq_model.proofs.KnoteLaws.{by_test}
use Rattle.kq_model.proofs.ListedTrace.{moments-listed}
use Rattle.kq_projection.specs.Sayings.{call_of, call_on, clock_of, span_to}
use Rattle.kq_projection.specs.Traced.{Traced, event_at, moments_of}
use Rattle.kq_projection.specs.Recorded.{IsCallOf, IsClockOf}
use Rattle.kq_projection.proofs.ItemByItem.{AreOwn}
use Rattle.kq_projection.proofs.OneConcern.{IsOwn}
use Rattle.kq_projection.proofs.Records.{IsOf, each-record}

-- ---- what a record says has the form of the record

call-on : (pid fd : ℕ) (changes : List Change) (room : ℕ) (found : Option Named) (c : Call) → call_on changes room found ≡ Some c
    → IsCallOf (Some (event.Kevent pid fd changes room)) c.changes c.room
unfolding call_on
call-on pid fd changes room (Some (named.Kqueue place)) c is = (pid, fd, ap (λ (x : Option Call). Some (event.Kevent pid fd (changes_in x) (room_in x))) is)
  where
    changes_in : Option Call → List Change
    changes_in None = changes
    changes_in (Some x) = x.changes

    room_in : Option Call → ℕ
    room_in None = room
    room_in (Some x) = x.room
call-on pid fd changes room _ c is = absurd (cc)

call-record : (e : Event) (w : World counted) (c : Call) → call_of e w ≡ Some c → IsCallOf (Some e) c.changes c.room
unfolding call_of
call-record (event.Kevent pid fd changes room) w c is = call-on pid fd changes room (named_by pid fd w) c is
call-record _ w c is = absurd (cc)

span-on : (ns : ℤ) (now : ℕ) (s : Span) → span_to ns now ≡ Some s → (event.Clock ns ≡ event.Clock (pos s.to)) × (s.from ≡ now)
unfolding span_to
span-on (pos moment) now s is = (ap (λ x. event.Clock (pos (to_in x))) is, sym (ap from_in is))
  where
    to_in : Option Span → ℕ
    to_in None = moment
    to_in (Some x) = x.to

    from_in : Option Span → ℕ
    from_in None = now
    from_in (Some x) = x.from
span-on (negsuc n) now s is = absurd (cc)

clock-record : (e : Event) (now : ℕ) (s : Span) → clock_of e now ≡ Some s → (e ≡ event.Clock (pos s.to)) × (s.from ≡ now)
unfolding clock_of
clock-record (event.Clock ns) now s is = span-on ns now s is
clock-record _ now s is = absurd (cc)

module _ (t : Traced) where
  event-there : (m : Moment) (is : IsOf 1 t.events m) → event_at t m.place ≡ Some is.said
  unfolding event_at
  event-there m is =
      let at : m.place ≡ suc is.before = is.at ∙ omega arith in
      ap (event_at t) at ∙ is.there

  calls : (m : Moment) → IsOf 1 t.events m → (c : Call) → m.call ≡ Some c → IsCallOf (event_at t m.place) c.changes c.room
  calls m is c call =
      let found = call-record is.said is.world c (sym is.call ∙ call) in
      (found.0, found.1, event-there m is ∙ found.2)

  clocks : (m : Moment) → IsOf 1 t.events m → (s : Span) → m.clock ≡ Some s → IsClockOf (event_at t m.place) s.from s.to
  clocks m is s clock =
      let found = clock-record is.said is.world.now s (sym is.clock ∙ clock) in
      (event-there m is ∙ ap Some found.0, omega (arith, is.onward s.to found.0, found.1))

  -- ---- of it what is one kqueue's

  module _ (kqueue owner : ℕ) (ns : Names) where
    own-calls : (call : Option Call) (x : Call) → own_call kqueue call ≡ Some x → (call ≡ Some x) × (eqb x.kqueue kqueue ≡ true)
    unfolding own_call
    own-calls None x is = absurd (cc)
    own-calls (Some c) x is =
        by_test (λ b. eqb c.kqueue kqueue ≡ b → cond b (Some c) None ≡ Some x → (Some c ≡ Some x) × (eqb x.kqueue kqueue ≡ true)) (eqb c.kqueue kqueue)
        (λ _ this same. (same, subst (λ o. eqb (kqueue_in o) kqueue ≡ true) same this)) (λ _ other same. absurd (cc)) refl is
      where
        kqueue_in : Option Call → ℕ
        kqueue_in None = 0
        kqueue_in (Some y) = y.kqueue

    own-clocks : (clock : Option Span) (s : Span) → own_clock ns clock ≡ Some s → clock ≡ Some s
    own-clocks clock s is =
        by_test (λ b. cond b clock None ≡ Some s → clock ≡ Some s) ns.timer (λ _ same. same) (λ _ none. absurd (cc)) is

    own-concern : (m : Moment) → IsOf 1 t.events m → concerns (concern_of kqueue owner ns m) ≡ true → IsOwn t kqueue owner (concern_of kqueue owner ns m)
    own-concern m is some = record {
      some = some;
      calls = λ x own. ((own-calls m.call x own).1, calls m is x (own-calls m.call x own).0);
      clocks = λ s own. clocks m is s (own-clocks m.clock s own);
    }

    kept : (low : ℕ) (m : Moment) (cs : List Concern) → IsOf 1 t.events m → low < m.place
        → AreOwn t kqueue owner low cs → AreOwn t kqueue owner m.place cs
        → AreOwn t kqueue owner low (cond (concerns (concern_of kqueue owner ns m)) (concern_of kqueue owner ns m ∷ cs) cs)
    kept low m cs is after without rest =
        by_test (λ b. concerns (concern_of kqueue owner ns m) ≡ b → AreOwn t kqueue owner low (cond b (concern_of kqueue owner ns m ∷ cs) cs))
        (concerns (concern_of kqueue owner ns m)) (λ _ some. (after, own-concern m is some, rest)) (λ _ _. without) refl

    are-own : (low place : ℕ) (w : World counted) (qs : List Planned) → low < place
        → All (IsOf 1 t.events) (moments_from t.version place w qs)
        → AreOwn t kqueue owner low (private_by kqueue owner ns (moments_from t.version place w qs))
    unfolding moments_from moment_by moment_of
    are-own low place w [] after all = tt
    are-own low place w (Impossible why ∷ qs) after all = are-own low (place + 1) (world_by place (Impossible why) w) qs (omega (arith, after)) all
    are-own low place w (Possible p ∷ qs) after all =
        let m = moment_of t.version place p w in
        let next = world_by place (Possible p) w in
        let later = moments_from t.version (place + 1) next qs in
        let rest = All-tail (IsOf 1 t.events) m later all in
        kept low m (private_by kqueue owner ns later) (All-head (IsOf 1 t.events) m later all) after
        (are-own low (place + 1) next qs (omega (arith, after)) rest) (are-own place (place + 1) next qs (omega arith) rest)

  pub all-own : (kqueue owner : ℕ) (ns : Names) → AreOwn t kqueue owner 0 (private_by kqueue owner ns (moments_of t))
  all-own kqueue owner ns =
      subst (λ ms. AreOwn t kqueue owner 0 (private_by kqueue owner ns ms)) (sym (moments-listed t.version t.events))
      (are-own kqueue owner ns 0 1 (empty_world counted) _ (omega arith) (each-record t))

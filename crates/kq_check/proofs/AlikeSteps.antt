-- What a record makes of systems that are alike: those of a record that is no call, of the changes of a call, of
-- another order, and of a call that reads the same events in both.
use Rattle.std.proofs.Common.{◌≡◌, ℕ, ◌+◌, ◌==◌, true, List, [], ◌++◌, map, Option, Some, None, refl, sym, ap, ◌∙◌, subst}
use Rattle.std.proofs.lemmas.List.{append-nil}
use Rattle.std.specs.Prelude.{option_and_then}
use Rattle.kq_model.specs.declared.change.Change.{Change}
use Rattle.kq_model.specs.declared.event.Event.{Event}
use Rattle.kq_model.specs.declared.event.Event.TheVariants as event
use Rattle.kq_model.specs.declared.event.Event.TheVariants.{Kevent as KeventRecord}
use Rattle.kq_model.specs.declared.object.Named.TheVariants as named
use Rattle.kq_model.specs.Call.{call, returned}
use Rattle.kq_model.specs.CallLaws.{key_of_event}
use Rattle.kq_model.specs.Caller.{Caller}
use Rattle.kq_model.specs.Kqueue.{IsSound}
use Rattle.kq_model.specs.Moment.{Moment, moment_of, called_at, caller_at}
use Rattle.kq_model.specs.Plans.{plan}
use Rattle.kq_model.specs.Retrieval.{retrieval}
use Rattle.kq_model.specs.System.{stepped, lived, born, reply_to, step_by, step}
use Rattle.kq_model.specs.Tallied.{Kqueue, Live, System}
use Rattle.kq_model.specs.Views.{Views}
use Rattle.kq_model.specs.WatchedNumbers.{WatchTheirNumbers}
use Rattle.kq_model.specs.World.{Call, Plan, Planned, Impossible, Possible, World, named_by, seen_world, views_of}
use Rattle.kq_model.specs.Objects.{counted}
use Rattle.kq_model.proofs.KnoteLaws.{by_test}
use Rattle.kq_model.proofs.SeenWorld.{seen-counted}
use Rattle.kq_kevent.specs.Beginning as kevent
use Rattle.kq_kevent.proofs.AnswerLaws.{IsSound-process}
use Rattle.kq_kevent.proofs.BeginLaws.{call-nil}
use Rattle.kq_system.specs.Beginning.{begun, begun_by, begun_on, begun_kqueue, live_at, with_live_at}
use Rattle.kq_system.specs.SystemState.{IsQuiet, call_plan}
use Rattle.kq_system.proofs.BeginLemmas.{watched-begun, watched-with}
use Rattle.kq_system.proofs.ClockLemmas.{clock-calls}
use Rattle.kq_system.proofs.PlainPlans.{other-plain}
use Rattle.kq_system.proofs.QuietLemmas.{unhappened, called_one, called_other, lived_each}
use Rattle.kq_system.proofs.StepLemmas.{kevent_plan, kqueue_plan, possible_call, possible_kqueue}
use Rattle.kq_system.proofs.SystemLemmas.{called_views, quiet_call, call_of}
use Rattle.kq_judge.proofs.Alike.{AreAlike}
use Rattle.kq_judge.proofs.AlikeChanges.{begun-alike, begun-answer}
use Rattle.kq_judge.proofs.AlikeTurns.{taken-alike}
use Rattle.kq_laws.proofs.Lives.{told-now}
use Rattle.kq_laws.proofs.RunPlaces.{rise-step}
use Rattle.kq_laws.proofs.Runs.{IsRun, run-step}
use Rattle.kq_laws.proofs.Sound.{call-sound}
use Rattle.kq_check.proofs.AlikeSystems.{IsPair, ArePairs, IfPair, IsGoing, IsOne, with_kq, beside, pair-owner, pair-place, pair-seen, pair-with, pairs-map, pairs-append, pairs-found, pairs-at, rise-at, all-one, no_more, lived-pairs, born-pairs}

-- a record that is no call
abbrev pub IsNoCall : Event → Type 0
IsNoCall (event.Kevent pid fd changes room) = ⊥
IsNoCall _ = Unit {0}

pub none-called : (place : ℕ) (e : Event) (w : World counted) (p : Plan) → IsNoCall e → plan place e w ≡ Possible p → p.call ≡ None
none-called place (event.Kevent pid fd changes room) w p other is = absurd other
none-called place (event.Kqueue pid fd) w p other is =
    ap (λ (q : Plan). q.call) (possible_kqueue pid fd w p (sym (kqueue_plan place pid fd w) ∙ is)).plan_is
none-called place (event.Clock ns) w p other is = clock-calls place ns w p is
none-called place e w p other is = (other-plain e tt).call place w p is

-- ---- any step

step-frame : (place : ℕ) (q : Planned) (s : System) (ks : List Live)
    → (step_by place q (beside s ks)).system ≡ beside (step_by place q s).system (step_by place q (beside s ks)).system.live
unfolding step_by
step-frame place (Impossible why) s ks = refl
step-frame place (Possible p) s ks = refl

-- the kqueues beside those of a system, after the record
abbrev pub stepped_beside : ℕ → Event → System → List Live → List Live
stepped_beside place e s ks = (step place e (beside s ks)).system.live

pub beside-step : (place : ℕ) (e : Event) (s : System) (ks : List Live)
    → (step place e (beside s ks)).system ≡ beside (step place e s).system (stepped_beside place e s ks)
unfolding step
beside-step place e s ks = step-frame place (plan place e (seen_world s.world)) s ks

-- where their kqueues are pairs, the systems are alike so
pub going-next : (place : ℕ) (e : Event) (s : System) (ks : List Live) → IsGoing place s ks
    → ArePairs (views_of (seen_world (step place e s).system.world)) (step place e s).system.live (stepped_beside place e s ks)
    → IsGoing (place + 1) (step place e s).system (stepped_beside place e s ks)
going-next place e s ks going pairs = record {
  run = run-step place e s going.run;
  beside_run = subst (IsRun (place + 1)) (beside-step place e s ks) (run-step place e (beside s ks) going.beside_run);
  rise = rise-step place e s going.rise;
  beside_rise = rise-step place e (beside s ks) going.beside_rise;
  pairs = pairs;
}

-- ---- a record that is no call

module _ (place : ℕ) (e : Event) (s : System) (ks : List Live) (going : IsGoing place s ks) where
  abbrev here : Planned
  here = plan place e (seen_world s.world)

  plain-pairs : (q : Planned) → plan place e (seen_world s.world) ≡ q → ((p : Plan) → q ≡ Possible p → p.call ≡ None)
      → ArePairs (views_of (seen_world (step_by place q s).system.world)) (step_by place q s).system.live
      (step_by place q (beside s ks)).system.live
  unfolding step_by moment_of
  plain-pairs (Impossible why) is none = going.pairs
  plain-pairs (Possible p) is none =
      let m = moment_of s.version place p s.world in
      pairs-append m.views (lived m s.live) (lived m ks) (born place p.born) (born place p.born)
      (lived-pairs (views_of (seen_world s.world)) m (none p refl) s.live ks
      (told-now place e s going.run p is) (told-now place e (beside s ks) going.beside_run p is) going.pairs)
      (born-pairs m.views place p.born)

  plain-reply : (q : Planned) → ((p : Plan) → q ≡ Possible p → p.call ≡ None)
      → (step_by place q s).reply ≡ (step_by place q (beside s ks)).reply
  unfolding step_by reply_to moment_of
  plain-reply (Impossible why) none = refl
  plain-reply (Possible p) none =
      let m = moment_of s.version place p s.world in
      ap (λ c. reply_to m c s.live) (none p refl) ∙ sym (ap (λ c. reply_to m c ks) (none p refl))

  module _ (none : (p : Plan) → plan place e (seen_world s.world) ≡ Possible p → p.call ≡ None) where
    pub plain-going : IsGoing (place + 1) (step place e s).system (stepped_beside place e s ks)
    unfolding step
    plain-going = going-next place e s ks going (plain-pairs (plan place e (seen_world s.world)) refl none)

    pub plain-replies : (step place e s).reply ≡ (step place e (beside s ks)).reply
    unfolding step
    plain-replies = plain-reply (plan place e (seen_world s.world)) none

-- ---- a call begins

module _ (place pid fd room : ℕ) (changes : List Change) (s : System) (ks : List Live) (going : IsGoing place s ks) where
  abbrev record_of : Event
  record_of = KeventRecord pid fd changes room

  abbrev now_views : Views
  now_views = views_of (seen_world s.world)

  abbrev begun_beside : Planned → List Live
  begun_beside q = (begun_by place q (beside s ks)).system.live

  pub record Begins (q : Planned) : Type 0 where
    pub frame : (begun_by place q (beside s ks)).system ≡ beside (begun_by place q s).system (begun_beside q)
    pub answer : (begun_by place q s).answer ≡ (begun_by place q (beside s ks)).answer
    pub world : (begun_by place q s).system.world ≡ s.world
    pub goes : IsGoing place (begun_by place q s).system (begun_beside q)

  module _ (c : Call) where
    abbrev m : Moment
    m = moment_of s.version place (call_plan c) s.world

    sees : m.views ≡ now_views
    sees = called_views s.version place c s.world ∙ sym (ap views_of (seen-counted s.world))

    abbrev does : Live → Kqueue
    does l = (begun_kqueue m c l).kq

    begun-sound : (by : Caller) (kq : Kqueue) → IsSound kq → IsSound (kevent.begun by c.room c.changes kq).kq
    unfolding kevent.begun
    begun-sound by kq sound = IsSound-process by c.room c.changes [] kq sound

    does-pair : (l k : Live) → Unit {0} → Unit {0} → (c.kqueue == l.place) ≡ true → IsPair now_views l k
        → IsPair now_views (with_kq (does l) l) (with_kq (does k) k)
    does-pair l k one two at pair =
        subst (λ (o : ℕ). IsPair now_views (with_kq (does l) l) (with_kq (kevent.begun (caller_at o m) c.room c.changes k.kq).kq k))
        (sym (pair-owner now_views l k pair))
        (pair-with now_views l k (does l) (kevent.begun (caller_at l.owner m) c.room c.changes k.kq).kq pair.frame
        (subst (λ (v : Views). AreAlike v (does l).knotes (kevent.begun (caller_at l.owner m) c.room c.changes k.kq).kq.knotes) sees
        (begun-alike (caller_at l.owner m) c.room c.changes l.kq k.kq
        (subst (λ (v : Views). AreAlike v l.kq.knotes k.kq.knotes) (sym sees) pair.alike)))
        (begun-sound (caller_at l.owner m) l.kq pair.sound) (begun-sound (caller_at l.owner m) k.kq pair.other))

    answers : (o p : Option Live) → IfPair now_views o p
        → option_and_then (λ (l : Live). (begun_kqueue m c l).answer) o ≡ option_and_then (λ (l : Live). (begun_kqueue m c l).answer) p
    answers None None pair = refl
    answers None (Some k) pair = absurd pair
    answers (Some l) None pair = absurd pair
    answers (Some l) (Some k) pair =
        begun-answer (caller_at l.owner m) c.room c.changes l.kq k.kq
        (subst (λ (v : Views). AreAlike v l.kq.knotes k.kq.knotes) (sym sees) pair.alike)
        ∙ ap (λ (o : ℕ). (kevent.begun (caller_at o m) c.room c.changes k.kq).answer) (sym (pair-owner now_views l k pair))

    begins-call : Begins (Possible (call_plan c))
    unfolding begun_by begun_on moment_of
    begins-call = record {
      frame = refl;
      answer = answers (live_at c.kqueue s.live) (live_at c.kqueue ks) (pairs-found now_views c.kqueue s.live ks going.pairs);
      world = refl;
      goes = record {
        run = record {
          world = going.run.world;
          watched = watched-begun m c now_views s.live (with_live_at c.kqueue does s.live) sees refl going.run.watched;
        };
        beside_run = record {
          world = going.run.world;
          watched = watched-begun m c now_views ks (with_live_at c.kqueue does ks) sees refl going.beside_run.watched;
        };
        rise = rise-at c.kqueue does 0 place s.live going.rise;
        beside_rise = rise-at c.kqueue does 0 place ks going.beside_rise;
        pairs = pairs-at now_views c.kqueue does does (λ l. Unit {0}) (λ l. Unit {0}) does-pair s.live ks (no_more s.live) (no_more ks) going.pairs;
      };
    }

  begins : (q : Planned) → plan place record_of (seen_world s.world) ≡ q → Begins q
  unfolding begun_by
  begins (Impossible why) is = record { frame = refl; answer = refl; world = refl; goes = going }
  begins (Possible p) is =
      let on = possible_call pid fd room changes (seen_world s.world) p (sym (kevent_plan place pid fd room changes (seen_world s.world)) ∙ is) in
      subst (λ (x : Plan). Begins (Possible x)) (sym on.plan_is) (begins-call (record { kqueue = on.kqueue; changes = changes; room = room }))

  pub begins-alike : Begins (plan place record_of (seen_world s.world))
  begins-alike = begins (plan place record_of (seen_world s.world)) refl

-- ---- the order of a queue changes

module _ (place kqueue : ℕ) (s : System) (ks : List Live) (going : IsGoing place s ks) (does other : Live → Kqueue)
    (same : (l : Live) → (does l).knotes ≡ l.kq.knotes) (also : (l : Live) → (other l).knotes ≡ l.kq.knotes) where
  abbrev seen_views : Views
  seen_views = views_of (seen_world s.world)

  pub ordered-going : ((l k : Live) → live_at kqueue s.live ≡ Some l → live_at kqueue ks ≡ Some k → IsPair seen_views l k
      → IsSound (does l) × IsSound (other k))
      → IsGoing place (beside s (with_live_at kqueue does s.live)) (with_live_at kqueue other ks)
  ordered-going sound = record {
    run = record {
      world = going.run.world;
      watched = watched-with kqueue does seen_views s.live
          (λ l has. subst (λ ns. WatchTheirNumbers seen_views l.owner (record l.kq { knotes = ns })) (sym (same l)) has) going.run.watched;
    };
    beside_run = record {
      world = going.run.world;
      watched = watched-with kqueue other seen_views ks
          (λ l has. subst (λ ns. WatchTheirNumbers seen_views l.owner (record l.kq { knotes = ns })) (sym (also l)) has) going.beside_run.watched;
    };
    rise = rise-at kqueue does 0 place s.live going.rise;
    beside_rise = rise-at kqueue other 0 place ks going.beside_rise;
    pairs = pairs-at seen_views kqueue does other (IsOne kqueue s.live) (IsOne kqueue ks)
        (λ l k one two at pair.
        let is = sound l k (one at) (two (ap (λ (x : ℕ). kqueue == x) (pair-place seen_views l k pair) ∙ at)) pair in
        pair-with seen_views l k (does l) (other k) pair.frame
        (subst (λ ns. AreAlike seen_views (does l).knotes ns) (sym (also k))
        (subst (λ ns. AreAlike seen_views ns k.kq.knotes) (sym (same l)) pair.alike)) is.0 is.1)
        s.live ks (all-one kqueue place s.live going.rise) (all-one kqueue place ks going.beside_rise) going.pairs;
  }

-- ---- events are read, of the same keys

module _ (place pid fd room : ℕ) (s : System) (ks : List Live) (going : IsGoing place s ks) where
  abbrev reading : Event
  reading = KeventRecord pid fd [] room

  abbrev world_views : Views
  world_views = views_of (seen_world s.world)

  abbrev Same : Live → Live → Type 0
  Same l k = map key_of_event (retrieval world_views room l.kq).events ≡ map key_of_event (retrieval world_views room k.kq).events

  module _ (c : Call) (none : c.changes ≡ []) (wide : c.room ≡ room) where
    abbrev n : Moment
    n = moment_of s.version place (call_plan c) s.world

    see : n.views ≡ world_views
    see = called_views s.version place c s.world ∙ sym (ap views_of (seen-counted s.world))

    quiet : IsQuiet n
    quiet = quiet_call s.version place c s.world

    calls : n.call ≡ Some c
    calls = call_of s.version place c s.world

    called-reads : (l : Live) → (called_at l.owner n c l.kq).kq ≡ (retrieval n.views room l.kq).kq
    unfolding called_at kevent.read returned
    called-reads l =
        ap (λ (kq : Kqueue). (call (caller_at l.owner n) c.room c.changes kq).kq) (unhappened n l.owner l.kq quiet)
        ∙ ap (λ (cs : List Change). (call (caller_at l.owner n) c.room cs l.kq).kq) none
        ∙ ap (λ (r : ℕ). (call (caller_at l.owner n) r [] l.kq).kq) wide
        ∙ ap (λ d. d.kq) (call-nil (caller_at l.owner n) room l.kq)

    called-sound : (l : Live) → IsSound l.kq → IsSound (retrieval n.views room l.kq).kq
    unfolding kevent.read returned
    called-sound l sound =
        subst (λ d. IsSound d.kq) (call-nil (caller_at l.owner n) room l.kq) (call-sound (caller_at l.owner n) room [] l.kq sound)

    read-one : (l : Live) → (c.kqueue == l.place) ≡ true → stepped n l ≡ with_kq (retrieval n.views room l.kq).kq l
    read-one l at = called_one n c l calls at ∙ ap (λ (kq : Kqueue). with_kq kq l) (called-reads l)

    read-pair : (l k : Live) → ((c.kqueue == l.place) ≡ true → Same l k) → IsPair world_views l k
        → IsPair n.views (stepped n l) (stepped n k)
    read-pair l k keys pair =
        by_test (λ b. (c.kqueue == l.place) ≡ b → IsPair n.views (stepped n l) (stepped n k)) (c.kqueue == l.place)
        (λ _ at.
        let now = pair-seen world_views n.views l k (sym see) pair in
        subst (λ (x : Live). IsPair n.views x (stepped n k)) (sym (read-one l at))
        (subst (λ (x : Live). IsPair n.views (with_kq (retrieval n.views room l.kq).kq l) x)
        (sym (read-one k (ap (λ (x : ℕ). c.kqueue == x) (pair-place world_views l k pair) ∙ at)))
        (pair-with n.views l k (retrieval n.views room l.kq).kq (retrieval n.views room k.kq).kq pair.frame
        (taken-alike n.views room l.kq k.kq now.alike
        (subst (λ (v : Views). map key_of_event (retrieval v room l.kq).events ≡ map key_of_event (retrieval v room k.kq).events) (sym see) (keys at)))
        (called-sound l pair.sound) (called-sound k pair.other))))
        (λ _ apart.
        subst (λ (x : Live). IsPair n.views x (stepped n k)) (sym (called_other n c l quiet calls apart))
        (subst (λ (x : Live). IsPair n.views l x)
        (sym (called_other n c k quiet calls (ap (λ (x : ℕ). c.kqueue == x) (pair-place world_views l k pair) ∙ apart)))
        (pair-seen world_views n.views l k (sym see) pair))) refl

    lived-read : (xs : List Live) → lived n xs ++ [] ≡ map (stepped n) xs
    lived-read xs = append-nil (lived n xs) ∙ lived_each n xs quiet

    read-pairs : ((l k : Live) → live_at c.kqueue s.live ≡ Some l → live_at c.kqueue ks ≡ Some k → Same l k)
        → ArePairs n.views (lived n s.live ++ []) (lived n ks ++ [])
    read-pairs keys =
        subst (λ (xs : List Live). ArePairs n.views xs (lived n ks ++ [])) (sym (lived-read s.live))
        (subst (λ (xs : List Live). ArePairs n.views (map (stepped n) s.live) xs) (sym (lived-read ks))
        (pairs-map world_views n.views (IsOne c.kqueue s.live) (IsOne c.kqueue ks) (stepped n) (stepped n)
        (λ l k one two pair. read-pair l k
        (λ at. keys l k (one at) (two (ap (λ (x : ℕ). c.kqueue == x) (pair-place world_views l k pair) ∙ at))) pair)
        s.live ks (all-one c.kqueue place s.live going.rise) (all-one c.kqueue place ks going.beside_rise) going.pairs))

  -- the events of the kqueue that the number names are of the same keys
  abbrev ReadSame : Type 0
  ReadSame =
      (kqueue : ℕ) → named_by pid fd (seen_world s.world) ≡ Some (named.Kqueue kqueue)
      → (l k : Live) → live_at kqueue s.live ≡ Some l → live_at kqueue ks ≡ Some k → Same l k

  call-pairs : (c : Call) → c.changes ≡ [] → c.room ≡ room
      → ((l k : Live) → live_at c.kqueue s.live ≡ Some l → live_at c.kqueue ks ≡ Some k → Same l k)
      → ArePairs (views_of (seen_world (step_by place (Possible (call_plan c)) s).system.world))
      (step_by place (Possible (call_plan c)) s).system.live (step_by place (Possible (call_plan c)) (beside s ks)).system.live
  unfolding step_by born moment_of
  call-pairs c none wide keys = read-pairs c none wide keys

  pairs-by : (q : Planned) → plan place reading (seen_world s.world) ≡ q → ReadSame
      → ArePairs (views_of (seen_world (step_by place q s).system.world)) (step_by place q s).system.live
      (step_by place q (beside s ks)).system.live
  unfolding step_by
  pairs-by (Impossible why) is keys = going.pairs
  pairs-by (Possible p) is keys =
      let on = possible_call pid fd room [] (seen_world s.world) p (sym (kevent_plan place pid fd room [] (seen_world s.world)) ∙ is) in
      subst (λ (x : Plan). ArePairs (views_of (seen_world (step_by place (Possible x) s).system.world))
      (step_by place (Possible x) s).system.live (step_by place (Possible x) (beside s ks)).system.live) (sym on.plan_is)
      (call-pairs (record { kqueue = on.kqueue; changes = []; room = room }) refl refl (keys on.kqueue on.there))

  pub read-going : ReadSame → IsGoing (place + 1) (step place reading s).system (stepped_beside place reading s ks)
  unfolding step
  read-going keys = going-next place reading s ks going (pairs-by (plan place reading (seen_world s.world)) refl keys)

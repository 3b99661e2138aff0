-- Over a whole run of the system each record hints each condition that it makes hold.
use Rattle.std.proofs.Common.{◌≡◌, ℕ, ◌+◌, length, List, [], ◌∷◌, refl, sym, ap, subst, ◌∙◌, arith}
use Rattle.std.proofs.lemmas.List.Elements.{All-weaker}
use Rattle.std.specs.Prelude.{All}
use Rattle.kq_model.specs.declared.event.Event.{Event}
use Rattle.kq_model.specs.CountedWorld.{IsCountedWorld, Keeps}
use Rattle.kq_model.specs.Tallying.{tallying}
use Rattle.kq_model.specs.ListedFiles.{AreListed, StaysListed}
use Rattle.kq_model.specs.NamedTargets.{IsNamed}
use Rattle.kq_model.specs.Objects.{counted}
use Rattle.kq_model.specs.Plans.{plan}
use Rattle.kq_model.specs.Subjects.{HasSubject}
use Rattle.kq_model.specs.System.{empty_system, step_by, step, system_after}
use Rattle.kq_model.specs.Tallied.{Knote, Live, System, World}
use Rattle.kq_model.specs.Views.{Views}
use Rattle.kq_model.specs.WatchedNumbers.{WatchTheirNumbers, AllWatchTheirNumbers}
use Rattle.kq_model.specs.World.{Plan, Planned, Impossible, Possible, carried_out, empty_world, seen_world, views_of}
use Rattle.kq_model.proofs.CountedSteps.{counted-empty}
use Rattle.kq_model.proofs.ListedWorld.{listed-empty}
use Rattle.kq_model.proofs.SeenWorld.{seen-counted}
use Rattle.kq_model.proofs.WatchedNumbers.{empty-watched, step-watched}
use Rattle.kq_process.proofs.Applied.{counted-record}
use Rattle.kq_system.proofs.StepLemmas.{counted_later}
use Rattle.kq_laws.specs.Runs.{HaveLedTo, IsToldBy, AnnouncesAll}
use Rattle.kq_laws.specs.Wakes.{IsAnnounced}
use Rattle.kq_laws.proofs.ActWakes.{AreCalm}
use Rattle.kq_laws.proofs.Announced.{announced}
use Rattle.kq_laws.proofs.Calm.{calm-none}
use Rattle.kq_model.proofs.ListedRecords.{listed-record}
use Rattle.kq_laws.proofs.WorldWakes.{TellsPlanned, tells-record}

-- ---- the world of a run, whose next record has this place

pub record IsRunWorld (place : ℕ) (w : World) : Type 0 where
  pub counted : IsCountedWorld place w
  pub listed : AreListed w.objects
  pub calm : AreCalm w.objects

world-empty : IsRunWorld 1 (empty_world counted)
world-empty = record { counted = counted-empty; listed = listed-empty; calm = calm-none }

-- of this world all is seen
seen-after : (place : ℕ) (p : Plan) (w : World) → carried_out place p (seen_world w) ≡ seen_world (carried_out place p w)
seen-after place p w = ap (carried_out place p) (seen-counted w) ∙ sym (seen-counted (carried_out place p w))

module _ (place : ℕ) (e : Event) (w : World) (run : IsRunWorld place w) where
  possible-world : (p : Plan) → plan place e w ≡ Possible p → IsRunWorld (place + 1) (carried_out place p w)
  unfolding carried_out
  possible-world p is = record {
    counted = subst (Keeps place w) is ((counted-record place w e).keeps run.counted);
    listed = subst (StaysListed place w) is ((listed-record place e w).keeps run.counted run.listed);
    calm = (subst (TellsPlanned w) is ((tells-record place w e).tells run.counted run.listed run.calm)).1 run.calm;
  }

  pub impossible-world : IsRunWorld (place + 1) w
  impossible-world = record { counted = counted_later place w run.counted; listed = run.listed; calm = run.calm }

-- ---- the system of a run

pub record IsRun (place : ℕ) (s : System) : Type 0 where
  pub world : IsRunWorld place (seen_world s.world)
  pub watched : AllWatchTheirNumbers s

pub run-empty : (version : ℕ) → IsRun 1 (empty_system version)
run-empty version = record {
  world = subst (λ (w : World). IsRunWorld 1 w) (sym (seen-counted (empty_world counted))) world-empty;
  watched = empty-watched tallying counted version;
}

module _ (place : ℕ) (e : Event) (s : System) (run : IsRun place s) where
  world-by : (q : Planned) → plan place e (seen_world s.world) ≡ q → IsRunWorld (place + 1) (seen_world (step_by place q s).system.world)
  unfolding step_by
  world-by (Impossible why) is = impossible-world place e (seen_world s.world) run.world
  world-by (Possible p) is =
      subst (λ (w : World). IsRunWorld (place + 1) w) (seen-after place p s.world) (possible-world place e (seen_world s.world) run.world p is)

  pub run-step : IsRun (place + 1) (step place e s).system
  unfolding step
  run-step =
      let world = world-by (plan place e (seen_world s.world)) refl in
      record { world = world; watched = step-watched place e s world.counted.rising run.watched }

run-all : (events : List Event) (place : ℕ) (s : System) → IsRun place s → IsRun (place + length events) (system_after place s events)
unfolding system_after
run-all [] place s run = subst (λ (n : ℕ). IsRun n s) (omega arith) run
run-all (e ∷ es) place s run =
    subst (λ (n : ℕ). IsRun n (system_after (place + 1) (step place e s).system es)) (omega arith)
    (run-all es (place + 1) (step place e s).system (run-step place e s run))

pub run-led : (events : List Event) (applied : ℕ) (s : System) → HaveLedTo events applied s → IsRun (applied + 1) s
run-led events applied s led =
    subst (λ (t : System). IsRun (applied + 1) t) led.reached
    (subst (λ (n : ℕ). IsRun n (system_after 1 (empty_system s.version) events)) (omega (arith, led.count))
    (run-all events 1 (empty_system s.version) (run-empty s.version)))

-- ---- the law

module _ (place : ℕ) (e : Event) (s : System) (p : Plan) (is : plan place e (seen_world s.world) ≡ Possible p) (run : IsRun place s) where
  abbrev before : Views
  before = views_of (seen_world s.world)

  world-after : carried_out place p (seen_world s.world) ≡ seen_world (step place e s).system.world
  unfolding step step_by
  world-after =
      seen-after place p s.world ∙ ap (λ (q : Planned). seen_world (step_by place q s).system.world) (sym is)

  knote-told : (l : Live) (k : Knote) → HasSubject (IsNamed before l.owner) k → IsAnnounced before p.hints (views_of (seen_world (step place e s).system.world)) k
  knote-told l k named =
      subst (λ (w : World). IsAnnounced before p.hints (views_of w) k) world-after
      (announced place e (seen_world s.world) p is run.world.counted run.world.listed run.world.calm l.owner k named)

  kqueue-told : (l : Live) → WatchTheirNumbers before l.owner l.kq → IsToldBy p s (step place e s).system l
  kqueue-told l watch =
      All-weaker (HasSubject (IsNamed before l.owner)) (IsAnnounced before p.hints (views_of (seen_world (step place e s).system.world)))
      (knote-told l) l.kq.knotes watch

  pub all-told : All (IsToldBy p s (step place e s).system) s.live
  all-told =
      All-weaker (λ (l : Live). WatchTheirNumbers before l.owner l.kq) (IsToldBy p s (step place e s).system) kqueue-told s.live run.watched

pub announces_all : (applied : ℕ) (e : Event) (old new : System) → new ≡ (step (applied + 1) e old).system → AnnouncesAll applied e old new
announces_all applied e old new next events led p is =
    subst (λ (t : System). All (IsToldBy p old t) old.live) (sym next)
    (all-told (applied + 1) e old p is (run-led events applied old led))

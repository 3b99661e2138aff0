-- One call of the system in two steps, by its plan.
use Rattle.std.proofs.Common.{◌≡◌, ◌∙◌, ◌||◌, ℕ, Bool, true, false, cond, not, nat_lt, List, [], ◌∷◌, map, length, nat_eq, Option, None, Some, refl, sym, ap, ap₂, subst}
use Rattle.kq_kevent.specs.Arranged.{arranged}
use Rattle.kq_model.specs.declared.change.Change.{Change}
use Rattle.kq_model.specs.declared.event.Event.{Event}
use Rattle.kq_model.specs.declared.event.Event.TheVariants.{Kevent}
use Rattle.kq_model.specs.declared.key.Key.{Key}
use Rattle.kq_model.specs.declared.object.Named.{Named}
use Rattle.kq_model.specs.declared.object.Named.TheVariants as named
use Rattle.kq_model.specs.declared.reply.Reply.{Reply}
use Rattle.kq_model.specs.declared.reply.Reply.TheVariants as reply
use Rattle.kq_model.specs.declared.why.Why.{Why}
use Rattle.kq_model.specs.declared.why.Why.TheVariants.{NoProcess, TooMany}
use Rattle.kq_model.specs.Hearing.{listed}
use Rattle.kq_model.specs.Tallying.{tallying}
use Rattle.kq_model.specs.Limits.{most_changes, most_room}
use Rattle.kq_model.specs.Moment.{moment_of}
use Rattle.kq_model.specs.Objects as objects
use Rattle.kq_model.specs.Plans.{plan}
use Rattle.kq_model.specs.DescriptorPlans.{on_descriptor, on_named, plan_call, plan_kevent}
use Rattle.kq_model.specs.Processes.{is_live}
use Rattle.kq_model.specs.Recast.{recast_live, tally_of, tallied_system}
use Rattle.kq_model.specs.System as model
use Rattle.kq_model.specs.System.{step}
use Rattle.kq_model.specs.Tallied.{Live, System, World}
use Rattle.kq_model.specs.World.{Call, Planned, Impossible, Possible, named_by, seen_world}
use Rattle.kq_model.proofs.KnoteLaws.{by_test}
use Rattle.kq_model.proofs.SeenWorld.{seen-counted}
use Rattle.kq_system.specs.Beginning.{arranged_at, arranged_in, begun, begun_by, begun_on, kqueue_in, with_live_at, IsBeginning, IsBegunAt, IsCallSoFar, IsStepSoFar}
use Rattle.kq_system.specs.SystemState.{call_plan}
use Rattle.kq_system.proofs.StepLemmas.{kevent_plan}
use Rattle.kq_system.proofs.SystemLemmas.{called, impossible}

-- ---- by the plan

begins_by : (place : ℕ) (e : Event) (p : Planned) (old new : System) (answer : Option Reply)
    → plan place e old.world ≡ p
    → (new ≡ (begun_by place p old).system) × (answer ≡ (begun_by place p old).answer)
    → IsBeginning place e old new answer
unfolding begun
begins_by place e p old new answer is begins =
    subst (λ (q : Planned). (new ≡ (begun_by place q old).system) × (answer ≡ (begun_by place q old).answer))
    (sym (ap (plan place e) (seen-counted old.world) ∙ is)) begins

pub begins-impossible : (place : ℕ) (e : Event) (s : System) (why : Why) → plan place e s.world ≡ Impossible why
    → IsBeginning place e s s (Some (reply.Impossible why))
unfolding begun_by
begins-impossible place e s why is =
    begins_by place e (Impossible why) s s (Some (reply.Impossible why)) is (refl, refl)

pub begins-possible : (place : ℕ) (e : Event) (c : Call) (old : System) (live : List Live) (answer : Option Reply)
    → plan place e old.world ≡ Possible (call_plan c)
    → IsBegunAt (moment_of old.version place (call_plan c) old.world) c old.live live answer
    → IsBeginning place e old (record old { live = live }) answer
unfolding begun_by begun_on
begins-possible place e c old live answer is does =
    begins_by place e (Possible (call_plan c)) old (record old { live = live }) answer is
    (ap (λ (ls : List Live). record old { live = ls }) does.0, does.1)

-- ---- the call without changes

few_step : (many wide : Bool) (c d : Call) → cond (many || wide) (Impossible TooMany) (Possible (call_plan c))
    ≡ Possible (call_plan c)
    → cond wide (Impossible TooMany) (Possible (call_plan d)) ≡ Possible (call_plan d)
few_step true wide c d is = absurd (cc)
few_step false true c d is = absurd (cc)
few_step false false c d is = refl

few_live : (dead : Bool) (x y : Planned) (c d : Call) → cond dead (Impossible NoProcess) x ≡ Possible (call_plan c)
    → (x ≡ Possible (call_plan c) → y ≡ Possible (call_plan d))
    → cond dead (Impossible NoProcess) y ≡ Possible (call_plan d)
few_live true x y c d is more = absurd (cc)
few_live false x y c d is more = more is

module _ (pid fd room kqueue : ℕ) (changes : List Change) (w : World) where
  few_named : (found : Option Named) → found ≡ Some (named.Kqueue kqueue)
      → on_named (plan_call changes room) found
      ≡ Possible (call_plan (record { kqueue = kqueue; changes = changes; room = room }))
      → on_named (plan_call [] room) found ≡ Possible (call_plan
      (record { kqueue = kqueue; changes = []; room = room }))
  unfolding on_named plan_call
  few_named found there =
      subst (λ (o : Option Named). on_named (plan_call changes room) o
      ≡ Possible (call_plan (record { kqueue = kqueue; changes = changes; room = room }))
      → on_named (plan_call [] room) o ≡ Possible (call_plan (record { kqueue = kqueue; changes = []; room = room })))
      (sym there)
      (few_step (nat_lt most_changes (length changes)) (nat_lt most_room room)
      (record { kqueue = kqueue; changes = changes; room = room })
      (record { kqueue = kqueue; changes = []; room = room }))

  -- where the call is possible, so is that without changes
  pub few-planned : (place : ℕ) → named_by pid fd w ≡ Some (named.Kqueue kqueue)
      → plan place (Kevent pid fd changes room) w
      ≡ Possible (call_plan (record { kqueue = kqueue; changes = changes; room = room }))
      → plan place (Kevent pid fd [] room) w
      ≡ Possible (call_plan (record { kqueue = kqueue; changes = []; room = room }))
  unfolding plan_kevent on_descriptor
  few-planned place there is =
      kevent_plan place pid fd room [] w
      ∙ few_live (not (is_live pid w.processes)) (on_named (plan_call changes room) (named_by pid fd w))
      (on_named (plan_call [] room) (named_by pid fd w)) (record { kqueue = kqueue; changes = changes; room = room })
      (record { kqueue = kqueue; changes = []; room = room }) (sym (kevent_plan place pid fd room changes w) ∙ is)
      (few_named (named_by pid fd w) there)

-- ---- what it is so far

pub step-impossible : (place pid fd room : ℕ) (changes : List Change) (s : System) (why : Why)
    → plan place (Kevent pid fd changes room) s.world ≡ Impossible why
    → IsStepSoFar place pid fd changes room s s (Some (reply.Impossible why))
step-impossible place pid fd room changes s why is = impossible place (Kevent pid fd changes room) s why is

pub step-possible : (place pid fd room kqueue : ℕ) (changes : List Change) (old : System) (live : List Live)
    (answer : Option Reply)
    → plan place (Kevent pid fd changes room) old.world
    ≡ Possible (call_plan (record { kqueue = kqueue; changes = changes; room = room }))
    → plan place (Kevent pid fd [] room) old.world
    ≡ Possible (call_plan (record { kqueue = kqueue; changes = []; room = room }))
    → IsCallSoFar (moment_of old.version place (call_plan
    (record { kqueue = kqueue; changes = changes; room = room })) old.world)
    (moment_of old.version place (call_plan (record { kqueue = kqueue; changes = []; room = room })) old.world)
    (record { kqueue = kqueue; changes = changes; room = room }) old.live live answer
    → IsStepSoFar place pid fd changes room old (record old { live = live }) answer
step-possible place pid fd room kqueue changes old live (Some reply) is then does =
    called place (Kevent pid fd changes room)
    (record { kqueue = kqueue; changes = changes; room = room }) old live reply
    is does
step-possible place pid fd room kqueue changes old live None is then does = λ last answer steps.
    let whole = called place (Kevent pid fd changes room)
    (record { kqueue = kqueue; changes = changes; room = room }) old
    does.0 does.1 is does.2 in
    let rest = called place (Kevent pid fd [] room) (record { kqueue = kqueue; changes = []; room = room })
    (record old { live = live }) does.0 does.1 then does.3 in
    (steps.0 ∙ sym rest.0 ∙ whole.0, steps.1 ∙ sym rest.1 ∙ whole.1)

-- ---- the kqueue that a number names

pub names-none : (o : Option Named) → ((kqueue : ℕ) → o ≡ Some (named.Kqueue kqueue) → ⊥) → kqueue_in o ≡ None
unfolding kqueue_in
names-none None never = refl
names-none (Some (named.Kqueue place)) never = absurd (never place refl)
names-none (Some (named.Socket place)) never = refl
names-none (Some (named.PipeRead place)) never = refl
names-none (Some (named.PipeWrite place)) never = refl
names-none (Some (named.Open place number)) never = refl

pub names-some : (o : Option Named) (kqueue : ℕ) → o ≡ Some (named.Kqueue kqueue) → kqueue_in o ≡ Some kqueue
unfolding kqueue_in
names-some o kqueue is = ap kqueue_in is

-- what is seen of the world has all its numbers
pub named-seen : (pid fd : ℕ) (w : World) → named_by pid fd (seen_world w) ≡ named_by pid fd w
named-seen pid fd w = ap (named_by pid fd) (seen-counted w)

-- ---- another order

pub arranged-none : (keys : List Key) (live : List Live) (o : Option ℕ) → o ≡ None → arranged_at o keys live ≡ live
unfolding arranged_at
arranged-none keys live o is = ap (λ (p : Option ℕ). arranged_at p keys live) is

pub arranged-some : (keys : List Key) (live : List Live) (place : ℕ) (o : Option ℕ) → o ≡ Some place
    → arranged_at o keys live ≡ with_live_at place (λ l. record l.kq { queue = arranged keys l.kq.queue }) live
unfolding arranged_at
arranged-some keys live place o is = ap (λ (p : Option ℕ). arranged_at p keys live) is

abbrev recast : model.Live listed → Live
recast l = recast_live tallying tally_of l

abbrev arrange : List Key → (model.Live listed) → Bool → model.Live listed
arrange keys l b = cond b (record l { kq = record l.kq { queue = arranged keys l.kq.queue } }) l

abbrev arrange_code : List Key → Live → Bool → Live
arrange_code keys l b = cond b (record l { kq = record l.kq { queue = arranged keys l.kq.queue } }) l

arranged_all : (keys : List Key) (place : ℕ) (live : List (model.Live listed))
    → with_live_at place (λ l. record l.kq { queue = arranged keys l.kq.queue }) (map recast live)
    ≡ map recast (with_live_at place (λ l. record l.kq { queue = arranged keys l.kq.queue }) live)
arranged_all keys place [] = refl
arranged_all keys place (l ∷ ls) =
    ap₂ (λ (x : Live) (xs : List Live). x ∷ xs)
    (by_test (λ b. arrange_code keys (recast l) b ≡ recast (arrange keys l b)) (nat_eq place l.place)
    (λ _. refl) (λ _. refl))
    (arranged_all keys place ls)

arranged_any : (keys : List Key) (o : Option ℕ) (live : List (model.Live listed))
    → arranged_at o keys (map recast live) ≡ map recast (arranged_at o keys live)
unfolding arranged_at
arranged_any keys None live = refl
arranged_any keys (Some place) live = arranged_all keys place live

pub arranged-tallied : (pid fd : ℕ) (keys : List Key) (m : model.System listed objects.listed)
    → arranged_in pid fd keys (tallied_system m) ≡ tallied_system (arranged_in pid fd keys m)
unfolding named_by
arranged-tallied pid fd keys m =
    ap (λ (live : List Live). record (tallied_system m) { live = live })
    (arranged_any keys (kqueue_in (named_by pid fd (seen_world m.world))) m.live)

-- What holds of the system after a record.
use Rattle.std.proofs.Common.{◌≡◌, ◌≤◌, ◌∙◌, ◌+◌, ◌++◌, ◌||◌, ℕ, Bool, true, false, not, cond, List, map, length, nat_lt, Option, None, Some, Result, Ok, Err, IsOk, OnErr, is_some, refl, sym, ap, subst, append-nil, arith}
use Rattle.std.proofs.lemmas.List.Elements.{All-weaker}
use Rattle.std.specs.Map.{keys_of}
use Rattle.kq_model.specs.Following.{all_forks}
use Rattle.kq_model.proofs.BornFirst.{silent-records}
use Rattle.kq_model.specs.declared.change.Change.{Change}
use Rattle.kq_model.specs.declared.event.Event.{Event}
use Rattle.kq_model.specs.declared.event.Event.TheVariants as event
use Rattle.kq_model.specs.declared.object.Named.{Named}
use Rattle.kq_model.specs.declared.object.Named.TheVariants as named
use Rattle.kq_model.specs.declared.reply.Reply.TheVariants as reply
use Rattle.kq_model.specs.declared.why.Why.{Why}
use Rattle.kq_model.specs.declared.why.Why.TheVariants.{NoProcess, UsedDescriptor, TooMany}
use Rattle.kq_model.specs.Close.{Pair}
use Rattle.kq_model.specs.CountedWorld.{IsCountedWorld, NamesBelow}
use Rattle.kq_model.specs.DescriptorPlans.{on_descriptor, on_named, plan_call, plan_kevent, plan_kqueue}
use Rattle.kq_model.specs.Limits.{most_changes, most_room}
use Rattle.kq_model.specs.Plans.{plan}
use Rattle.kq_model.specs.Processes.{is_live}
use Rattle.kq_model.specs.System.{born}
use Rattle.kq_model.specs.Tallied.{Live, System, World}
use Rattle.kq_model.specs.WatchedNumbers.{AllWatchTheirNumbers}
use Rattle.kq_model.specs.World.{Call, Plan, Planned, Impossible, Possible, idle, named_by, views_of}
use Rattle.kq_model.proofs.SeenWorld.{seen-counted}
use Rattle.kq_process.specs.declared.effect.Effect.{Effect}
use Rattle.kq_process.specs.declared.world.World as code
use Rattle.kq_process.specs.Effects.{IsEffectOf, IsPossible, pairs_in, world_after}
use Rattle.kq_process.specs.World.{last_of, world_of}
use Rattle.kq_system.specs.SystemState.{HaveStayed, IsImpossible, IsLawful, IsPlain, IsStep, NumberedKqueue, call_plan, happened_to_all, live_of}
use Rattle.kq_system.proofs.CallLemmas.{up_to_more}
use Rattle.kq_system.proofs.SystemLemmas.{done, impossible, told}

-- ---- places rise

pub counted_later : (place : ℕ) (w : World) → IsCountedWorld place w → IsCountedWorld (place + 1) w
counted_later place w c = record {
  counts = c.counts;
  held = c.held;
  rising = c.rising;
  owned = c.owned;
  below = All-weaker (NamesBelow place) (NamesBelow (place + 1)) (λ d below. omega (arith, below)) w.table c.below;
}

pub lawful_after : (version applied : ℕ) (w w' : code.World) (es es' : List (ℕ × NumberedKqueue))
    → IsLawful version applied w es → HaveStayed es es'
    → AllWatchTheirNumbers (record { version = version; world = world_of w'; live = map live_of es' })
    → last_of w' ≤ applied + 1 → IsLawful version (applied + 1) w' es'
lawful_after version applied w w' es es' old stayed watched places = record {
  of_version = stayed.of_version version old.of_version;
  born = stayed.up_to (applied + 1) (up_to_more applied (applied + 1) (keys_of es) (omega arith) old.born);
  watched = watched;
  places = places;
}

-- where nothing came of a record
pub lawful_unchanged : (version applied : ℕ) (w w' : code.World) (es es' : List (ℕ × NumberedKqueue))
    → IsLawful version applied w es → world_of w' ≡ world_of w → last_of w' ≡ last_of w → es' ≡ es → IsLawful version applied w' es'
lawful_unchanged version applied w w' es es' old same last entries =
    subst (λ (l : List (ℕ × NumberedKqueue)). IsLawful version applied w' l) (sym entries) (record {
      of_version = old.of_version;
      born = old.born;
      watched =
          subst (λ (v : World). AllWatchTheirNumbers (record { version = version; world = v; live = map live_of es }))
          (sym same) old.watched;
      places = let before = old.places in omega arith;
    })

-- where nothing came of a call
pub lawful_same : (version applied : ℕ) (w : code.World) (es es' : List (ℕ × NumberedKqueue))
    → IsLawful version applied w es → HaveStayed es es' → map live_of es' ≡ map live_of es
    → IsLawful version applied w es'
lawful_same version applied w es es' old stayed same = record {
  of_version = stayed.of_version version old.of_version;
  born = stayed.up_to applied old.born;
  watched = subst (λ (ls : List Live). AllWatchTheirNumbers
      (record { version = version; world = world_of w; live = ls }))
      (sym same) old.watched;
  places = old.places;
}

-- ---- impossible records

pub refused_step : (place : ℕ) (e : Event) (old : System) (w : World) (why : Why)
    → plan place e old.world ≡ Impossible why → w ≡ world_after place (plan place e old.world) old.world
    → IsStep place e old (record old { world = w }) (reply.Impossible why)
refused_step place e old w why is world =
    let same : w ≡ old.world = world ∙ ap (λ (q : Planned). world_after place q old.world) is in
    subst (λ (v : World). IsStep place e old (record old { world = v }) (reply.Impossible why)) (sym same)
    (impossible place e old why is)

-- ---- records that call nothing and make nothing

pub happened_step : (place : ℕ) (e : Event) (old : System) (effect : Effect) (w : World) (live : List Live) → IsPlain e
    → ((pid child : ℕ) → e ≡ event.Fork pid child → ⊥)
    → IsEffectOf (plan place e old.world) effect → IsOk effect.verdict
    → w ≡ world_after place (plan place e old.world) old.world
    → live ≡ happened_to_all (pairs_in effect.closed) effect.hints (views_of w) old.live
    → IsStep place e old (record old { world = w; live = live }) reply.Done
unfolding born
happened_step place e old effect w live plain no_fork is ok world lives =
    let d = done (plan place e old.world) effect is ok in
    let p = d.plan_is in
    told place e p old w live (pairs_in effect.closed) effect.hints d.is d.closed_is d.hints_is
    (plain.clock place old.world p d.is) (plain.call place old.world p d.is) (ap all_forks d.hints_is ∙ silent-records place e old.world p no_fork d.is)
    (world ∙ ap (λ (q : Planned). world_after place q old.world) d.is)
    (lives ∙ sym (append-nil _) ∙ ap (λ (b : Option Pair). happened_to_all (pairs_in effect.closed) effect.hints
    (views_of w) old.live ++ born place b) (sym (plain.born place old.world p d.is)))

-- ---- kevent

pub kevent_plan : (place pid fd room : ℕ) (changes : List Change) (w : World)
    → plan place (event.Kevent pid fd changes room) w ≡ plan_kevent pid fd changes room w
unfolding plan
kevent_plan place pid fd room changes w = refl

-- a possible call is on what the number names
pub record IsOn (pid fd room : ℕ) (changes : List Change) (w : World) (p : Plan) : Type 0 where
  pub kqueue : ℕ
  pub there : named_by pid fd w ≡ Some (named.Kqueue kqueue)
  pub plan_is : p ≡ call_plan (record { kqueue = kqueue; changes = changes; room = room })

same_plan : (p q : Plan) → Possible p ≡ Possible q → p ≡ q
same_plan p q e = cc

many_step : (many : Bool) (c : Call) (p : Plan) → cond many (Impossible TooMany) (Possible (call_plan c)) ≡ Possible p
    → p ≡ call_plan c
many_step true c p e = absurd (cc)
many_step false c p e = sym (same_plan (call_plan c) p e)

named_step : (found : Option Named) (pid fd room : ℕ) (changes : List Change) (w : World) (p : Plan)
    → named_by pid fd w ≡ found → on_named (plan_call changes room) found ≡ Possible p → IsOn pid fd room changes w p
unfolding on_named plan_call
named_step None pid fd room changes w p is e = absurd (cc)
named_step (Some (named.Kqueue place)) pid fd room changes w p is e = record {
  kqueue = place;
  there = is;
  plan_is = many_step (nat_lt most_changes (length changes) || nat_lt most_room room) _ p e;
}
named_step (Some (named.Socket place)) pid fd room changes w p is e = absurd (cc)
named_step (Some (named.PipeRead place)) pid fd room changes w p is e = absurd (cc)
named_step (Some (named.PipeWrite place)) pid fd room changes w p is e = absurd (cc)
named_step (Some (named.Open place number)) pid fd room changes w p is e = absurd (cc)

passed : (b : Bool) (why : Why) (q : Planned) (p : Plan) → cond b (Impossible why) q ≡ Possible p
    → (b ≡ false) × (q ≡ Possible p)
passed true why q p e = absurd (cc)
passed false why q p e = (refl, e)

pub possible_call : (pid fd room : ℕ) (changes : List Change) (w : World) (p : Plan)
    → plan_kevent pid fd changes room w ≡ Possible p → IsOn pid fd room changes w p
unfolding plan_kevent on_descriptor
possible_call pid fd room changes w p e =
    named_step (named_by pid fd w) pid fd room changes w p refl
    (passed (not (is_live pid w.processes)) NoProcess _ p e).1

same_kqueue : (a b : ℕ) → Some (named.Kqueue a) ≡ Some (named.Kqueue b) → a ≡ b
same_kqueue a b e = cc

-- the plan of a possible call on this kqueue
pub call_planned : (place pid fd room : ℕ) (changes : List Change) (w : World) (effect : Effect) (kqueue : ℕ)
    → IsEffectOf (plan_kevent pid fd changes room w) effect → IsOk effect.verdict
    → named_by pid fd w ≡ Some (named.Kqueue kqueue)
    → plan place (event.Kevent pid fd changes room) w
    ≡ Possible (call_plan (record { kqueue = kqueue; changes = changes; room = room }))
call_planned place pid fd room changes w effect kqueue is ok there =
    let d = done (plan_kevent pid fd changes room w) effect is ok in
    let on = possible_call pid fd room changes w d.plan_is d.is in
    let same = same_kqueue on.kqueue kqueue (sym on.there ∙ there) in
    kevent_plan place pid fd room changes w ∙ d.is ∙ ap Possible (on.plan_is
    ∙ ap (λ k. call_plan (record { kqueue = k; changes = changes; room = room })) same)

-- ---- kqueue

pub kqueue_plan : (place pid fd : ℕ) (w : World) → plan place (event.Kqueue pid fd) w ≡ plan_kqueue pid fd w
unfolding plan
kqueue_plan place pid fd w = refl

pub not_not : (b : Bool) → not b ≡ false → b ≡ true
not_not true e = refl
not_not false e = sym e

-- a possible record opens a number of a live process that was not open
pub record Opens (pid fd : ℕ) (w : World) (p : Plan) : Type 0 where
  pub live : is_live pid w.processes ≡ true
  pub absent : is_some (named_by pid fd w) ≡ false
  pub plan_is : p ≡ record idle { born = Some (record { pid = pid; number = fd }) }

pub possible_kqueue : (pid fd : ℕ) (w : World) (p : Plan) → plan_kqueue pid fd w ≡ Possible p → Opens pid fd w p
unfolding plan_kqueue
possible_kqueue pid fd w p e =
    let live = passed (not (is_live pid w.processes)) NoProcess _ p e in
    let absent = passed (is_some (named_by pid fd w)) UsedDescriptor _ p live.1 in
    record {
      live = not_not (is_live pid w.processes) live.0;
      absent = absent.0;
      plan_is = sym (same_plan (record idle { born = Some (record { pid = pid; number = fd }) }) p absent.1);
    }

-- ---- where memory is refused

pub opens_possible : (pid fd : ℕ) (w : World) → is_live pid w.processes ≡ true → is_some (named_by pid fd w) ≡ false
    → IsPossible (plan_kqueue pid fd w)
unfolding plan_kqueue
opens_possible pid fd w live absent = rw (live, absent) tt

pub kqueue_possible : (place pid fd : ℕ) (e : Event) (w : World) → e ≡ event.Kqueue pid fd
    → IsPossible (plan_kqueue pid fd w) → IsPossible (plan place e w)
kqueue_possible place pid fd e w is possible =
    subst IsPossible (sym (ap (λ (x : Event). plan place x w) is ∙ kqueue_plan place pid fd w)) possible

pub call_possible : (place pid fd room : ℕ) (changes : List Change) (w : World) (effect : Effect)
    → IsEffectOf (plan_kevent pid fd changes room w) effect → IsOk effect.verdict
    → IsPossible (plan place (event.Kevent pid fd changes room) w)
call_possible place pid fd room changes w effect is ok =
    let d = done (plan_kevent pid fd changes room w) effect is ok in
    subst IsPossible (sym (kevent_plan place pid fd room changes w ∙ d.is)) tt

not_possible : (planned : Planned) (why : Why) → planned ≡ Impossible why → IsPossible planned → ⊥
not_possible planned why is possible = subst IsPossible is possible

-- an impossible event is answered
pub answered : {T E : Type 0} (r : Result T E) (place : ℕ) (e : Event) (s : System)
    → OnErr r (IsPossible (plan place e s.world)) → IsImpossible place e s → IsOk r
answered (Ok x) place e s possible impossible = refl
answered (Err x) place e s possible impossible =
    absurd (not_possible (plan place e s.world) impossible.0
    (ap (plan place e) (sym (seen-counted s.world)) ∙ impossible.1) possible)

-- One step of the system by its plan.
use Rattle.std.proofs.Common.{[], ◌≡◌, ◌∙◌, ℕ, List, ◌++◌, Option, None, Some, Result, Ok, Err, IsOk, refl, sym, ap, ap₂, subst, append-nil}
use Rattle.kq_model.specs.Following.{all_forks}
use Rattle.kq_model.specs.declared.event.Event.{Event}
use Rattle.kq_model.specs.declared.reply.Reply.{Reply}
use Rattle.kq_model.specs.declared.reply.Reply.TheVariants as reply
use Rattle.kq_model.specs.declared.why.Why.{Why}
use Rattle.kq_model.specs.Close.{Pair}
use Rattle.kq_model.specs.CountedWorld.{IsCountedWorld}
use Rattle.kq_model.specs.Descriptors.{Descriptor, IsRising, with_descriptors}
use Rattle.kq_model.specs.Moment.{moment_of}
use Rattle.kq_model.specs.Objects.{all_done}
use Rattle.kq_model.specs.Plans.{plan}
use Rattle.kq_model.specs.Processes.{with_process, without_process, with_disposition}
use Rattle.kq_model.specs.Recast.{tallied_system}
use Rattle.kq_model.specs.System.{born, empty_system, reply_to, step, step_by}
use Rattle.kq_model.specs.Tallied.{Live, System, World}
use Rattle.kq_model.specs.Targets.{Posted}
use Rattle.kq_model.specs.WatchedNumbers.{AllWatchTheirNumbers}
use Rattle.kq_model.specs.World.{Call, Impossible, Plan, Planned, Possible, carried_out, clock_after, idle, views_of, with_kqueue}
use Rattle.kq_model.proofs.SeenWorld.{seen-counted}
use Rattle.kq_model.proofs.WatchedNumbers.{step-watched}
use Rattle.kq_process.specs.declared.effect.Effect.{Effect}
use Rattle.kq_process.specs.Effects.{IsEffectOf, pairs_in}
use Rattle.kq_system.specs.SystemState.{IsCalled, IsQuiet, IsStep, call_plan, happened_to_all}
use Rattle.kq_system.proofs.HappenLemmas.{IsTold, told_all}
use Rattle.kq_system.proofs.QuietLemmas.{lived_none, none_closed}

-- ---- steps by their plans

abbrev pub StepsBy : ℕ → Planned → System → System → Reply → Type 0
StepsBy place p old new r = (new ≡ (step_by place p old).system) × (r ≡ (step_by place p old).reply)

pub by_plan : (place : ℕ) (e : Event) (p : Planned) (old new : System) (r : Reply) → plan place e old.world ≡ p
    → StepsBy place p old new r → IsStep place e old new r
unfolding step
by_plan place e p old new r is steps =
    subst (λ q. StepsBy place q old new r) (sym (ap (plan place e) (seen-counted old.world) ∙ is)) steps

pub impossible : (place : ℕ) (e : Event) (s : System) (why : Why) → plan place e s.world ≡ Impossible why
    → IsStep place e s s (reply.Impossible why)
unfolding step_by
impossible place e s why is = by_plan place e (Impossible why) s s (reply.Impossible why) is (refl, refl)

-- ---- the worlds that plans leave

called_world : (place : ℕ) (c : Call) (w : World) → w ≡ carried_out place (call_plan c) w
unfolding carried_out with_process without_process with_disposition with_kqueue with_descriptors all_done clock_after
called_world place c w = ap (λ (table : List Descriptor). record w { table = table }) (sym (none_closed w.table))

-- kqueues that are called see the world as it was
pub called_views : (version place : ℕ) (c : Call) (w : World)
    → (moment_of version place (call_plan c) w).views ≡ views_of w
unfolding moment_of
called_views version place c w = ap views_of (seen-counted (carried_out place (call_plan c) w)
    ∙ sym (called_world place c w))

pub quiet_call : (version place : ℕ) (c : Call) (w : World) → IsQuiet (moment_of version place (call_plan c) w)
unfolding moment_of
quiet_call version place c w = record { closed = refl; hints = refl; clock = refl }

pub call_of : (version place : ℕ) (c : Call) (w : World) → (moment_of version place (call_plan c) w).call ≡ Some c
unfolding moment_of
call_of version place c w = refl

pub version_of : (version place : ℕ) (c : Call) (w : World)
    → (moment_of version place (call_plan c) w).version ≡ version
unfolding moment_of
version_of version place c w = refl

-- ---- calls

pub called : (place : ℕ) (e : Event) (c : Call) (old : System) (live : List Live) (r : Reply)
    → plan place e old.world ≡ Possible (call_plan c)
    → IsCalled (moment_of old.version place (call_plan c) old.world) c old.live live r
    → IsStep place e old (record old { live = live }) r
unfolding step_by born reply_to
called place e c old live r is does =
    by_plan place e (Possible (call_plan c)) old (record old { live = live }) r is (
      ap₂ (λ (w : World) (ls : List Live). record old { world = w; live = ls }) (called_world place c old.world)
          (does.0 ∙ sym (append-nil _)),
      does.1,
    )

-- ---- effects and plans

clash : {T E : Type 0} (r : Result T E) (e : E) → IsOk r → r ≡ Err e → ⊥
clash (Ok x) e ok err = cc
clash (Err x) e ok err = cc

-- an effect that is refused is that of an impossible record
pub refused : (planned : Planned) (e : Effect) (why : Why) → IsEffectOf planned e → e.verdict ≡ Err why
    → planned ≡ Impossible why
refused (Impossible other) e why is err =
    let both : Err other ≡ Err why = sym is.verdict ∙ err in
    let same : other ≡ why = cc in ap Impossible same
refused (Possible p) e why is err = absurd (clash e.verdict why is.verdict err)

-- what a possible record did
pub record HasDone (planned : Planned) (closed : List Pair) (hints : List Posted) : Type 0 where
  pub plan_is : Plan
  pub is : planned ≡ Possible plan_is
  pub closed_is : closed ≡ plan_is.closed
  pub hints_is : hints ≡ plan_is.hints

pub done : (planned : Planned) (e : Effect) → IsEffectOf planned e → IsOk e.verdict
    → HasDone planned (pairs_in e.closed) e.hints
done (Impossible why) e is ok = absurd (clash e.verdict why ok is.verdict)
done (Possible p) e is ok = record { plan_is = p; is = refl; closed_is = is.closed; hints_is = is.hints }

-- ---- a record that calls nothing

-- what is told at the moment of such a plan
told_at : (version place : ℕ) (p : Plan) (w w' : World) (closed : List Pair) (hints : List Posted)
    → closed ≡ p.closed → hints ≡ p.hints → p.clock ≡ None → p.call ≡ None → all_forks hints ≡ [] → w' ≡ carried_out place p w
    → IsTold closed hints (views_of w') (moment_of version place p w)
unfolding moment_of
told_at version place p w w' closed hints same_closed same_hints clock call silent world = record {
  closed_is = sym same_closed;
  hints_is = sym same_hints;
  views_is = ap views_of (seen-counted (carried_out place p w) ∙ sym world);
  clock = clock;
  call = call;
  silent = silent;
}

pub told : (place : ℕ) (e : Event) (p : Plan) (old : System) (w : World) (live : List Live) (closed : List Pair)
    (hints : List Posted) → plan place e old.world ≡ Possible p
    → closed ≡ p.closed → hints ≡ p.hints → p.clock ≡ None → p.call ≡ None → all_forks hints ≡ [] → w ≡ carried_out place p old.world
    → live ≡ happened_to_all closed hints (views_of w) old.live ++ born place p.born
    → IsStep place e old (record old { world = w; live = live }) reply.Done
unfolding step_by reply_to
told place e p old w live closed hints is same_closed same_hints clock call silent world lives =
    let m = moment_of old.version place p old.world in
    let all = told_all closed hints (views_of w) m old.live
    (told_at old.version place p old.world w closed hints same_closed same_hints clock call silent world) in
    by_plan place e (Possible p) old (record old { world = w; live = live }) reply.Done is (
      ap₂ (λ (w : World) (ls : List Live). record old { world = w; live = ls }) world
          (lives ∙ ap (λ ls. ls ++ born place p.born) (sym all)),
      ap (λ (c : Option Call). reply_to m c old.live) (sym call),
    )

-- ---- a kqueue that is made

bears : (place pid number : ℕ) (e : Event) (old : System) (w : World) (live : List Live)
    → plan place e old.world ≡ Possible (record idle { born = Some (record { pid = pid; number = number }) })
    → w ≡ carried_out place (record idle { born = Some (record { pid = pid; number = number }) }) old.world
    → live ≡ old.live ++ born place (Some (record { pid = pid; number = number }))
    → IsStep place e old (record old { world = w; live = live }) reply.Done
unfolding step_by reply_to moment_of
bears place pid number e old w live planned world grown =
    let q : Plan = record idle { born = Some (record { pid = pid; number = number }) } in
    by_plan place e (Possible q) old (record old { world = w; live = live }) reply.Done planned (
      ap₂ (λ (w : World) (ls : List Live). record old { world = w; live = ls }) world
          (grown ∙ ap (λ ls. ls ++ born place q.born) (sym (lived_none (moment_of old.version place q old.world)
          old.live (record { closed = refl; hints = refl; clock = refl }) refl))),
      refl,
    )

pub opened : (place pid number : ℕ) (e : Event) (p : Plan) (old : System) (w : World) (live : List Live)
    → plan place e old.world ≡ Possible p → p ≡ record idle { born = Some (record { pid = pid; number = number }) }
    → w ≡ carried_out place p old.world
    → live ≡ old.live ++ born place (Some (record { pid = pid; number = number }))
    → IsStep place e old (record old { world = w; live = live }) reply.Done
opened place pid number e p old w live planned is world grown =
    bears place pid number e old w live (planned ∙ ap Possible is)
    (world ∙ ap (λ (p : Plan). carried_out place p old.world) is) grown

-- after a step READ, WRITE and VNODE knotes watch what their numbers name, where they did before
pub stays_watched : (place next : ℕ) (e : Event) (old new : System) (r : Reply) → IsStep place e old new r
    → IsCountedWorld next new.world → AllWatchTheirNumbers old → AllWatchTheirNumbers new
stays_watched place next e old new r steps counted all =
    subst (λ (s : System). AllWatchTheirNumbers s) (sym steps.0)
    (step-watched place e old (subst (λ (s : System). IsRising s.world.table) steps.0 counted.rising) all)

-- the empty system of the code stands for that of the definitions
pub opening : (version : ℕ) → ◌≡◌ {A = System} (tallied_system (empty_system version)) (empty_system version)
opening version = refl

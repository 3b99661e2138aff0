-- What a fork does: each kqueue hears of it, and follows the child.
use Rattle.std.proofs.Common.{◌≡◌, ◌∙◌, ◌++◌, ℕ, false, not, List, [], ◌∷◌, map, Option, None, IsOk, refl, sym, ap, ap₂, subst, append-nil}
use Rattle.std.proofs.lemmas.Bool.{cond_both}
use Rattle.kq_model.specs.declared.event.Event.TheVariants as event
use Rattle.kq_model.specs.ProcessPlans.{forked, plan_fork}
use Rattle.kq_model.specs.Processes.{is_live, was_used}
use Rattle.kq_model.specs.declared.event.Event.{Event}
use Rattle.kq_model.specs.declared.reply.Reply.TheVariants as reply
use Rattle.kq_model.specs.Clock.{clocked}
use Rattle.kq_model.specs.Close.{Pair}
use Rattle.kq_model.specs.Following.{followed}
use Rattle.kq_model.specs.Hints.{notified}
use Rattle.kq_model.specs.Moment.{Moment, moment_of, happened, after_call, kqueue_step}
use Rattle.kq_model.specs.Plans.{plan}
use Rattle.kq_model.specs.System.{born, lived, reply_to, step_by, stepped}
use Rattle.kq_model.specs.Tallied.{Kqueue, Live, System, World}
use Rattle.kq_model.specs.Targets.{Posted}
use Rattle.kq_model.specs.Views.{Views}
use Rattle.kq_model.specs.World.{Call, Plan, Planned, Impossible, Possible, carried_out, views_of}
use Rattle.kq_model.proofs.SeenWorld.{seen-counted}
use Rattle.kq_process.specs.declared.effect.Effect.{Effect}
use Rattle.kq_process.specs.Effects.{IsEffectOf, IsPossible}
use Rattle.kq_system.specs.SystemState.{IsStep, followed_to}
use Rattle.kq_system.proofs.QuietLemmas.{all_kept, closed_none}
use Rattle.kq_system.proofs.SystemLemmas.{by_plan, done}

module _ (m : Moment) (shut : m.closed ≡ []) (call : m.call ≡ None) (clock : m.clock ≡ None) where
  forked_one : (l : Live) → stepped m l ≡ followed_to m.version m.hints m.views l
  unfolding stepped kqueue_step after_call happened clocked
  forked_one l = rw (call, clock, shut)
      (ap (λ (kq : Kqueue). record l { kq = followed m.version m.hints (notified m.views m.hints kq) }) (closed_none l.owner l.kq))

  forked_each : (ls : List Live) → map (stepped m) ls ≡ map (followed_to m.version m.hints m.views) ls
  forked_each [] = refl
  forked_each (l ∷ ls) = ap₂ (λ (l : Live) (r : List Live). l ∷ r) (forked_one l) (forked_each ls)

  forked_lived : (ls : List Live) → lived m ls ≡ map (followed_to m.version m.hints m.views) ls
  unfolding lived
  forked_lived ls = ap (map (stepped m)) (rw shut (all_kept (λ (l : Live). not false) ls (λ l. refl))) ∙ forked_each ls

-- a record that only tells
pub record OnlyTells (hints : List Posted) (p : Plan) : Type 0 where
  pub closed : p.closed ≡ []
  pub told : p.hints ≡ hints
  pub call : p.call ≡ None
  pub born : p.born ≡ None
  pub clock : p.clock ≡ None

forked_at : (version place : ℕ) (hints : List Posted) (p : Plan) (w w' : World) → OnlyTells hints p → w' ≡ carried_out place p w
    → (ls : List Live) → lived (moment_of version place p w) ls ≡ map (followed_to version hints (views_of w')) ls
unfolding moment_of
forked_at version place hints p w w' tells world ls =
    forked_lived (moment_of version place p w) tells.closed tells.call tells.clock ls
    ∙ ap₂ (λ (hs : List Posted) (vs : Views). map (followed_to version hs vs) ls) tells.told
    (ap views_of (seen-counted (carried_out place p w) ∙ sym world))

pub forked_step : (place : ℕ) (e : Event) (hints : List Posted) (p : Plan) (old : System) (w : World) (live : List Live)
    → plan place e old.world ≡ Possible p → OnlyTells hints p → w ≡ carried_out place p old.world
    → live ≡ map (followed_to old.version hints (views_of w)) old.live
    → IsStep place e old (record old { world = w; live = live }) reply.Done
unfolding step_by reply_to born
forked_step place e hints p old w live is tells world lives =
    let m = moment_of old.version place p old.world in
    by_plan place e (Possible p) old (record old { world = w; live = live }) reply.Done is (
      ap₂ (λ (w : World) (ls : List Live). record old { world = w; live = ls }) world
          (lives ∙ sym (ap (λ (b : Option Pair). lived m old.live ++ born place b) tells.born ∙ append-nil (lived m old.live)
          ∙ forked_at old.version place hints p old.world w tells world old.live)),
      ap (λ (c : Option Call). reply_to m c old.live) (sym tells.call),
    )

-- where it is possible
abbrev pub IfTells : List Posted → Planned → Type 0
IfTells hints (Impossible why) = Unit {0}
IfTells hints (Possible p) = OnlyTells hints p

pub fork_tells : (place pid child : ℕ) (w : World) → IfTells (forked pid child) (plan place (event.Fork pid child) w)
unfolding plan plan_fork
fork_tells place pid child w =
    cond_both (not (is_live pid w.processes)) _ _ (IfTells (forked pid child)) (λ _. tt)
    (λ _. cond_both (was_used child w.processes) _ _ (IfTells (forked pid child)) (λ _. tt)
    (λ _. record { closed = refl; told = refl; call = refl; born = refl; clock = refl }))

-- ---- whether it can be carried out

pub fork_possible : (place pid child : ℕ) (e : Event) (w : World) → e ≡ event.Fork pid child
    → IsPossible (plan_fork pid child w) → IsPossible (plan place e w)
unfolding plan
fork_possible place pid child e w is possible = subst (λ (e : Event). IsPossible (plan place e w)) (sym is) possible

-- where it was, it could be
pub fork_was_possible : (place pid child : ℕ) (e : Event) (w : World) (effect : Effect) → e ≡ event.Fork pid child
    → IsEffectOf (plan place e w) effect → IsOk effect.verdict → IsPossible (plan_fork pid child w)
unfolding plan
fork_was_possible place pid child e w effect is does ok =
    let d = done (plan place e w) effect does ok in
    subst IsPossible (sym d.is ∙ ap (λ (e : Event). plan place e w) is) tt

-- it was carried out, and these are its hints
pub record HasForked (pid child : ℕ) (effect : Effect) : Type 0 where
  pub ok : IsOk effect.verdict
  pub hints : effect.hints ≡ forked pid child

when_possible : (pid child : ℕ) (q : Planned) (effect : Effect) → IsPossible q → IfTells (forked pid child) q
    → IsEffectOf q effect → HasForked pid child effect
when_possible pid child (Impossible why) effect possible tells does = absurd possible
when_possible pid child (Possible p) effect possible tells does =
    record { ok = does.verdict; hints = does.hints ∙ tells.told }

pub has_forked : (place pid child : ℕ) (e : Event) (w : World) (effect : Effect) → e ≡ event.Fork pid child
    → IsPossible (plan_fork pid child w) → IsEffectOf (plan place e w) effect → HasForked pid child effect
has_forked place pid child e w effect is possible does =
    when_possible pid child (plan place e w) effect (fork_possible place pid child e w is possible)
    (subst (λ (e : Event). IfTells (forked pid child) (plan place e w)) (sym is) (fork_tells place pid child w)) does

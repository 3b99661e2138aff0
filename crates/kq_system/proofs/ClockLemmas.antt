-- What a clock record does: each kqueue's clock goes on by the same span, and nothing else happens.
use Rattle.std.proofs.Common.{◌≡◌, ◌∙◌, ◌++◌, ◌≤◌, ◌≤ℤ◌, ℕ, ℤ, pos, negsuc, FitsSigned, w64, to_z, false, not, List, [], ◌∷◌, map, Option, None, Some, IsOk, ltb, refl, sym, ap, ap₂, subst, append-nil, arith}
use Rattle.std.proofs.lemmas.Bool.{cond_both, ltb-false}
use Rattle.std.proofs.lemmas.Int.{ints, to_z_pos}
use Rattle.kq_model.specs.declared.event.Event.{Event}
use Rattle.kq_model.specs.declared.event.Event.TheVariants as event
use Rattle.kq_model.specs.declared.reply.Reply.TheVariants as reply
use Rattle.kq_model.specs.declared.why.Why.TheVariants.{ClockBack}
use Rattle.kq_model.specs.Clock.{Span, clocked}
use Rattle.kq_model.specs.Close.{Pair}
use Rattle.kq_model.specs.Close as shut
use Rattle.kq_model.specs.Following.{all_forks}
use Rattle.kq_model.specs.Hints.{notified}
use Rattle.kq_model.specs.Moment.{Moment, moment_of, happened, after_call, kqueue_step}
use Rattle.kq_model.specs.Plans.{plan}
use Rattle.kq_model.specs.ProcessPlans.{plan_clock, plan_clock_at}
use Rattle.kq_model.specs.System.{born, lived, reply_to, step_by, stepped}
use Rattle.kq_model.specs.Tallied.{Kqueue, Live, System, World}
use Rattle.kq_model.specs.Ticks.{last_moment}
use Rattle.kq_model.specs.World.{Call, Plan, Planned, Impossible, Possible, carried_out, clock_after, idle}
use Rattle.kq_process.specs.declared.effect.Effect.{Effect}
use Rattle.kq_process.specs.Effects.{IsEffectOf, world_after}
use Rattle.kq_system.proofs.SilentLemmas.{none-follow}
use Rattle.kq_system.specs.SystemState.{IsStep, ticked}
use Rattle.kq_system.proofs.QuietLemmas.{all_kept, closed_none, notified_none}
use Rattle.kq_system.proofs.SystemLemmas.{by_plan, done}

-- ---- a clock record does nothing else

-- nothing is closed, told or called, and nothing is made
pub record MovesClock (span : Span) (p : Plan) : Type 0 where
  pub closed : p.closed ≡ []
  pub hints : p.hints ≡ []
  pub call : p.call ≡ None
  pub born : p.born ≡ None
  pub clock : p.clock ≡ Some span

-- where the moment is not below the clock, the record goes from there to it
pub record Goes (ns : ℤ) (w : World) (p : Plan) : Type 0 where
  pub moment : ℕ
  pub is : ns ≡ pos moment
  pub ordered : w.now ≤ moment
  pub moves : MovesClock (record { from = w.now; to = moment }) p
  pub now : (place : ℕ) → (carried_out place p w).now ≡ moment

abbrev IfGoes : ℤ → World → Planned → Type 0
IfGoes ns w (Impossible why) = Unit {0}
IfGoes ns w (Possible p) = Goes ns w p

clock_goes : (moment : ℕ) (w : World) → IfGoes (pos moment) w (plan_clock moment w)
unfolding plan_clock carried_out clock_after
clock_goes moment w =
    cond_both (ltb moment w.now) (Impossible ClockBack)
    (Possible (record idle { clock = Some (record { from = w.now; to = moment }) })) (IfGoes (pos moment) w)
    (λ _. tt) (λ after. record {
      moment = moment;
      is = refl;
      ordered = ltb-false moment w.now after;
      moves = record { closed = refl; hints = refl; call = refl; born = refl; clock = refl };
      now = λ place. refl;
    })

goes_at : (ns : ℤ) (w : World) → IfGoes ns w (plan_clock_at ns w)
unfolding plan_clock_at
goes_at (pos moment) w = clock_goes moment w
goes_at (negsuc n) w = tt

clock_event : (place : ℕ) (ns : ℤ) (w : World) → IfGoes ns w (plan place (event.Clock ns) w)
unfolding plan
clock_event place ns w = goes_at ns w

pub goes : (place : ℕ) (ns : ℤ) (w : World) (p : Plan) → plan place (event.Clock ns) w ≡ Possible p → Goes ns w p
goes place ns w p planned = subst (IfGoes ns w) planned (clock_event place ns w)

pub clock-calls : (place : ℕ) (ns : ℤ) (w : World) (p : Plan) → plan place (event.Clock ns) w ≡ Possible p → p.call ≡ None
clock-calls place ns w p planned = (goes place ns w p planned).moves.call

-- ---- the kqueues at such a moment

module _ (span : Span) (m : Moment) (closed : m.closed ≡ []) (hints : m.hints ≡ []) (none : m.call ≡ None) (clock : m.clock ≡ Some span) where
  ticks_one : (l : Live) → stepped m l ≡ ticked span l
  unfolding stepped kqueue_step after_call happened all_forks
  ticks_one l = rw (none, clock, closed, hints)
      (ap (λ (kq : Kqueue). record l { kq = clocked (Some span) kq }) (none-follow m.version [] (notified m.views [] (shut.closed l.owner [] l.kq)) refl ∙ ap (notified m.views []) (closed_none l.owner l.kq) ∙ notified_none m.views l.kq))

  ticks_each : (ls : List Live) → map (stepped m) ls ≡ map (ticked span) ls
  ticks_each [] = refl
  ticks_each (l ∷ ls) = ap₂ (λ (x : Live) (rest : List Live). x ∷ rest) (ticks_one l) (ticks_each ls)

  ticks_all : (ls : List Live) → lived m ls ≡ map (ticked span) ls
  unfolding lived
  ticks_all ls = ap (map (stepped m)) (rw closed (all_kept (λ (l : Live). not false) ls (λ l. refl))) ∙ ticks_each ls

-- ---- a possible clock record

-- what is known of the clock after it
pub record HasGone (place : ℕ) (ns : ℤ) (old : System) (w : World) (to : ℕ) : Type 0 where
  pub ordered : old.world.now ≤ to
  pub within : to ≤ last_moment
  pub steps : (live : List Live) → live ≡ map (ticked (record { from = old.world.now; to = to })) old.live
      → IsStep place (event.Clock ns) old (record old { world = w; live = live }) reply.Done

in_range : (ns : ℤ) (moment : ℕ) → FitsSigned w64 ns → ns ≡ pos moment → moment ≤ last_moment
in_range ns moment fits is =
    let here : FitsSigned w64 (pos moment) = subst (FitsSigned w64) is fits in
    omega (arith, ints, here)

pub has_gone : (place : ℕ) (ns : ℤ) (old : System) (effect : Effect) (w : World) (to : ℕ) → FitsSigned w64 ns
    → IsEffectOf (plan place (event.Clock ns) old.world) effect → IsOk effect.verdict
    → w ≡ world_after place (plan place (event.Clock ns) old.world) old.world → to ≡ w.now → HasGone place ns old w to
unfolding step_by born reply_to moment_of
has_gone place ns old effect w to fits effects ok world now =
    let e : Event = event.Clock ns in
    let d = done (plan place e old.world) effect effects ok in
    let p = d.plan_is in
    let gone = goes place ns old.world p d.is in
    let carried = world ∙ ap (λ (q : Planned). world_after place q old.world) d.is in
    let to_is : to ≡ gone.moment = now ∙ ap (λ (v : World). v.now) carried ∙ gone.now place in
    let m = moment_of old.version place p old.world in
    let span : Span = record { from = old.world.now; to = gone.moment } in
    let all = ticks_all span m gone.moves.closed gone.moves.hints gone.moves.call gone.moves.clock old.live in
    record {
      ordered = omega (arith, gone.ordered, to_is);
      within = omega (arith, in_range ns gone.moment fits gone.is, to_is);
      steps = λ live lives.
          by_plan place e (Possible p) old (record old { world = w; live = live }) reply.Done d.is (
            ap₂ (λ (v : World) (ls : List Live). record old { world = v; live = ls }) carried
                (lives ∙ ap (λ n. map (ticked (record { from = old.world.now; to = n })) old.live) to_is
                ∙ sym (ap (λ (b : Option Pair). lived m old.live ++ born place b) gone.moves.born ∙ append-nil (lived m old.live) ∙ all)),
            ap (λ (c : Option Call). reply_to m c old.live) (sym gone.moves.call),
          );
    }

-- ---- moments as a kqueue takes them

pub as_moment : (moment : ℕ) → moment ≤ last_moment → to_z w64 moment ≡ pos moment
as_moment moment within = to_z_pos w64 moment (omega (arith, within))

pub moment-past : (z : ℤ) (moment : ℕ) → z ≡ pos moment → pos 0 ≤ℤ z
moment-past z moment is = omega (arith, ints, is)

pub moments-ordered : (from to : ℤ) (a b : ℕ) → from ≡ pos a → to ≡ pos b → a ≤ b → from ≤ℤ to
moments-ordered from to a b from_is to_is ordered = omega (arith, ints, from_is, to_is, ordered)

-- What the record of each moment of a trace is.
use Rattle.std.proofs.Common.{◌≡◌, ℕ, pos, suc, ◌+◌, ◌≤◌, ltb, List, [], ◌∷◌, ◌++◌, slice_get, Some, refl, sym, ap, ◌∙◌, if◌then◌else◌, arith}
use Rattle.std.proofs.lemmas.Bool.{ltb-false}
use Rattle.std.proofs.lemmas.List.Elements.{All-nil, All-cons, All-weaker}
use Rattle.std.specs.List.{All}
use Rattle.kq_model.specs.declared.event.Event.{Event}
use Rattle.kq_model.specs.declared.event.Event.TheVariants as event
use Rattle.kq_model.specs.declared.why.Why.TheVariants.{ClockBack}
use Rattle.kq_model.specs.Moment.{Moment, moment_of}
use Rattle.kq_model.specs.Moments.{moment_by, moments_from, plans_from, world_by}
use Rattle.kq_model.specs.Objects.{counted}
use Rattle.kq_model.specs.Plans.{plan}
use Rattle.kq_model.specs.ProcessPlans.{plan_clock, plan_clock_at}
use Rattle.kq_model.specs.Projection.{moments}
use Rattle.kq_model.specs.World.{World, Plan, Planned, Impossible, Possible, empty_world, idle, seen_world}
use Rattle.kq_model.proofs.KnoteLaws.{by_test}
use Rattle.kq_projection.specs.Sayings.{SaysBy, born_of, call_of, clock_of}
use Rattle.kq_projection.specs.Traced.{Traced}
use Rattle.kq_projection.proofs.Sayings.{says}

-- the clock never goes back
clock-onward : (place to : ℕ) (w : World counted) (p : Plan) → plan place (event.Clock (pos to)) w ≡ Possible p → w.now ≤ to
unfolding plan plan_clock plan_clock_at
clock-onward place to w p possible =
    by_test (λ b. (if b then Impossible ClockBack else Possible (record idle { clock = Some (record { from = w.now; to = to }) })) ≡ Possible p
    → ltb to w.now ≡ b → w.now ≤ to) (ltb to w.now) (λ _ refused _. absurd (cc)) (λ _ _ ahead. ltb-false to w.now ahead) possible refl

-- of the events from this place on: the record of the moment in the world before it, with what it says
pub record IsOf (place : ℕ) (es : List Event) (m : Moment) : Type 0 where
  pub before : ℕ
  pub at : m.place ≡ place + before
  pub said : Event
  pub there : slice_get es before ≡ Some said
  pub world : World counted
  pub call : m.call ≡ call_of said world
  pub clock : m.clock ≡ clock_of said world.now
  pub onward : (to : ℕ) → said ≡ event.Clock (pos to) → world.now ≤ to

module _ (version : ℕ) where
  later : (place : ℕ) (e : Event) (es : List Event) (m : Moment) → IsOf (place + 1) es m → IsOf place (e ∷ es) m
  later place e es m is = record {
    before = suc is.before;
    at = is.at ∙ omega arith;
    said = is.said;
    there = is.there;
    world = is.world;
    call = is.call;
    clock = is.clock;
    onward = is.onward;
  }

  first : (place : ℕ) (e : Event) (es : List Event) (w : World counted) (q : Planned) (rest : List Moment) → plan place e (seen_world w) ≡ q
      → SaysBy (born_of e) (call_of e (seen_world w)) (clock_of e w.now) q → All (IsOf place (e ∷ es)) rest
      → All (IsOf place (e ∷ es)) (moment_by version place q w ++ rest)
  unfolding moment_by moment_of
  first place e es w (Impossible why) rest planned says_it all = all
  first place e es w (Possible p) rest planned says_it all =
      All-cons (IsOf place (e ∷ es)) (moment_of version place p w) rest (record {
        before = 0;
        at = omega arith;
        said = e;
        there = refl;
        world = seen_world w;
        call = says_it.call_is;
        clock = says_it.clock_is;
        onward = λ to is. clock-onward place to (seen_world w) p (ap (λ x. plan place x (seen_world w)) (sym is) ∙ planned);
      }) all

  each-is : (place : ℕ) (w : World counted) (es : List Event) → All (IsOf place es) (moments_from version place w (plans_from place w es))
  unfolding moments_from plans_from
  each-is place w [] = All-nil (IsOf place [])
  each-is place w (e ∷ es) =
      let q = plan place e (seen_world w) in
      let next = world_by place q w in
      let rest = moments_from version (place + 1) next (plans_from (place + 1) next es) in
      first place e es w q rest refl (says (seen_world w) place e)
      (All-weaker (IsOf (place + 1) es) (IsOf place (e ∷ es)) (later place e es) rest (each-is (place + 1) next es))

pub each-record : (t : Traced) → All (IsOf 1 t.events) (moments counted t.version t.events)
each-record t = each-is t.version 1 (empty_world counted) t.events

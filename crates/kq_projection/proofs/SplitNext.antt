-- What a split keeps, before the first record and with one record more.
use Rattle.std.proofs.Common.{◌≡◌, ◌∙◌, ◌<◌, ◌≤◌, ◌+◌, ℕ, zero, suc, length, get_or, List, [], ◌∷◌, ◌++◌, map, Option, None, Some, refl, sym, ap, subst, arith}
use Rattle.std.specs.List.Sorted.{IsStrictlyIncreasing}
use Rattle.std.specs.Prelude.{All}
use Rattle.std.proofs.lemmas.List.{length-map}
use Rattle.std.proofs.lemmas.List.Elements.{All-head, All-map, All-nil, All-weaker}
use Rattle.kq_model.specs.declared.event.Event.{Event}
use Rattle.kq_model.specs.Births.{Birth, birth_at, birth_by, births_from}
use Rattle.kq_model.specs.Close.{Pair}
use Rattle.kq_model.specs.CountedWorld.{IsCountedWorld}
use Rattle.kq_model.specs.ListedFiles.{AreListed}
use Rattle.kq_model.specs.Moments.{moments_from, plans_from}
use Rattle.kq_model.specs.Objects.{counted, listed}
use Rattle.kq_model.specs.Plans.{plan}
use Rattle.kq_model.specs.Projection.{plans}
use Rattle.kq_model.specs.World as model
use Rattle.kq_model.specs.World.{Plan, Planned, Impossible, Possible, carried_out, empty_world}
use Rattle.kq_model.proofs.Distinct.{births-rising}
use Rattle.kq_process.specs.declared.effect.Effect.{Effect}
use Rattle.kq_process.specs.declared.world.World.{World}
use Rattle.kq_process.specs.Effects.{IsEffectOf}
use Rattle.kq_process.specs.World.{world_of, IsEffectBy}
use Rattle.kq_projection.specs.declared.history.kqueues.Kqueues.{Kqueues}
use Rattle.kq_projection.specs.declared.history.message_log.MessageLog.{MessageLog}
use Rattle.kq_projection.specs.Heard.{IsHeard}
use Rattle.kq_projection.specs.Messages.{AreNamedBy, AreTheKqueues, IsMessageLog}
use Rattle.kq_projection.specs.Sayings.{kqueue_of}
use Rattle.kq_projection.specs.Traced.{Traced, births_of, longer, places_of}
use Rattle.kq_projection.specs.Tracked.{IsWorldAfter}
use Rattle.kq_projection.proofs.NamedKqueues.{named-length}
use Rattle.kq_projection.proofs.SaidNext.{said-next}
use Rattle.kq_projection.proofs.TracedWorlds.{end, now, plans-length, world-longer}
use Rattle.kq_projection.proofs.TrackedRecords.{next-is}
use Rattle.kq_projection.proofs.WorldNext.{counted_now, listed_now}

-- ---- the places of births rise

above-all : (x : ℕ) (xs : List ℕ) → All (λ y. x < y) xs → IsStrictlyIncreasing xs → IsStrictlyIncreasing (x ∷ xs)
above-all x [] below rises k within = absurd (omega (arith, within))
above-all x (y ∷ ys) below rises zero within = All-head (λ z. x < z) y ys below
above-all x (y ∷ ys) below rises (suc k) within =
    let next : suc (k + 1) ≡ suc k + 1 = omega arith in
    subst (λ n. get_or (y ∷ ys) k 0 < get_or (x ∷ (y ∷ ys)) n 0) next (rises k (omega (arith, within)))

born-rise : (place : ℕ) (born : Option Pair) (bs : List Birth) → All (λ (b : Birth). place + 1 ≤ b.place) bs
    → IsStrictlyIncreasing (map (λ (b : Birth). b.place) bs) → IsStrictlyIncreasing (map (λ (b : Birth). b.place) (birth_at place born ++ bs))
unfolding birth_at
born-rise place None bs later rises = rises
born-rise place (Some x) bs later rises =
    above-all place (map (λ (b : Birth). b.place) bs)
    (All-map (λ y. place < y) (λ (b : Birth). b.place) bs
    (All-weaker (λ (b : Birth). place + 1 ≤ b.place) (λ (b : Birth). place < b.place) (λ b from. omega (arith, from)) bs later))
    rises

rise-from : (place : ℕ) (qs : List Planned) → IsStrictlyIncreasing (map (λ (b : Birth). b.place) (births_from place qs))
unfolding births_from birth_by
rise-from place [] = λ k within. absurd (omega (arith, within))
rise-from place (Impossible why ∷ qs) = rise-from (place + 1) qs
rise-from place (Possible p ∷ qs) =
    born-rise place p.born (births_from (place + 1) qs) (births-rising (place + 1) qs).0 (rise-from (place + 1) qs)

pub places-rise : (t : Traced) (k : Kqueues) → AreTheKqueues t k → IsStrictlyIncreasing k.places.items
places-rise t k are = subst IsStrictlyIncreasing (sym are.births) (rise-from 1 _)

pub one-each : (t : Traced) (k : Kqueues) → AreTheKqueues t k → length k.concerned.items ≡ length k.places.items
one-each t k are =
    named-length _ (births_of t) k.concerned.items are.concerned
    ∙ sym (length-map (births_of t) (λ (b : Birth). b.place)) ∙ ap (λ (ps : List ℕ). length ps) (sym are.births)

-- ---- no more births than records

born-few : (place : ℕ) (born : Option Pair) (bs : List Birth) (n : ℕ) → length bs ≤ n → length (birth_at place born ++ bs) ≤ n + 1
unfolding birth_at
born-few place None bs n few = omega (arith, few)
born-few place (Some x) bs n few = omega (arith, few)

births-few : (place : ℕ) (qs : List Planned) → length (births_from place qs) ≤ length qs
unfolding births_from birth_by
births-few place [] = omega arith
births-few place (Impossible why ∷ qs) = let rest = births-few (place + 1) qs in omega (arith, rest)
births-few place (Possible p ∷ qs) =
    let all = born-few place p.born (births_from (place + 1) qs) (length qs) (births-few (place + 1) qs) in
    omega (arith, all)

pub few-kqueues : (t : Traced) → length (places_of t) ≤ length t.events
few-kqueues t =
    let each = length-map (births_of t) (λ (b : Birth). b.place) in
    let few = births-few 1 (plans listed t.version t.events) in
    let all = plans-length 1 (empty_world listed) t.events in
    omega (arith, each, few, all)

-- ---- no record

pub first-said : (version : ℕ) (s : MessageLog) → s.log.items ≡ [] → s.kqueues.places.items ≡ []
    → s.kqueues.concerned.items ≡ [] → IsMessageLog (record { version = version; events = [] }) s
unfolding plans_from moments_from births_from
first-said version s items places concerned = record {
  logged = items;
  kqueues = record {
    births = places;
    concerned = subst (AreNamedBy [] []) (sym concerned) tt;
    calls = All-nil _;
  };
}

-- ---- one record more

pub heard-next : (t : Traced) (e : Event) (place : ℕ) (old new : World) (effect : Effect) (clock : ℕ) (kqueue : Option ℕ) (s s' : MessageLog)
    → length t.events + 1 ≡ place → IsWorldAfter t old → IsWorldAfter (longer t e) new → IsEffectBy (plan place e) old effect
    → clock ≡ (world_of old).now → kqueue ≡ kqueue_of e (world_of old)
    → ((w : model.World counted) → clock ≡ w.now → kqueue ≡ kqueue_of e w → IsHeard place e effect w (world_of new) s s')
    → IsMessageLog t s → IsMessageLog (longer t e) s'
heard-next t e place old new effect clock kqueue s s' at before after of clock_is kqueue_is heard said =
    said-next t e counts lists (plan (end t e) e (now t e)) refl effect
    (subst (λ n. IsEffectOf (plan n e (now t e)) effect) (sym at) (subst (λ (w : model.World counted). IsEffectOf (plan place e w) effect) before.world of))
    (world_of new) leads s s' said
    (subst (λ n. IsHeard n e effect (now t e) (world_of new) s s') (sym at)
    (heard (now t e) (clock_is ∙ ap (λ (w : model.World counted). w.now) before.world) (kqueue_is ∙ ap (kqueue_of e) before.world)))
  where
    counts : IsCountedWorld (end t e) (now t e)
    counts = counted_now t e old before

    lists : AreListed (now t e).objects
    lists = listed_now t e old before

    leads : (p : Plan) → plan (end t e) e (now t e) ≡ Possible p → world_of new ≡ carried_out (end t e) p (now t e)
    leads p is = after.world ∙ world-longer t e ∙ next-is t e counts lists p is

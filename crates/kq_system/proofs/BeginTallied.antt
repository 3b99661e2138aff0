-- The beginning of a call, in tallies and quantities, is that of the system that keeps all that was recorded and heard.
use Rattle.std.proofs.Common.{◌≡◌, ◌∙◌, ℕ, Bool, cond, List, [], ◌∷◌, map, nat_eq, Option, None, Some, refl, ap, ap₂}
use Rattle.std.specs.Prelude.{option_and_then}
use Rattle.kq_kevent.specs.Beginning as kevent
use Rattle.kq_kevent.proofs.BeginLaws as laws
use Rattle.kq_model.specs.declared.event.Event.{Event}
use Rattle.kq_model.specs.declared.reply.Reply.{Reply}
use Rattle.kq_model.specs.Hearing.{listed}
use Rattle.kq_model.specs.Tallying.{tallying}
use Rattle.kq_model.specs.Moment.{Moment, caller_at, moment_of}
use Rattle.kq_model.specs.Objects as objects
use Rattle.kq_model.specs.Objects.{counted}
use Rattle.kq_model.specs.Plans.{plan}
use Rattle.kq_model.specs.Recast.{recast_live, tallied, tallied_system, tally_of}
use Rattle.kq_model.specs.System as model
use Rattle.kq_model.specs.Tallied.{Kqueue, Live}
use Rattle.kq_model.specs.World.{Call, Planned, Impossible, Possible, World, seen_world}
use Rattle.kq_model.proofs.CountedObjects.{listed-counts}
use Rattle.kq_model.proofs.KnoteLaws.{by_test}
use Rattle.kq_model.proofs.SeenWorld.{moment-seen, seen-again}
use Rattle.kq_system.specs.Beginning.{Begun, begun, begun_by, begun_kqueue, begun_on, live_at, with_live_at}

abbrev recast : model.Live listed → Live
recast l = recast_live tallying tally_of l

abbrev tallied_begun : Begun listed objects.listed → Begun tallying counted
tallied_begun b = record { system = tallied_system b.system; answer = b.answer }

-- one kqueue
one-tallied : (m : Moment) (c : Call) (l : model.Live listed)
    → kevent.IsTalliedBeginning (begun_kqueue m c (recast l)).kq (begun_kqueue m c (recast l)).answer
    (begun_kqueue m c l)
one-tallied m c l =
    laws.begun-tallied (caller_at l.owner m) c.room c.changes (tallied l.kq) (begun_kqueue m c (recast l)).kq l.kq
    (begun_kqueue m c (recast l)).answer refl refl

abbrev begun_if : Moment → Call → model.Live listed → Bool → model.Live listed
begun_if m c l b = cond b (record l { kq = (begun_kqueue m c l).kq }) l

abbrev begun_if_code : Moment → Call → Live → Bool → Live
begun_if_code m c l b = cond b (record l { kq = (begun_kqueue m c l).kq }) l

all-tallied : (m : Moment) (c : Call) (ls : List (model.Live listed))
    → with_live_at c.kqueue (λ l. (begun_kqueue m c l).kq) (map recast ls)
    ≡ map recast (with_live_at c.kqueue (λ l. (begun_kqueue m c l).kq) ls)
all-tallied m c [] = refl
all-tallied m c (l ∷ ls) =
    ap₂ (λ (x : Live) (xs : List Live). x ∷ xs)
    (by_test (λ b. begun_if_code m c (recast l) b ≡ recast (begun_if m c l b)) (nat_eq c.kqueue l.place)
    (λ _. ap (λ (kq : Kqueue). record (recast l) { kq = kq }) (one-tallied m c l).0) (λ _. refl))
    (all-tallied m c ls)

abbrev answer_if : Moment → Call → model.Live listed → Option (model.Live listed) → Bool → Option Reply
answer_if m c l rest b = option_and_then (λ x. (begun_kqueue m c x).answer) (cond b (Some l) rest)

abbrev answer_if_code : Moment → Call → Live → Option Live → Bool → Option Reply
answer_if_code m c l rest b = option_and_then (λ x. (begun_kqueue m c x).answer) (cond b (Some l) rest)

answer-tallied : (m : Moment) (c : Call) (ls : List (model.Live listed))
    → option_and_then (λ (l : Live). (begun_kqueue m c l).answer) (live_at c.kqueue (map recast ls))
    ≡ option_and_then (λ (l : model.Live listed). (begun_kqueue m c l).answer) (live_at c.kqueue ls)
unfolding live_at
answer-tallied m c [] = refl
answer-tallied m c (l ∷ ls) =
    by_test (λ b. answer_if_code m c (recast l) (live_at c.kqueue (map recast ls)) b
    ≡ answer_if m c l (live_at c.kqueue ls) b) (nat_eq c.kqueue l.place)
    (λ _. (one-tallied m c l).1) (λ _. answer-tallied m c ls)

on-tallied : (m : Moment) (c : Option Call) (s : model.System listed objects.listed)
    → begun_on m c (tallied_system s) ≡ tallied_begun (begun_on m c s)
unfolding begun_on
on-tallied m None s = refl
on-tallied m (Some c) s =
    ap₂ (λ (live : List Live) (answer : Option Reply). begins live answer) (all-tallied m c s.live)
    (answer-tallied m c s.live)
  where
    begins : List Live → Option Reply → Begun tallying counted
    begins live answer = record { system = record (tallied_system s) { live = live }; answer = answer }

by-tallied : (place : ℕ) (planned : Planned) (s : model.System listed objects.listed)
    → begun_by place planned (tallied_system s) ≡ tallied_begun (begun_by place planned s)
unfolding begun_by
by-tallied place (Impossible why) s = refl
by-tallied place (Possible p) s =
    ap (λ (m : Moment). begun_on m p.call (tallied_system s)) (moment-seen listed-counts s.version place p s.world)
    ∙ on-tallied (moment_of s.version place p s.world) p.call s

pub begun-tallied : (place : ℕ) (e : Event) (s : model.System listed objects.listed)
    → begun place e (tallied_system s) ≡ tallied_begun (begun place e s)
unfolding begun
begun-tallied place e s =
    ap (λ (w : World counted). begun_by place (plan place e w) (tallied_system s)) (seen-again listed-counts s.world)
    ∙ by-tallied place (plan place e (seen_world s.world)) s

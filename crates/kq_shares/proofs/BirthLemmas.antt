-- The kqueues that records make, one record after the other.
use Rattle.std.proofs.Common.{◌≡◌, ◌∙◌, ℕ, ◌+◌, ◌≤◌, Bool, true, false, cond, List, [], ◌∷◌, ◌++◌, length, map, take, None, Some, refl, sym, ap, ap₂, arith, append-nil, append_assoc, length-append}
use Rattle.std.proofs.lemmas.List.{length-map, map-append}
use Rattle.kq_model.specs.declared.event.Event.{Event}
use Rattle.kq_model.specs.declared.event.Event.TheVariants as event
use Rattle.kq_model.specs.declared.why.Why.{Why}
use Rattle.kq_model.specs.Births.{Birth, birth_at, birth_by, births_from}
use Rattle.kq_model.specs.Close.{Pair}
use Rattle.kq_model.specs.Moments.{plans_from, world_by}
use Rattle.kq_model.specs.Objects.{counted}
use Rattle.kq_model.specs.Plans.{plan}
use Rattle.kq_model.specs.World.{Plan, Planned, Impossible, Possible, World, seen_world}
use Rattle.kq_model.proofs.SeenWorld.{seen-counted}
use Rattle.kq_process.specs.Effects.{world_after}
use Rattle.kq_system.proofs.ShareLemmas.{no-birth}
use Rattle.kq_system.proofs.StepLemmas.{kqueue_plan, possible_kqueue}
use Rattle.kq_shares.specs.Births.{birth_of, births_after, places_of}

-- ---- one record

pub made : (place pid fd : ℕ) (w : World counted) (p : Plan) → plan place (event.Kqueue pid fd) w ≡ Possible p → birth_of place (Possible p) ≡ place ∷ []
unfolding birth_by birth_at
made place pid fd w p is =
    let opens = possible_kqueue pid fd w p (sym (kqueue_plan place pid fd w) ∙ is) in
    ap (λ (q : Plan). places_of (birth_at place q.born)) opens.plan_is

pub made-none : (place : ℕ) (e : Event) (w : World counted) (p : Plan) → ((pid fd : ℕ) → e ≡ event.Kqueue pid fd → ⊥)
    → plan place e w ≡ Possible p → birth_of place (Possible p) ≡ []
unfolding birth_by birth_at
made-none place e w p other is = ap (λ b. places_of (birth_at place b)) (no-birth e other place w p is)

-- whether it makes one
pub made-by : (b : Bool) (place : ℕ) (e : Event) (w : World counted) (p : Plan) → plan place e w ≡ Possible p
    → (b ≡ true → (pid : ℕ) × (fd : ℕ) × (e ≡ event.Kqueue pid fd)) → (b ≡ false → (pid fd : ℕ) → e ≡ event.Kqueue pid fd → ⊥)
    → birth_of place (plan place e w) ≡ cond b (place ∷ []) []
made-by true place e w p is makes other =
    let (pid, fd, same) = makes refl in
    ap (birth_of place) is ∙ made place pid fd w p (ap (λ x. plan place x w) (sym same) ∙ is)
made-by false place e w p is makes other = ap (birth_of place) is ∙ made-none place e w p (other refl) is

pub made-nothing : (place : ℕ) (e : Event) (w : World counted) (why : Why) → plan place e w ≡ Impossible why → birth_of place (plan place e w) ≡ []
unfolding birth_by
made-nothing place e w why is = ap (birth_of place) is

pub next-world : (place : ℕ) (q : Planned) (w : World counted) → world_after place q w ≡ world_by place q w
unfolding world_by
next-world place (Impossible why) w = refl
next-world place (Possible p) w = refl

-- ---- several

pub births-next : (place : ℕ) (w : World counted) (e : Event) (es : List Event)
    → births_after place w (e ∷ es) ≡ birth_of place (plan place e w) ++ births_after (place + 1) (world_by place (plan place e w) w) es
unfolding births_from plans_from
births-next place w e es =
    map-append (λ (b : Birth). b.place) (birth_by place (plan place e (seen_world w))) _
    ∙ ap (λ v. birth_of place (plan place e v) ++ births_after (place + 1) (world_by place (plan place e v) w) es) (seen-counted w)

-- records more make no fewer
pub births-more : (place : ℕ) (w : World counted) (es fs : List Event)
    → length (births_after place w es) ≤ length (births_after place w (es ++ fs))
unfolding births_from plans_from
births-more place w [] fs = omega arith
births-more place w (e ∷ es) fs =
    let q = plan place e w in
    let v = world_by place q w in
    let here = ap length (births-next place w e es) ∙ length-append (birth_of place q) (births_after (place + 1) v es) in
    let there = ap length (births-next place w e (es ++ fs)) ∙ length-append (birth_of place q) (births_after (place + 1) v (es ++ fs)) in
    let rest = births-more (place + 1) v es fs in
    omega (arith, here, there, rest)

-- one record more
pub births-step : (i : ℕ) (old w v : World counted) (was is : List ℕ) (e : Event) (events : List Event)
    → v ≡ world_by (i + 1) (plan (i + 1) e w) w → is ≡ was ++ birth_of (i + 1) (plan (i + 1) e w) → take (i + 1) events ≡ take i events ++ e ∷ []
    → ((later : List Event) → was ++ births_after (i + 1) w later ≡ births_after 1 old (take i events ++ later))
    → (later : List Event) → is ++ births_after (i + 1 + 1) v later ≡ births_after 1 old (take (i + 1) events ++ later)
births-step i old w v was is e events world made more ahead later =
    ap₂ (λ xs u. xs ++ births_after (i + 1 + 1) u later) made world
    ∙ append_assoc was (birth_of (i + 1) (plan (i + 1) e w)) (births_after (i + 1 + 1) (world_by (i + 1) (plan (i + 1) e w) w) later)
    ∙ ap (λ xs. was ++ xs) (sym (births-next (i + 1) w e later))
    ∙ ahead (e ∷ later)
    ∙ ap (births_after 1 old) (sym (append_assoc (take i events) (e ∷ []) later) ∙ ap (λ es. es ++ later) (sym more))

pub births-none : (was : List ℕ) (place : ℕ) (w : World counted) → was ≡ was ++ births_after place w []
unfolding births_from plans_from
births-none was place w = sym (append-nil was)

-- What a call of the system in two steps, and another order, are for the kqueue that the number names.
use Rattle.std.proofs.Common.{◌≡◌, ◌∙◌, inl, inr, ℕ, cond, nat_eq, List, [], ◌∷◌, map, Option, None, Some, refl, sym, ap, ap₂}
use Rattle.std.specs.Option.{option_map}
use Rattle.std.specs.Prelude.{option_and_then}
use Rattle.kq_kevent.specs.Beginning as kevent
use Rattle.kq_kevent.proofs.BeginLaws.{call-nil}
use Rattle.kq_model.specs.declared.change.Change.{Change}
use Rattle.kq_model.specs.declared.event.Event.TheVariants.{Kevent}
use Rattle.kq_model.specs.declared.key.Key.{Key}
use Rattle.kq_model.specs.declared.object.Named.TheVariants as named
use Rattle.kq_model.specs.declared.reply.Reply.{Reply}
use Rattle.kq_model.specs.Call.{call}
use Rattle.kq_model.specs.Caller.{Caller}
use Rattle.kq_model.specs.Tallying.{tallying}
use Rattle.kq_model.specs.Moment.{Moment, called_at, caller_at, moment_of}
use Rattle.kq_model.specs.Plans.{plan}
use Rattle.kq_model.specs.System.{answer, lived, step, step_by, stepped}
use Rattle.kq_model.specs.Tallied.{Called, Kqueue, Live, System}
use Rattle.kq_model.specs.Views.{Views}
use Rattle.kq_model.specs.World.{Call, Impossible, Planned, Possible, named_by, seen_world, views_of}
use Rattle.kq_model.proofs.KnoteLaws.{by_test}
use Rattle.kq_model.proofs.SeenWorld.{seen-counted}
use Rattle.kq_system.specs.Beginning.{arranged_at, arranged_in, arranged_live, begun, begun_by, begun_kqueue, kqueue_in, live_at, live_named, owner_of, with_live_at, IsBeginning, IsBegunOf, IsReadOf}
use Rattle.kq_system.specs.SystemState.{IsQuiet, IsStep, call_plan}
use Rattle.kq_system.proofs.BeginSteps.{begins-possible, named-seen, names-some}
use Rattle.kq_system.proofs.QuietLemmas.{called_one, called_other, lived_each, unhappened}
use Rattle.kq_system.proofs.StepLemmas.{kevent_plan, possible_call}
use Rattle.kq_system.proofs.SystemLemmas.{call_of, called, called_views, quiet_call, version_of}

-- ---- the kqueue of a place

some_same : {X : Type 0} (x y : X) → Some x ≡ Some y → x ≡ y
some_same x y e = cc

-- what is done with it is done with the one that is found
pub live_at-with : (k : ℕ) (does : Live → Kqueue) (live : List Live)
    → live_at k (with_live_at k does live) ≡ option_map (λ (l : Live). record l { kq = does l }) (live_at k live)
unfolding live_at
live_at-with k does [] = refl
live_at-with k does (l ∷ ls) =
    by_test (λ b. nat_eq k l.place ≡ b
    → cond (nat_eq k (cond b (record l { kq = does l }) l).place) (Some (cond b (record l { kq = does l }) l))
    (live_at k (with_live_at k does ls))
    ≡ option_map (λ (x : Live). record x { kq = does x }) (cond b (Some l) (live_at k ls))) (nat_eq k l.place)
    (λ _ here. ap (λ b. cond b (Some (does_of l)) (live_at k (with_live_at k does ls))) here)
    (λ _ other. ap (λ b. cond b (Some l) (live_at k (with_live_at k does ls))) other ∙ live_at-with k does ls) refl
  where
    does_of : Live → Live
    does_of x = record x { kq = does x }

answer-at : (m : Moment) (c : Call) (live : List Live) (l : Live) → live_at c.kqueue live ≡ Some l
    → answer m c live ≡ (called_at l.owner m c l.kq).reply
unfolding live_at answer
answer-at m c [] l found = absurd (cc)
answer-at m c (x ∷ xs) l found =
    by_test (λ b. cond b (Some x) (live_at c.kqueue xs) ≡ Some l
    → cond b (called_at x.owner m c x.kq).reply (answer m c xs) ≡ (called_at l.owner m c l.kq).reply)
    (nat_eq c.kqueue x.place)
    (λ _ is. ap (λ (o : Live). (called_at o.owner m c o.kq).reply) (some_same x l is))
    (λ _ is. answer-at m c xs l is) found

lived-at : (m : Moment) (c : Call) (live : List Live) (l : Live) → IsQuiet m → m.call ≡ Some c
    → live_at c.kqueue live ≡ Some l
    → live_at c.kqueue (map (stepped m) live) ≡ Some (record l { kq = (called_at l.owner m c l.kq).kq })
unfolding live_at
lived-at m c [] l quiet calls found = absurd (cc)
lived-at m c (x ∷ xs) l quiet calls found =
    by_test (λ b. nat_eq c.kqueue x.place ≡ b → cond b (Some x) (live_at c.kqueue xs) ≡ Some l
    → live_at c.kqueue (stepped m x ∷ map (stepped m) xs) ≡ Some (after l)) (nat_eq c.kqueue x.place)
    (λ _ here is. ap (λ (y : Live). live_at c.kqueue (y ∷ map (stepped m) xs)) (called_one m c x calls here)
    ∙ ap (λ b. cond b (Some (after x)) (live_at c.kqueue (map (stepped m) xs))) here
    ∙ ap (λ (o : Live). Some (after o)) (some_same x l is))
    (λ _ other is. ap (λ (y : Live). live_at c.kqueue (y ∷ map (stepped m) xs)) (called_other m c x quiet calls other)
    ∙ ap (λ b. cond b (Some x) (live_at c.kqueue (map (stepped m) xs))) other
    ∙ lived-at m c xs l quiet calls is) refl found
  where
    after : Live → Live
    after o = record o { kq = (called_at o.owner m c o.kq).kq }

-- ---- the kqueue that a number names

module _ (pid fd place : ℕ) (s : System) (names : named_by pid fd s.world ≡ Some (named.Kqueue place)) where
  pub named-at : (live : List Live) → live_named pid fd (record s { live = live }) ≡ live_at place live
  named-at live =
      ap (option_and_then (λ (p : ℕ). live_at p live))
      (names-some (named_by pid fd (seen_world s.world)) place (named-seen pid fd s.world ∙ names))

-- ---- reading

-- a call without changes reads
called-reads : (m : Moment) (c : Call) (l : Live) (room : ℕ) → IsQuiet m → c.changes ≡ [] → c.room ≡ room
    → called_at l.owner m c l.kq ≡ kevent.read m.views room l.kq
unfolding called_at
called-reads m c l room quiet none wide =
    ap (call (caller_at l.owner m) c.room c.changes) (unhappened m l.owner l.kq quiet)
    ∙ ap₂ (λ (n : ℕ) (cs : List Change). call (caller_at l.owner m) n cs l.kq) wide none
    ∙ call-nil (caller_at l.owner m) room l.kq

read_by : (place pid fd room : ℕ) (s new : System) (l : Live) (r : Reply) (p : Planned)
    → plan place (Kevent pid fd [] room) s.world ≡ p
    → (new ≡ (step_by place p s).system) × (r ≡ (step_by place p s).reply)
    → IsStep place (Kevent pid fd [] room) s new r → live_named pid fd s ≡ Some l
    → IsReadOf (owner_of s l).views room l (live_named pid fd new) r
unfolding step_by
read_by place pid fd room s new l r (Impossible why) is by steps found = inl (why, by.1)
read_by place pid fd room s new l r (Possible p) is by steps found =
    let on = possible_call pid fd room [] s.world p (sym (kevent_plan place pid fd room [] s.world) ∙ is) in
    let c : Call = record { kqueue = on.kqueue; changes = []; room = room } in
    let m = moment_of s.version place (call_plan c) s.world in
    let planned : plan place (Kevent pid fd [] room) s.world ≡ Possible (call_plan c) = is ∙ ap Possible on.plan_is in
    let quiet = quiet_call s.version place c s.world in
    let views : m.views ≡ (owner_of s l).views = called_views s.version place c s.world
    ∙ sym (ap views_of (seen-counted s.world)) in
    let here : live_at on.kqueue s.live ≡ Some l = sym (named-at pid fd on.kqueue s on.there s.live) ∙ found in
    let whole = called place (Kevent pid fd [] room) c s (lived m s.live) (answer m c s.live) planned (refl, refl) in
    let same : called_at l.owner m c l.kq ≡ kevent.read (owner_of s l).views room l.kq =
    called-reads m c l room quiet refl refl ∙ ap (λ (v : Views). kevent.read v room l.kq) views in
    inr (
      steps.1 ∙ sym whole.1 ∙ answer-at m c s.live l here ∙ ap (λ (d : Called). d.reply) same,
      ap (live_named pid fd) (steps.0 ∙ sym whole.0) ∙ named-at pid fd on.kqueue s on.there (lived m s.live)
          ∙ ap (live_at on.kqueue) (lived_each m s.live quiet)
          ∙ lived-at m c s.live l quiet (call_of s.version place c s.world) here
          ∙ ap (λ (d : Called). Some (with_kq l d.kq)) same,
    )
  where
    with_kq : Live → Kqueue → Live
    with_kq x kq = record x { kq = kq }

pub read-named : (place pid fd room : ℕ) (s new : System) (l : Live) (r : Reply)
    → IsStep place (Kevent pid fd [] room) s new r → live_named pid fd s ≡ Some l
    → IsReadOf (owner_of s l).views room l (live_named pid fd new) r
unfolding step
read-named place pid fd room s new l r steps found =
    read_by place pid fd room s new l r (plan place (Kevent pid fd [] room) (seen_world s.world))
    (ap (plan place (Kevent pid fd [] room)) (sym (seen-counted s.world))) steps steps found

-- ---- beginning

begun_of : (place pid fd room : ℕ) (changes : List Change) (s new : System) (l : Live) (r : Option Reply) (p : Planned)
    → plan place (Kevent pid fd changes room) s.world ≡ p
    → (new ≡ (begun_by place p s).system) × (r ≡ (begun_by place p s).answer)
    → IsBeginning place (Kevent pid fd changes room) s new r → live_named pid fd s ≡ Some l
    → IsBegunOf (owner_of s l) room changes l (live_named pid fd new) r
unfolding begun_by
begun_of place pid fd room changes s new l r (Impossible why) is by begins found = inl (why, by.1)
begun_of place pid fd room changes s new l r (Possible p) is by begins found =
    let on = possible_call pid fd room changes s.world p (sym (kevent_plan place pid fd room changes s.world) ∙ is) in
    let c : Call = record { kqueue = on.kqueue; changes = changes; room = room } in
    let m = moment_of s.version place (call_plan c) s.world in
    let planned : plan place (Kevent pid fd changes room) s.world ≡ Possible (call_plan c) =
    is ∙ ap Possible on.plan_is in
    let views : m.views ≡ (owner_of s l).views = called_views s.version place c s.world
    ∙ sym (ap views_of (seen-counted s.world)) in
    let here : live_at on.kqueue s.live ≡ Some l = sym (named-at pid fd on.kqueue s on.there s.live) ∙ found in
    let does : Live → Kqueue = λ (x : Live). (begun_kqueue m c x).kq in
    let whole = begins-possible place (Kevent pid fd changes room) c s (with_live_at on.kqueue does s.live)
    (option_and_then (λ (x : Live). (begun_kqueue m c x).answer) (live_at on.kqueue s.live)) planned (refl, refl) in
    let same : begun_kqueue m c l ≡ kevent.begun (owner_of s l) room changes l.kq =
    ap₂ (λ (v : Views) (n : ℕ). kevent.begun (who l v n) room changes l.kq) views
    (version_of s.version place c s.world) in
    inr (
      begins.1 ∙ sym whole.1 ∙ ap (option_and_then (λ (x : Live). (begun_kqueue m c x).answer)) here
          ∙ ap (λ (b : kevent.Begun tallying). b.answer) same,
      ap (live_named pid fd) (begins.0 ∙ sym whole.0)
          ∙ named-at pid fd on.kqueue s on.there (with_live_at on.kqueue does s.live)
          ∙ live_at-with on.kqueue does s.live ∙ ap (option_map (λ (x : Live). record x { kq = does x })) here
          ∙ ap (λ (b : kevent.Begun tallying). Some (with_kq l b.kq)) same,
    )
  where
    with_kq : Live → Kqueue → Live
    with_kq x kq = record x { kq = kq }

    who : Live → Views → ℕ → Caller
    who x v n = record { views = v; owner = x.owner; version = n }

pub begun-named : (place pid fd room : ℕ) (changes : List Change) (s new : System) (l : Live) (r : Option Reply)
    → IsBeginning place (Kevent pid fd changes room) s new r → live_named pid fd s ≡ Some l
    → IsBegunOf (owner_of s l) room changes l (live_named pid fd new) r
unfolding begun
begun-named place pid fd room changes s new l r begins found =
    begun_of place pid fd room changes s new l r (plan place (Kevent pid fd changes room) (seen_world s.world))
    (ap (plan place (Kevent pid fd changes room)) (sym (seen-counted s.world))) begins begins found

-- ---- another order

arranged_of : (keys : List Key) (o : Option ℕ) (live : List Live)
    → option_and_then (λ (p : ℕ). live_at p (arranged_at o keys live)) o
    ≡ option_map (arranged_live keys) (option_and_then (λ (p : ℕ). live_at p live) o)
unfolding arranged_at
arranged_of keys None live = refl
arranged_of keys (Some place) live = live_at-with place (λ (l : Live). (arranged_live keys l).kq) live

pub arranged-named : (pid fd : ℕ) (keys : List Key) (s : System)
    → live_named pid fd (arranged_in pid fd keys s) ≡ option_map (arranged_live keys) (live_named pid fd s)
arranged-named pid fd keys s = arranged_of keys (kqueue_in (named_by pid fd (seen_world s.world))) s.live

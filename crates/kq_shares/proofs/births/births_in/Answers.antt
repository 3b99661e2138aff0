use Rattle.std.proofs.Common.{◌≡◌, ◌∙◌, ◌+◌, ◌++◌, ◌∷◌, [], List, take, refl, sym, ap, subst, append-nil}
use Rattle.std.proofs.lemmas.List.{take_all, take_more}
use Rattle.kq_model.specs.declared.event.Event.{Event}
use Rattle.kq_model.specs.Moments.{world_by}
use Rattle.kq_model.specs.Objects.{counted}
use Rattle.kq_model.specs.Plans.{plan}
use Rattle.kq_model.specs.World.{empty_world}
use Rattle.kq_process.specs.World.{world_of}
use Rattle.kq_shares.specs.Births.{birth_of, births_after}
use Rattle.kq_shares.proofs.BirthLemmas.{births-none, births-step}
use Rattle.kq_shares.proofs.births.births_in.Goals as goal

pub loop-event-init : goal.loop-event-init
loop-event-init c = (
  refl,
  c.in_ok-world.ensures.last,
  λ later.
      ap (λ bs. bs ++ births_after 1 (world_of c.in_ok-world.world) later) c.new-births.ensures.items
      ∙ ap (λ w. births_after 1 w later) c.in_ok-world.ensures.world,
)

pub loop-event-preserved : goal.loop-event-preserved
loop-event-preserved c =
    let i = c.loop-event.event-index in
    let e = c.event-item.result in
    let es = c.args.events.now in
    let w = world_of c.loop-event.world in
    let new = world_of c.makes_kqueue.new.world in
    let was = c.loop-event.births.items in
    let place : c.loop-event.place + 1 ≡ i + 1 = ap (λ n. n + 1) c.loop-event.invariant.0 in
    let world : new ≡ world_by (i + 1) (plan (i + 1) e w) w =
    subst (λ p. new ≡ world_by p (plan p e w) w) place c.in_ok-makes.ensures.world in
    let made = c.in_ok-put_birth.ensures ∙ ap (λ xs. was ++ xs) (sym c.in_ok-makes.ensures.makes)
    ∙ ap (λ p. was ++ birth_of p (plan p e w)) place in (
      place,
      c.in_ok-makes.ensures.last ∙ place,
      births-step i (empty_world counted) w new was c.put_birth.new.births.items e es world made
          (take_more es i e c.loop-event-test.true ∙ ap (λ x. take i es ++ x ∷ []) (sym c.event-item.is))
          c.loop-event.invariant.2,
    )

pub returns : goal.returns
returns c =
    let i = c.loop-event.event-index in
    let es = c.args.events.now in
    births-none c.loop-event.births.items (i + 1) (world_of c.loop-event.world)
    ∙ c.loop-event.invariant.2 []
    ∙ ap (births_after 1 (empty_world counted)) (append-nil (take i es) ∙ take_all i es c.loop-event-test.false)

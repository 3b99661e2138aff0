use Rattle.std.proofs.Common.{◌≡◌, ◌+◌, ◌<◌, ℕ, sym, ap, subst, arith, ◌∙◌}
use Rattle.kq_model.specs.declared.event.Event.{Event}
use Rattle.kq_model.specs.CountedWorld.{IsCountedWorld}
use Rattle.kq_model.specs.ListedFiles.{AreListed}
use Rattle.kq_model.specs.Objects.{counted}
use Rattle.kq_model.specs.Plans.{plan}
use Rattle.kq_model.specs.World.{World as ModelWorld, seen_world}
use Rattle.kq_model.proofs.ListedRecords.{listed-record}
use Rattle.kq_process.specs.Effects.{world_after}
use Rattle.kq_process.specs.State.{state_of}
use Rattle.kq_process.specs.World.{last_of, world_of}
use Rattle.kq_process.specs.declared.state.State.{State}
use Rattle.kq_process.specs.declared.world.World.{World}
use Rattle.kq_process.proofs.Applied.{counted-record, counted-after, counted-later, counted-now, lists-after, listed-after}
use Rattle.kq_process.proofs.world.World.apply_into.Goals as goal

-- places rise
before : (w : World) (place : ℕ) → last_of w < place → IsCountedWorld place (world_of w)
before w place rises = counted-later (last_of w + 1) place (world_of w) (omega arith) (counted-now w)

pub apply-requires : goal.apply-requires
apply-requires c = before c.args.self.now c.args.place c.requires

pub invariant_of-self : goal.invariant_of-self
invariant_of-self c =
    let old = c.args.self.now in
    let same : IsCountedWorld (last_of old + 1) (state_of c.apply.new.self) =
    subst (IsCountedWorld (last_of old + 1)) (sym c.in_err-apply.ensures.memory) (counted-now old) in
    record {
      rising = same.rising;
      owned = same.owned;
      below = same.below;
      lists = subst (λ (w : ModelWorld counted). AreListed w.objects) (sym c.in_err-apply.ensures.memory) old.lists;
    }

next : (old : World) (new : State) (place : ℕ) (e : Event) → last_of old < place
    → state_of new ≡ world_after place (plan place e (world_of old)) (world_of old) → IsCountedWorld (place + 1) (state_of new)
next old new place e rises is =
    let w = world_of old in
    subst (IsCountedWorld (place + 1)) (sym is)
    (counted-after place w (plan place e w) (counted-record place w e) (before old place rises))

next-lists : (old : World) (new : State) (place : ℕ) (e : Event) → last_of old < place
    → state_of new ≡ world_after place (plan place e (world_of old)) (world_of old) → AreListed (state_of new).objects
next-lists old new place e rises is =
    let w = world_of old in
    subst (λ (v : ModelWorld counted). AreListed v.objects) (sym is)
    (lists-after place w (plan place e w) (listed-record place e w) (before old place rises) old.lists)

pub invariant_of-self-2 : goal.invariant_of-self-2
invariant_of-self-2 c =
    let n = next c.args.self.now c.apply.new.self c.args.place c.args.event.now c.requires c.in_ok-apply.ensures.world in
    record {
      rising = n.rising;
      owned = n.owned;
      below = n.below;
      lists = next-lists c.args.self.now c.apply.new.self c.args.place c.args.event.now c.requires c.in_ok-apply.ensures.world;
    }

pub returns-clause-next : goal.returns-clause-next
returns-clause-next c = next c.args.self.now c.apply.new.self c.args.place c.args.event.now c.requires c.in_ok-apply.ensures.world

pub returns-clause-lists : goal.returns-clause-lists
returns-clause-lists c = next-lists c.args.self.now c.apply.new.self c.args.place c.args.event.now c.requires c.in_ok-apply.ensures.world

pub returns-clause-listed : goal.returns-clause-listed
returns-clause-listed c = λ m stands.
    c.in_ok-apply.ensures.world ∙ ap (λ (w : ModelWorld counted). world_after c.args.place (plan c.args.place c.args.event.now w) w) stands
    ∙ listed-after c.args.place (plan c.args.place c.args.event.now (seen_world m)) m

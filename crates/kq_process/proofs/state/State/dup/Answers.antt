use Rattle.std.proofs.Common.{◌≡◌, ◌==◌, true, false, Some, None, OnOk, refl, sym, subst, ℕ, arith}
use Rattle.std.proofs.lemmas.Bool.Decides.{nat_tests}
use Rattle.kq_model.specs.World.{Planned, Possible, named_by}
use Rattle.kq_model.specs.DescriptorPlans.{plan_dup}
use Rattle.kq_process.specs.Effects.{IsEffectOf, IsPossible, world_after}
use Rattle.kq_process.specs.Processes.{table_of}
use Rattle.kq_process.specs.State.{state_of, sharing}
use Rattle.kq_process.proofs.Planned.{held_anyway}
use Rattle.kq_process.proofs.Shared.{dup_same, dup_other, idle_world}
use Rattle.kq_process.proofs.NamesThere.{named-there}
use Rattle.kq_process.proofs.state.State.dup.Goals as goal

pub returns-then-fd-to-clause-effect : goal.returns-then-fd-to-clause-effect
returns-then-fd-to-clause-effect c =
    let w = state_of c.args.self.now in
    let same : (c.args.fd == c.args.to) ≡ true = grind (arith, nat_tests, c.if-fd-to.true) in
    rw (dup_same w c.args.pid c.args.fd c.args.to c.in-Ok.named c.in-Ok.ensures.live c.in-Ok.ensures.named c.in_default.not-Kqueue same)
    (c.quiet.ensures _ refl refl)

pub returns-then-fd-to-clause-world : goal.returns-then-fd-to-clause-world
returns-then-fd-to-clause-world c place =
    let w = state_of c.args.self.now in
    let same : (c.args.fd == c.args.to) ≡ true = grind (arith, nat_tests, c.if-fd-to.true) in
    rw (dup_same w c.args.pid c.args.fd c.args.to c.in-Ok.named c.in-Ok.ensures.live c.in-Ok.ensures.named c.in_default.not-Kqueue same)
    (idle_world w place)

pub share-requires : goal.share-requires
unfolding named_by
share-requires c = record {
  live = c.in-Ok.ensures.live;
  absent = sym c.in-None.ensures.named;
  there = named-there c.args.pid c.args.fd (table_of c.args.self.now.processes) c.in-Ok.named c.in-Ok.ensures.named;
}

pub replace-requires : goal.replace-requires
unfolding named_by
replace-requires c = record {
  live = c.in-Ok.ensures.live;
  before = sym c.in-Some.ensures.named;
  there = c.in-Ok.ensures.named;
  other = grind (arith, nat_tests, c.if-fd-to.false);
  once = c.in-Some.ensures.once;
}

pub returns-in-None : goal.returns-in-None
unfolding named_by
returns-in-None c =
    let w = state_of c.args.self.now in
    let other : (c.args.fd == c.args.to) ≡ false = grind (arith, nat_tests, c.if-fd-to.false) in
    let is : plan_dup c.args.pid c.args.fd c.args.to w ≡ Possible (sharing c.args.pid c.args.to None c.in-Ok.named w) =
    dup_other w c.args.pid c.args.fd c.args.to c.in-Ok.named c.in-Ok.ensures.live c.in-Ok.ensures.named c.in_default.not-Kqueue
    other None (sym c.in-None.ensures.named) in
    let Given : Planned → Type 0 = λ p. OnOk c.share.result (IsEffectOf p c.share.new.effect) in
    let After : ℕ → Planned → Type 0 = λ place p. OnOk c.share.result (state_of c.share.new.self ≡ world_after place p w) in
    record {
      effect = subst Given (sym is) c.share.ensures.effect;
      world = λ place. subst (After place) (sym is) (c.share.ensures.world place);
      memory = c.share.ensures.memory;
      possible = held_anyway (IsPossible (plan_dup c.args.pid c.args.fd c.args.to w)) c.share.result (subst IsPossible (sym is) tt);
    }

pub returns-in-Some : goal.returns-in-Some
unfolding named_by
returns-in-Some c =
    let w = state_of c.args.self.now in
    let other : (c.args.fd == c.args.to) ≡ false = grind (arith, nat_tests, c.if-fd-to.false) in
    let is : plan_dup c.args.pid c.args.fd c.args.to w ≡ Possible (sharing c.args.pid c.args.to (Some c.in-Some.before) c.in-Ok.named w) =
    dup_other w c.args.pid c.args.fd c.args.to c.in-Ok.named c.in-Ok.ensures.live c.in-Ok.ensures.named c.in_default.not-Kqueue
    other (Some c.in-Some.before) (sym c.in-Some.ensures.named) in
    let Given : Planned → Type 0 = λ p. OnOk c.replace.result (IsEffectOf p c.replace.new.effect) in
    let After : ℕ → Planned → Type 0 = λ place p. OnOk c.replace.result (state_of c.replace.new.self ≡ world_after place p w) in
    record {
      effect = subst Given (sym is) c.replace.ensures.effect;
      world = λ place. subst (After place) (sym is) (c.replace.ensures.world place);
      memory = c.replace.ensures.memory;
      possible = held_anyway (IsPossible (plan_dup c.args.pid c.args.fd c.args.to w)) c.replace.result (subst IsPossible (sym is) tt);
    }

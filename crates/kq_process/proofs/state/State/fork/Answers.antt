use Rattle.std.proofs.Common.{◌≡◌, ◌<◌, ◌+◌, ◌^◌, List, ◌++◌, length, refl, sym, ap, arith, ◌∙◌}
use Rattle.kq_model.specs.Descriptors.{Descriptor}
use Rattle.kq_model.specs.Holders.{all_held}
use Rattle.kq_model.specs.ProcessPlans.{forked, inherited, descriptors_of, names_of}
use Rattle.kq_model.specs.Targets.{Posted}
use Rattle.kq_objects.specs.Objects.{objects_of}
use Rattle.kq_process.specs.Processes.{table_of, descriptors_in}
use Rattle.kq_process.specs.Slots.{filled}
use Rattle.kq_process.specs.State.{state_of}
use Rattle.kq_process.proofs.Shared.{fork_plan, fork_world}
use Rattle.kq_process.proofs.Sound.{can-hold_copies, sound-forked, length-same, length-inherited, names-same}
use Rattle.kq_process.proofs.state.State.fork.Goals as goal

pub hold_each-requires : goal.hold_each-requires
hold_each-requires c =
    let old = c.args.self.now in
    let t : List Descriptor = table_of old.processes in
    let copies : descriptors_in c.args.child (filled c.descriptors-copies.result.now) ≡ inherited c.args.pid c.args.child t =
    c.descriptors-copies.ensures.all ∙ c.in_ok-fork.ensures.copies in
    let len : length (filled c.descriptors.result.now) ≡ length (descriptors_of c.args.pid t) =
    length-same c.args.pid (filled c.descriptors.result.now) ∙ ap length c.descriptors.ensures.all in
    let room : old.descriptors + length (filled c.descriptors.result.now) < 2 ^ 64 = rw (← c.count-most.ensures) c.in-Some.ensures.0 in
    can-hold_copies t (objects_of old.objects) old.descriptors old.sound c.args.pid c.args.child (filled c.descriptors-copies.result.now)
    copies (omega arith)

pub overflow_add-self : goal.overflow_add-self
overflow_add-self c =
    let old = c.args.self.now in
    let t : List Descriptor = table_of old.processes in
    let copies : descriptors_in c.args.child (filled c.descriptors-copies.result.now) ≡ inherited c.args.pid c.args.child t =
    c.descriptors-copies.ensures.all ∙ c.in_ok-fork.ensures.copies in
    let few = length-inherited c.args.pid c.args.child t in
    let len : length (filled c.descriptors.result.now) ≡ length (descriptors_of c.args.pid t) =
    length-same c.args.pid (filled c.descriptors.result.now) ∙ ap length c.descriptors.ensures.all in
    let len_copies : length (filled c.descriptors-copies.result.now) ≡ length (inherited c.args.pid c.args.child t) =
    length-same c.args.child (filled c.descriptors-copies.result.now) ∙ ap length copies in
    let room : old.descriptors + length (filled c.descriptors.result.now) < 2 ^ 64 = rw (← c.count-most.ensures) c.in-Some.ensures.0 in
    omega arith

pub invariant_of-self-2 : goal.invariant_of-self-2
invariant_of-self-2 c =
    let old = c.args.self.now in
    let t : List Descriptor = table_of old.processes in
    let copies : descriptors_in c.args.child (filled c.descriptors-copies.result.now) ≡ inherited c.args.pid c.args.child t =
    c.descriptors-copies.ensures.all ∙ c.in_ok-fork.ensures.copies in
    let few = length-inherited c.args.pid c.args.child t in
    let len : length (filled c.descriptors.result.now) ≡ length (descriptors_of c.args.pid t) =
    length-same c.args.pid (filled c.descriptors.result.now) ∙ ap length c.descriptors.ensures.all in
    let len_copies : length (filled c.descriptors-copies.result.now) ≡ length (inherited c.args.pid c.args.child t) =
    length-same c.args.child (filled c.descriptors-copies.result.now) ∙ ap length copies in
    let room : old.descriptors + length (filled c.descriptors.result.now) < 2 ^ 64 = rw (← c.count-most.ensures) c.in-Some.ensures.0 in
    let fits : old.descriptors + length (filled c.descriptors-copies.result.now) < 2 ^ 64 = omega arith in
    record {
      sound = rw c.count.ensures (sound-forked t (objects_of old.objects) old.descriptors old.sound c.args.pid c.args.child
          (filled c.descriptors-copies.result.now) copies fits (table_of c.fork.new.self) (objects_of c.hold_each.new.objects)
          c.in_ok-fork.ensures.table c.hold_each.ensures);
      moment = old.moment;
    }

pub returns-clause-effect : goal.returns-clause-effect
returns-clause-effect c =
    rw (fork_plan (state_of c.args.self.now) c.args.pid c.args.child (sym c.is_live.ensures ∙ c.if-not-is_live.false)
    (sym c.was_used.ensures ∙ c.if-was_used.false))
    (c.telling.ensures _ refl (sym
    (c.in_ok-put_forked.ensures
    ∙ ap (λ (hs : List Posted). hs ++ forked c.args.pid c.args.child) c.take_hints-hints.ensures)))

pub returns-clause-world : goal.returns-clause-world
returns-clause-world c place =
    let old = c.args.self.now in
    let t : List Descriptor = table_of old.processes in
    let copies : descriptors_in c.args.child (filled c.descriptors-copies.result.now) ≡ inherited c.args.pid c.args.child t =
    c.descriptors-copies.ensures.all ∙ c.in_ok-fork.ensures.copies in
    fork_world (state_of old) place c.args.pid c.args.child _ _ _ (sym c.is_live.ensures ∙ c.if-not-is_live.false)
    (sym c.was_used.ensures ∙ c.if-was_used.false) c.in_ok-fork.ensures.processes c.in_ok-fork.ensures.table
    (c.hold_each.ensures ∙ ap (λ ns. all_held ns (objects_of old.objects))
    (names-same c.args.child (filled c.descriptors-copies.result.now) ∙ ap names_of copies))

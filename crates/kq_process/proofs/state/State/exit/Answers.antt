use Rattle.std.proofs.Common.{◌≡◌, ℕ, List, [], ◌∷◌, ◌++◌, map, sym, ap, ◌∙◌}
use Rattle.kq_model.specs.declared.object.Named.{Named}
use Rattle.kq_model.specs.Bits.{exit_note}
use Rattle.kq_model.specs.Targets.{Posted}
use Rattle.kq_model.specs.Holding.{release_hints}
use Rattle.kq_model.specs.Holders.{all_released}
use Rattle.kq_model.specs.ProcessPlans.{descriptors_of, pairs_of, noted}
use Rattle.kq_objects.specs.Objects.{objects_of}
use Rattle.kq_process.specs.Counts.{names_in}
use Rattle.kq_process.specs.Effects.{pairs_in}
use Rattle.kq_process.specs.Processes.{table_of, descriptors_in}
use Rattle.kq_process.specs.Slots.{filled}
use Rattle.kq_process.specs.State.{state_of}
use Rattle.kq_process.proofs.Shared.{exit_plan, exit_world}
use Rattle.kq_process.proofs.Sound.{can-release_all, sound-exited, exit-within, exit-names, pairs-same}
use Rattle.kq_process.proofs.state.State.exit.Goals as goal

pub release_each-requires-clause-can : goal.release_each-requires-clause-can
release_each-requires-clause-can c =
    let old = c.args.self.now in
    let all : descriptors_in c.args.pid (filled c.slots-slots.result.now) ≡ descriptors_of c.args.pid (table_of old.processes) =
    ap (descriptors_in c.args.pid) c.slots-slots.ensures ∙ c.exit-gone.ensures.closed in
    can-release_all (table_of old.processes) (objects_of old.objects) old.descriptors old.sound c.args.pid (filled c.slots-slots.result.now)
    all c.descriptors-descriptors.ensures.once

pub overflow_sub-self : goal.overflow_sub-self
overflow_sub-self c =
    let old = c.args.self.now in
    let all : descriptors_in c.args.pid (filled c.slots-slots.result.now) ≡ descriptors_of c.args.pid (table_of old.processes) =
    ap (descriptors_in c.args.pid) c.slots-slots.ensures ∙ c.exit-gone.ensures.closed in
    rw c.count.ensures (exit-within (table_of old.processes) (objects_of old.objects) old.descriptors old.sound c.args.pid
    (filled c.slots-slots.result.now) all c.descriptors-descriptors.ensures.once)

pub invariant_of-self : goal.invariant_of-self
invariant_of-self c =
    let old = c.args.self.now in
    let all : descriptors_in c.args.pid (filled c.slots-slots.result.now) ≡ descriptors_of c.args.pid (table_of old.processes) =
    ap (descriptors_in c.args.pid) c.slots-slots.ensures ∙ c.exit-gone.ensures.closed in
    record {
      sound = rw c.count.ensures (sound-exited (table_of old.processes) (objects_of old.objects) old.descriptors old.sound c.args.pid
          (filled c.slots-slots.result.now) all c.descriptors-descriptors.ensures.once (table_of c.exit-gone.new.self) (objects_of c.release_each.new.objects)
          c.exit-gone.ensures.table c.release_each.ensures.objects);
      moment = old.moment;
    }

pub returns-clause-effect : goal.returns-clause-effect
returns-clause-effect c =
    let old = c.args.self.now in
    let all : descriptors_in c.args.pid (filled c.slots-slots.result.now) ≡ descriptors_of c.args.pid (table_of old.processes) =
    ap (descriptors_in c.args.pid) c.slots-slots.ensures ∙ c.exit-gone.ensures.closed in
    let ns = exit-names (table_of old.processes) (objects_of old.objects) old.descriptors old.sound c.args.pid
    (filled c.slots-slots.result.now) all c.descriptors-descriptors.ensures.once in
    let none : c.reserve.new.self.items ≡ [] = c.reserve.ensures.items ∙ c.take_hints-hints.ensures in
    rw (exit_plan (state_of old) c.args.pid c.args.status (sym c.is_live.ensures ∙ c.if-not-is_live.false))
    (record {
      verdict = c.done.ensures.verdict;
      closed = ap pairs_in (c.done.ensures.closed ∙ c.in_ok-put_pairs.ensures
          ∙ ap (λ (ps : List (ℕ × ℕ)). ps ++ map (λ (d : ℕ × Named). (c.args.pid, d.0))
          (filled c.descriptors-descriptors.result.now)) c.take_closed-closed.ensures)
          ∙ pairs-same c.args.pid (filled c.descriptors-descriptors.result.now) ∙ ap pairs_of c.descriptors-descriptors.ensures.all;
      hints = c.done.ensures.hints ∙ c.say.ensures.hints
          ∙ ap (λ (hs : List Posted). hs ++ noted c.args.pid exit_note ∷ []) (c.release_each.ensures.hints
          ∙ ap (λ (hs : List Posted). hs ++ release_hints (names_in (filled c.slots-slots.result.now)) (objects_of old.objects)) none
          ∙ ap (λ (ms : List Named). release_hints ms (objects_of old.objects)) ns);
    })

pub returns-clause-world : goal.returns-clause-world
returns-clause-world c place =
    let old = c.args.self.now in
    let all : descriptors_in c.args.pid (filled c.slots-slots.result.now) ≡ descriptors_of c.args.pid (table_of old.processes) =
    ap (descriptors_in c.args.pid) c.slots-slots.ensures ∙ c.exit-gone.ensures.closed in
    let ns = exit-names (table_of old.processes) (objects_of old.objects) old.descriptors old.sound c.args.pid
    (filled c.slots-slots.result.now) all c.descriptors-descriptors.ensures.once in
    exit_world (state_of old) place c.args.pid c.args.status _ _ _ (sym c.is_live.ensures ∙ c.if-not-is_live.false)
    c.exit-gone.ensures.processes c.exit-gone.ensures.table
    (c.release_each.ensures.objects ∙ ap (λ ns. all_released ns (objects_of old.objects)) ns)

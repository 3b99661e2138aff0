use Rattle.std.proofs.Common.{◌≡◌, ℕ, false, refl, sym, ap, subst, arith, ◌∙◌}
use Rattle.std.specs.Option.{is_some}
use Rattle.kq_model.specs.declared.object.Named.TheVariants as named
use Rattle.kq_model.specs.Holding.{hold_doings}
use Rattle.kq_model.specs.Holders.{hold}
use Rattle.kq_model.specs.Objects.{all_done}
use Rattle.kq_model.specs.World.{named_by}
use Rattle.kq_objects.specs.Objects.{objects_of}
use Rattle.kq_process.specs.Counts.{IsSound}
use Rattle.kq_process.specs.Processes.{table_of, descriptor_in}
use Rattle.kq_process.specs.State.{state_of}
use Rattle.kq_process.proofs.Closing.{opened-anew}
use Rattle.kq_process.proofs.Planned.{kqueue_plan, kqueue_world}
use Rattle.kq_process.proofs.NamesThere.{none-there}
use Rattle.kq_process.proofs.Sound.{sound-shared}
use Rattle.kq_process.proofs.state.State.kqueue.Goals as goal

pub invariant_of-self-2 : goal.invariant_of-self-2
unfolding hold hold_doings all_done
invariant_of-self-2 c =
    let old = c.args.self.now in
    let Sound : ℕ → Type 0 = λ k. IsSound (table_of c.name.new.self) (objects_of old.objects) k in
    let free : is_some c.named.result ≡ false = grind (arith, c.is_some.ensures) in
    record {
      sound = subst Sound (sym c.in-Some.ensures.1) (sound-shared (table_of old.processes) (objects_of old.objects) old.descriptors
          old.sound (descriptor_in c.args.pid (c.args.fd, named.Kqueue c.args.place)) (table_of c.name.new.self) (objects_of old.objects)
          c.in-Some.ensures.0
          (opened-anew c.args.pid c.args.fd (named.Kqueue c.args.place) (table_of old.processes) (table_of c.name.new.self) _
          (sym c.named.ensures.named ∙ none-there c.named.result free) c.in_ok-name.ensures.table) refl);
      moment = old.moment;
    }

pub returns-clause-effect : goal.returns-clause-effect
unfolding named_by
returns-clause-effect c =
    let free : is_some c.named.result ≡ false = grind (arith, c.is_some.ensures) in
    rw (kqueue_plan c.args.pid (state_of c.args.self.now) c.args.fd (sym c.is_live.ensures ∙ c.if-not-is_live.false)
    (ap is_some (sym c.named.ensures.named) ∙ free)) (c.quiet.ensures _ refl refl)

pub returns-clause-world : goal.returns-clause-world
unfolding named_by
returns-clause-world c =
    let free : is_some c.named.result ≡ false = grind (arith, c.is_some.ensures) in
    kqueue_world c.args.pid (state_of c.args.self.now) c.args.place c.args.fd _ _
    (sym c.is_live.ensures ∙ c.if-not-is_live.false) _ refl
    (ap is_some (sym c.named.ensures.named) ∙ free) c.name.ensures.processes c.in_ok-name.ensures.table

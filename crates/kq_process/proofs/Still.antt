-- Records that leave the world as it is.
use Rattle.std.proofs.Common.{◌≡◌, ℕ, Bool, true, false, ◌||◌, nat_lt, List, [], length, Option, Some, None, if◌then◌else◌, refl, sym, ap}
use Rattle.kq_model.specs.declared.change.Change.{Change}
use Rattle.kq_model.specs.declared.object.Named.{Named}
use Rattle.kq_model.specs.declared.object.Named.TheVariants as named
use Rattle.kq_model.specs.declared.why.Why.{Why}
use Rattle.kq_model.specs.declared.why.Why.TheVariants.{NoProcess, NoDescriptor, WrongKind, TooMany}
use Rattle.kq_model.specs.Descriptors.{Descriptor, with_descriptors}
use Rattle.kq_model.specs.DescriptorPlans.{plan_kevent, plan_call, on_descriptor, on_named}
use Rattle.kq_model.specs.Limits.{most_changes, most_room}
use Rattle.kq_model.specs.Objects.{counted, all_done}
use Rattle.kq_model.specs.ProcessPlans.{plan_exec, plan_sig}
use Rattle.kq_model.specs.Processes.{with_process, without_process, with_disposition}
use Rattle.kq_model.specs.Targets.{Posted}
use Rattle.kq_model.specs.World.{World, Call, Planned, Impossible, Possible, idle, named_by, carried_out, with_kqueue, clock_after}
use Rattle.kq_process.specs.Effects.{world_after}
use Rattle.kq_process.proofs.Closing.{nothing-closed}

module _ (place : ℕ) (w : World counted) where
  record IsStill (p : Planned) : Type 0 where
    still : w ≡ world_after place p w

  still-why : (why : Why) → IsStill (Impossible why)
  still-why why = record { still = refl }

  still-told : (hints : List Posted) (call : Option Call) → IsStill (Possible (record idle { hints = hints; call = call }))
  unfolding carried_out with_process without_process with_disposition with_kqueue with_descriptors all_done clock_after
  still-told hints call = record { still = ap (λ (t : List Descriptor). record w { table = t }) (sym (nothing-closed w.table)) }

  still-if : (b : Bool) (p q : Planned) → IsStill p → IsStill q → IsStill (if b then p else q)
  still-if true p q first second = first
  still-if false p q first second = second

  pub still-exec : (pid : ℕ) → w ≡ world_after place (plan_exec pid w) w
  unfolding plan_exec
  still-exec pid = (still-if _ _ _ (still-why NoProcess) (still-told _ None)).still

  pub still-sig : (pid signal : ℕ) → w ≡ world_after place (plan_sig pid signal w) w
  unfolding plan_sig
  still-sig pid signal = (still-if _ _ _ (still-why NoProcess) (still-if _ _ _ (still-why TooMany) (still-told _ None))).still

  still-call : (changes : List Change) (room : ℕ) (n : Named) → IsStill (plan_call changes room n)
  unfolding plan_call
  still-call changes room (named.Kqueue k) = still-if (nat_lt most_changes (length changes) || nat_lt most_room room) (Impossible TooMany) _ (still-why TooMany)
      (still-told [] (Some (record { kqueue = k; changes = changes; room = room })))
  still-call changes room (named.Socket p) = still-why WrongKind
  still-call changes room (named.PipeRead p) = still-why WrongKind
  still-call changes room (named.PipeWrite p) = still-why WrongKind
  still-call changes room (named.Open p f) = still-why WrongKind

  still-named : (changes : List Change) (room : ℕ) (o : Option Named) → IsStill (on_named (plan_call changes room) o)
  unfolding on_named
  still-named changes room None = still-why NoDescriptor
  still-named changes room (Some n) = still-call changes room n

  pub still-kevent : (pid fd : ℕ) (changes : List Change) (room : ℕ) → w ≡ world_after place (plan_kevent pid fd changes room w) w
  unfolding plan_kevent on_descriptor
  still-kevent pid fd changes room = (still-if _ _ _ (still-why NoProcess) (still-named changes room (named_by pid fd w))).still

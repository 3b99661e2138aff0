-- What is planned for what a number of a process names.
use Rattle.std.proofs.Common.{◌≡◌, ℕ, true, false, List, Some, None, refl, sym}
use Rattle.kq_model.specs.declared.object.Named.{Named}
use Rattle.kq_model.specs.declared.why.Why.TheVariants.{NoDescriptor, NoProcess}
use Rattle.kq_model.specs.Descriptors.{Descriptor, named_among}
use Rattle.kq_model.specs.DescriptorPlans.{on_descriptor, on_named}
use Rattle.kq_model.specs.Objects.{Objects, counted}
use Rattle.kq_model.specs.Processes.{Process, is_live}
use Rattle.kq_model.specs.World.{Planned, Impossible, World, named_by}

module _ (pid number : ℕ) (processes : List Process) (table : List Descriptor) (planned : Named → Planned)
    (o : Objects counted) (now : ℕ) where
  abbrev world : World counted
  world = record { processes = processes; table = table; objects = o; now = now }

  pub on-dead : false ≡ is_live pid processes → on_descriptor pid number planned world ≡ Impossible NoProcess
  unfolding on_descriptor
  on-dead dead = rw (sym dead) refl

  pub on-closed : true ≡ is_live pid processes → None ≡ named_among pid number table
      → on_descriptor pid number planned world ≡ Impossible NoDescriptor
  unfolding on_descriptor on_named named_by
  on-closed live closed = rw (sym live, sym closed) refl

  pub on-open : (n : Named) → true ≡ is_live pid processes → Some n ≡ named_among pid number table
      → on_descriptor pid number planned world ≡ planned n
  unfolding on_descriptor on_named named_by
  on-open n live is = rw (sym live, sym is) refl

-- The plans of records about processes and signals once their tests are passed, and the worlds after them.
use Rattle.std.proofs.Common.{◌≡◌, ℕ, ◌==◌, ◌<◌, ◌≤◌, Bool, true, false, ◌&&◌, List, [], ◌∷◌, Option, Some, None, Result, Ok, Err, OnOk, OnErr, refl, sym, ap, arith, ◌∙◌}
use Rattle.kq_model.specs.declared.object.Hint.TheVariants as hint
use Rattle.kq_model.specs.declared.object.Named.{Named}
use Rattle.kq_model.specs.declared.object.Target.TheVariants as target
use Rattle.kq_model.specs.Bits.{exec_note}
use Rattle.kq_model.specs.declared.object.Named.TheVariants as named
use Rattle.kq_model.specs.Descriptors.{Descriptor, with_descriptor, with_descriptors, without_closed}
use Rattle.kq_model.specs.DescriptorPlans.{plan_kqueue, closes}
use Rattle.kq_model.specs.Limits.{most_signal}
use Rattle.kq_model.specs.Objects.{counted, all_done}
use Rattle.kq_model.specs.ProcessPlans.{plan_proc, plan_exec, plan_sigset, plan_sig, plan_clock, is_signal, delivery, child_signal, noted}
use Rattle.kq_model.specs.Processes.{Process, was_used, is_live, process_of, ignores_none, ignored_by, with_process, without_process, with_disposition}
use Rattle.kq_model.specs.Targets.{Posted}
use Rattle.kq_model.specs.World.{World, Possible, idle, named_by, carried_out, with_kqueue, clock_after}
use Rattle.std.specs.Option.{is_some}
use Rattle.kq_process.specs.declared.effect.Effect.{Effect}
use Rattle.kq_process.specs.Processes.{descriptor_in}
use Rattle.kq_process.specs.Effects.{Tells, world_after}
use Rattle.kq_process.proofs.Places.{less-true, less-false}
use Rattle.kq_process.proofs.Closing.{nothing-closed}

-- what these hints say, where there was memory for them
pub told_by : {T E : Type 0} (hints : List Posted) (Q : Effect → Type 0) → ((e : Effect) → Tells hints e → Q e)
    → (e : Effect) (r : Result T E) → OnOk r (Tells hints e) → OnOk r (Q e)
told_by hints Q tells e (Ok x) told = tells e told
told_by hints Q tells e (Err x) told = tt

-- what holds anyway holds where memory was refused
pub held_anyway : {T E : Type 0} (P : Type 0) (r : Result T E) → P → OnErr r P
held_anyway P (Ok x) p = tt
held_anyway P (Err e) p = p

-- a world of these processes and this table
abbrev pub world_like : World counted → List Process → List Descriptor → World counted
world_like w ps table = record w { processes = ps; table = table }

module _ (pid : ℕ) (w : World counted) where
  pub proc_plan : was_used pid w.processes ≡ false
      → plan_proc pid w ≡ Possible (record idle { started = Some (record { pid = pid; ignores = ignores_none }) })
  unfolding plan_proc
  proc_plan fresh = rw fresh refl

  pub proc_world : (place : ℕ) (ps : List Process) (table : List Descriptor) → was_used pid w.processes ≡ false
      → ps ≡ with_process (Some (record { pid = pid; ignores = ignores_none })) w.processes → table ≡ w.table
      → world_like w ps table ≡ world_after place (plan_proc pid w) w
  unfolding carried_out with_process without_process with_disposition with_kqueue with_descriptors all_done clock_after
  proc_world place ps table fresh more same =
      rw (proc_plan fresh)
      (ap (λ ps. world_like w ps table) more
      ∙ ap (λ t. world_like w (with_process (Some (record { pid = pid; ignores = ignores_none })) w.processes) t)
      (same ∙ sym (nothing-closed w.table)))

  pub exec_plan : is_live pid w.processes ≡ true
      → plan_exec pid w ≡ Possible (record idle { hints = noted pid exec_note ∷ [] })
  unfolding plan_exec
  exec_plan live = rw live refl

  signal_true : (signal : ℕ) → 1 ≤ signal → signal ≤ most_signal → is_signal signal ≡ true
  unfolding is_signal
  signal_true signal low high =
      let positive : 0 < signal = omega arith in
      rw (less-true 0 signal positive, less-false most_signal signal high) refl

  pub sigset_plan : (signal : ℕ) (ignore : Bool) → is_live pid w.processes ≡ true → 1 ≤ signal → signal ≤ most_signal
      → plan_sigset pid signal ignore w
      ≡ Possible (record idle { disposed = Some (record { pid = pid; signal = signal; ignore = ignore }) })
  unfolding plan_sigset
  sigset_plan signal ignore live low high = rw (live, signal_true signal low high) refl

  pub sigset_world : (place signal : ℕ) (ignore : Bool) (ps : List Process) (table : List Descriptor)
      → is_live pid w.processes ≡ true → 1 ≤ signal → signal ≤ most_signal
      → ps ≡ with_disposition (Some (record { pid = pid; signal = signal; ignore = ignore })) w.processes
      → table ≡ w.table
      → world_like w ps table ≡ world_after place (plan_sigset pid signal ignore w) w
  unfolding carried_out with_process without_process with_disposition with_kqueue with_descriptors all_done clock_after
  sigset_world place signal ignore ps table live low high changed same =
      rw (sigset_plan signal ignore live low high)
      (ap (λ ps. world_like w ps table) changed
      ∙ ap (λ t. world_like w
      (with_disposition (Some (record { pid = pid; signal = signal; ignore = ignore })) w.processes) t)
      (same ∙ sym (nothing-closed w.table)))

  -- whether the process ignores the signal
  abbrev pub ignored : ℕ → Bool
  ignored signal = ignored_by (process_of pid w.processes) signal

  pub sig_plan : (signal : ℕ) → is_live pid w.processes ≡ true → 1 ≤ signal → signal ≤ most_signal
      → plan_sig pid signal w ≡ Possible (record idle { hints = delivery pid signal (ignored signal) })
  unfolding plan_sig
  sig_plan signal live low high = rw (live, signal_true signal low high) refl

  pub sig_unheard : (signal : ℕ) → is_live pid w.processes ≡ true → 1 ≤ signal → signal ≤ most_signal
      → ((signal == child_signal) && ignored signal) ≡ true
      → plan_sig pid signal w ≡ Possible idle
  unfolding delivery
  sig_unheard signal live low high unheard = sig_plan signal live low high ∙ rw unheard refl

  pub sig_heard : (signal : ℕ) → is_live pid w.processes ≡ true → 1 ≤ signal → signal ≤ most_signal
      → ((signal == child_signal) && ignored signal) ≡ false
      → plan_sig pid signal w ≡ Possible (record idle { hints = (target.Signal pid signal, hint.Delivered) ∷ [] })
  unfolding delivery
  sig_heard signal live low high heard = sig_plan signal live low high ∙ rw heard refl

  pub kqueue_plan : (fd : ℕ) → is_live pid w.processes ≡ true → is_some (named_by pid fd w) ≡ false
      → plan_kqueue pid fd w ≡ Possible (record idle { born = Some (record { pid = pid; number = fd }) })
  unfolding plan_kqueue
  kqueue_plan fd live free = rw (live, free) refl

  pub kqueue_world : (place fd : ℕ) (ps : List Process) (table : List Descriptor) → is_live pid w.processes ≡ true
      → (o : Option Named) → named_by pid fd w ≡ o → is_some o ≡ false → ps ≡ w.processes
      → table ≡ with_descriptor (descriptor_in pid (fd, named.Kqueue place))
      (without_closed (closes pid fd o) w.table)
      → world_like w ps table ≡ world_after place (plan_kqueue pid fd w) w
  unfolding carried_out with_process without_process with_disposition with_kqueue with_descriptors all_done clock_after closes
  kqueue_world place fd ps table live None free none same more =
      rw (kqueue_plan fd live (ap is_some free))
      (ap (λ ps. world_like w ps table) same ∙ ap (λ t. world_like w w.processes t) more)
  kqueue_world place fd ps table live (Some n) free none same more = absurd (cc)

  pub clock_plan : (moment : ℕ) → w.now ≤ moment → plan_clock moment w ≡ Possible (record idle { clock = Some (record { from = w.now; to = moment }) })
  unfolding plan_clock
  clock_plan moment later = rw (less-false moment w.now later) refl

  pub clock_world : (place moment : ℕ) → w.now ≤ moment → record w { now = moment } ≡ world_after place (plan_clock moment w) w
  unfolding carried_out with_process without_process with_disposition with_kqueue with_descriptors all_done clock_after
  clock_world place moment later = rw (clock_plan moment later)
      (ap (λ (t : List Descriptor). record w { table = t; now = moment }) (sym (nothing-closed w.table)))

-- The plans of the records that share or close descriptors once their tests are passed, and the worlds after
-- them.
use Rattle.std.proofs.Common.{◌≡◌, ℕ, ◌==◌, true, false, List, [], ◌∷◌, ◌++◌, Option, Some, None, refl, sym, ap, ◌∙◌}
use Rattle.kq_model.specs.declared.object.Named.{Named}
use Rattle.kq_model.specs.declared.object.Named.TheVariants as named
use Rattle.kq_model.specs.Bits.{exit_note}
use Rattle.kq_model.specs.Descriptors.{Descriptor, with_descriptor, with_descriptors, without_closed}
use Rattle.kq_model.specs.DescriptorPlans.{plan_close, plan_dup, duplicated, on_descriptor, on_named, closes, close_doings}
use Rattle.kq_model.specs.Holding.{release, hold_doings, release_doings, release_hint, release_all, release_hints, option_list}
use Rattle.kq_model.specs.Holders.{hold, all_held, all_released}
use Rattle.kq_model.specs.Objects.{Objects, counted, all_done}
use Rattle.kq_model.specs.ProcessPlans.{plan_fork, plan_exit, inherited, descriptors_of, pairs_of, names_of, forked, hold_all, noted}
use Rattle.kq_model.specs.Processes.{Process, was_used, is_live, process_of, ignored_by, with_process, without_process, with_disposition}
use Rattle.kq_model.specs.World.{World, Plan, Possible, idle, named_by, carried_out, with_kqueue, clock_after}
use Rattle.kq_model.proofs.ReleasedAll.{release-counted, release_all-done, all_done-append}
use Rattle.kq_process.specs.Effects.{world_after}
use Rattle.kq_process.specs.State.{sharing}
use Rattle.kq_process.proofs.Closing.{nothing-closed}

hold_all-done : (ns : List Named) (o : Objects counted) → all_done (hold_all ns) o ≡ all_held ns o
unfolding hold_all all_held all_done hold
hold_all-done [] o = refl
hold_all-done (n ∷ ns) o = all_done-append (hold_doings n) (hold_all ns) o ∙ hold_all-done ns (all_done (hold_doings n) o)

module _ (w : World counted) where
  abbrev pub parts : List Process → List Descriptor → Objects counted → World counted
  parts ps t o = record { processes = ps; table = t; objects = o; now = w.now }

  pub same_parts : (ps ps' : List Process) (t t' : List Descriptor) (o o' : Objects counted) → ps ≡ ps' → t ≡ t' → o ≡ o'
      → parts ps t o ≡ parts ps' t' o'
  same_parts ps ps' t t' o o' p q r =
      ap (λ x. parts x t o) p ∙ ap (λ x. parts ps' x o) q ∙ ap (λ (x : Objects counted). parts ps' t' x) r

  -- ---- fork

  abbrev fork_done : ℕ → ℕ → Plan
  fork_done pid child = record idle {
    opened = inherited pid child w.table;
    doings = hold_all (names_of (inherited pid child w.table));
    hints = forked pid child;
    started = Some (record { pid = child; ignores = ignored_by (process_of pid w.processes) });
  }

  pub fork_plan : (pid child : ℕ) → is_live pid w.processes ≡ true → was_used child w.processes ≡ false
      → plan_fork pid child w ≡ Possible (fork_done pid child)
  unfolding plan_fork
  fork_plan pid child live fresh = rw (live, fresh) refl

  pub fork_world : (place pid child : ℕ) (ps : List Process) (t : List Descriptor) (o : Objects counted)
      → is_live pid w.processes ≡ true → was_used child w.processes ≡ false
      → ps ≡ with_process (Some (record { pid = child; ignores = ignored_by (process_of pid w.processes) })) w.processes
      → t ≡ with_descriptors (inherited pid child w.table) w.table
      → o ≡ all_held (names_of (inherited pid child w.table)) w.objects
      → parts ps t o ≡ world_after place (plan_fork pid child w) w
  unfolding carried_out without_process with_disposition with_kqueue clock_after
  fork_world place pid child ps t o live fresh more opened held =
      rw (fork_plan pid child live fresh)
      (same_parts ps _ t _ o _ more
      (opened ∙ sym (ap (with_descriptors (inherited pid child w.table)) (nothing-closed w.table)))
      (held ∙ sym (hold_all-done (names_of (inherited pid child w.table)) w.objects)))

  -- ---- exit

  abbrev exit_done : ℕ → ℕ → Plan
  exit_done pid status = record idle {
    closed = pairs_of (descriptors_of pid w.table);
    doings = release_all (names_of (descriptors_of pid w.table)) w.objects;
    hints = release_hints (names_of (descriptors_of pid w.table)) w.objects ++ noted pid exit_note ∷ [];
    ended = Some (record { pid = pid; status = status });
  }

  pub exit_plan : (pid status : ℕ) → is_live pid w.processes ≡ true → plan_exit pid status w ≡ Possible (exit_done pid status)
  unfolding plan_exit
  exit_plan pid status live = rw live refl

  pub exit_world : (place pid status : ℕ) (ps : List Process) (t : List Descriptor) (o : Objects counted)
      → is_live pid w.processes ≡ true
      → ps ≡ without_process (Some (record { pid = pid; status = status })) w.processes
      → t ≡ without_closed (pairs_of (descriptors_of pid w.table)) w.table
      → o ≡ all_released (names_of (descriptors_of pid w.table)) w.objects
      → parts ps t o ≡ world_after place (plan_exit pid status w) w
  unfolding carried_out with_process with_disposition with_kqueue with_descriptors clock_after
  exit_world place pid status ps t o live gone closed released =
      rw (exit_plan pid status live)
      (same_parts ps _ t _ o _ gone closed
      (released ∙ sym (release_all-done (names_of (descriptors_of pid w.table)) w.objects)))

  -- ---- close

  close_plan : (pid fd : ℕ) (n : Named) → is_live pid w.processes ≡ true → named_by pid fd w ≡ Some n
      → plan_close pid fd w ≡ Possible (record idle {
        closed = record { pid = pid; number = fd } ∷ [];
        doings = release_doings n w.objects;
        hints = option_list (release_hint n w.objects);
      })
  unfolding plan_close on_descriptor on_named
  close_plan pid fd n live there = rw (live, there) refl

  pub close_world : (place pid fd : ℕ) (n : Named) (ps : List Process) (t : List Descriptor) (o : Objects counted)
      → is_live pid w.processes ≡ true → named_by pid fd w ≡ Some n → ps ≡ w.processes
      → t ≡ without_closed (record { pid = pid; number = fd } ∷ []) w.table → o ≡ release n w.objects
      → parts ps t o ≡ world_after place (plan_close pid fd w) w
  unfolding carried_out with_process without_process with_disposition with_kqueue with_descriptors clock_after
  close_world place pid fd n ps t o live there same closed released =
      rw (close_plan pid fd n live there)
      (same_parts ps _ t _ o _ same closed (released ∙ release-counted n w.objects))

  -- ---- dup

  pub share_world : (place pid to : ℕ) (n : Named) (ps : List Process) (t : List Descriptor) (o : Objects counted)
      → ps ≡ w.processes → t ≡ with_descriptor (record { pid = pid; number = to; named = n }) w.table
      → o ≡ hold n w.objects
      → parts ps t o ≡ world_after place (Possible (sharing pid to None n w)) w
  unfolding carried_out with_process without_process with_disposition with_kqueue with_descriptors clock_after closes close_doings hold
  share_world place pid to n ps t o same more held =
      same_parts ps _ t _ o _ same
      (more ∙ sym (ap (with_descriptor (record { pid = pid; number = to; named = n })) (nothing-closed w.table))) held

  pub replace_world : (place pid to : ℕ) (before n : Named) (ps : List Process) (t : List Descriptor) (o : Objects counted)
      → ps ≡ w.processes
      → t ≡ with_descriptor (record { pid = pid; number = to; named = n }) (without_closed (record { pid = pid; number = to } ∷ []) w.table)
      → o ≡ hold n (release before w.objects)
      → parts ps t o ≡ world_after place (Possible (sharing pid to (Some before) n w)) w
  unfolding carried_out with_process without_process with_disposition with_kqueue with_descriptors clock_after closes close_doings hold
  replace_world place pid to before n ps t o same more held =
      same_parts ps _ t _ o _ same more
      (held ∙ ap (all_done (hold_doings n)) (release-counted before w.objects)
      ∙ sym (all_done-append (release_doings before w.objects) (hold_doings n) w.objects))

  pub idle_world : (place : ℕ) → w ≡ world_after place (Possible idle) w
  unfolding carried_out with_process without_process with_disposition with_kqueue with_descriptors clock_after all_done
  idle_world place = same_parts _ _ _ _ _ _ refl (sym (nothing-closed w.table)) refl

  abbrev IsNoKqueue : Named → Type 0
  IsNoKqueue n = (place : ℕ) → n ≡ named.Kqueue place → ⊥

  duplicated_same : (pid fd to : ℕ) (n : Named) → IsNoKqueue n → (fd == to) ≡ true → duplicated pid fd to w n ≡ Possible idle
  unfolding duplicated
  duplicated_same pid fd to (named.Socket p) object same = rw same refl
  duplicated_same pid fd to (named.PipeRead p) object same = rw same refl
  duplicated_same pid fd to (named.PipeWrite p) object same = rw same refl
  duplicated_same pid fd to (named.Open p f) object same = rw same refl
  duplicated_same pid fd to (named.Kqueue p) object same = absurd (object p refl)

  duplicated_other : (pid fd to : ℕ) (n : Named) → IsNoKqueue n → (fd == to) ≡ false
      → duplicated pid fd to w n ≡ Possible (sharing pid to (named_by pid to w) n w)
  unfolding duplicated
  duplicated_other pid fd to (named.Socket p) object other = rw other refl
  duplicated_other pid fd to (named.PipeRead p) object other = rw other refl
  duplicated_other pid fd to (named.PipeWrite p) object other = rw other refl
  duplicated_other pid fd to (named.Open p f) object other = rw other refl
  duplicated_other pid fd to (named.Kqueue p) object other = absurd (object p refl)

  module _ (pid fd to : ℕ) (n : Named) (live : is_live pid w.processes ≡ true) (there : named_by pid fd w ≡ Some n) (object : IsNoKqueue n) where
    pub dup_same : (fd == to) ≡ true → plan_dup pid fd to w ≡ Possible idle
    unfolding plan_dup on_descriptor on_named
    dup_same same = rw (live, there) (duplicated_same pid fd to n object same)

    pub dup_other : (fd == to) ≡ false → (before : Option Named) → named_by pid to w ≡ before
        → plan_dup pid fd to w ≡ Possible (sharing pid to before n w)
    unfolding plan_dup on_descriptor on_named
    dup_other other before is = rw (live, there)
        (duplicated_other pid fd to n object other ∙ ap (λ (b : Option Named). Possible (sharing pid to b n w)) is)

-- A record about objects that is possible: its plan, the world after it, and what it keeps true.
use Rattle.std.proofs.Common.{◌≡◌, ℕ, ◌+◌, ◌<◌, ◌^◌, List, [], ◌++◌, length, Ok, Err, IsOk, is_ok, refl, sym, ap, subst, ◌∙◌}
use Rattle.kq_model.specs.declared.act.Act.{Act}
use Rattle.kq_model.specs.declared.object.Named.{Named}
use Rattle.kq_model.specs.Descriptors.{Descriptor, with_descriptors}
use Rattle.kq_model.specs.Holders.{IsCounted, made_names}
use Rattle.kq_model.specs.ObjectPlan as object
use Rattle.kq_model.specs.ObjectPlan.{ObjectPlan}
use Rattle.kq_model.specs.ObjectRecordPlans.{plan_act, with_objects}
use Rattle.kq_model.specs.Objects.{Objects, counted, all_done}
use Rattle.kq_model.specs.Planning as objects
use Rattle.kq_model.specs.ProcessPlans.{names_of}
use Rattle.kq_model.specs.Processes.{Process, with_process, without_process, with_disposition}
use Rattle.kq_model.specs.World.{World, Plan, Possible, idle, carried_out, with_kqueue, clock_after}
use Rattle.kq_model.proofs.CountedPlans.{counted-plan}
use Rattle.kq_model.proofs.FreePlaces.{held-all_done}
use Rattle.kq_process.specs.Counts.{IsSound}
use Rattle.kq_process.specs.Effects.{world_after, IsPossible}
use Rattle.kq_process.specs.Uses.{act_on}
use Rattle.kq_process.specs.declared.uses.Use.{Use}
use Rattle.kq_process.specs.declared.uses.Use.TheVariants as use_of
use Rattle.kq_process.proofs.Closing.{nothing-closed}
use Rattle.kq_process.proofs.Shared.{parts, same_parts}
use Rattle.kq_process.proofs.Sound.{sound-made}

-- what a descriptor is used for makes nothing
pub uses-make : (what : Use) (place : ℕ) (on : Named) → made_names place (act_on what on) ≡ []
unfolding made_names
uses-make (use_of.Listen backlog) place on = refl
uses-make use_of.Arrive place on = refl
uses-make use_of.Connect place on = refl
uses-make (use_of.Receive bytes) place on = refl
uses-make (use_of.Transmit bytes) place on = refl
uses-make (use_of.Shut side error) place on = refl
uses-make (use_of.LowWater side mark) place on = refl
uses-make (use_of.Read bytes) place on = refl
uses-make (use_of.Write bytes) place on = refl
uses-make (use_of.Seek offset) place on = refl

possible_with : (ds : List Descriptor) (x : object.Planned) → IsOk x → IsPossible (with_objects ds x)
unfolding with_objects
possible_with ds (Ok p) ok = tt
possible_with ds (Err why) ok = absurd (cc)

-- a record about objects is possible where it has a plan
pub possible-act : (place : ℕ) (a : Act) (w : World counted) (ds : List Descriptor) → IsOk (objects.plan place a w.objects)
    → IsPossible (plan_act place ds a w)
unfolding plan_act
possible-act place a w ds ok = possible_with ds (objects.plan place a w.objects) ok

pub possible-planned : (place : ℕ) (a : Act) (w : World counted) (ds : List Descriptor) (p : ObjectPlan)
    → objects.plan place a w.objects ≡ Ok p → IsPossible (plan_act place ds a w)
possible-planned place a w ds p is = possible-act place a w ds (ap is_ok is)

module _ (place : ℕ) (a : Act) (w : World counted) (p : ObjectPlan) (is : objects.plan place a w.objects ≡ Ok p) (ds : List Descriptor) where
  abbrev acted : Plan
  acted = record idle { opened = ds; doings = p.doings; hints = p.hints }

  pub act_plan : plan_act place ds a w ≡ Possible acted
  unfolding plan_act with_objects
  act_plan = rw is refl

  pub act_world : (t : List Descriptor) (ps : List Process) (o : Objects counted) → ps ≡ w.processes
      → t ≡ with_descriptors ds w.table → o ≡ all_done p.doings w.objects
      → parts w ps t o ≡ world_after place (plan_act place ds a w) w
  unfolding carried_out with_process without_process with_disposition with_kqueue clock_after
  act_world t ps o same more done =
      rw act_plan (same_parts w ps _ t _ o _ same (more ∙ sym (ap (with_descriptors ds) (nothing-closed w.table))) done)

  pub sound-act : (number more : ℕ) → IsSound w.table w.objects number → names_of ds ≡ made_names place a → more ≡ number + length ds
      → more < 2 ^ 64 → (t : List Descriptor) (o : Objects counted) → t ≡ with_descriptors ds w.table → o ≡ all_done p.doings w.objects
      → IsSound t o more
  sound-act number more s names adds room t o opened done =
      let Counted : List Named → Type 0 = λ ns. IsCounted (all_done p.doings w.objects) (ns ++ names_of w.table) in
      rw (opened, done) (sound-made ds w.table w.objects number s (all_done p.doings w.objects) more adds room
      (held-all_done p.doings w.objects s.held)
      (subst Counted (sym names) (counted-plan place a w.objects p (names_of w.table) is s.counted)))

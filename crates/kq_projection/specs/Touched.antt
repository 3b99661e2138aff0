-- What may be another one after a record: the numbers that it closed or opens, and those of a process that it started;
-- whom it told, what it speaks of, what the numbers that it speaks of name after it, and what may have ended with those
-- that it closed. A descriptor more alters nothing that is seen.
use Rattle.std.specs.Prelude.{◌≡◌, ℕ, ◌==◌, Bool, true, false, ◌&&◌, List, [], ◌∷◌, ◌++◌, map}
use Rattle.std.specs.Prelude.{Option, Some, None, if◌then◌else◌}
use Rattle.std.specs.List.{flat_map, list_any}
use Rattle.kq_model.specs.declared.event.Event.{Event}
use Rattle.kq_model.specs.declared.object.Named.{Named}
use Rattle.kq_model.specs.declared.object.Named.TheVariants as named
use Rattle.kq_model.specs.declared.object.Target.{Target}
use Rattle.kq_model.specs.declared.object.Target.TheVariants as target
use Rattle.kq_model.specs.Descriptors.{Descriptor}
use Rattle.kq_model.specs.Objects.{counted}
use Rattle.kq_model.specs.ProcessPlans.{descriptors_of}
use Rattle.kq_model.specs.Targets.{Posted, target_eq}
use Rattle.kq_model.specs.Views.{Views}
use Rattle.kq_model.specs.World.{World}
use Rattle.kq_projection.specs.RecordSubjects.{opened_numbers, spoken_numbers, spoken_process, spoken_targets}

abbrev pub has_number : ℕ → ℕ → List (ℕ × ℕ) → Bool
has_number pid number pairs = list_any (λ (p : ℕ × ℕ). (p.0 == pid) && (p.1 == number)) pairs

abbrev pub has_target : Target → List Target → Bool
has_target t targets = list_any (λ x. target_eq x t) targets

-- each of these is one of those
abbrev pub AreAmong : List Target → List Target → Type 0
AreAmong xs ys = (t : Target) → has_target t xs ≡ true → has_target t ys ≡ true

-- ---- numbers

abbrev pub keys_of : List Descriptor → List (ℕ × ℕ)
keys_of ds = map (λ (d : Descriptor). (d.pid, d.number)) ds

-- all that are open in the process
abbrev pub open_numbers : Option ℕ → World counted → List (ℕ × ℕ)
open_numbers None w = []
open_numbers (Some pid) w = keys_of (descriptors_of pid w.table)

-- `w` is the world after the record
abbrev pub touched_numbers : Event → List (ℕ × ℕ) → World counted → List (ℕ × ℕ)
touched_numbers e closed w = closed ++ (opened_numbers e ++ open_numbers (spoken_process e) w)

-- ---- targets

abbrev pub targets_named : Option Named → List Target
targets_named None = []
targets_named (Some (named.Socket place)) = target.Socket place ∷ []
targets_named (Some (named.PipeRead place)) = target.Pipe place ∷ []
targets_named (Some (named.PipeWrite place)) = target.Pipe place ∷ []
targets_named (Some (named.Open place file)) = target.Open place ∷ target.File file ∷ []
targets_named (Some (named.Kqueue place)) = []

abbrev pub told_targets : List Posted → List Target
told_targets hints = map (λ (p : Posted). p.0) hints

unfoldable pub is_file : Target → Bool
is_file (target.File number) = true
is_file _ = false

-- one of them is for a file
abbrev pub tells_file : List Posted → Bool
tells_file hints = list_any (λ (p : Posted). is_file p.0) hints

-- of what a number named that is closed: a socket, and where a file is told, a description, which may have ended; of a
-- pipe the end of an end is told
abbrev pub targets_left : Bool → Option Named → List Target
targets_left tells None = []
targets_left tells (Some (named.Socket place)) = target.Socket place ∷ []
targets_left tells (Some (named.PipeRead place)) = []
targets_left tells (Some (named.PipeWrite place)) = []
targets_left tells (Some (named.Open place file)) = if tells then target.Open place ∷ [] else []
targets_left tells (Some (named.Kqueue place)) = []

-- by a number, in the world before
abbrev pub left_of : Bool → Views → ℕ × ℕ → List Target
left_of tells before p = targets_left tells (before.descriptor p.0 p.1)

-- by these numbers, in one world
abbrev pub all_named : Views → List (ℕ × ℕ) → List Target
all_named views numbers = flat_map (λ (p : ℕ × ℕ). targets_named (views.descriptor p.0 p.1)) numbers

-- besides what may have ended
abbrev pub other_targets : Event → List Posted → Views → List Target
other_targets e hints after = told_targets hints ++ (spoken_targets e ++ all_named after (spoken_numbers e))

abbrev pub touched_targets : Event → List (ℕ × ℕ) → List Posted → Views → Views → List Target
touched_targets e closed hints before after =
    flat_map (left_of (tells_file hints) before) closed ++ other_targets e hints after

-- What a record does stays within what it touches: it opens no numbers but those that it says it opens and those of a
-- process that it starts, and what it alters is accounted for by whom it tells, by what it speaks of, by what its
-- numbers name, and by what may have ended with those that it closes.
use Rattle.std.specs.Prelude.{◌≡◌, ℕ, Bool, true, false, ◌||◌, List, Some, All}
use Rattle.kq_model.specs.declared.event.Event.{Event}
use Rattle.kq_model.specs.declared.object.Target.{Target}
use Rattle.kq_model.specs.declared.object.Target.TheVariants.{Process}
use Rattle.kq_model.specs.Close.{Pair, has_pair}
use Rattle.kq_model.specs.Descriptors.{Descriptor, named_among}
use Rattle.kq_model.specs.Objects.{all_done, counted, view_of}
use Rattle.kq_model.specs.TouchedTargets.{starts, ends}
use Rattle.kq_model.specs.World.{World, Plan, Planned, Impossible, Possible}
use Rattle.kq_projection.specs.RecordSubjects.{opened_numbers, spoken_numbers, spoken_targets}
use Rattle.kq_projection.specs.Touched.{has_number, has_target, targets_left, targets_named, tells_file, told_targets}

module _ (opens numbers : List (ℕ × ℕ)) (targets : List Target) (w : World counted) where
  abbrev pub HasEach : (Target → Bool) → List Target → Type 0
  HasEach has ts = All (λ t. has t ≡ true) ts

  -- the test passes all that is told, spoken of or named
  pub record PassesAll (has : Target → Bool) (p : Plan) : Type 0 where
    pub told : HasEach has (told_targets p.hints)
    pub spoken : HasEach has targets
    pub opened : All (λ (d : Descriptor). has_number d.pid d.number opens ≡ true
        → HasEach has (targets_named (Some d.named))) p.opened
    -- of a number that is neither opened nor closed
    pub numbered : (pid number : ℕ) → has_number pid number numbers ≡ true
        → has_number pid number opens ≡ false
        → has_pair pid number p.closed ≡ false → HasEach has (targets_named (named_among pid number w.table))
    pub closed : (pid number : ℕ) → has_pair pid number p.closed ≡ true
        → HasEach has (targets_left (tells_file p.hints) (named_among pid number w.table))

  pub record IsWithin (p : Plan) : Type 0 where
    pub opened : All (λ (d : Descriptor). (has_number d.pid d.number opens || starts d.pid p.started)
        ≡ true) p.opened
    pub born : (x : Pair) → p.born ≡ Some x → has_number x.pid x.number opens ≡ true
    pub process : (pid : ℕ) → (starts pid p.started || ends pid p.ended) ≡ true
        → has_target (Process pid) targets ≡ true
    pub doings : (has : Target → Bool) → PassesAll has p → (t : Target) → has t ≡ false
        → view_of t (all_done p.doings w.objects) ≡ view_of t w.objects

  abbrev pub StaysWithin : Planned → Type 0
  StaysWithin (Impossible why) = Unit {0}
  StaysWithin (Possible p) = IsWithin p

-- the record keeps within what it speaks of
abbrev pub IsWithinRecord : Event → World counted → Planned → Type 0
IsWithinRecord e w q = StaysWithin (opened_numbers e) (spoken_numbers e) (spoken_targets e) w q

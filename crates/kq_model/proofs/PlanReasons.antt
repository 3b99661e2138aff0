-- What holds of every plan: it is shown of the plans that follow once the reasons before them are ruled out,
-- with what that tells of the world.
use Rattle.std.proofs.Common.{◌≡◌, ℕ, Bool, true, false, not, List, [], ◌∷◌, Option, Some, None, refl, if◌then◌else◌}
use Rattle.std.specs.Option.{is_some}
use Rattle.kq_model.specs.declared.object.Named.{Named}
use Rattle.kq_model.specs.declared.why.Why.{Why}
use Rattle.kq_model.specs.declared.why.Why.TheVariants.{NoProcess, UsedDescriptor}
use Rattle.kq_model.specs.Descriptors.{named_among}
use Rattle.kq_model.specs.DescriptorPlans.{on_descriptor, on_named}
use Rattle.kq_model.specs.ObjectRecordPlans.{if_live, unless_open}
use Rattle.kq_model.specs.Objects.{counted}
use Rattle.kq_model.specs.Processes.{is_live}
use Rattle.kq_model.specs.World.{World, Planned, Impossible, named_by}
use Rattle.kq_model.proofs.KnoteLaws.{by_test}

not_not : (b : Bool) → not b ≡ false → b ≡ true
not_not true e = refl
not_not false e = absurd (cc)

pub no_name : (x : Option Named) → is_some x ≡ false → x ≡ None
no_name None none = refl
no_name (Some n) none = absurd (cc)

-- the numbers are not open
abbrev pub AreClosed : ℕ → List ℕ → World counted → Type 0
AreClosed pid [] w = Unit {0}
AreClosed pid (number ∷ numbers) w = (named_among pid number w.table ≡ None) × AreClosed pid numbers w

-- `K` holds of what is impossible
module _ (K : Planned → Type 0) (impossible : (why : Why) → K (Impossible why)) (w : World counted) where
  pub unless : (refused : Bool) (why : Why) (planned : Planned) → (refused ≡ false → K planned) → K (if refused then Impossible why else planned)
  unless refused why planned holds = by_test (λ b. K (if b then Impossible why else planned)) refused (λ _. impossible why) holds

  -- of a live process
  pub unless_gone : (pid : ℕ) (planned : Planned) → (is_live pid w.processes ≡ true → K planned)
      → K (if not (is_live pid w.processes) then Impossible NoProcess else planned)
  unless_gone pid planned holds =
      unless (not (is_live pid w.processes)) NoProcess planned (λ live. holds (not_not (is_live pid w.processes) live))

  pub if_live-holds : (pid : ℕ) (planned : Planned) → (is_live pid w.processes ≡ true → K planned) → K (if_live pid w planned)
  unfolding if_live
  if_live-holds pid planned holds =
      by_test (λ b. K (if b then planned else Impossible NoProcess)) (is_live pid w.processes) holds (λ _. impossible NoProcess)

  -- of a number that is open
  on_named-holds : (planned : Named → Planned) (found : Option Named) → ((n : Named) → found ≡ Some n → K (planned n)) → K (on_named planned found)
  unfolding on_named
  on_named-holds planned None holds = impossible _
  on_named-holds planned (Some n) holds = holds n refl

  pub on_descriptor-holds : (pid number : ℕ) (planned : Named → Planned)
      → ((n : Named) → is_live pid w.processes ≡ true → named_among pid number w.table ≡ Some n → K (planned n)) → K (on_descriptor pid number planned w)
  unfolding on_descriptor named_by
  on_descriptor-holds pid number planned holds =
      unless_gone pid (on_named planned (named_among pid number w.table))
      (λ live. on_named-holds planned (named_among pid number w.table) (λ n found. holds n live found))

  -- of numbers that are not open
  pub unless_open-holds : (pid : ℕ) (numbers : List ℕ) (planned : Planned) → (AreClosed pid numbers w → K planned) → K (unless_open pid numbers w planned)
  unfolding unless_open named_by
  unless_open-holds pid [] planned holds = holds tt
  unless_open-holds pid (number ∷ numbers) planned holds =
      unless (is_some (named_among pid number w.table)) UsedDescriptor (unless_open pid numbers w planned)
      (λ none. unless_open-holds pid numbers planned (λ closed. holds (no_name (named_among pid number w.table) none, closed)))

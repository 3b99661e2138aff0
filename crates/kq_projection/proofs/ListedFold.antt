-- The rows of the fold, each with its kqueue, are the same where what knotes heard and objects are kept as lists and
-- where they are counted.
use Rattle.std.proofs.Common.{◌≡◌, ℕ, ◌+◌, List, [], ◌∷◌, ◌++◌, refl, sym, ap, ◌∙◌}
use Rattle.kq_model.specs.declared.event.Event.{Event}
use Rattle.kq_model.specs.declared.filter.Filter.{Filter}
use Rattle.kq_model.specs.Hearing.{Hearing, listed}
use Rattle.kq_model.specs.Tallying.{tallying}
use Rattle.kq_model.specs.Moments.{plans_from}
use Rattle.kq_model.specs.Objects as objects
use Rattle.kq_model.specs.Objects.{Keeping, counted}
use Rattle.kq_model.specs.OwnedRows.{OwnedRow, owned_in, owned_rows}
use Rattle.kq_model.specs.Plans.{plan}
use Rattle.kq_model.specs.Projection.{folded}
use Rattle.kq_model.specs.Recast.{IsHearingMap, recast_system}
use Rattle.kq_model.specs.System.{Stepped, System, empty_system, step, step_by}
use Rattle.kq_model.specs.World.{seen_world}
use Rattle.kq_model.proofs.CountedObjects.{CountsAll, listed-counts}
use Rattle.kq_model.proofs.FoldRows.{step-world}
use Rattle.kq_model.proofs.RecastSystem.{step-recast}
use Rattle.kq_model.proofs.RecastTally.{tally_of-map}

module _ {S A B C D : Type 0} {h : Hearing S} {k : Keeping A B C D} where
  -- of the records from this place on
  abbrev owned_after : ℕ → System h k → List Event → List OwnedRow
  owned_after place s es = owned_rows place s (plans_from place s.world es)

  abbrev with_later : ℕ → List Event → Stepped h k → List OwnedRow
  with_later place es stepped = owned_in place stepped ++ owned_after (place + 1) stepped.system es

  step-owned : (place : ℕ) (s : System h k) (e : Event) (es : List Event)
      → owned_after place s (e ∷ es) ≡ with_later place es (step place e s)
  unfolding owned_rows plans_from step
  step-owned place s e es =
      let q = plan place e (seen_world s.world) in
      ap (λ w. owned_in place (step_by place q s) ++ owned_rows (place + 1) (step_by place q s).system (plans_from (place + 1) w es))
      (sym (step-world place q s))

module _ {S T A B C D : Type 0} {h : Hearing S} {g : Hearing T} {f : Filter → S → T} {k : Keeping A B C D} (is : IsHearingMap h g f) (counts : CountsAll k) where
  abbrev re_system : System h k → System g counted
  re_system s = recast_system g f s

  owned-recast : (place : ℕ) (s : System h k) (es : List Event) → owned_after place (re_system s) es ≡ owned_after place s es
  unfolding owned_rows plans_from
  owned-recast place s [] = refl
  owned-recast place s (e ∷ es) =
      step-owned place (re_system s) e es
      ∙ ap (with_later place es) (step-recast is counts place e s)
      ∙ ap (λ later. owned_in place (step place e s) ++ later) (owned-recast (place + 1) (step place e s).system es)
      ∙ sym (step-owned place s e es)

-- a tally is taken as it is
same-map : IsHearingMap tallying tallying (λ filter tally. tally)
same-map = record {
  empty = λ filter. refl;
  told = λ filter hint tally taken. refl;
  expired = λ filter tally. refl;
  deliveries = λ tally. refl;
  expirations = λ tally. refl;
  notes = λ filter tally. refl;
  is_empty = λ tally. refl;
}

-- where objects are kept as lists, what knotes heard may be kept as lists or counted
pub folded-tallied : (version : ℕ) (es : List Event) → folded objects.listed version listed es ≡ folded objects.listed version tallying es
folded-tallied version es =
    sym (owned-recast tally_of-map listed-counts 1 (empty_system version) es)
    ∙ owned-recast same-map listed-counts 1 (empty_system version) es

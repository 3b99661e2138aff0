-- The event of the record at a place.
use Rattle.std.proofs.Common.{◌≡◌, ◌∙◌, ◌+◌, ◌≤◌, ℕ, zero, suc, List, length, get_or, Option, None, Some, Bor, ltb, refl, sym, ap, arith}
use Rattle.std.specs.List.{slice_get}
use Rattle.std.specs.Option.{IfSome, MatchOption, is_some}
use Rattle.std.proofs.lemmas.Bool.{ltb-false, ltb-true}
use Rattle.std.proofs.lemmas.Option.{slice_get_past, slice_get_read}
use Rattle.kq_model.specs.declared.event.Event.{Event}
use Rattle.kq_projection.specs.Traced.{Traced, event_at}

pub event-none : (t : Traced) (place : ℕ) → (1 ≤ place → ⊥) → event_at t place ≡ None
unfolding event_at
event-none t zero none = refl
event-none t (suc before) none = absurd (none (omega arith))

pub event-behind : (t : Traced) (place before : ℕ) → place ≡ before + 1 → event_at t place ≡ slice_get t.events before
unfolding event_at
event-behind t place before is =
    let next : place ≡ suc before = omega (arith, is) in
    ap (event_at t) next

-- what was found at its number
pub event-found : (found : Option (Bor Event)) (es : List Event) (number : ℕ) (event : Option Event) → event ≡ slice_get es number
    → is_some found ≡ ltb number (length es) → IfSome found (λ e. e.now ≡ get_or es number e.now)
    → MatchOption found (event ≡ None) (λ e. event ≡ Some e.now)
event-found None es number event is there read = is ∙ slice_get_past es number (ltb-false number (length es) (sym there))
event-found (Some e) es number event is there read =
    is ∙ slice_get_read es (length es) number e.now refl (ltb-true number (length es) (sym there)) read

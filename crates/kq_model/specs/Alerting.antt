-- One knote of a kqueue that hears the hints of a record, hint by hint, and the kqueue after it.
use Rattle.std.specs.Prelude.{Bool, false, ◌||◌, ◌&&◌, List, [], ◌∷◌, Option, Some, None}
use Rattle.std.specs.Prelude.{if◌then◌else◌}
use Rattle.kq_model.specs.declared.object.Hint.{Hint}
use Rattle.kq_model.specs.ChangedKnote.{activated}
use Rattle.kq_model.specs.Hearing.{Hearing}
use Rattle.kq_model.specs.Hints.{added, alerted, hints_for, is_exit, kept, takes}
use Rattle.kq_model.specs.Knote.{Knote, has_nothing, with_knote}
use Rattle.kq_model.specs.Kqueue.{Kqueue}
use Rattle.kq_model.specs.Look.{look}
use Rattle.kq_model.specs.Registration.{queue_for, with_removed}
use Rattle.kq_model.specs.Targets.{Posted, is_target}
use Rattle.kq_model.specs.Views.{Views}

module _ {S : Type 0} {h : Hearing S} where
  -- One hint alone, where the filter takes it; the exit of its process makes a knote ONESHOT.
  unfoldable pub after_hint : Hint → Knote h → Knote h
  after_hint hint k =
      record (if takes k.key.filter hint then added (kept k.fflags hint) k else k) {
        oneshot = k.oneshot || is_exit k.key.filter hint;
      }

  -- it heard of the exit and has nothing to tell, so it is to go
  unfoldable pub is_done : Hint → Knote h → Bool
  is_done hint k = is_exit k.key.filter hint && has_nothing (after_hint hint k)

  -- the hint is for the knote's target, and its filter takes it
  abbrev pub is_for : Knote h → Posted → Bool
  is_for k p = is_target k.target p.0 && takes k.key.filter p.1

  -- the hints one after the other, as the knote is told them
  unfoldable pub heard_along : List Hint → Knote h → Knote h
  heard_along [] k = k
  heard_along (hint ∷ hints) k = heard_along hints (after_hint hint k)

  -- at one of them it was to go
  unfoldable pub is_done_along : List Hint → Knote h → Bool
  is_done_along [] k = false
  is_done_along (hint ∷ hints) k = is_done hint k || is_done_along hints (after_hint hint k)

  -- what becomes of a knote that was told some hints: this is `after_hint` of each, and `silent` says that at one
  -- of them it was to go
  abbrev pub left_by : Views → Bool → Knote h → Option (Knote h)
  left_by views silent k = if silent && has_nothing k then None else Some (activated (look views k) k)

  -- the kqueue with what became of a knote that heard hints
  unfoldable pub with_alerted : Knote h → Option (Knote h) → Kqueue h → Kqueue h
  with_alerted k None kq = with_removed k.key kq
  with_alerted k (Some next) kq = record { knotes = with_knote next kq.knotes; queue = queue_for next kq.queue }

  -- a knote that heard nothing stays as it is
  unfoldable pub alerted_in : Views → List Hint → Knote h → Kqueue h → Kqueue h
  alerted_in views [] k kq = kq
  alerted_in views (hint ∷ hints) k kq = with_alerted k (alerted views (hint ∷ hints) k) kq

  unfoldable pub alerted_at : Views → List Posted → Option (Knote h) → Kqueue h → Kqueue h
  alerted_at views posted None kq = kq
  alerted_at views posted (Some k) kq = alerted_in views (hints_for k posted) k kq

-- What the records of a trace say to kqueues, as far as it was gone through.
use Rattle.std.specs.Prelude.{◌≡◌, ◌<◌, ℕ, ◌+◌, List, [], ◌∷◌, ◌++◌}
use Rattle.std.specs.Prelude.{length, map, All, Option, Some, None}
use Rattle.kq_model.specs.Births.{Birth}
use Rattle.kq_model.specs.Clock.{Span}
use Rattle.kq_model.specs.Close.{Pair}
use Rattle.kq_model.specs.Items.{What, Closed, Told, all_items, clock_whats, items_at}
use Rattle.kq_model.specs.Moment.{Moment}
use Rattle.kq_model.specs.References.{references}
use Rattle.kq_model.specs.Targets.{Posted}
use Rattle.kq_model.specs.Views.{Views}
use Rattle.kq_model.specs.World.{Call}
use Rattle.kq_process.specs.Effects.{pairs_in}
use Rattle.kq_projection.specs.declared.history.item.Item.{Item}
use Rattle.kq_projection.specs.declared.history.item.What.TheVariants as what
use Rattle.kq_projection.specs.declared.history.item.Source.{Source}
use Rattle.kq_projection.specs.declared.history.kqueues.Concerned.{Concerned}
use Rattle.kq_projection.specs.declared.history.kqueues.Kqueues.{Kqueues}
use Rattle.kq_projection.specs.declared.history.message_log.MessageLog.{MessageLog}
use Rattle.kq_projection.specs.declared.history.trace_messages.TraceMessages.{TraceMessages}
use Rattle.kq_projection.specs.Items.{bare_items, has_source}
use Rattle.kq_projection.specs.Kqueues.{IsNamedAt, IsNew}
use Rattle.kq_projection.specs.Sources.{named_sources}
use Rattle.kq_projection.specs.Traced.{Traced, births_of, moments_of, places_of}

-- ---- one record

-- these, said at a place
abbrev pub said_whats : ℕ → List What → List Item
said_whats place ws = bare_items (items_at place ws)

abbrev pub called_items : ℕ → Option ℕ → List Item
called_items place None = []
called_items place (Some kqueue) = record { place = place; what = what.Called kqueue } ∷ []

-- all that the record of a place says, in the record's order, part by part
abbrev pub said_items : ℕ → List (ℕ × ℕ) → List Posted → Option Span → Option ℕ → List Item
said_items place closed hints clock kqueue =
    said_whats place (map Closed (pairs_in closed))
    ++ (said_whats place (map Told hints) ++ (said_whats place (clock_whats clock) ++ called_items place kqueue))

-- a kqueue is born, or one is called; the views are those of the world after the record
abbrev pub AreHeard : ℕ → Option Pair → Option Call → Views → Kqueues → Kqueues → Type 0
AreHeard place (Some p) call views old new =
    (new.places.items ≡ old.places.items ++ place ∷ [])
    × ((c : Concerned) × IsNew place p.pid c × (new.concerned.items ≡ old.concerned.items ++ c ∷ []))
AreHeard place None (Some c) views old new =
    (new.places.items ≡ old.places.items) × IsNamedAt c.kqueue views c.changes old new
AreHeard place None None views old new = new ≡ old

-- ---- all records so far

-- a kqueue's owner, and the sources of its calls and of what its changes name
pub record IsNamedBy (ms : List Moment) (b : Birth) (c : Concerned) : Type 0 where
  pub owner_is : c.owner ≡ b.owner
  pub sources : (x : Source) → has_source c.sources.set.keys x
      ≡ has_source (named_sources b.place b.owner (references b.place b.owner ms)) x

-- each kqueue, side by side with its birth
abbrev pub AreNamedBy : List Moment → List Birth → List Concerned → Type 0
AreNamedBy ms [] [] = Unit {0}
AreNamedBy ms [] (c ∷ cs) = ⊥
AreNamedBy ms (b ∷ bs) [] = ⊥
AreNamedBy ms (b ∷ bs) (c ∷ cs) = IsNamedBy ms b c × AreNamedBy ms bs cs

-- its call is on a kqueue that was made before this place
abbrev pub CallsBelow : ℕ → Moment → Type 0
CallsBelow next m = (c : Call) → m.call ≡ Some c → c.kqueue < next

-- all that they say
abbrev pub AreAllSaid : Traced → List Item → Type 0
AreAllSaid t items = items ≡ bare_items (all_items (moments_of t))

-- these are their kqueues, with what concerns each
pub record AreTheKqueues (t : Traced) (k : Kqueues) : Type 0 where
  pub births : k.places.items ≡ places_of t
  pub concerned : AreNamedBy (moments_of t) (births_of t) k.concerned.items
  pub calls : All (CallsBelow (length t.events + 1)) (moments_of t)

pub record IsMessageLog (t : Traced) (h : MessageLog) : Type 0 where
  pub logged : AreAllSaid t h.log.items
  pub kqueues : AreTheKqueues t h.kqueues

pub record AreMessagesOf (t : Traced) (s : TraceMessages) : Type 0 where
  pub logged : AreAllSaid t s.log
  pub kqueues : AreTheKqueues t s.kqueues

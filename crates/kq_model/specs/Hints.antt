-- What the hints of one record do to a kqueue: a filter is run when something happens to its target
-- (kqueue(2)). Which hints a filter takes, and in which order knotes hear them, is this project's choice.
use Rattle.std.specs.Prelude.{ℕ, ◌==◌, Bool, true, false, List, [], ◌∷◌}
use Rattle.std.specs.Prelude.{◌++◌, map, filter, Option, Some}
use Rattle.std.specs.Prelude.{None, if◌then◌else◌}
use Rattle.std.specs.List.{list_any}
use Rattle.std.specs.Int.RustNames.{bit_and}
use Rattle.kq_model.specs.declared.filter.Filter.{Filter}
use Rattle.kq_model.specs.declared.filter.Filter.TheVariants.{Read, Write, Vnode, Proc, Signal}
use Rattle.kq_model.specs.declared.key.Key.{Key}
use Rattle.kq_model.specs.declared.object.Hint.{Hint}
use Rattle.kq_model.specs.declared.object.Hint.TheVariants.{Readable, Writable, Note, Delivered, Child}
use Rattle.kq_model.specs.Bits.{has_note, exit_note}
use Rattle.kq_model.specs.ChangedKnote.{activated}
use Rattle.kq_model.specs.Hearing.{Hearing, Told}
use Rattle.kq_model.specs.Knote.{Knote, has_nothing, without_key}
use Rattle.kq_model.specs.Kqueue.{Kqueue}
use Rattle.kq_model.specs.Look.{look}
use Rattle.kq_model.specs.Registration.{queue_for}
use Rattle.kq_model.specs.Targets.{Posted, is_target}
use Rattle.kq_model.specs.Views.{Views}

-- which hints a filter hears. A Child is heard by none: a knote that tracks the process follows it.
unfoldable pub takes : Filter → Hint → Bool
takes Read Readable = true
takes Write Writable = true
takes Vnode (Note bits) = true
takes Proc (Note bits) = true
takes Signal Delivered = true
takes _ _ = false

-- of a note only the wanted bits are kept; where that is none, nothing is. A child is no note.
unfoldable pub kept : ℕ → Hint → Option Hint
kept wanted (Note bits) = if bit_and bits wanted == 0 then None else Some (Note (bit_and bits wanted))
kept wanted Readable = Some Readable
kept wanted Writable = Some Writable
kept wanted Delivered = Some Delivered
kept wanted (Child pid) = None

-- a PROC knote is told that its process exits
unfoldable pub is_exit : Filter → Hint → Bool
is_exit Proc (Note bits) = has_note bits exit_note
is_exit _ _ = false

module _ {S : Type 0} {h : Hearing S} where
  -- ---- one knote

  -- the hints for this knote's target that its filter takes, in their order
  abbrev pub hints_for : Knote h → List Posted → List Hint
  hints_for k posted =
      filter (takes k.key.filter) (map (λ (p : Posted). p.1) (filter (λ (p : Posted). is_target k.target p.0) posted))

  unfoldable pub added : Option Hint → Knote h → Knote h
  added None k = k
  added (Some hint) k = record k { seen = h.heard (Told hint) k.seen }

  unfoldable pub heard_by : List Hint → Knote h → Knote h
  heard_by [] k = k
  heard_by (hint ∷ hints) k = heard_by hints (added (kept k.fflags hint) k)

  -- one of the hints is the exit, whether or not the knote asked for it
  abbrev pub hears_exit : List Hint → Knote h → Bool
  hears_exit hints k = list_any (is_exit k.key.filter) hints

  -- then it is ONESHOT; where it has nothing to tell, it is gone
  unfoldable pub unless_silent : Bool → Knote h → Option (Knote h)
  unless_silent false k = Some k
  unless_silent true k = if has_nothing k then None else Some (record k { oneshot = true })

  -- A knote that heard hints is looked at, enabled or not, and is active where the look sees something.
  -- None: it is gone. With no hint it stays as it is.
  unfoldable pub alerted : Views → List Hint → Knote h → Option (Knote h)
  alerted views [] k = Some k
  alerted views (hint ∷ hints) k =
      unless_silent (hears_exit (hint ∷ hints) k)
      (activated (look views (heard_by (hint ∷ hints) k)) (heard_by (hint ∷ hints) k))

  -- ---- the kqueue

  unfoldable pub if_there : Option (Knote h) → List (Knote h)
  if_there None = []
  if_there (Some k) = k ∷ []

  unfoldable pub knotes_alerted : Views → List Posted → List (Knote h) → List (Knote h)
  knotes_alerted views posted [] = []
  knotes_alerted views posted (k ∷ ks) =
      if_there (alerted views (hints_for k posted) k) ++ knotes_alerted views posted ks

  -- the queue with this key where the knote now belongs
  unfoldable pub queue_with : Key → Option (Knote h) → List Key → List Key
  queue_with key None queue = without_key key queue
  queue_with key (Some k) queue = queue_for k queue

  -- with no hint for the knote the queue stays as it is
  unfoldable pub queue_alerted : Views → List Hint → Knote h → List Key → List Key
  queue_alerted views [] k queue = queue
  queue_alerted views (hint ∷ hints) k queue = queue_with k.key (alerted views (hint ∷ hints) k) queue

  -- the knotes go to the back in order of registration
  unfoldable pub queue_after_all : Views → List Posted → List (Knote h) → List Key → List Key
  queue_after_all views posted [] queue = queue
  queue_after_all views posted (k ∷ ks) queue =
      queue_after_all views posted ks (queue_alerted views (hints_for k posted) k queue)

  -- the views are those of the world after the whole record
  unfoldable pub notified : Views → List Posted → Kqueue h → Kqueue h
  notified views posted kq = record {
    knotes = knotes_alerted views posted kq.knotes;
    queue = queue_after_all views posted kq.knotes kq.queue;
  }

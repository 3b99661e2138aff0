-- What was heard may be kept in more than one way. A map from one way to another that keeps all that the
-- definitions ask of a knote, by its filter, takes knotes and kqueues of the one way to those of the other, and systems
-- too.
use Rattle.std.specs.Prelude.{◌≡◌, Bool, true, false, not, ◌&&◌, List, map, min}
use Rattle.std.specs.List.{list_any}
use Rattle.kq_model.specs.declared.filter.Filter.{Filter}
use Rattle.kq_model.specs.declared.filter.Filter.TheVariants.{Read, Write, Proc, Signal, Timer}
use Rattle.kq_model.specs.declared.object.Hint.{Hint}
use Rattle.kq_model.specs.declared.reply.Reply.{Reply}
use Rattle.kq_model.specs.Call.{Called}
use Rattle.kq_model.specs.Hearing.{Hearing, Occurrence, Told, Expired, listed, is_counted, counted_in}
use Rattle.kq_model.specs.Tallying.{Tally, tallying}
use Rattle.kq_model.specs.Hearing.{union, most_counted}
use Rattle.kq_model.specs.Hints.{takes}
use Rattle.kq_model.specs.Knote.{Knote}
use Rattle.kq_model.specs.Kqueue.{Kqueue}
use Rattle.kq_model.specs.Objects as objects
use Rattle.kq_model.specs.Objects.{Keeping, counted}
use Rattle.kq_model.specs.System.{Live, Stepped, System}
use Rattle.kq_model.specs.World.{seen_world}

pub record IsHearingMap {S T : Type 0} (h : Hearing S) (g : Hearing T) (f : Filter → S → T) : Type 0 where
  pub empty : (filter : Filter) → f filter h.empty ≡ g.empty
  -- a knote hears those hints alone that its filter takes
  pub told : (filter : Filter) (hint : Hint) (s : S) → takes filter hint ≡ true
      → f filter (h.heard (Told hint) s) ≡ g.heard (Told hint) (f filter s)
  pub expired : (filter : Filter) (s : S) → f filter (h.heard Expired s) ≡ g.heard Expired (f filter s)
  -- SIGNAL and TIMER alone are asked how many, and PROC alone whether it heard nothing
  pub deliveries : (s : S) → g.count (f Signal s) ≡ h.count s
  pub expirations : (s : S) → g.count (f Timer s) ≡ h.count s
  pub notes : (filter : Filter) (s : S) → g.notes (f filter s) ≡ h.notes s
  pub is_empty : (s : S) → g.is_empty (f Proc s) ≡ h.is_empty s

module _ {S T : Type 0} {h : Hearing S} (g : Hearing T) (f : Filter → S → T) where
  abbrev pub recast : Knote h → Knote g
  recast k = record {
    key = k.key;
    target = k.target;
    fflags = k.fflags;
    datum = k.datum;
    udata = k.udata;
    oneshot = k.oneshot;
    clear = k.clear;
    dispatch = k.dispatch;
    enabled = k.enabled;
    active = k.active;
    seen = f k.key.filter k.seen;
    start = k.start;
    period = k.period;
    bits = k.bits;
    triggered = k.triggered;
    notice = k.notice;
  }

  abbrev pub recast_kqueue : Kqueue h → Kqueue g
  recast_kqueue kq = record { knotes = map recast kq.knotes; queue = kq.queue }

  abbrev pub recast_live : Live h → Live g
  recast_live l = record { place = l.place; owner = l.owner; number = l.number; kq = recast_kqueue l.kq }

  -- of the objects the quantities are kept
  abbrev pub recast_system : {A B C D : Type 0} {k : Keeping A B C D} → System h k → System g counted
  recast_system s = record { version = s.version; world = seen_world s.world; live = map recast_live s.live }

-- ---- from lists to tallies

-- READ and WRITE return what a look sees: of the hints that they hear no tally keeps anything
abbrev pub only_looks : Filter → Bool
only_looks Read = true
only_looks Write = true
only_looks _ = false

-- one of them is not counted
abbrev pub has_other : List Occurrence → Bool
has_other xs = list_any (λ x. not (is_counted x)) xs

-- the tally of a knote of this filter that heard these
abbrev pub tally_of : Filter → List Occurrence → Tally
tally_of filter xs = record {
  count = min (counted_in xs) most_counted;
  notes = union xs;
  told = has_other xs && not (only_looks filter);
}

abbrev pub tallied_knote : Knote listed → Knote tallying
tallied_knote k = recast tallying tally_of k

abbrev pub tallied_knotes : List (Knote listed) → List (Knote tallying)
tallied_knotes ks = map tallied_knote ks

abbrev pub tallied : Kqueue listed → Kqueue tallying
tallied kq = recast_kqueue tallying tally_of kq

abbrev pub tallied_system : System listed objects.listed → System tallying counted
tallied_system s = recast_system tallying tally_of s

-- the outcome of a call, in tallies, is this one
abbrev pub IsTallied : Kqueue tallying → Reply → Called listed → Type 0
IsTallied kq reply r = (kq ≡ tallied r.kq) × (reply ≡ r.reply)

-- the outcome of a step, in tallies and quantities, is this one
abbrev pub IsTalliedStep : System tallying counted → Reply → Stepped listed objects.listed → Type 0
IsTalliedStep system reply t = (system ≡ tallied_system t.system) × (reply ≡ t.reply)

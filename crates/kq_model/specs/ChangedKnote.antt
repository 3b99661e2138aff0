-- What a change makes of a knote: a new one, or a present one with other parameters (kqueue(2)).
use Rattle.std.specs.Prelude.{ℕ, ◌==◌, Bool, true, false, not, ◌&&◌, ◌||◌, Option, Some, None}
use Rattle.std.specs.Prelude.{if◌then◌else◌, nat_le}
use Rattle.std.specs.Int.RustNames.{bit_and, bit_or}
use Rattle.kq_model.specs.declared.change.Change.{Change}
use Rattle.kq_model.specs.declared.filter.Filter.{Filter}
use Rattle.kq_model.specs.declared.filter.Filter.TheVariants.{Proc, Signal, Timer, User}
use Rattle.kq_model.specs.declared.key.Key.{Key}
use Rattle.kq_model.specs.Bits.{asks, add, enable, disable, oneshot, clear, dispatch, triggers, own_bits, control}
use Rattle.kq_model.specs.Caller.{Caller}
use Rattle.kq_model.specs.Hearing.{Hearing, Expired}
use Rattle.kq_model.specs.Knote.{Knote}
use Rattle.kq_model.specs.Look.{Seen, look}
use Rattle.kq_model.specs.Targets.{target_of}
use Rattle.kq_model.specs.Ticks.{Timing, Every, At, timing_of}
use Rattle.kq_model.specs.Views.{Views}

abbrev pub key_of : Change → Key
key_of c = record { ident = c.ident; filter = c.filter }

-- PROC, SIGNAL and TIMER have CLEAR always; for a TIMER with NOTE_ABSTIME this is this project's choice
unfoldable pub always_clears : Filter → Bool
always_clears Proc = true
always_clears Signal = true
always_clears Timer = true
always_clears _ = false

-- ---- a TIMER; a change that does not say what it is to do is refused

abbrev pub timing_in : Caller → Change → Option Timing
timing_in caller c = timing_of caller.version c.datum c.fflags

-- a period is counted from the present clock; a moment is where it is
unfoldable pub start_in : ℕ → Option Timing → ℕ
start_in now None = now
start_in now (Some (Every period)) = now
start_in now (Some (At moment)) = moment

unfoldable pub period_in : Option Timing → ℕ
period_in None = 0
period_in (Some (Every period)) = period
period_in (Some (At moment)) = 0

-- its moment is not after the present clock, which so never comes to it again
unfoldable pub has_come : ℕ → Option Timing → Bool
has_come now None = false
has_come now (Some (Every period)) = false
has_come now (Some (At moment)) = nat_le moment now

-- ---- a USER

-- NOTE_FFAND, NOTE_FFOR and NOTE_FFCOPY do as named, and NOTE_FFNOP leaves the bits
unfoldable pub controlled : ℕ → ℕ → ℕ → ℕ
controlled how bits given =
    if how == 1 then bit_and bits given
    else if how == 2 then bit_or bits given
    else if how == 3 then given
    else bits

module _ {S : Type 0} {h : Hearing S} where
  -- ---- a new knote

  -- with the change's actions, and enabled unless the change says DISABLE
  unfoldable pub fresh : Caller → Change → Knote h
  fresh caller c = record {
    key = key_of c;
    target = target_of caller.views caller.owner c.filter c.ident;
    fflags = c.fflags;
    datum = c.datum;
    udata = c.udata;
    oneshot = asks c.flags oneshot;
    clear = always_clears c.filter || asks c.flags clear;
    dispatch = asks c.flags dispatch;
    enabled = not (asks c.flags disable);
    active = false;
    seen = h.empty;
    start = 0;
    period = 0;
    bits = 0;
    triggered = false;
    notice = None;
  }

  -- a TIMER that starts at the present clock, or at its moment; one whose moment has come has expired already
  unfoldable pub started : Caller → Change → Knote h → Knote h
  started caller c k = record k {
    start = start_in caller.views.now (timing_in caller c);
    period = period_in (timing_in caller c);
    seen = if has_come caller.views.now (timing_in caller c) then h.heard Expired k.seen else k.seen;
  }

  -- the first ADD starts a TIMER, and stores a USER's own bits, whatever the control bits
  unfoldable pub begun : Filter → Caller → Change → Knote h → Knote h
  begun Timer caller c k = started caller c k
  begun User caller c k = record k { bits = own_bits c.fflags; triggered = triggers c.fflags }
  begun _ caller c k = k

  -- ---- a present knote

  -- takes udata; with ADD also the parameters, and it is enabled unless the change says DISABLE
  unfoldable pub replaced : Change → Knote h → Knote h
  replaced c k =
      if asks c.flags add
      then record k {
        fflags = c.fflags;
        datum = c.datum;
        udata = c.udata;
        enabled = k.enabled || not (asks c.flags disable);
      }
      else record k { udata = c.udata }

  -- with ADD a TIMER starts anew: what it heard is forgotten, and it is not active
  unfoldable pub restarted : Filter → Caller → Change → Knote h → Knote h
  restarted Timer caller c k =
      if asks c.flags add then started caller c (record k { seen = h.empty; active = false }) else k
  restarted _ caller c k = k

  -- each later change of a USER applies its control, and replaces the data
  unfoldable pub changed : Filter → Change → Knote h → Knote h
  changed User c k = record k {
    bits = controlled (control c.fflags) k.bits (own_bits c.fflags);
    datum = c.datum;
    triggered = k.triggered || triggers c.fflags;
  }
  changed _ c k = k

  unfoldable pub switched : Change → Knote h → Knote h
  switched c k = record k { enabled = (k.enabled || asks c.flags enable) && not (asks c.flags disable) }

  -- ---- the look at the end

  -- where the look sees something, the knote becomes active
  unfoldable pub activated : Option Seen → Knote h → Knote h
  activated None k = k
  activated (Some seen) k = record k { active = true }

  -- an enabled knote is looked at
  unfoldable pub attended : Views → Knote h → Knote h
  attended views k = if k.enabled then activated (look views k) k else k

  unfoldable pub made : Caller → Change → Knote h
  made caller c = attended caller.views (begun c.filter caller c (fresh caller c))

  unfoldable pub modified : Caller → Change → Knote h → Knote h
  modified caller c k =
      attended caller.views (switched c (changed c.filter c (restarted c.filter caller c (replaced c k))))

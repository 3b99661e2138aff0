-- With which error a change is refused, besides those of an absent knote. The errors are those of
-- kqueue(2); which comes first is this project's choice.
use Rattle.std.specs.Prelude.{ℕ, ◌==◌, Bool, true, false, not, ◌&&◌, ◌||◌, Option, Some, None}
use Rattle.std.specs.Prelude.{nat_lt, option_and_then}
use Rattle.std.specs.Prelude.{if◌then◌else◌}
use Rattle.std.specs.Option.{is_none}
use Rattle.kq_model.specs.declared.change.Change.{Change}
use Rattle.kq_model.specs.declared.errno.Errno.{Errno}
use Rattle.kq_model.specs.declared.errno.Errno.TheVariants.{ESRCH, EINVAL}
use Rattle.kq_model.specs.declared.filter.Filter.{Filter}
use Rattle.kq_model.specs.declared.filter.Filter.TheVariants.{Read, Write, Vnode, Proc, Signal, Timer, User}
use Rattle.kq_model.specs.declared.object.Named.{Named}
use Rattle.kq_model.specs.declared.object.Named.TheVariants as named
use Rattle.kq_model.specs.declared.object.Target.TheVariants.{Process}
use Rattle.kq_model.specs.declared.object.View.{View}
use Rattle.kq_model.specs.declared.object.View.TheVariants as view
use Rattle.kq_model.specs.Bits.{asks, enable, disable, has_note, track_note}
use Rattle.kq_model.specs.Caller.{Caller}
use Rattle.kq_model.specs.Knote.{watches_number}
use Rattle.kq_model.specs.Limits.{most_signal}
use Rattle.kq_model.specs.Look.{is_simulated}
use Rattle.kq_model.specs.Targets.{number_in, named_in}
use Rattle.kq_model.specs.Ticks.{timing_of}
use Rattle.kq_model.specs.Views.{Views}

-- whatever is there: the filter is not simulated, or ENABLE stands beside DISABLE
abbrev pub is_malformed : Change → Bool
is_malformed c = not (is_simulated c.filter) || (asks c.flags enable && asks c.flags disable)

-- READ, WRITE or VNODE of a number that is not open in the owner
abbrev pub is_unopened : Caller → Change → Bool
is_unopened caller c = watches_number c.filter && is_none (named_in caller.views caller.owner c.ident)

-- ---- what a filter itself refuses at ADD

unfoldable pub invalid_if : Bool → Option Errno
invalid_if bad = if bad then Some EINVAL else None

unfoldable pub is_readable : Option Named → Bool
is_readable (Some (named.Socket place)) = true
is_readable (Some (named.PipeRead place)) = true
is_readable (Some (named.Open description file)) = true
is_readable _ = false

unfoldable pub is_writable : Option Named → Bool
is_writable (Some (named.Socket place)) = true
is_writable (Some (named.PipeWrite place)) = true
is_writable _ = false

unfoldable pub is_file : Option Named → Bool
is_file (Some (named.Open description file)) = true
is_file _ = false

unfoldable pub is_live_process : Option View → Bool
is_live_process (Some (view.Process None)) = true
is_live_process _ = false

-- what there is to see of the process whose pid an ident is
unfoldable pub process_in : Views → ℕ → Option View
process_in views ident = option_and_then (λ pid. views.view (Process pid)) (number_in ident)

-- version 1 does not know NOTE_TRACK; a new knote needs a process that has not exited, and one that is there does not
unfoldable pub process_refusal : Caller → Bool → Change → Option Errno
process_refusal caller is_new c =
    if (caller.version == 1) && has_note c.fflags track_note then Some EINVAL
    else if is_new && not (is_live_process (process_in caller.views c.ident)) then Some ESRCH
    else None

-- READ and WRITE need a number of their side, VNODE one of a file, SIGNAL the number of a signal, and TIMER a
-- period or a moment; a USER is never refused. `is_new`: the change would make a knote
unfoldable pub own_refusal : Filter → Caller → Bool → Change → Option Errno
own_refusal Read caller is_new c = invalid_if (not (is_readable (named_in caller.views caller.owner c.ident)))
own_refusal Write caller is_new c = invalid_if (not (is_writable (named_in caller.views caller.owner c.ident)))
own_refusal Vnode caller is_new c = invalid_if (not (is_file (named_in caller.views caller.owner c.ident)))
own_refusal Proc caller is_new c = process_refusal caller is_new c
own_refusal Signal caller is_new c = invalid_if (nat_lt c.ident 1 || nat_lt most_signal c.ident)
own_refusal Timer caller is_new c = invalid_if (is_none (timing_of caller.version c.datum c.fflags))
own_refusal User caller is_new c = None
own_refusal _ caller is_new c = None

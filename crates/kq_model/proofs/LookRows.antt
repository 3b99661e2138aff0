-- What READ and WRITE see of sockets and pipes, and what the other filters show, by example.
use Rattle.std.specs.Prelude.{◌≡◌, ℕ, ℤ, pos, negsuc, Bool, true, false, List, [], ◌∷◌, Option, None, Some}
use Rattle.std.proofs.Common.{refl}
use Rattle.kq_model.specs.declared.act.Act.{Act}
use Rattle.kq_model.specs.declared.act.Act.TheVariants.{Socket, Listen, Arrive, Connect, Receive, Shut, LowWater, Pipe, Read, Write}
use Rattle.kq_model.specs.declared.filter.Filter.{Filter}
use Rattle.kq_model.specs.declared.filter.Filter.TheVariants as by
use Rattle.kq_model.specs.declared.object.Hint.TheVariants as hint
use Rattle.kq_model.specs.declared.object.Named.{Named}
use Rattle.kq_model.specs.declared.object.Named.TheVariants as on
use Rattle.kq_model.specs.declared.object.Target.{Target}
use Rattle.kq_model.specs.declared.object.Target.TheVariants as target
use Rattle.kq_model.specs.declared.object.View.TheVariants as view
use Rattle.kq_model.specs.declared.side.Side.TheVariants as side
use Rattle.kq_model.specs.Bits.{lowat_note, exit_note, fork_note}
use Rattle.kq_model.specs.Hearing.{Occurrence, Told, listed}
use Rattle.kq_model.specs.Knote.{Knote}
use Rattle.kq_model.specs.Look.{Seen, look_by}
use Rattle.kq_model.proofs.ObjectBuilders.{objects_opened, after, seen}
use Rattle.kq_model.specs.Holders.{all_released}
use Rattle.kq_model.proofs.Opened.{system_opened}

-- a knote of this filter, with these parameters, that heard this
abbrev knote : Filter → ℕ → ℤ → List Occurrence → Knote listed
knote f fflags datum heard = record {
  key = record { ident = 3; filter = f };
  target = None;
  fflags = fflags;
  datum = datum;
  udata = 0;
  oneshot = false;
  clear = false;
  dispatch = false;
  enabled = true;
  active = false;
  seen = heard;
  start = 0;
  period = 0;
  bits = 0;
  triggered = false;
  notice = None;
}

-- what a knote without parameters sees after these records
abbrev sees : Filter → Target → List Act → Option Seen
sees f t acts = look_by f (seen t (after acts)) (knote f 0 (pos 0) [])

abbrev shows : ℕ → ℤ → Bool → Option Seen
shows fflags datum eof = Some (record { fflags = fflags; datum = datum; eof = eof })

-- ---- READ

abbrev receiving : ℕ → List Act
receiving bytes = Socket 100 100 ∷ Connect (on.Socket 1) ∷ Receive (on.Socket 1) bytes ∷ []

-- by the socket's own mark, which is 1
nothing_came : sees by.Read (target.Socket 1) (receiving 0) ≡ None
unfolding objects_opened system_opened
nothing_came = refl

one_came : sees by.Read (target.Socket 1) (receiving 1) ≡ shows 0 (pos 1) false
unfolding objects_opened system_opened
one_came = refl

-- NOTE_LOWAT makes the knote's data the mark, also a negative one
below_its_mark : look_by by.Read (seen (target.Socket 1) (after (receiving 5))) (knote by.Read lowat_note (pos 6) []) ≡ None
unfolding objects_opened system_opened
below_its_mark = refl

at_its_mark : look_by by.Read (seen (target.Socket 1) (after (receiving 6))) (knote by.Read lowat_note (pos 6) []) ≡ shows 0 (pos 6) false
unfolding objects_opened system_opened
at_its_mark = refl

negative_mark : look_by by.Read (seen (target.Socket 1) (after (receiving 0))) (knote by.Read lowat_note (negsuc 0) []) ≡ shows 0 (pos 0) false
unfolding objects_opened system_opened
negative_mark = refl

-- without NOTE_LOWAT the data is no mark
data_is_no_mark : look_by by.Read (seen (target.Socket 1) (after (receiving 5))) (knote by.Read 0 (pos 6) []) ≡ shows 0 (pos 5) false
unfolding objects_opened system_opened
data_is_no_mark = refl

-- a side that is shut is EOF with its error, with what can still be read
shut_read : sees by.Read (target.Socket 1) (Socket 100 100 ∷ Connect (on.Socket 1) ∷ Receive (on.Socket 1) 2 ∷ Shut (on.Socket 1) side.Read 54 ∷ [])
    ≡ shows 54 (pos 2) true
unfolding objects_opened system_opened
shut_read = refl

-- a listening socket shows how many connections wait
none_waits : sees by.Read (target.Socket 1) (Socket 9 9 ∷ Listen (on.Socket 1) 2 ∷ []) ≡ None
unfolding objects_opened system_opened
none_waits = refl

two_wait : sees by.Read (target.Socket 1) (Socket 9 9 ∷ Listen (on.Socket 1) 2 ∷ Arrive (on.Socket 1) ∷ Arrive (on.Socket 1) ∷ []) ≡ shows 0 (pos 2) false
unfolding objects_opened system_opened
two_wait = refl

pipe_with_bytes : sees by.Read (target.Pipe 1) (Pipe 10 ∷ Write (on.PipeWrite 1) 3 ∷ []) ≡ shows 0 (pos 3) false
unfolding objects_opened system_opened
pipe_with_bytes = refl

empty_pipe : sees by.Read (target.Pipe 1) (Pipe 10 ∷ []) ≡ None
unfolding objects_opened system_opened
empty_pipe = refl

-- the last end is EOF
abbrev ended : Filter → List Named → List Act → Option Seen
ended f gone acts = look_by f (seen (target.Pipe 1) (all_released gone (after acts))) (knote f 0 (pos 0) [])

last_writer : ended by.Read (on.PipeWrite 1 ∷ []) (Pipe 10 ∷ Write (on.PipeWrite 1) 3 ∷ []) ≡ shows 0 (pos 3) true
unfolding objects_opened system_opened
last_writer = refl

last_reader : ended by.Write (on.PipeRead 1 ∷ []) (Pipe 10 ∷ Write (on.PipeWrite 1) 10 ∷ []) ≡ shows 0 (pos 0) true
unfolding objects_opened system_opened
last_reader = refl

-- of a file, what lies behind the offset, which may be negative
past_its_end : look_by by.Read (Some (view.Open (pos 3) (pos 10))) (knote by.Read 0 (pos 0) []) ≡ shows 0 (negsuc 6) false
unfolding system_opened
past_its_end = refl

at_its_end : look_by by.Read (Some (view.Open (pos 3) (pos 3))) (knote by.Read 0 (pos 0) []) ≡ None
unfolding system_opened
at_its_end = refl

-- ---- WRITE

abbrev sending : List Act
sending = Socket 100 100 ∷ Connect (on.Socket 1) ∷ Write (on.Socket 1) 60 ∷ []

too_little_space : sees by.Write (target.Socket 1) sending ≡ None
unfolding objects_opened system_opened
too_little_space = refl

space_at_the_mark : sees by.Write (target.Socket 1) (Socket 100 100 ∷ Connect (on.Socket 1) ∷ Write (on.Socket 1) 60 ∷ LowWater (on.Socket 1) side.Write 40 ∷ [])
    ≡ shows 0 (pos 40) false
unfolding objects_opened system_opened
space_at_the_mark = refl

shut_write : sees by.Write (target.Socket 1) (Socket 100 100 ∷ Connect (on.Socket 1) ∷ Write (on.Socket 1) 60 ∷ Shut (on.Socket 1) side.Write 32 ∷ [])
    ≡ shows 32 (pos 40) true
unfolding objects_opened system_opened
shut_write = refl

not_connected : sees by.Write (target.Socket 1) (Socket 100 100 ∷ []) ≡ None
unfolding objects_opened system_opened
not_connected = refl

listening : sees by.Write (target.Socket 1) (Socket 9 9 ∷ Listen (on.Socket 1) 2 ∷ []) ≡ None
unfolding objects_opened system_opened
listening = refl

-- the mark of a pipe is 512, or all that it holds
below_512 : sees by.Write (target.Pipe 1) (Pipe 600 ∷ Write (on.PipeWrite 1) 100 ∷ []) ≡ None
unfolding objects_opened system_opened
below_512 = refl

at_512 : sees by.Write (target.Pipe 1) (Pipe 600 ∷ Write (on.PipeWrite 1) 100 ∷ Read (on.PipeRead 1) 12 ∷ []) ≡ shows 0 (pos 512) false
unfolding objects_opened system_opened
at_512 = refl

small_pipe : sees by.Write (target.Pipe 1) (Pipe 10 ∷ []) ≡ shows 0 (pos 10) false
unfolding objects_opened system_opened
small_pipe = refl

small_pipe_in_use : sees by.Write (target.Pipe 1) (Pipe 10 ∷ Write (on.PipeWrite 1) 1 ∷ []) ≡ None
unfolding objects_opened system_opened
small_pipe_in_use = refl

-- ---- what was heard

united : look_by by.Vnode (Some view.File) (knote by.Vnode 7 (pos 0) (Told (hint.Note 1) ∷ Told (hint.Note 4) ∷ Told (hint.Note 1) ∷ [])) ≡ shows 5 (pos 0) false
unfolding system_opened
united = refl

no_note : look_by by.Vnode (Some view.File) (knote by.Vnode 7 (pos 0) []) ≡ None
unfolding system_opened
no_note = refl

exit_told : look_by by.Proc (Some (view.Process (Some 7))) (knote by.Proc exit_note (pos 0) (Told (hint.Note exit_note) ∷ [])) ≡ shows exit_note (pos 7) true
unfolding system_opened
exit_told = refl

-- the status is not told to one that did not ask for it
exit_untold : look_by by.Proc (Some (view.Process (Some 7))) (knote by.Proc fork_note (pos 0) (Told (hint.Note fork_note) ∷ [])) ≡ shows fork_note (pos 0) true
unfolding system_opened
exit_untold = refl

twice_delivered : look_by by.Signal None (knote by.Signal 0 (pos 0) (Told hint.Delivered ∷ Told hint.Delivered ∷ [])) ≡ shows 0 (pos 2) false
unfolding system_opened
twice_delivered = refl

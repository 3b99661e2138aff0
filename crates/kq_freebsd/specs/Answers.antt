-- The numbers that calls of the library answer: 0, an errno, the number of a reason or of a refusal.
use Rattle.std.specs.Prelude.{ℕ, ℤ, pos, List, [], Result, Ok, Err}
use Rattle.kq_freebsd.specs.declared.refusal.Refusal.{Refusal}
use Rattle.kq_freebsd.specs.declared.refusal.Refusal.TheVariants.{Memory, Argument, Full}
use Rattle.kq_model.specs.declared.kevent.Kevent.{Kevent}
use Rattle.kq_model.specs.declared.reply.Reply.{Reply}
use Rattle.kq_model.specs.declared.reply.Reply.TheVariants.{Done, Events, Failed, Impossible}
use Rattle.kq_model.specs.declared.why.Why.{Why}
use Rattle.kq_model.specs.declared.why.Why.TheVariants.{NoProcess, UsedPid, NoDescriptor, UsedDescriptor, WrongKind}
use Rattle.kq_model.specs.declared.why.Why.TheVariants.{Absent, UsedFile, ClockBack, TooMany}
use Rattle.kq_model.specs.Errno.{error_number}

-- why a record is impossible
abbrev pub reason_number : Why → ℤ
reason_number NoProcess = pos 101
reason_number UsedPid = pos 102
reason_number NoDescriptor = pos 103
reason_number UsedDescriptor = pos 104
reason_number WrongKind = pos 105
reason_number Absent = pos 106
reason_number UsedFile = pos 107
reason_number ClockBack = pos 108
reason_number TooMany = pos 109

-- why a call did nothing; 12 is FreeBSD's ENOMEM
abbrev pub refusal_number : Refusal → ℤ
refusal_number Memory = pos 12
refusal_number Argument = pos 201
refusal_number Full = pos 202

abbrev pub number_of : Result Reply Refusal → ℤ
number_of (Ok Done) = pos 0
number_of (Ok (Events events)) = pos 0
number_of (Ok (Failed error)) = pos (error_number error)
number_of (Ok (Impossible why)) = reason_number why
number_of (Err refusal) = refusal_number refusal

-- the events that a call returned
abbrev pub events_of : Result Reply Refusal → List Kevent
events_of (Ok Done) = []
events_of (Ok (Events events)) = events
events_of (Ok (Failed error)) = []
events_of (Ok (Impossible why)) = []
events_of (Err refusal) = []

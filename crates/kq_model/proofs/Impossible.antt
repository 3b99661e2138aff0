-- Impossible records by example: the reason is shown, and nothing changes.
use Rattle.std.specs.Prelude.{◌≡◌, ℕ, List, [], ◌∷◌, codes, replicate}
use Rattle.std.proofs.Common.{refl}
use Rattle.kq_model.specs.declared.event.Event.{Event}
use Rattle.kq_model.specs.declared.event.Event.TheVariants.{Proc, Kqueue, Kevent}
use Rattle.kq_model.specs.declared.reply.Reply.TheVariants.{Events, Impossible}
use Rattle.kq_model.specs.declared.row.Row.{Row}
use Rattle.kq_model.specs.declared.why.Why.{Why}
use Rattle.kq_model.specs.declared.why.Why.TheVariants.{NoProcess, UsedPid, NoDescriptor, UsedDescriptor, WrongKind, Absent, UsedFile, ClockBack, TooMany}
use Rattle.kq_model.specs.Bits.{add, trigger}
use Rattle.kq_model.specs.Report.{report, report_of}
use Rattle.kq_model.specs.System.{rows}
use Rattle.kq_model.proofs.Builders.{user, kevent, opened, event, text}
use Rattle.kq_model.proofs.Opened.{system_opened}

abbrev pub row : ℕ → Why → Row
row place why = record { at = place; reply = Impossible why }

-- A kqueue needs a live process.

abbrev pub kqueue_of_no_process : List Event
kqueue_of_no_process = opened (
    Kqueue 2 1 ∷ [])

pub kqueue_of_no_process_report : report_of 1 kqueue_of_no_process ≡ text (
    codes "{\"at\":3,\"impossible\":\"NoProcess\"}"
    ∷ codes "{\"calls\":0,\"events\":0,\"records\":3}" ∷ [])
unfolding system_opened
kqueue_of_no_process_report = refl

-- every reason by its name
pub every_reason : report (row 1 NoProcess ∷ row 2 UsedPid ∷ row 3 NoDescriptor ∷ row 4 UsedDescriptor ∷ row 5 WrongKind
    ∷ row 6 Absent ∷ row 7 UsedFile ∷ row 8 ClockBack ∷ row 10 TooMany ∷ []) 10 ≡ text (
    codes "{\"at\":1,\"impossible\":\"NoProcess\"}"
    ∷ codes "{\"at\":2,\"impossible\":\"UsedPid\"}"
    ∷ codes "{\"at\":3,\"impossible\":\"NoDescriptor\"}"
    ∷ codes "{\"at\":4,\"impossible\":\"UsedDescriptor\"}"
    ∷ codes "{\"at\":5,\"impossible\":\"WrongKind\"}"
    ∷ codes "{\"at\":6,\"impossible\":\"Absent\"}"
    ∷ codes "{\"at\":7,\"impossible\":\"UsedFile\"}"
    ∷ codes "{\"at\":8,\"impossible\":\"ClockBack\"}"
    ∷ codes "{\"at\":10,\"impossible\":\"TooMany\"}"
    ∷ codes "{\"calls\":0,\"events\":0,\"records\":10}" ∷ [])
unfolding system_opened
every_reason = refl

-- ---- each reason

-- no pid is used twice
pub used_pid : rows 1 (Proc 1 ∷ Proc 1 ∷ Proc 2 ∷ Proc 2 ∷ []) ≡ row 2 UsedPid ∷ row 4 UsedPid ∷ []
unfolding system_opened
used_pid = refl

-- without a live process, that comes first
pub no_process : rows 1 (opened (Kqueue 2 9 ∷ Kevent 2 9 [] 65537 ∷ Kqueue 1 9 ∷ [])) ≡ row 3 NoProcess ∷ row 4 NoProcess ∷ row 5 UsedDescriptor ∷ []
unfolding system_opened
no_process = refl

-- a number that is not open comes before an amount
pub no_descriptor : rows 1 (opened (Kevent 1 8 [] 1 ∷ Kevent 1 8 [] 65537 ∷ Kqueue 1 8 ∷ Kevent 1 8 [] 1 ∷ []))
    ≡ row 3 NoDescriptor ∷ row 4 NoDescriptor ∷ record { at = 6; reply = Events [] } ∷ []
unfolding system_opened
no_descriptor = refl

-- numbers are open in one process alone
pub numbers_of_one_process : rows 1 (opened (Proc 2 ∷ Kevent 2 9 [] 1 ∷ Kqueue 2 9 ∷ Kqueue 2 9 ∷ [])) ≡ row 4 NoDescriptor ∷ row 6 UsedDescriptor ∷ []
unfolding system_opened
numbers_of_one_process = refl

-- room is at most 65,536
pub room_over_the_limit : rows 1 (opened (kevent [] 65536 ∷ kevent (user 1 add trigger ∷ []) 65537 ∷ kevent [] 1 ∷ []))
    ≡ record { at = 3; reply = Events [] } ∷ row 4 TooMany ∷ record { at = 5; reply = Events [] } ∷ []
unfolding system_opened
room_over_the_limit = refl

-- a call has at most 1,024 changes
pub changes_over_the_limit : rows 1 (opened (kevent (replicate 1025 (user 1 add trigger)) 1 ∷ kevent [] 1 ∷ []))
    ≡ row 3 TooMany ∷ record { at = 4; reply = Events [] } ∷ []
unfolding system_opened
changes_over_the_limit = refl

pub changes_at_the_limit : rows 1 (opened (kevent (replicate 1024 (user 1 add trigger)) 1 ∷ []))
    ≡ record { at = 3; reply = Events (event 1 0 0 ∷ []) } ∷ []
unfolding system_opened
changes_at_the_limit = refl

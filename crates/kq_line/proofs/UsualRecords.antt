-- Records whose members stand where programs write them: the members are those of the kind.
use Rattle.std.proofs.Common.{◌≡◌, ℕ, ℤ, ◌<◌, ◌^◌, List, codes, true, Some, refl, sym, ap, ◌∙◌}
use Rattle.serde_json.specs.Data.{Data, Members, number, put, string, unsigned}
use Rattle.kq_model.specs.declared.change.Change.{Change}
use Rattle.kq_model.specs.declared.event.Event.TheVariants as event
use Rattle.kq_model.specs.declared.mode.Mode.{Mode}
use Rattle.kq_model.specs.declared.note.Note.{Note}
use Rattle.kq_model.specs.declared.record_kind.RecordKind.TheVariants as kind
use Rattle.kq_model.specs.ChangeText.{change_list, is_change_list}
use Rattle.kq_model.specs.Members.{i64_in, is_whole, member_count, moment_in, required, width}
use Rattle.kq_model.specs.Names.{mode_named, note_named}
use Rattle.kq_model.specs.RecordText.{changes_at, event_as, i64_at, is_of, is_record, mode_at, mode_in, moment_at, note_at, note_in, u32_at}
use Rattle.kq_line.specs.Typed.{IsRecord}
use Rattle.kq_line.specs.Usual.{whole, with_op, with_pid}
use Rattle.kq_line.proofs.LookUps.{u32_of}
use Rattle.kq_line.proofs.MemberSteps.{whole_is}

-- the members, and a number
abbrev pub and_number : List ℕ → ℕ → Members → Members
and_number name n ms = put name (number (unsigned n)) ms

pub rx_is : (op : List ℕ) (pid fd n : ℕ) → pid < 2 ^ 32 → fd < 2 ^ 32 → n < 2 ^ 32 → IsRecord kind.Rx (and_number (codes "n") n (and_number (codes "fd") fd (with_pid pid op))) (event.Rx pid fd n)
unfolding is_record is_of required width member_count event_as is_whole u32_at
rx_is op pid fd n pid_fits fd_fits n_fits = record { typed = refl; value = rw (u32_of pid pid_fits, u32_of fd fd_fits, u32_of n n_fits) refl }

pub tx_is : (op : List ℕ) (pid fd n : ℕ) → pid < 2 ^ 32 → fd < 2 ^ 32 → n < 2 ^ 32 → IsRecord kind.Tx (and_number (codes "n") n (and_number (codes "fd") fd (with_pid pid op))) (event.Tx pid fd n)
unfolding is_record is_of required width member_count event_as is_whole u32_at
tx_is op pid fd n pid_fits fd_fits n_fits = record { typed = refl; value = rw (u32_of pid pid_fits, u32_of fd fd_fits, u32_of n n_fits) refl }

pub read_is : (op : List ℕ) (pid fd n : ℕ) → pid < 2 ^ 32 → fd < 2 ^ 32 → n < 2 ^ 32 → IsRecord kind.Read (and_number (codes "n") n (and_number (codes "fd") fd (with_pid pid op))) (event.Read pid fd n)
unfolding is_record is_of required width member_count event_as is_whole u32_at
read_is op pid fd n pid_fits fd_fits n_fits = record { typed = refl; value = rw (u32_of pid pid_fits, u32_of fd fd_fits, u32_of n n_fits) refl }

pub write_is : (op : List ℕ) (pid fd n : ℕ) → pid < 2 ^ 32 → fd < 2 ^ 32 → n < 2 ^ 32 → IsRecord kind.Write (and_number (codes "n") n (and_number (codes "fd") fd (with_pid pid op))) (event.Write pid fd n)
unfolding is_record is_of required width member_count event_as is_whole u32_at
write_is op pid fd n pid_fits fd_fits n_fits = record { typed = refl; value = rw (u32_of pid pid_fits, u32_of fd fd_fits, u32_of n n_fits) refl }

pub close_is : (op : List ℕ) (pid fd : ℕ) → pid < 2 ^ 32 → fd < 2 ^ 32 → IsRecord kind.Close (and_number (codes "fd") fd (with_pid pid op)) (event.Close pid fd)
unfolding is_record is_of required width member_count event_as is_whole u32_at
close_is op pid fd pid_fits fd_fits = record { typed = refl; value = rw (u32_of pid pid_fits, u32_of fd fd_fits) refl }

pub arrive_is : (op : List ℕ) (pid fd : ℕ) → pid < 2 ^ 32 → fd < 2 ^ 32 → IsRecord kind.Arrive (and_number (codes "fd") fd (with_pid pid op)) (event.Arrive pid fd)
unfolding is_record is_of required width member_count event_as is_whole u32_at
arrive_is op pid fd pid_fits fd_fits = record { typed = refl; value = rw (u32_of pid pid_fits, u32_of fd fd_fits) refl }

pub connect_is : (op : List ℕ) (pid fd : ℕ) → pid < 2 ^ 32 → fd < 2 ^ 32 → IsRecord kind.Connect (and_number (codes "fd") fd (with_pid pid op)) (event.Connect pid fd)
unfolding is_record is_of required width member_count event_as is_whole u32_at
connect_is op pid fd pid_fits fd_fits = record { typed = refl; value = rw (u32_of pid pid_fits, u32_of fd fd_fits) refl }

pub kqueue_is : (op : List ℕ) (pid fd : ℕ) → pid < 2 ^ 32 → fd < 2 ^ 32 → IsRecord kind.Kqueue (and_number (codes "fd") fd (with_pid pid op)) (event.Kqueue pid fd)
unfolding is_record is_of required width member_count event_as is_whole u32_at
kqueue_is op pid fd pid_fits fd_fits = record { typed = refl; value = rw (u32_of pid pid_fits, u32_of fd fd_fits) refl }

pub dup_is : (op : List ℕ) (pid fd to : ℕ) → pid < 2 ^ 32 → fd < 2 ^ 32 → to < 2 ^ 32 → IsRecord kind.Dup (and_number (codes "to") to (and_number (codes "fd") fd (with_pid pid op))) (event.Dup pid fd to)
unfolding is_record is_of required width member_count event_as is_whole u32_at
dup_is op pid fd to pid_fits fd_fits to_fits = record { typed = refl; value = rw (u32_of pid pid_fits, u32_of fd fd_fits, u32_of to to_fits) refl }

pub accept_is : (op : List ℕ) (pid fd to rcv snd : ℕ) → pid < 2 ^ 32 → fd < 2 ^ 32 → to < 2 ^ 32 → rcv < 2 ^ 32 → snd < 2 ^ 32 → IsRecord kind.Accept (and_number (codes "snd") snd (and_number (codes "rcv") rcv (and_number (codes "to") to (and_number (codes "fd") fd (with_pid pid op))))) (event.Accept pid fd to rcv snd)
unfolding is_record is_of required width member_count event_as is_whole u32_at
accept_is op pid fd to rcv snd pid_fits fd_fits to_fits rcv_fits snd_fits = record { typed = refl; value = rw (u32_of pid pid_fits, u32_of fd fd_fits, u32_of to to_fits, u32_of rcv rcv_fits, u32_of snd snd_fits) refl }

pub socket_is : (op : List ℕ) (pid fd rcv snd : ℕ) → pid < 2 ^ 32 → fd < 2 ^ 32 → rcv < 2 ^ 32 → snd < 2 ^ 32 → IsRecord kind.Socket (and_number (codes "snd") snd (and_number (codes "rcv") rcv (and_number (codes "fd") fd (with_pid pid op)))) (event.Socket pid fd rcv snd)
unfolding is_record is_of required width member_count event_as is_whole u32_at
socket_is op pid fd rcv snd pid_fits fd_fits rcv_fits snd_fits = record { typed = refl; value = rw (u32_of pid pid_fits, u32_of fd fd_fits, u32_of rcv rcv_fits, u32_of snd snd_fits) refl }

pub pipe_is : (op : List ℕ) (pid rfd wfd cap : ℕ) → pid < 2 ^ 32 → rfd < 2 ^ 32 → wfd < 2 ^ 32 → cap < 2 ^ 32 → IsRecord kind.Pipe (and_number (codes "cap") cap (and_number (codes "wfd") wfd (and_number (codes "rfd") rfd (with_pid pid op)))) (event.Pipe pid rfd wfd cap)
unfolding is_record is_of required width member_count event_as is_whole u32_at
pipe_is op pid rfd wfd cap pid_fits rfd_fits wfd_fits cap_fits = record { typed = refl; value = rw (u32_of pid pid_fits, u32_of rfd rfd_fits, u32_of wfd wfd_fits, u32_of cap cap_fits) refl }

pub seek_is : (op : List ℕ) (pid fd : ℕ) (offset : ℤ) → pid < 2 ^ 32 → fd < 2 ^ 32 → i64_in (whole offset) ≡ Some offset → IsRecord kind.Seek (put (codes "offset") (whole offset) (and_number (codes "fd") fd (with_pid pid op))) (event.Seek pid fd offset)
unfolding is_record is_of required width member_count event_as is_whole u32_at i64_at
seek_is op pid fd offset pid_fits fd_fits offset_fits = record { typed = rw (whole_is offset) refl; value = rw (u32_of pid pid_fits, u32_of fd fd_fits, offset_fits) refl }

pub open_is : (op : List ℕ) (pid fd file : ℕ) (name : List ℕ) (mode : Mode) → pid < 2 ^ 32 → fd < 2 ^ 32 → file < 2 ^ 32 → mode_named name ≡ Some mode → IsRecord kind.Open (put (codes "mode") (string name) (and_number (codes "file") file (and_number (codes "fd") fd (with_pid pid op)))) (event.Open pid fd file mode)
unfolding is_record is_of required width member_count event_as is_whole u32_at mode_at mode_in
open_is op pid fd file name mode pid_fits fd_fits file_fits named = record { typed = rw (named) refl; value = rw (u32_of pid pid_fits, u32_of fd fd_fits, u32_of file file_fits, named) refl }

pub proc_is : (op : List ℕ) (pid : ℕ) → pid < 2 ^ 32 → IsRecord kind.Proc (with_pid pid op) (event.Proc pid)
unfolding is_record is_of required width member_count event_as is_whole u32_at
proc_is op pid pid_fits = record { typed = refl; value = rw (u32_of pid pid_fits) refl }

pub exec_is : (op : List ℕ) (pid : ℕ) → pid < 2 ^ 32 → IsRecord kind.Exec (with_pid pid op) (event.Exec pid)
unfolding is_record is_of required width member_count event_as is_whole u32_at
exec_is op pid pid_fits = record { typed = refl; value = rw (u32_of pid pid_fits) refl }

pub fork_is : (op : List ℕ) (pid child : ℕ) → pid < 2 ^ 32 → child < 2 ^ 32 → IsRecord kind.Fork (and_number (codes "child") child (with_pid pid op)) (event.Fork pid child)
unfolding is_record is_of required width member_count event_as is_whole u32_at
fork_is op pid child pid_fits child_fits = record { typed = refl; value = rw (u32_of pid pid_fits, u32_of child child_fits) refl }

pub exit_is : (op : List ℕ) (pid status : ℕ) → pid < 2 ^ 32 → status < 2 ^ 32 → IsRecord kind.Exit (and_number (codes "status") status (with_pid pid op)) (event.Exit pid status)
unfolding is_record is_of required width member_count event_as is_whole u32_at
exit_is op pid status pid_fits status_fits = record { typed = refl; value = rw (u32_of pid pid_fits, u32_of status status_fits) refl }

pub sig_is : (op : List ℕ) (pid sig : ℕ) → pid < 2 ^ 32 → sig < 2 ^ 32 → IsRecord kind.Sig (and_number (codes "sig") sig (with_pid pid op)) (event.Sig pid sig)
unfolding is_record is_of required width member_count event_as is_whole u32_at
sig_is op pid sig pid_fits sig_fits = record { typed = refl; value = rw (u32_of pid pid_fits, u32_of sig sig_fits) refl }

pub file_is : (op : List ℕ) (file : ℕ) (size : ℤ) → file < 2 ^ 32 → i64_in (whole size) ≡ Some size → IsRecord kind.File (put (codes "size") (whole size) (and_number (codes "file") file (with_op op))) (event.File file size)
unfolding is_record is_of required width member_count event_as is_whole u32_at i64_at
file_is op file size file_fits size_fits = record { typed = rw (whole_is size) refl; value = rw (u32_of file file_fits, size_fits) refl }

pub truncate_is : (op : List ℕ) (file : ℕ) (size : ℤ) → file < 2 ^ 32 → i64_in (whole size) ≡ Some size → IsRecord kind.Truncate (put (codes "size") (whole size) (and_number (codes "file") file (with_op op))) (event.Truncate file size)
unfolding is_record is_of required width member_count event_as is_whole u32_at i64_at
truncate_is op file size file_fits size_fits = record { typed = rw (whole_is size) refl; value = rw (u32_of file file_fits, size_fits) refl }

pub note_is : (op : List ℕ) (file : ℕ) (name : List ℕ) (note : Note) → file < 2 ^ 32 → note_named name ≡ Some note → IsRecord kind.Note (put (codes "note") (string name) (and_number (codes "file") file (with_op op))) (event.Note file note)
unfolding is_record is_of required width member_count event_as is_whole u32_at note_at note_in
note_is op file name note file_fits named = record { typed = rw (named) refl; value = rw (u32_of file file_fits, named) refl }

pub clock_is : (op : List ℕ) (ns : ℤ) → moment_in (whole ns) ≡ Some ns → IsRecord kind.Clock (put (codes "ns") (whole ns) (with_op op)) (event.Clock ns)
unfolding is_record is_of required width member_count event_as moment_at
clock_is op ns ns_fits = record { typed = rw (whole_is ns) refl; value = rw (ns_fits) refl }

pub kevent_is : (op : List ℕ) (pid fd room : ℕ) (d : Data) (listed changes : List Change) → pid < 2 ^ 32 → fd < 2 ^ 32 → room < 2 ^ 32
    → is_change_list d ≡ true → change_list d ≡ Some listed → changes ≡ listed
    → IsRecord kind.Kevent (and_number (codes "room") room (put (codes "changes") d (and_number (codes "fd") fd (with_pid pid op)))) (event.Kevent pid fd changes room)
unfolding is_record is_of is_whole required width member_count event_as u32_at changes_at
kevent_is op pid fd room d listed changes pid_fits fd_fits room_fits is value same = record {
  typed = rw is refl;
  value = rw (u32_of pid pid_fits, u32_of fd fd_fits, u32_of room room_fits, value) refl ∙ ap (λ l. Some (event.Kevent pid fd l room)) (sym same);
}

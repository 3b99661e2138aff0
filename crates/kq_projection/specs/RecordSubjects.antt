-- What a record speaks of by itself: numbers of the process that acts, a process that starts or exits, and a file.
use Rattle.std.specs.Prelude.{ℕ, List, [], ◌∷◌, ◌++◌, Option, Some, None}
use Rattle.kq_model.specs.declared.event.Event.{Event}
use Rattle.kq_model.specs.declared.event.Event.TheVariants as event
use Rattle.kq_model.specs.declared.object.Target.{Target}
use Rattle.kq_model.specs.declared.object.Target.TheVariants as target

-- its only number, or the first of two, with the process
unfoldable pub first_number : Event → Option (ℕ × ℕ)
first_number (event.Kqueue pid fd) = Some (pid, fd)
first_number (event.Dup pid fd to) = Some (pid, fd)
first_number (event.Close pid fd) = Some (pid, fd)
first_number (event.Socket pid fd rcv snd) = Some (pid, fd)
first_number (event.Listen pid fd backlog) = Some (pid, fd)
first_number (event.Arrive pid fd) = Some (pid, fd)
first_number (event.Accept pid fd to rcv snd) = Some (pid, fd)
first_number (event.Connect pid fd) = Some (pid, fd)
first_number (event.Rx pid fd n) = Some (pid, fd)
first_number (event.Tx pid fd n) = Some (pid, fd)
first_number (event.Shut pid fd side error) = Some (pid, fd)
first_number (event.Lowat pid fd side n) = Some (pid, fd)
first_number (event.Pipe pid rfd wfd cap) = Some (pid, rfd)
first_number (event.Read pid fd n) = Some (pid, fd)
first_number (event.Write pid fd n) = Some (pid, fd)
first_number (event.Open pid fd file mode) = Some (pid, fd)
first_number (event.Seek pid fd offset) = Some (pid, fd)
first_number _ = None

unfoldable pub second_number : Event → Option (ℕ × ℕ)
second_number (event.Dup pid fd to) = Some (pid, to)
second_number (event.Accept pid fd to rcv snd) = Some (pid, to)
second_number (event.Pipe pid rfd wfd cap) = Some (pid, wfd)
second_number _ = None

-- a number that the record opens where it is possible: its only one, or the first of two
unfoldable pub first_opened : Event → Option (ℕ × ℕ)
first_opened (event.Kqueue pid fd) = Some (pid, fd)
first_opened (event.Dup pid fd to) = Some (pid, to)
first_opened (event.Socket pid fd rcv snd) = Some (pid, fd)
first_opened (event.Accept pid fd to rcv snd) = Some (pid, to)
first_opened (event.Pipe pid rfd wfd cap) = Some (pid, rfd)
first_opened (event.Open pid fd file mode) = Some (pid, fd)
first_opened _ = None

unfoldable pub second_opened : Event → Option (ℕ × ℕ)
second_opened (event.Pipe pid rfd wfd cap) = Some (pid, wfd)
second_opened _ = None

-- a process that starts or exits
unfoldable pub spoken_process : Event → Option ℕ
spoken_process (event.Proc pid) = Some pid
spoken_process (event.Fork pid child) = Some child
spoken_process (event.Exit pid status) = Some pid
spoken_process _ = None

unfoldable pub spoken_file : Event → Option ℕ
spoken_file (event.File file size) = Some file
spoken_file (event.Truncate file size) = Some file
spoken_file (event.Note file note) = Some file
spoken_file _ = None

abbrev pub option_list : {X : Type 0} → Option X → List X
option_list None = []
option_list (Some x) = x ∷ []

abbrev pub spoken_numbers : Event → List (ℕ × ℕ)
spoken_numbers e = option_list (first_number e) ++ option_list (second_number e)

abbrev pub opened_numbers : Event → List (ℕ × ℕ)
opened_numbers e = option_list (first_opened e) ++ option_list (second_opened e)

abbrev pub process_targets : Option ℕ → List Target
process_targets None = []
process_targets (Some pid) = target.Process pid ∷ []

abbrev pub file_targets : Option ℕ → List Target
file_targets None = []
file_targets (Some number) = target.File number ∷ []

abbrev pub spoken_targets : Event → List Target
spoken_targets e = process_targets (spoken_process e) ++ file_targets (spoken_file e)

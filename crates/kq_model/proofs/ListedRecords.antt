-- Any record keeps the lists of all files whole and in order.
use Rattle.std.proofs.Common.{ℕ, pos, negsuc}
use Rattle.kq_model.specs.declared.act.Act.TheVariants as act
use Rattle.kq_model.specs.declared.event.Event.{Event}
use Rattle.kq_model.specs.declared.event.Event.TheVariants as event
use Rattle.kq_model.specs.ListedFiles.{KeepsLists}
use Rattle.kq_model.specs.Objects.{counted}
use Rattle.kq_model.specs.Plans.{plan}
use Rattle.kq_model.specs.ProcessPlans.{plan_clock_at}
use Rattle.kq_model.specs.World.{World}
use Rattle.kq_model.proofs.ListedWorld.{listed-accept, listed-act, listed-at, listed-clock, listed-close, listed-dup, listed-exec, listed-exit, listed-fork, listed-kevent, listed-kqueue, listed-open, listed-pipe_record, listed-proc, listed-sig, listed-sigset, listed-socket_record}

pub listed-record : (place : ℕ) (e : Event) (w : World counted) → KeepsLists place w (plan place e w)
unfolding plan plan_clock_at
listed-record place (event.Proc pid) w = listed-proc place pid w
listed-record place (event.Fork pid child) w = listed-fork place pid child w
listed-record place (event.Exit pid status) w = listed-exit place pid status w
listed-record place (event.Kqueue pid fd) w = listed-kqueue place pid fd w
listed-record place (event.Dup pid fd to) w = listed-dup place pid fd to w
listed-record place (event.Close pid fd) w = listed-close place pid fd w
listed-record place (event.Socket pid fd rcv snd) w = listed-socket_record place pid fd rcv snd w
listed-record place (event.Listen pid fd backlog) w = listed-at place pid fd _ w
listed-record place (event.Arrive pid fd) w = listed-at place pid fd _ w
listed-record place (event.Accept pid fd to rcv snd) w = listed-accept place pid fd to rcv snd w
listed-record place (event.Connect pid fd) w = listed-at place pid fd _ w
listed-record place (event.Rx pid fd n) w = listed-at place pid fd _ w
listed-record place (event.Tx pid fd n) w = listed-at place pid fd _ w
listed-record place (event.Shut pid fd side error) w = listed-at place pid fd _ w
listed-record place (event.Lowat pid fd side n) w = listed-at place pid fd _ w
listed-record place (event.Pipe pid rfd wfd cap) w = listed-pipe_record place pid rfd wfd cap w
listed-record place (event.Read pid fd n) w = listed-at place pid fd _ w
listed-record place (event.Write pid fd n) w = listed-at place pid fd _ w
listed-record place (event.Exec pid) w = listed-exec place pid w
listed-record place (event.Sigset pid sig ignore) w = listed-sigset place pid sig ignore w
listed-record place (event.Sig pid sig) w = listed-sig place pid sig w
listed-record place (event.File file size) w = listed-act place (act.File file size) _ w
listed-record place (event.Open pid fd file mode) w = listed-open place pid fd file mode w
listed-record place (event.Seek pid fd offset) w = listed-at place pid fd _ w
listed-record place (event.Truncate file size) w = listed-act place (act.Truncate file size) _ w
listed-record place (event.Note file note) w = listed-act place (act.Note file note) _ w
listed-record place (event.Clock (pos moment)) w = listed-clock place moment w
listed-record place (event.Clock (negsuc n)) w = record { keeps = λ c l. tt }
listed-record place (event.Kevent pid fd changes room) w = listed-kevent place pid fd changes room w

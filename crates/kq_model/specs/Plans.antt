-- The plan of each record, or the first reason why it is impossible.
use Rattle.std.specs.Prelude.{ℕ, []}
use Rattle.kq_model.specs.declared.act.Act.TheVariants as act
use Rattle.kq_model.specs.declared.event.Event.{Event}
use Rattle.kq_model.specs.declared.event.Event.TheVariants as event
use Rattle.kq_model.specs.DescriptorPlans.{plan_close, plan_dup, plan_kqueue, plan_kevent}
use Rattle.kq_model.specs.ObjectRecordPlans.{plan_accept, plan_act, plan_at, plan_open, plan_pipe, plan_socket}
use Rattle.kq_model.specs.Objects.{counted}
use Rattle.kq_model.specs.ProcessPlans.{plan_clock_at, plan_exec, plan_exit, plan_fork, plan_proc, plan_sig}
use Rattle.kq_model.specs.ProcessPlans.{plan_sigset}
use Rattle.kq_model.specs.World.{World, Planned}

-- the record at a place
unfoldable pub plan : ℕ → Event → World counted → Planned
plan place (event.Proc pid) w = plan_proc pid w
plan place (event.Fork pid child) w = plan_fork pid child w
plan place (event.Exit pid status) w = plan_exit pid status w
plan place (event.Kqueue pid fd) w = plan_kqueue pid fd w
plan place (event.Dup pid fd to) w = plan_dup pid fd to w
plan place (event.Close pid fd) w = plan_close pid fd w
plan place (event.Socket pid fd rcv snd) w = plan_socket place pid fd rcv snd w
plan place (event.Listen pid fd backlog) w = plan_at place pid fd (λ on. act.Listen on backlog) w
plan place (event.Arrive pid fd) w = plan_at place pid fd act.Arrive w
plan place (event.Accept pid fd to rcv snd) w = plan_accept place pid fd to rcv snd w
plan place (event.Connect pid fd) w = plan_at place pid fd act.Connect w
plan place (event.Rx pid fd n) w = plan_at place pid fd (λ on. act.Receive on n) w
plan place (event.Tx pid fd n) w = plan_at place pid fd (λ on. act.Transmit on n) w
plan place (event.Shut pid fd side error) w = plan_at place pid fd (λ on. act.Shut on side error) w
plan place (event.Lowat pid fd side n) w = plan_at place pid fd (λ on. act.LowWater on side n) w
plan place (event.Pipe pid rfd wfd cap) w = plan_pipe place pid rfd wfd cap w
plan place (event.Read pid fd n) w = plan_at place pid fd (λ on. act.Read on n) w
plan place (event.Write pid fd n) w = plan_at place pid fd (λ on. act.Write on n) w
plan place (event.Exec pid) w = plan_exec pid w
plan place (event.Sigset pid sig ignore) w = plan_sigset pid sig ignore w
plan place (event.Sig pid sig) w = plan_sig pid sig w
plan place (event.File file size) w = plan_act place [] (act.File file size) w
plan place (event.Open pid fd file mode) w = plan_open place pid fd file mode w
plan place (event.Seek pid fd offset) w = plan_at place pid fd (λ on. act.Seek on offset) w
plan place (event.Truncate file size) w = plan_act place [] (act.Truncate file size) w
plan place (event.Note file note) w = plan_act place [] (act.Note file note) w
plan place (event.Clock ns) w = plan_clock_at ns w
plan place (event.Kevent pid fd changes room) w = plan_kevent pid fd changes room w

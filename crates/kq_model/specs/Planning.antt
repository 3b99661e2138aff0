-- The plan of each record about objects, whose descriptors are resolved. `place` is that of the record.
use Rattle.std.specs.Prelude.{ℕ, Err}
use Rattle.kq_model.specs.declared.act.Act.{Act}
use Rattle.kq_model.specs.declared.act.Act.TheVariants as act
use Rattle.kq_model.specs.declared.object.Named.{Named}
use Rattle.kq_model.specs.declared.object.Named.TheVariants as named
use Rattle.kq_model.specs.declared.why.Why.TheVariants.{WrongKind}
use Rattle.kq_model.specs.FilePlans.{plan_file, plan_open, plan_truncate, plan_note, plan_seek, read_file, write_file}
use Rattle.kq_model.specs.ObjectPlan.{Planned}
use Rattle.kq_model.specs.Objects.{Objects, counted}
use Rattle.kq_model.specs.PipePlans.{plan_pipe, plan_at_pipe}
use Rattle.kq_model.specs.PipeSteps.{read_pipe, write_pipe}
use Rattle.kq_model.specs.SocketPlans.{plan_socket, plan_at_socket, plan_accept}
use Rattle.kq_model.specs.SocketSteps.{listen, arrive, connect, receive, transmit, shut, low_water, read_socket}
use Rattle.kq_model.specs.SocketSteps.{write_socket}

unfoldable pub plan_read : Named → ℕ → Objects counted → Planned
plan_read (named.Socket place) bytes o = plan_at_socket (read_socket bytes) (named.Socket place) o
plan_read (named.PipeRead place) bytes o = plan_at_pipe (read_pipe bytes) place (o.pipe place)
plan_read (named.Open place number) bytes o = read_file place bytes (o.description place) o
plan_read _ bytes o = Err WrongKind

unfoldable pub plan_write : Named → ℕ → Objects counted → Planned
plan_write (named.Socket place) bytes o = plan_at_socket (write_socket bytes) (named.Socket place) o
plan_write (named.PipeWrite place) bytes o = plan_at_pipe (write_pipe bytes) place (o.pipe place)
plan_write (named.Open place number) bytes o = write_file place bytes (o.description place) o
plan_write _ bytes o = Err WrongKind

unfoldable pub plan : ℕ → Act → Objects counted → Planned
plan place (act.Socket receive_buffer send_buffer) o = plan_socket place receive_buffer send_buffer
plan place (act.Listen on backlog) o = plan_at_socket (listen backlog) on o
plan place (act.Arrive on) o = plan_at_socket arrive on o
plan place (act.Accept on receive_buffer send_buffer) o = plan_accept place on receive_buffer send_buffer o
plan place (act.Connect on) o = plan_at_socket connect on o
plan place (act.Receive on bytes) o = plan_at_socket (receive bytes) on o
plan place (act.Transmit on bytes) o = plan_at_socket (transmit bytes) on o
plan place (act.Shut on side error) o = plan_at_socket (shut side error) on o
plan place (act.LowWater on side mark) o = plan_at_socket (low_water side mark) on o
plan place (act.Pipe cap) o = plan_pipe place cap
plan place (act.Read on bytes) o = plan_read on bytes o
plan place (act.Write on bytes) o = plan_write on bytes o
plan place (act.File number size) o = plan_file number size o
plan place (act.Open number mode) o = plan_open place number mode o
plan place (act.Seek on offset) o = plan_seek on offset o
plan place (act.Truncate number size) o = plan_truncate number size o
plan place (act.Note number note) o = plan_note number note o

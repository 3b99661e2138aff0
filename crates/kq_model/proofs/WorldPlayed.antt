-- How examples of the world are written: what each of a list of records comes to, in the world that the
-- records before it left.
use Rattle.std.specs.Prelude.{ℕ, ◌+◌, ⊤, List, [], ◌∷◌}
use Rattle.kq_model.specs.declared.why.Why.{Why}
use Rattle.kq_model.specs.Close.{Pair}
use Rattle.kq_model.specs.DescriptorPlans.{on_named, on_descriptor, plan_close, closes, close_doings, close_hints, duplicated, plan_dup, plan_kqueue, plan_call, plan_kevent}
use Rattle.kq_model.specs.Descriptors.{named_among, is_before, with_descriptor, with_descriptors}
use Rattle.kq_model.specs.FilePlans as file
use Rattle.kq_model.specs.Files as files
use Rattle.kq_model.specs.Holders as holders
use Rattle.kq_model.specs.Holding as holding
use Rattle.kq_model.specs.ObjectPlan as object
use Rattle.kq_model.specs.ObjectRecordPlans as records
use Rattle.kq_model.specs.Objects.{listed, counted, done, all_done, view_of, description_view}
use Rattle.kq_model.specs.PipePlans as pipe_plans
use Rattle.kq_model.specs.PipeSteps as pipe_steps
use Rattle.kq_model.specs.Pipes as pipes
use Rattle.kq_model.specs.Planning as planning
use Rattle.kq_model.specs.Processes as processes
use Rattle.kq_model.specs.ProcessPlans as process_plans
use Rattle.kq_model.specs.SocketPlans as socket_plans
use Rattle.kq_model.specs.SocketSteps as socket_steps
use Rattle.kq_model.specs.Sockets as sockets
use Rattle.kq_model.specs.Targets.{Posted}
use Rattle.kq_model.specs.World.{World, empty_world, seen_world, named_by, process_view, view_in, views_of, Planned, Impossible, Possible, with_kqueue, clock_after, carried_out}

-- a record closes descriptors and gives hints, or it is impossible
pub data Outcome : Type 0 where
  Done : List Pair → List Posted → Outcome
  Refused : Why → Outcome

-- a record, which is planned at its place
abbrev pub Planning : Type 0
Planning = ℕ → World counted → Planned

abbrev pub outcome : Planned → Outcome
outcome (Impossible why) = Refused why
outcome (Possible p) = Done p.closed p.hints

abbrev pub after : ℕ → Planned → World listed → World listed
after place (Impossible why) w = w
after place (Possible p) w = carried_out place p w

abbrev pub outcomes_from : ℕ → World listed → List Planning → List Outcome
outcomes_from place w [] = []
outcomes_from place w (r ∷ rs) =
    outcome (r place (seen_world w)) ∷ outcomes_from (place + 1) (after place (r place (seen_world w)) w) rs

-- the first record has place 1
abbrev pub outcomes : List Planning → List Outcome
outcomes = outcomes_from 1 (empty_world listed)

abbrev pub world_from : ℕ → World listed → List Planning → World listed
world_from place w [] = w
world_from place w (r ∷ rs) = world_from (place + 1) (after place (r place (seen_world w)) w) rs

abbrev pub world_after : List Planning → World counted
world_after rs = seen_world (world_from 1 (empty_world listed) rs)

unfoldable pub world_opened : ⊤
unfolding on_named on_descriptor plan_close closes close_doings close_hints duplicated plan_dup plan_kqueue plan_call plan_kevent
    named_among is_before with_descriptor with_descriptors
    file.file_amount file.noted file.extending file.made_file file.plan_file file.present file.opened file.plan_open file.sized file.truncated file.plan_truncate file.deletion file.said file.plan_note file.sought file.sought_in file.plan_seek file.read_file file.reached file.grows file.written file.write_file
    files.description_state files.description_after files.may_read files.may_write files.file_state files.file_after
    holders.holders_of holding.hold_doings holders.hold holding.leaving holding.left holding.release_doings holding.release holding.close_hint holding.end_hint holding.release_hint holders.all_held holders.all_released holding.release_all holding.option_list holding.release_hints
    object.hints_for
    records.with_objects records.plan_act records.plan_at records.unless_open records.if_live records.plan_socket records.plan_accept records.plan_pipe records.plan_open
    done all_done view_of description_view
    pipe_plans.plan_pipe pipe_plans.pipe_plan pipe_plans.plan_at_pipe
    pipe_steps.read_pipe pipe_steps.write_pipe
    pipes.pipe_state pipes.pipe_after pipes.pipe_view
    planning.plan_read planning.plan_write planning.plan
    processes.was_used processes.is_live processes.process_of processes.ignored_by processes.with_start processes.with_process processes.without_process processes.with_disposition
    process_plans.is_kqueue process_plans.hold_all process_plans.plan_proc process_plans.plan_fork process_plans.plan_exec process_plans.plan_exit process_plans.is_signal process_plans.plan_sigset process_plans.delivery process_plans.plan_sig process_plans.plan_clock process_plans.plan_clock_at
    socket_plans.plan_socket socket_plans.socket_found socket_plans.socket_at socket_plans.socket_plan socket_plans.step_of socket_plans.plan_at_socket socket_plans.accepted socket_plans.plan_accept
    socket_steps.is_capacity socket_steps.hint_on socket_steps.capacity_of socket_steps.listen socket_steps.arrive socket_steps.accept socket_steps.connect socket_steps.receive socket_steps.transmit socket_steps.shut socket_steps.low_water socket_steps.read_socket socket_steps.write_socket
    sockets.socket_state sockets.socket_after sockets.socket_view
    named_by process_view view_in views_of with_kqueue clock_after carried_out
world_opened = tt

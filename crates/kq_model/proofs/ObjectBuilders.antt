-- Words of the worked examples about objects: records one after the other, the first at place 1, each
-- answered by its hints or by why it is impossible.
use Rattle.std.specs.Prelude.{⊤, ℕ, ◌+◌, List, [], ◌∷◌, Option, Result, Ok, Err}
use Rattle.kq_model.specs.declared.act.Act.{Act}
use Rattle.kq_model.specs.declared.object.Hint.{Hint}
use Rattle.kq_model.specs.declared.object.Named.{Named}
use Rattle.kq_model.specs.declared.object.Target.{Target}
use Rattle.kq_model.specs.declared.object.View.{View}
use Rattle.kq_model.specs.declared.why.Why.{Why}
use Rattle.kq_model.specs.ObjectPlan.{Planned}
use Rattle.kq_model.specs.Objects.{Objects, listed, no_objects, quantities, all_done, view_of}
use Rattle.kq_model.specs.Planning.{plan}
use Rattle.kq_model.specs.Holding.{release_hints}
use Rattle.kq_model.specs.Holders.{all_held, all_released}
use Rattle.kq_model.specs.Objects as objects
use Rattle.kq_model.specs.Sockets as sockets
use Rattle.kq_model.specs.Pipes as pipes
use Rattle.kq_model.specs.Files as files
use Rattle.kq_model.specs.SocketSteps as socket_steps
use Rattle.kq_model.specs.PipeSteps as pipe_steps
use Rattle.kq_model.specs.ObjectPlan as object_plan
use Rattle.kq_model.specs.SocketPlans as socket_plans
use Rattle.kq_model.specs.PipePlans as pipe_plans
use Rattle.kq_model.specs.FilePlans as file_plans
use Rattle.kq_model.specs.Planning as planning
use Rattle.kq_model.specs.Holders as holders
use Rattle.kq_model.specs.Holding as holding

-- ---- records one after the other

abbrev pub Answer : Type 0
Answer = Result (List (Target × Hint)) Why

abbrev pub answer_of : Planned → Answer
answer_of (Ok p) = Ok p.hints
answer_of (Err why) = Err why

abbrev pub carried : Planned → Objects listed → Objects listed
carried (Ok p) o = all_done p.doings o
carried (Err why) o = o

abbrev pub answers_from : ℕ → List Act → Objects listed → List Answer
answers_from place [] o = []
answers_from place (a ∷ acts) o =
    answer_of (plan place a (quantities o)) ∷ answers_from (place + 1) acts (carried (plan place a (quantities o)) o)

abbrev pub objects_from : ℕ → List Act → Objects listed → Objects listed
objects_from place [] o = o
objects_from place (a ∷ acts) o = objects_from (place + 1) acts (carried (plan place a (quantities o)) o)

-- what each record is answered
abbrev pub answers : List Act → List Answer
answers acts = answers_from 1 acts (no_objects listed)

-- the objects after the records
abbrev pub after : List Act → Objects listed
after acts = objects_from 1 acts (no_objects listed)

-- what a filter sees afterwards
abbrev pub seen : Target → Objects listed → Option View
seen t o = view_of t (quantities o)

-- the hints of descriptors that go, one after the other
abbrev pub closing : List Named → Objects listed → List (Target × Hint)
closing ns o = release_hints ns (quantities o)

-- ---- short words

-- possible, without a hint
abbrev pub quiet : Answer
quiet = Ok []

abbrev pub says : Target → Hint → Answer
says t h = Ok ((t, h) ∷ [])

abbrev pub cannot : Why → Answer
cannot why = Err why

-- ---- all definitions of objects, opened at once

unfoldable pub objects_opened : ⊤
unfolding sockets.socket_state sockets.socket_after sockets.socket_view
    pipes.pipe_state pipes.pipe_after pipes.pipe_view
    files.description_state files.description_after files.may_read files.may_write files.file_state files.file_after
    objects.done objects.all_done objects.description_view objects.view_of
    socket_steps.is_capacity socket_steps.hint_on socket_steps.capacity_of socket_steps.listen socket_steps.arrive socket_steps.accept socket_steps.connect socket_steps.receive socket_steps.transmit socket_steps.shut socket_steps.low_water socket_steps.read_socket socket_steps.write_socket
    pipe_steps.read_pipe pipe_steps.write_pipe
    object_plan.hints_for
    socket_plans.plan_socket socket_plans.socket_found socket_plans.socket_at socket_plans.socket_plan socket_plans.step_of socket_plans.plan_at_socket socket_plans.accepted socket_plans.plan_accept
    pipe_plans.plan_pipe pipe_plans.pipe_plan pipe_plans.plan_at_pipe
    file_plans.file_amount file_plans.noted file_plans.extending file_plans.made_file file_plans.plan_file file_plans.present file_plans.opened file_plans.plan_open file_plans.sized file_plans.truncated file_plans.plan_truncate file_plans.deletion file_plans.said file_plans.plan_note file_plans.sought file_plans.sought_in file_plans.plan_seek file_plans.read_file file_plans.reached file_plans.grows file_plans.written file_plans.write_file
    planning.plan_read planning.plan_write planning.plan
    holders.holders_of holding.hold_doings holders.hold holding.leaving holding.left holding.release_doings holding.release holding.close_hint holding.end_hint holding.release_hint holders.all_held holders.all_released holding.option_list holding.release_hints holders.is_same holders.one_if holders.times
objects_opened = tt

-- The plans of the records about sockets, pipes and files: first the reasons that concern processes and
-- descriptors, then those of the object.
-- Source: socket(2), accept(2), pipe(2), open(2). What is impossible is this project's choice.
use Rattle.std.specs.Prelude.{ℕ, ◌==◌, List, [], ◌∷◌, Ok, Err, if◌then◌else◌}
use Rattle.std.specs.Option.{is_some}
use Rattle.kq_model.specs.declared.act.Act.{Act}
use Rattle.kq_model.specs.declared.act.Act.TheVariants as act
use Rattle.kq_model.specs.declared.mode.Mode.{Mode}
use Rattle.kq_model.specs.declared.object.Named.{Named}
use Rattle.kq_model.specs.declared.object.Named.TheVariants as named
use Rattle.kq_model.specs.declared.why.Why.TheVariants.{NoProcess, UsedDescriptor}
use Rattle.kq_model.specs.Descriptors.{Descriptor}
use Rattle.kq_model.specs.DescriptorPlans.{on_descriptor}
use Rattle.kq_model.specs.ObjectPlan as object
use Rattle.kq_model.specs.Objects.{counted}
use Rattle.kq_model.specs.Planning as object_planning
use Rattle.kq_model.specs.Processes.{is_live}
use Rattle.kq_model.specs.World.{World, Planned, Impossible, Possible, idle, named_by}

-- the plan of the world, where this is the plan of the objects and these descriptors are opened
unfoldable pub with_objects : List Descriptor → object.Planned → Planned
with_objects opened (Err why) = Impossible why
with_objects opened (Ok p) = Possible (record idle { opened = opened; doings = p.doings; hints = p.hints })

-- a record about what no descriptor names
unfoldable pub plan_act : ℕ → List Descriptor → Act → World counted → Planned
plan_act place opened a w = with_objects opened (object_planning.plan place a w.objects)

-- a record about what a descriptor names
unfoldable pub plan_at : ℕ → ℕ → ℕ → (Named → Act) → World counted → Planned
plan_at place pid fd at w = on_descriptor pid fd (λ n. plan_act place [] (at n) w) w

-- the new numbers are not open in the live process
unfoldable pub unless_open : ℕ → List ℕ → World counted → Planned → Planned
unless_open pid [] w planned = planned
unless_open pid (number ∷ numbers) w planned =
    if is_some (named_by pid number w) then Impossible UsedDescriptor else unless_open pid numbers w planned

unfoldable pub if_live : ℕ → World counted → Planned → Planned
if_live pid w planned = if is_live pid w.processes then planned else Impossible NoProcess

abbrev pub descriptor : ℕ → ℕ → Named → Descriptor
descriptor pid number named = record { pid = pid; number = number; named = named }

unfoldable pub plan_socket : ℕ → ℕ → ℕ → ℕ → ℕ → World counted → Planned
plan_socket place pid fd receive_buffer send_buffer w =
    if_live pid w (unless_open pid (fd ∷ []) w
    (plan_act place (descriptor pid fd (named.Socket place) ∷ []) (act.Socket receive_buffer send_buffer) w))

unfoldable pub plan_accept : ℕ → ℕ → ℕ → ℕ → ℕ → ℕ → World counted → Planned
plan_accept place pid fd to receive_buffer send_buffer w =
    on_descriptor pid fd (λ n. unless_open pid (to ∷ []) w
    (plan_act place (descriptor pid to (named.Socket place) ∷ []) (act.Accept n receive_buffer send_buffer) w)) w

abbrev pub pipe_ends : ℕ → ℕ → ℕ → ℕ → List Descriptor
pipe_ends place pid read_fd write_fd =
    descriptor pid read_fd (named.PipeRead place) ∷ descriptor pid write_fd (named.PipeWrite place) ∷ []

-- both numbers are new, and not the same
unfoldable pub plan_pipe : ℕ → ℕ → ℕ → ℕ → ℕ → World counted → Planned
plan_pipe place pid read_fd write_fd cap w =
    if_live pid w (if read_fd == write_fd then Impossible UsedDescriptor
    else unless_open pid (read_fd ∷ write_fd ∷ []) w
    (plan_act place (pipe_ends place pid read_fd write_fd) (act.Pipe cap) w))

unfoldable pub plan_open : ℕ → ℕ → ℕ → ℕ → Mode → World counted → Planned
plan_open place pid fd file mode w =
    if_live pid w (unless_open pid (fd ∷ []) w
    (plan_act place (descriptor pid fd (named.Open place file) ∷ []) (act.Open file mode) w))

-- Each record about sockets, pipes and files keeps that the objects count the descriptors that name them:
-- what it makes is named by the descriptors that it opens.
use Rattle.std.proofs.Common.{◌≡◌, ◌∙◌, ℕ, ◌+◌, ◌<◌, ◌==◌, pos, true, false, ◌&&◌, eqb, List, [], ◌∷◌, None, Ok, Err, refl, sym, ap, subst, arith, if◌then◌else◌}
use Rattle.std.proofs.lemmas.Bool.Decides.{nat_tests}
use Rattle.std.proofs.lemmas.List.Elements.{All-nil, All-cons}
use Rattle.std.specs.Prelude.{All}
use Rattle.kq_model.specs.declared.act.Act.{Act}
use Rattle.kq_model.specs.declared.act.Act.TheVariants as act
use Rattle.kq_model.specs.declared.mode.Mode.{Mode}
use Rattle.kq_model.specs.declared.object.Named.{Named}
use Rattle.kq_model.specs.declared.object.Named.TheVariants as named
use Rattle.kq_model.specs.declared.why.Why.TheVariants.{UsedDescriptor}
use Rattle.kq_model.specs.CountedWorld.{place_named, NamesBelow, IsOwned, IsCountedWorld, Keeps, KeepsCounts}
use Rattle.kq_model.specs.Descriptors.{Descriptor, named_among, with_descriptors}
use Rattle.kq_model.specs.Holders.{made_names, times}
use Rattle.kq_model.specs.ObjectPlan as object
use Rattle.kq_model.specs.ObjectPlan.{ObjectPlan}
use Rattle.kq_model.specs.ObjectRecordPlans.{descriptor, pipe_ends, plan_accept, plan_act, plan_at, plan_open, plan_pipe, plan_socket, unless_open, with_objects}
use Rattle.kq_model.specs.Objects.{counted, all_done}
use Rattle.kq_model.specs.Planning as object_planning
use Rattle.kq_model.specs.Processes.{is_live, with_disposition, with_process, without_process}
use Rattle.kq_model.specs.ProcessPlans.{names_of}
use Rattle.kq_model.specs.World.{World, Planned, Impossible, Possible, carried_out, clock_after, idle, with_kqueue}
use Rattle.kq_model.proofs.CountedPlans.{counted-plan}
use Rattle.kq_model.proofs.CountedSteps.{below-here, further, impossible}
use Rattle.kq_model.proofs.CountedTables.{AreNew, named_among-with, times-with_descriptors, with_descriptors-rising, without_closed-nothing}
use Rattle.kq_model.proofs.Descriptors.{with_descriptors-all}
use Rattle.kq_model.proofs.FreePlaces.{held-all_done}
use Rattle.kq_model.proofs.HeldNames.{times-append}
use Rattle.kq_model.proofs.PlanReasons.{if_live-holds, on_descriptor-holds, unless, unless_open-holds}

-- ---- records about objects

-- descriptors that a record opens for what it makes
record Opens (place : ℕ) (w : World counted) (a : Act) (ds : List Descriptor) : Type 0 where
  named : names_of ds ≡ made_names place a
  new : AreNew ds w.table
  owned : All (IsOwned w.processes) ds
  here : All (NamesBelow (place + 1)) ds

swapped : (a b b' : ℕ) → b ≡ b' → a + b ≡ b' + a
swapped a b b' same = omega arith

opened-keeps : (place : ℕ) (w : World counted) (a : Act) (ds : List Descriptor) (p : ObjectPlan) → Opens place w a ds
    → object_planning.plan place a w.objects ≡ Ok p → IsCountedWorld place w
    → Keeps place w (Possible (record idle { opened = ds; doings = p.doings; hints = p.hints }))
unfolding carried_out with_kqueue with_process without_process with_disposition clock_after
opened-keeps place w a ds p opens is c =
    let P : List Descriptor → Type 0 = λ t. IsCountedWorld (place + 1)
    (record { processes = w.processes; table = with_descriptors ds t; objects = all_done p.doings w.objects; now = w.now }) in
    subst P (sym (without_closed-nothing w.table)) (record {
      counts = λ m. counted-plan place a w.objects p (names_of w.table) is c.counts m
          ∙ ap pos (times-append m (made_names place a) (names_of w.table)
          ∙ sym (times-with_descriptors m ds w.table ∙ swapped (times m (names_of w.table)) (times m (names_of ds)) (times m (made_names place a)) (ap (times m) opens.named)));
      held = held-all_done p.doings w.objects c.held;
      rising = with_descriptors-rising ds w.table opens.new c.rising;
      owned = with_descriptors-all (IsOwned w.processes) ds w.table opens.owned c.owned;
      below = with_descriptors-all (NamesBelow (place + 1)) ds w.table opens.here (further place w.table c.below);
    })

with_objects-keeps : (place : ℕ) (w : World counted) (a : Act) (ds : List Descriptor) → Opens place w a ds → (planned : object.Planned)
    → object_planning.plan place a w.objects ≡ planned → KeepsCounts place w (with_objects ds planned)
unfolding with_objects
with_objects-keeps place w a ds opens (Err why) is = record { keeps = λ c. tt }
with_objects-keeps place w a ds opens (Ok p) is = record { keeps = opened-keeps place w a ds p opens is }

act-keeps : (place : ℕ) (w : World counted) (a : Act) (ds : List Descriptor) → Opens place w a ds → KeepsCounts place w (plan_act place ds a w)
unfolding plan_act
act-keeps place w a ds opens = with_objects-keeps place w a ds opens (object_planning.plan place a w.objects) refl

opens_none : (place : ℕ) (w : World counted) (a : Act) → made_names place a ≡ [] → Opens place w a []
opens_none place w a none = record {
  named = sym none;
  new = tt;
  owned = All-nil (IsOwned w.processes);
  here = All-nil (NamesBelow (place + 1));
}

-- about what no descriptor names: a file that is made, truncated, or something else happens to it
pub counted-act : (place : ℕ) (a : Act) (w : World counted) → made_names place a ≡ [] → KeepsCounts place w (plan_act place [] a w)
counted-act place a w none = act-keeps place w a [] (opens_none place w a none)

-- about what a descriptor names, where nothing is made
pub counted-at : (place pid fd : ℕ) (at : Named → Act) (w : World counted) → ((n : Named) → made_names place (at n) ≡ []) → KeepsCounts place w (plan_at place pid fd at w)
unfolding plan_at
counted-at place pid fd at w none =
    on_descriptor-holds (KeepsCounts place w) (impossible place w) w pid fd (λ n. plan_act place [] (at n) w) (λ n live found. counted-act place (at n) w (none n))

opens_one : (place pid fd : ℕ) (n : Named) (w : World counted) (a : Act) → made_names place a ≡ n ∷ [] → place_named n ≡ place
    → is_live pid w.processes ≡ true → named_among pid fd w.table ≡ None → Opens place w a (descriptor pid fd n ∷ [])
opens_one place pid fd n w a makes its live closed = record {
  named = sym makes;
  new = (closed, tt);
  owned = All-cons (IsOwned w.processes) (descriptor pid fd n) [] live (All-nil (IsOwned w.processes));
  here = All-cons (NamesBelow (place + 1)) (descriptor pid fd n) [] (subst (λ p. p < place + 1) (sym its) (below-here place)) (All-nil (NamesBelow (place + 1)));
}

pub counted-socket : (place pid fd receive send : ℕ) (w : World counted) → KeepsCounts place w (plan_socket place pid fd receive send w)
unfolding plan_socket made_names
counted-socket place pid fd receive send w =
    let ds : List Descriptor = descriptor pid fd (named.Socket place) ∷ [] in
    let made : Planned = plan_act place ds (act.Socket receive send) w in
    if_live-holds (KeepsCounts place w) (impossible place w) w pid (unless_open pid (fd ∷ []) w made) (λ live. unless_open-holds (KeepsCounts place w) (impossible place w) w pid (fd ∷ []) made
    (λ closed. act-keeps place w (act.Socket receive send) ds (opens_one place pid fd (named.Socket place) w (act.Socket receive send) refl refl live closed.0)))

pub counted-accept : (place pid fd to receive send : ℕ) (w : World counted) → KeepsCounts place w (plan_accept place pid fd to receive send w)
unfolding plan_accept made_names
counted-accept place pid fd to receive send w =
    let ds : List Descriptor = descriptor pid to (named.Socket place) ∷ [] in
    let made : Named → Planned = λ n. plan_act place ds (act.Accept n receive send) w in
    on_descriptor-holds (KeepsCounts place w) (impossible place w) w pid fd (λ n. unless_open pid (to ∷ []) w (made n)) (λ n live found. unless_open-holds (KeepsCounts place w) (impossible place w) w pid (to ∷ []) (made n)
    (λ closed. act-keeps place w (act.Accept n receive send) ds (opens_one place pid to (named.Socket place) w (act.Accept n receive send) refl refl live closed.0)))

pub counted-open : (place pid fd file : ℕ) (mode : Mode) (w : World counted) → KeepsCounts place w (plan_open place pid fd file mode w)
unfolding plan_open made_names
counted-open place pid fd file mode w =
    let ds : List Descriptor = descriptor pid fd (named.Open place file) ∷ [] in
    let made : Planned = plan_act place ds (act.Open file mode) w in
    if_live-holds (KeepsCounts place w) (impossible place w) w pid (unless_open pid (fd ∷ []) w made) (λ live. unless_open-holds (KeepsCounts place w) (impossible place w) w pid (fd ∷ []) made
    (λ closed. act-keeps place w (act.Open file mode) ds (opens_one place pid fd (named.Open place file) w (act.Open file mode) refl refl live closed.0)))

other_number : (a b c d : ℕ) → eqb b d ≡ false → (eqb a c && eqb b d) ≡ false
other_number a b c d = grind (arith, nat_tests)

opens_ends : (place pid read_fd write_fd cap : ℕ) (w : World counted) → is_live pid w.processes ≡ true → eqb read_fd write_fd ≡ false
    → named_among pid read_fd w.table ≡ None → named_among pid write_fd w.table ≡ None
    → Opens place w (act.Pipe cap) (pipe_ends place pid read_fd write_fd)
unfolding made_names
opens_ends place pid read_fd write_fd cap w live apart no_reader no_writer =
    let reader : Descriptor = descriptor pid read_fd (named.PipeRead place) in
    let writer : Descriptor = descriptor pid write_fd (named.PipeWrite place) in
    record {
      named = refl;
      new = (no_reader, (named_among-with pid write_fd reader w.table (other_number pid read_fd pid write_fd apart) no_writer, tt));
      owned = All-cons (IsOwned w.processes) reader (writer ∷ []) live (All-cons (IsOwned w.processes) writer [] live (All-nil (IsOwned w.processes)));
      here = All-cons (NamesBelow (place + 1)) reader (writer ∷ []) (below-here place)
          (All-cons (NamesBelow (place + 1)) writer [] (below-here place) (All-nil (NamesBelow (place + 1))));
    }

pub counted-pipe : (place pid read_fd write_fd cap : ℕ) (w : World counted) → KeepsCounts place w (plan_pipe place pid read_fd write_fd cap w)
unfolding plan_pipe
counted-pipe place pid read_fd write_fd cap w =
    let made : Planned = plan_act place (pipe_ends place pid read_fd write_fd) (act.Pipe cap) w in
    let unless_used : Planned = unless_open pid (read_fd ∷ write_fd ∷ []) w made in
    if_live-holds (KeepsCounts place w) (impossible place w) w pid (if read_fd == write_fd then Impossible UsedDescriptor else unless_used)
    (λ live. unless (KeepsCounts place w) (impossible place w) w (read_fd == write_fd) UsedDescriptor unless_used
    (λ apart. unless_open-holds (KeepsCounts place w) (impossible place w) w pid (read_fd ∷ write_fd ∷ []) made
    (λ closed. act-keeps place w (act.Pipe cap) (pipe_ends place pid read_fd write_fd)
    (opens_ends place pid read_fd write_fd cap w live apart closed.0 closed.1.0))))

-- The plans of the records about descriptors and of kevent calls, each with its reasons in their order.
-- Source: dup2(2), close(2), kqueue(2). What is impossible is this project's choice.
use Rattle.std.specs.Prelude.{ℕ, ◌==◌, not, ◌||◌, List, [], ◌∷◌, ◌++◌, length, nat_lt}
use Rattle.std.specs.Prelude.{Option, Some, None}
use Rattle.std.specs.Prelude.{if◌then◌else◌}
use Rattle.std.specs.Option.{is_some}
use Rattle.kq_model.specs.declared.change.Change.{Change}
use Rattle.kq_model.specs.declared.doing.Doing.{Doing}
use Rattle.kq_model.specs.declared.object.Named.{Named}
use Rattle.kq_model.specs.declared.object.Named.TheVariants as named
use Rattle.kq_model.specs.declared.why.Why.TheVariants.{NoProcess, NoDescriptor, UsedDescriptor, WrongKind, TooMany}
use Rattle.kq_model.specs.Close.{Pair}
use Rattle.kq_model.specs.Holding.{hold_doings, release_doings, release_hint, option_list}
use Rattle.kq_model.specs.Limits.{most_changes, most_room}
use Rattle.kq_model.specs.Objects.{Objects, counted}
use Rattle.kq_model.specs.Processes.{is_live}
use Rattle.kq_model.specs.Targets.{Posted}
use Rattle.kq_model.specs.World.{World, Planned, Impossible, Possible, idle, named_by}

-- ---- an open descriptor of a live process

-- what is planned for what the number names
unfoldable pub on_named : (Named → Planned) → Option Named → Planned
on_named planned None = Impossible NoDescriptor
on_named planned (Some n) = planned n

unfoldable pub on_descriptor : ℕ → ℕ → (Named → Planned) → World counted → Planned
on_descriptor pid number planned w =
    if not (is_live pid w.processes) then Impossible NoProcess
    else on_named planned (named_by pid number w)

-- ---- closing and sharing

unfoldable pub plan_close : ℕ → ℕ → World counted → Planned
plan_close pid fd w = on_descriptor pid fd (λ n. Possible (record idle {
  closed = record { pid = pid; number = fd } ∷ [];
  doings = release_doings n w.objects;
  hints = option_list (release_hint n w.objects);
})) w

-- the close of a number, where it is open
unfoldable pub closes : ℕ → ℕ → Option Named → List Pair
closes pid number None = []
closes pid number (Some n) = record { pid = pid; number = number } ∷ []

unfoldable pub close_doings : Option Named → Objects counted → List Doing
close_doings None o = []
close_doings (Some n) o = release_doings n o

unfoldable pub close_hints : Option Named → Objects counted → List Posted
close_hints None o = []
close_hints (Some n) o = option_list (release_hint n o)

-- onto itself nothing happens; else the number is closed if it was open, and then names what fd names
unfoldable pub duplicated : ℕ → ℕ → ℕ → World counted → Named → Planned
duplicated pid fd to w (named.Kqueue place) = Impossible WrongKind
duplicated pid fd to w n =
    if fd == to then Possible idle
    else Possible (record idle {
      closed = closes pid to (named_by pid to w);
      opened = record { pid = pid; number = to; named = n } ∷ [];
      doings = close_doings (named_by pid to w) w.objects ++ hold_doings n;
      hints = close_hints (named_by pid to w) w.objects;
    })

unfoldable pub plan_dup : ℕ → ℕ → ℕ → World counted → Planned
plan_dup pid fd to w = on_descriptor pid fd (duplicated pid fd to w) w

-- ---- kqueues

unfoldable pub plan_kqueue : ℕ → ℕ → World counted → Planned
plan_kqueue pid fd w =
    if not (is_live pid w.processes) then Impossible NoProcess
    else if is_some (named_by pid fd w) then Impossible UsedDescriptor
    else Possible (record idle { born = Some (record { pid = pid; number = fd }) })

unfoldable pub plan_call : List Change → ℕ → Named → Planned
plan_call changes room (named.Kqueue place) =
    if nat_lt most_changes (length changes) || nat_lt most_room room then Impossible TooMany
    else Possible (record idle { call = Some (record { kqueue = place; changes = changes; room = room }) })
plan_call changes room _ = Impossible WrongKind

unfoldable pub plan_kevent : ℕ → ℕ → List Change → ℕ → World counted → Planned
plan_kevent pid fd changes room w = on_descriptor pid fd (plan_call changes room) w

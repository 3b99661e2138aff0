-- How it is shown that a record keeps the world counted: reasons come first, and where nothing is opened,
-- closed or noted, the table and the objects are as before.
use Rattle.std.proofs.Common.{◌≡◌, ℕ, ◌+◌, ◌<◌, true, List, [], refl, sym, subst, arith}
use Rattle.std.proofs.lemmas.List.Elements.{All-nil, All-weaker}
use Rattle.std.specs.Prelude.{All}
use Rattle.kq_model.specs.declared.object.Named.TheVariants as named
use Rattle.kq_model.specs.declared.why.Why.{Why}
use Rattle.kq_model.specs.CountedWorld.{place_named, NamesBelow, IsOwned, IsCountedWorld, KeepsCounts}
use Rattle.kq_model.specs.Descriptors.{Descriptor, without_closed}
use Rattle.kq_model.specs.Holders.{holders_of, times, IsCounted}
use Rattle.kq_model.specs.Objects.{counted, no_objects}
use Rattle.kq_model.specs.Processes.{Process, is_live}
use Rattle.kq_model.specs.World.{World, Impossible, empty_world}
use Rattle.kq_model.proofs.CountedTables.{without_closed-nothing}
use Rattle.kq_model.proofs.FreePlaces.{held-none}

-- at first there is nothing
counts_nothing : IsCounted (no_objects counted) []
unfolding holders_of times
counts_nothing (named.Socket place) = refl
counts_nothing (named.PipeRead place) = refl
counts_nothing (named.PipeWrite place) = refl
counts_nothing (named.Open place file) = refl
counts_nothing (named.Kqueue place) = refl

pub counted-empty : IsCountedWorld 1 (empty_world counted)
counted-empty = record {
  counts = counts_nothing;
  held = held-none;
  rising = tt;
  owned = All-nil (IsOwned []);
  below = All-nil (NamesBelow 1);
}

pub impossible : (place : ℕ) (w : World counted) (why : Why) → KeepsCounts place w (Impossible why)
impossible place w why = record { keeps = λ c. tt }

-- ---- nothing is opened, closed or noted

pub one_higher : (p n : ℕ) → p < n → p < n + 1
one_higher p n lower = omega arith

pub further : (next : ℕ) (es : List Descriptor) → All (NamesBelow next) es → All (NamesBelow (next + 1)) es
further next es below = All-weaker (NamesBelow next) (NamesBelow (next + 1)) (λ d lower. one_higher (place_named d.named) next lower) es below

-- the processes, which may change, and the clock
pub quiet : (place : ℕ) (w : World counted) (processes : List Process) (now : ℕ)
    → ((pid : ℕ) → is_live pid w.processes ≡ true → is_live pid processes ≡ true) → IsCountedWorld place w
    → IsCountedWorld (place + 1) (record { processes = processes; table = without_closed [] w.table; objects = w.objects; now = now })
quiet place w processes now live c =
    let P : List Descriptor → Type 0 = λ t. IsCountedWorld (place + 1) (record { processes = processes; table = t; objects = w.objects; now = now }) in
    subst P (sym (without_closed-nothing w.table)) (record {
      counts = c.counts;
      held = c.held;
      rising = c.rising;
      owned = All-weaker (IsOwned w.processes) (IsOwned processes) (λ d. live d.pid) w.table c.owned;
      below = further place w.table c.below;
    })

pub same_processes : (place : ℕ) (w : World counted) (now : ℕ) → IsCountedWorld place w
    → IsCountedWorld (place + 1) (record { processes = w.processes; table = without_closed [] w.table; objects = w.objects; now = now })
same_processes place w now = quiet place w w.processes now (λ pid live. live)

pub below-here : (place : ℕ) → place < place + 1
below-here place = omega arith

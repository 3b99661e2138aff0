-- Before the first record: the empty world, of which nothing was seen.
use Rattle.std.proofs.Common.{◌≡◌, ℕ, List, [], ◌∷◌, None, take, refl, sym, ap, subst, ◌∙◌, arith}
use Rattle.std.proofs.lemmas.List.Elements.{All-nil}
use Rattle.kq_model.specs.declared.object.Target.{Target}
use Rattle.kq_model.specs.declared.object.Target.TheVariants.{Socket, Pipe, Open, File, Process, Signal, Own}
use Rattle.kq_model.specs.Descriptors.{named_among}
use Rattle.kq_model.specs.ListedFiles.{AreListed}
use Rattle.kq_model.specs.Moments.{plans_from, world_after, world_at}
use Rattle.kq_model.specs.Objects.{counted, view_of}
use Rattle.kq_model.specs.OwnedRows.{plain_from}
use Rattle.kq_model.specs.Processes.{process_of}
use Rattle.kq_model.specs.World as model
use Rattle.kq_model.specs.World.{empty_world, named_by, process_view, view_in, views_of}
use Rattle.kq_model.proofs.ListedWorld.{listed-empty}
use Rattle.kq_process.specs.declared.world.World.{World}
use Rattle.kq_process.specs.World.{last_of, world_of}
use Rattle.kq_projection.specs.declared.history.seen.Seen.{Seen}
use Rattle.kq_projection.specs.declared.history.timeline.Mark.{Mark}
use Rattle.kq_projection.specs.Keys.{pair_eq, target_key}
use Rattle.kq_projection.specs.Seen.{IsBlank}
use Rattle.kq_projection.specs.Timeline.{value_at, IsUpTo}
use Rattle.kq_projection.specs.Timelines.{marks_at}
use Rattle.kq_projection.specs.Traced.{plain_rows_of}
use Rattle.kq_projection.specs.Tracked.{IsTracked, IsWorldAfter}

no-view : (t : Target) → view_in (empty_world counted) t ≡ None
unfolding view_in view_of process_of process_view
no-view (Socket n) = refl
no-view (Pipe n) = refl
no-view (Open n) = refl
no-view (File n) = refl
no-view (Process n) = refl
no-view (Signal pid n) = refl
no-view Own = refl

pub none-later : {V : Type 0} (ms : List (Mark V)) → ms ≡ [] → IsUpTo 0 ms
none-later ms none = subst (IsUpTo 0) (sym none) (All-nil _)

pub first-world : (version : ℕ) (w : World) → world_of w ≡ empty_world counted → last_of w ≡ 0 → IsWorldAfter (record { version = version; events = [] }) w
unfolding world_after plans_from world_at
first-world version w is none = record {
  world = is;
  last = none;
  listed = subst (λ (x : model.World counted). AreListed x.objects) (sym is) listed-empty;
}

pub first-tracked : (version : ℕ) (w : World) (s : Seen) → world_of w ≡ empty_world counted → last_of w ≡ 0 → IsBlank s → IsTracked (record { version = version; events = [] }) w s
unfolding views_of named_by named_among view_in view_of process_of process_view world_after plans_from world_at
first-tracked version w s is none blank = record {
  after = first-world version w is none;
  shows = record {
    view = λ place t. ap (value_at place None) (blank.views t) ∙ sym (no-view t);
    descriptor = λ place pid number. ap (value_at place None) (blank.numbers (pid, number));
    now = λ place. ap (value_at place 0) blank.clock;
    within = λ place. omega arith;
  };
  up_to = record {
    numbers = λ key. none-later (marks_at pair_eq s.numbers.table key) (blank.numbers key);
    views = λ t. none-later (marks_at target_key s.views.table t) (blank.views t);
    clock = none-later s.clock blank.clock;
  };
}

pub first-plain : (version : ℕ) → [] ≡ plain_rows_of (record { version = version; events = [] })
unfolding plans_from plain_from
first-plain version = refl

-- ---- a part of the records

pub none-taken : {X : Type 0} (xs : List X) → take 0 xs ≡ []
none-taken [] = refl
none-taken (x ∷ xs) = refl

-- What the changes of a kqueue name, refused ones and those that a call did not reach too: a number of the
-- owner, a target as it is at the change's place with the processes that descend from one, the clock.
use Rattle.std.specs.Prelude.{ℕ, ◌==◌, Bool, false, ◌&&◌, ◌||◌, List, [], ◌∷◌, ◌++◌}
use Rattle.std.specs.Prelude.{map, Option, Some, None}
use Rattle.std.specs.Prelude.{if◌then◌else◌}
use Rattle.std.specs.List.{list_any}
use Rattle.kq_model.specs.declared.change.Change.{Change}
use Rattle.kq_model.specs.declared.filter.Filter.{Filter}
use Rattle.kq_model.specs.declared.filter.Filter.TheVariants.{Write}
use Rattle.kq_model.specs.declared.object.Target.{Target}
use Rattle.kq_model.specs.declared.object.Target.TheVariants as target
use Rattle.kq_model.specs.Knote.{watches_number, is_timer}
use Rattle.kq_model.specs.Following.{Fork, forks_in}
use Rattle.kq_model.specs.Moment.{Moment}
use Rattle.kq_model.specs.Targets.{target_of, is_target}
use Rattle.kq_model.specs.Views.{Views}
use Rattle.kq_model.specs.World.{Call}

pub record Reference : Type 0 where
  pub filter : Filter
  pub ident : ℕ
  pub target : Option Target

-- WRITE watches no file
unfoldable pub unless_file : Option Target → Option Target
unless_file (Some (target.Open description)) = None
unless_file found = found

-- the target that a change of this process names; none where its number names nothing that the filter watches
unfoldable pub named_target : Views → ℕ → Filter → ℕ → Option Target
named_target views owner Write ident = unless_file (target_of views owner Write ident)
named_target views owner filter ident = target_of views owner filter ident

abbrev pub reference_of : Views → ℕ → Change → Reference
reference_of views owner c = record {
  filter = c.filter;
  ident = c.ident;
  target = named_target views owner c.filter c.ident;
}

-- of the call of this kqueue, and of no other
unfoldable pub references_in : ℕ → ℕ → Views → Option Call → List Reference
references_in kqueue owner views None = []
references_in kqueue owner views (Some c) =
    if c.kqueue == kqueue then map (reference_of views owner) c.changes else []

unfoldable pub references : ℕ → ℕ → List Moment → List Reference
references kqueue owner [] = []
references kqueue owner (m ∷ ms) = references_in kqueue owner m.views m.call ++ references kqueue owner ms

-- ---- the processes that descend from those that are named

abbrev pub has_pid : ℕ → List ℕ → Bool
has_pid pid pids = list_any (λ p. p == pid) pids

-- with the child of one of them
abbrev pub with_child : Fork → List ℕ → List ℕ
with_child f pids = if has_pid f.parent pids then pids ++ f.child ∷ [] else pids

-- by these forks, one after the other
unfoldable pub descended : List Fork → List ℕ → List ℕ
descended [] pids = pids
descended (f ∷ fs) pids = descended fs (with_child f pids)

-- the forks of possible records
unfoldable pub forks_at : List Moment → List Fork
forks_at [] = []
forks_at (m ∷ ms) = forks_in m.version m.hints ++ forks_at ms

-- a PROC names a process
unfoldable pub pid_of : Option Target → List ℕ
pid_of (Some (target.Process pid)) = pid ∷ []
pid_of _ = []

unfoldable pub pids_in : List Reference → List ℕ
pids_in [] = []
pids_in (r ∷ rs) = pid_of r.target ++ pids_in rs

-- the target is one of these processes
unfoldable pub is_process_of : List ℕ → Target → Bool
is_process_of pids (target.Process pid) = has_pid pid pids
is_process_of pids _ = false

-- ---- what is named, once for the whole trace

pub record Names : Type 0 where
  -- by READ, WRITE or VNODE
  pub number : ℕ → Bool
  -- by a change at its place, or as a process that descends from one that PROC names
  pub target : Target → Bool
  -- whether TIMER is
  pub timer : Bool

abbrev pub names_number : ℕ → Reference → Bool
names_number number r = watches_number r.filter && (r.ident == number)

-- what the references name themselves
abbrev pub named_by : List Reference → Names
named_by rs = record {
  number = λ number. list_any (names_number number) rs;
  target = λ target. list_any (λ r. is_target r.target target) rs;
  timer = list_any (λ r. is_timer r.filter) rs;
}

-- with the processes that descend from these; the forks are those of the whole trace
abbrev pub names_in : List Fork → List Reference → Names
names_in forks rs = record (named_by rs) {
  target = λ target. (named_by rs).target target || is_process_of (descended forks (pids_in rs)) target;
}

-- What a change watches, and the hints that records give for it.
use Rattle.std.specs.Prelude.{ℕ, ◌^◌, Bool, true, false, ◌&&◌, ◌==◌, nat_lt, Option, Some, None}
use Rattle.std.specs.Prelude.{option_and_then}
use Rattle.std.specs.Prelude.{if◌then◌else◌}
use Rattle.std.specs.Option.{option_map}
use Rattle.kq_model.specs.declared.filter.Filter.{Filter}
use Rattle.kq_model.specs.declared.filter.Filter.TheVariants.{Read, Write, Vnode, Proc, Signal, Timer, User}
use Rattle.kq_model.specs.declared.object.Hint.{Hint}
use Rattle.kq_model.specs.declared.object.Named.{Named}
use Rattle.kq_model.specs.declared.object.Named.TheVariants as named
use Rattle.kq_model.specs.declared.object.Target.{Target}
use Rattle.kq_model.specs.declared.object.Target.TheVariants as target
use Rattle.kq_model.specs.Views.{Views}

-- ---- what is watched

-- the number that an ident is: descriptors, pids and signals have 32 bits, and a greater ident is none of them
unfoldable pub number_in : ℕ → Option ℕ
number_in ident = if nat_lt ident (2 ^ 32) then Some ident else None

-- what an ident names in a process
unfoldable pub named_in : Views → ℕ → ℕ → Option Named
named_in views owner ident = option_and_then (views.descriptor owner) (number_in ident)

-- by READ or WRITE of an open number
unfoldable pub object_of : Option Named → Option Target
object_of None = None
object_of (Some (named.Socket place)) = Some (target.Socket place)
object_of (Some (named.PipeRead place)) = Some (target.Pipe place)
object_of (Some (named.PipeWrite place)) = Some (target.Pipe place)
object_of (Some (named.Open description file)) = Some (target.Open description)
object_of (Some (named.Kqueue place)) = None

-- by VNODE of an open number
unfoldable pub file_of : Option Named → Option Target
file_of (Some (named.Open description file)) = Some (target.File file)
file_of _ = None

-- by a change of this filter and ident, made by this process
unfoldable pub target_of : Views → ℕ → Filter → ℕ → Option Target
target_of views owner Read ident = object_of (named_in views owner ident)
target_of views owner Write ident = object_of (named_in views owner ident)
target_of views owner Vnode ident = file_of (named_in views owner ident)
target_of views owner Proc ident = option_map target.Process (number_in ident)
target_of views owner Signal ident = option_map (target.Signal owner) (number_in ident)
target_of views owner Timer ident = Some target.Own
target_of views owner User ident = Some target.Own
target_of views owner _ ident = None

-- ---- hints

-- a hint for the knotes of a target
abbrev pub Posted : Type 0
Posted = Target × Hint

unfoldable pub target_eq : Target → Target → Bool
target_eq (target.Socket a) (target.Socket b) = a == b
target_eq (target.Pipe a) (target.Pipe b) = a == b
target_eq (target.Open a) (target.Open b) = a == b
target_eq (target.File a) (target.File b) = a == b
target_eq (target.Process a) (target.Process b) = a == b
target_eq (target.Signal pid a) (target.Signal other b) = (pid == other) && (a == b)
target_eq target.Own target.Own = true
target_eq _ _ = false

-- the knote watches this target
unfoldable pub is_target : Option Target → Target → Bool
is_target None target = false
is_target (Some watched) target = target_eq watched target

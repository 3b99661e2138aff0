-- How many descriptors name an object, and that the counts which the objects keep are those of the descriptors that
-- there are.
use Rattle.std.specs.Prelude.{◌≡◌, ◌==◌, ◌≤◌, ℕ, ◌+◌, ℤ, pos, Bool, true, false}
use Rattle.std.specs.Prelude.{List, [], ◌∷◌, Option, Some, None, if◌then◌else◌}
use Rattle.kq_model.specs.declared.act.Act.{Act}
use Rattle.kq_model.specs.declared.act.Act.TheVariants as act
use Rattle.kq_model.specs.declared.object.Named.{Named}
use Rattle.kq_model.specs.declared.object.Named.TheVariants as named
use Rattle.kq_model.specs.Files.{DescriptionState, is_description_held}
use Rattle.kq_model.specs.Holding.{hold_doings, release, readers, writers}
use Rattle.kq_model.specs.Objects.{Keeping, Objects, counted, all_done}
use Rattle.kq_model.specs.Pipes.{PipeState, is_pipe_held}
use Rattle.kq_model.specs.Sockets.{SocketState, is_socket_held}

abbrev pub socket_holders : Option SocketState → ℤ
socket_holders None = pos 0
socket_holders (Some s) = s.holders

abbrev pub description_holders : Option DescriptionState → ℤ
description_holders None = pos 0
description_holders (Some s) = s.holders

-- a kqueue is not an object
unfoldable pub holders_of : Named → Objects counted → ℤ
holders_of (named.Socket place) o = socket_holders (o.socket place)
holders_of (named.PipeRead place) o = readers (o.pipe place)
holders_of (named.PipeWrite place) o = writers (o.pipe place)
holders_of (named.Open place number) o = description_holders (o.description place)
holders_of (named.Kqueue place) o = pos 0

unfoldable pub hold : {A B C D : Type 0} {k : Keeping A B C D} → Named → Objects k → Objects k
hold n o = all_done (hold_doings n) o

unfoldable pub all_held : {A B C D : Type 0} {k : Keeping A B C D} → List Named → Objects k → Objects k
all_held [] o = o
all_held (n ∷ ns) o = all_held ns (hold n o)

unfoldable pub all_released : {A B C D : Type 0} {k : Keeping A B C D} → List Named → Objects k → Objects k
all_released [] o = o
all_released (n ∷ ns) o = all_released ns (release n o)

-- whether both name one socket, one end of a pipe or one description; kqueues are not counted
unfoldable pub is_same : Named → Named → Bool
is_same (named.Socket p) (named.Socket q) = p == q
is_same (named.PipeRead p) (named.PipeRead q) = p == q
is_same (named.PipeWrite p) (named.PipeWrite q) = p == q
is_same (named.Open p f) (named.Open q g) = p == q
is_same _ _ = false

unfoldable pub one_if : Bool → ℕ
one_if holds = if holds then 1 else 0

-- how often descriptors name the object
unfoldable pub times : Named → List Named → ℕ
times n [] = 0
times n (m ∷ ms) = times n ms + one_if (is_same n m)

-- the counts of descriptors are those of the descriptors that there are, in whatever order
abbrev pub IsCounted : Objects counted → List Named → Type 0
IsCounted o names = (n : Named) → holders_of n o ≡ pos (times n names)

-- a descriptor among these names the object; of a kqueue nothing is asked
abbrev pub IsNamed : Named → List Named → Type 0
IsNamed (named.Kqueue place) names = Unit {0}
IsNamed n names = 1 ≤ times n names

-- a descriptor names each object that is there, files excepted
pub record AreHeld (o : Objects counted) : Type 0 where
  pub socket : (place : ℕ) (s : SocketState) → o.socket place ≡ Some s → is_socket_held s ≡ true
  pub pipe : (place : ℕ) (s : PipeState) → o.pipe place ≡ Some s → is_pipe_held s ≡ true
  pub description : (place : ℕ) (s : DescriptionState) → o.description place ≡ Some s
      → is_description_held s ≡ true

-- the objects, and ends of a pipe, that the record of a place makes, each named by one descriptor
unfoldable pub made_names : ℕ → Act → List Named
made_names place (act.Socket receive_buffer send_buffer) = named.Socket place ∷ []
made_names place (act.Accept on receive_buffer send_buffer) = named.Socket place ∷ []
made_names place (act.Pipe cap) = named.PipeRead place ∷ named.PipeWrite place ∷ []
made_names place (act.Open number mode) = named.Open place number ∷ []
made_names place _ = []

-- The files as the code keeps them: by their numbers.
use Rattle.std.specs.Prelude.{ℕ, Option, None, Some}
use Rattle.std.specs.Option.{option_map}
use Rattle.kq_model.specs.Files.{FileState}
use Rattle.kq_objects.specs.ByPlace.{object_at}
use Rattle.kq_objects.specs.declared.files.Files.{Files}
use Rattle.kq_objects.specs.Kept.{FileKept}

abbrev pub file_at : Files → ℕ → Option FileState
file_at f number = option_map (λ (kept : FileKept). kept.state) (object_at f.table number)

abbrev pub room_of : Option FileKept → ℕ
room_of None = 0
room_of (Some kept) = kept.room

-- how many more descriptions of a file can be opened without a growth
abbrev pub room_on : ℕ → Files → ℕ
room_on number f = room_of (object_at f.table number)

-- What contracts see of all objects, and what a plan needs to be carried out without memory.
use Rattle.std.specs.Prelude.{◌≡◌, ℕ, ◌+◌, ◌≤◌, List, [], ◌∷◌, Result, Ok, Err, IsOk}
use Rattle.kq_model.specs.declared.doing.Doing.{Doing}
use Rattle.kq_model.specs.declared.doing.Doing.TheVariants.{ToSocket, ToPipe, ToDescription, ToFile}
use Rattle.kq_model.specs.ObjectPlan.{ObjectPlan, Planned}
use Rattle.kq_model.specs.Objects as model
use Rattle.kq_objects.specs.declared.error.PlanError.{PlanError}
use Rattle.kq_objects.specs.declared.error.PlanError.TheVariants as plan_error
use Rattle.kq_objects.specs.declared.objects.Objects.{Objects}
use Rattle.kq_objects.specs.ByPlace.{object_at, room_in}
use Rattle.kq_objects.specs.Files.{file_at, room_on}
use Rattle.kq_objects.specs.Fits.{FitsSocketAt, FitsPipeAt, FitsDescriptionAt, FitsFileAt, made_socket, made_pipe}
use Rattle.kq_objects.specs.Fits.{made_description, made_file, opened_at, IsNote}

-- the quantities of all objects
abbrev pub objects_of : Objects → model.Objects model.counted
objects_of o = record {
  socket = λ place. object_at o.sockets place;
  pipe = λ place. object_at o.pipes place;
  description = λ place. object_at o.descriptions place;
  file = λ number. file_at o.files number;
}

-- ---- amounts that stay within their types

abbrev pub Fits : Doing → model.Objects model.counted → Type 0
Fits (ToSocket place r) o = FitsSocketAt r (o.socket place)
Fits (ToPipe place r) o = FitsPipeAt r (o.pipe place)
Fits (ToDescription place r) o = FitsDescriptionAt r (o.description place)
Fits (ToFile number r) o = FitsFileAt r (o.file number)

-- each fits after those before it
abbrev pub AllFit : List Doing → model.Objects model.counted → Type 0
AllFit [] o = Unit {0}
AllFit (d ∷ ds) o = Fits d o × AllFit ds (model.done d o)

-- ---- room

abbrev pub sockets_made : Doing → ℕ
sockets_made (ToSocket place r) = made_socket r
sockets_made _ = 0

abbrev pub pipes_made : Doing → ℕ
pipes_made (ToPipe place r) = made_pipe r
pipes_made _ = 0

abbrev pub descriptions_made : Doing → ℕ
descriptions_made (ToDescription place r) = made_description r
descriptions_made _ = 0

abbrev pub files_made : Doing → ℕ
files_made (ToFile number r) = made_file r
files_made _ = 0

abbrev pub total_of : (Doing → ℕ) → List Doing → ℕ
total_of count [] = 0
total_of count (d ∷ ds) = count d + total_of count ds

-- descriptions that are opened on this file
abbrev pub opened_in : ℕ → Doing → ℕ
opened_in number (ToFile n r) = opened_at number n r
opened_in number _ = 0

-- how much more can be noted without a growth
pub record Room : Type 0 where
  pub sockets : ℕ
  pub pipes : ℕ
  pub descriptions : ℕ
  pub files : ℕ
  -- descriptions that are opened on the file of a number
  pub on_file : ℕ → ℕ

abbrev pub spare_room : Objects → Room
spare_room o = record {
  sockets = room_in o.sockets;
  pipes = room_in o.pipes;
  descriptions = room_in o.descriptions;
  files = room_in o.files.table;
  on_file = λ number. room_on number o.files;
}

-- nothing has to grow for what is noted
pub record IsRoomFor (ds : List Doing) (room : Room) : Type 0 where
  pub sockets : total_of sockets_made ds ≤ room.sockets
  pub pipes : total_of pipes_made ds ≤ room.pipes
  pub descriptions : total_of descriptions_made ds ≤ room.descriptions
  pub files : total_of files_made ds ≤ room.files
  pub lists : (number : ℕ) → total_of (opened_in number) ds ≤ room.on_file number

-- what is noted can be carried out: amounts stay within their types, and nothing has to grow
pub record IsReady (ds : List Doing) (o : Objects) : Type 0 where
  pub fits : AllFit ds (objects_of o)
  pub room : IsRoomFor ds (spare_room o)

-- ---- what is asked of a plan

-- the plan is the wanted one, and the reason the wanted one; a growth may have been refused, but only where
-- the record is possible
abbrev pub IsPlanned : Result ObjectPlan PlanError → Planned → Type 0
IsPlanned (Ok p) wanted = wanted ≡ Ok p
IsPlanned (Err plan_error.Memory) wanted = IsOk wanted
IsPlanned (Err (plan_error.Why why)) wanted = wanted ≡ Err why

-- only noted of sockets that are there
abbrev pub AreSocketNotes : List Doing → model.Objects model.counted → Type 0
AreSocketNotes (ToSocket place r ∷ []) o = IsNote r (o.socket place)
AreSocketNotes _ o = ⊥

-- All sockets, pipes, open file descriptions and files, by the place of the record that made them or by
-- the file's number; what is noted of them, and what filters see.
-- An object is kept from the record that makes it until its last descriptor is closed, a file for ever.
-- The definitions are generic in how it is kept: `listed` keeps the records, `counted` the quantities.
use Rattle.std.specs.Prelude.{◌≡◌, ◌==◌, ℕ, pos, Bool, true, List, [], ◌∷◌, Option, Some}
use Rattle.std.specs.Prelude.{None, if◌then◌else◌}
use Rattle.std.specs.Option.{option_map}
use Rattle.kq_model.specs.declared.doing.SocketRecord.{SocketRecord}
use Rattle.kq_model.specs.declared.doing.PipeRecord.{PipeRecord}
use Rattle.kq_model.specs.declared.doing.DescriptionRecord.{DescriptionRecord}
use Rattle.kq_model.specs.declared.doing.FileRecord.{FileRecord}
use Rattle.kq_model.specs.declared.doing.Doing.{Doing}
use Rattle.kq_model.specs.declared.doing.Doing.TheVariants.{ToSocket, ToPipe, ToDescription, ToFile}
use Rattle.kq_model.specs.declared.object.Target.{Target}
use Rattle.kq_model.specs.declared.object.Target.TheVariants as target
use Rattle.kq_model.specs.declared.object.View.{View}
use Rattle.kq_model.specs.declared.object.View.TheVariants as view
use Rattle.kq_model.specs.Accounts.{Account}
use Rattle.kq_model.specs.Sockets.{SocketState, socket_state, socket_after, no_socket, is_socket_held, socket_view}
use Rattle.kq_model.specs.Pipes.{PipeState, pipe_state, pipe_after, no_pipe, is_pipe_held, pipe_view}
use Rattle.kq_model.specs.Files.{DescriptionState, description_state, description_after, no_description}
use Rattle.kq_model.specs.Files.{is_description_held, FileState, file_state, file_after, no_file}

-- ---- how objects are kept

pub record Keeping (A B C D : Type 0) : Type 0 where
  pub sockets : Account SocketRecord SocketState A
  pub pipes : Account PipeRecord PipeState B
  pub descriptions : Account DescriptionRecord DescriptionState C
  pub files : Account FileRecord FileState D

-- every record, the latest first
abbrev pub listed : Keeping (List SocketRecord) (List PipeRecord) (List DescriptionRecord) (List FileRecord)
listed = record {
  sockets = record { fresh = []; told = λ r rs. r ∷ rs; quantities = socket_state };
  pipes = record { fresh = []; told = λ r rs. r ∷ rs; quantities = pipe_state };
  descriptions = record { fresh = []; told = λ r rs. r ∷ rs; quantities = description_state };
  files = record { fresh = []; told = λ r rs. r ∷ rs; quantities = file_state };
}

-- the quantities alone
abbrev pub counted : Keeping SocketState PipeState DescriptionState FileState
counted = record {
  sockets = record { fresh = no_socket; told = socket_after; quantities = λ s. s };
  pipes = record { fresh = no_pipe; told = pipe_after; quantities = λ s. s };
  descriptions = record { fresh = no_description; told = description_after; quantities = λ s. s };
  files = record { fresh = no_file; told = file_after; quantities = λ s. s };
}

pub record Objects {A B C D : Type 0} (k : Keeping A B C D) : Type 0 where
  pub socket : ℕ → Option A
  pub pipe : ℕ → Option B
  pub description : ℕ → Option C
  pub file : ℕ → Option D

abbrev pub no_objects : {A B C D : Type 0} (k : Keeping A B C D) → Objects k
no_objects k = record {
  socket = λ place. None;
  pipe = λ place. None;
  description = λ place. None;
  file = λ number. None;
}

-- the quantities of all objects, however they are kept
abbrev pub quantities : {A B C D : Type 0} {k : Keeping A B C D} → Objects k → Objects counted
quantities {k = k} o = record {
  socket = λ place. option_map k.sockets.quantities (o.socket place);
  pipe = λ place. option_map k.pipes.quantities (o.pipe place);
  description = λ place. option_map k.descriptions.quantities (o.description place);
  file = λ number. option_map k.files.quantities (o.file number);
}

-- ---- noting

-- what is kept of an object after one more record, the first one for an object that is not there
abbrev pub told_of : {R Q S : Type 0} → Account R Q S → R → Option S → S
told_of b r None = b.told r b.fresh
told_of b r (Some s) = b.told r s

-- the object, if its quantities say that it is to be kept
abbrev pub kept : {R Q S : Type 0} → Account R Q S → (Q → Bool) → S → Option S
kept b stays s = if stays (b.quantities s) then Some s else None

-- one more record of the object at a place; all others stay as they are
abbrev pub told_at : {R Q S : Type 0} → Account R Q S → (Q → Bool) → ℕ → R → (ℕ → Option S) → ℕ
    → Option S
told_at b stays place r objects p = if place == p then kept b stays (told_of b r (objects p)) else objects p

unfoldable pub done : {A B C D : Type 0} {k : Keeping A B C D} → Doing → Objects k → Objects k
done {k = k} (ToSocket place r) o = record o { socket = told_at k.sockets is_socket_held place r o.socket }
done {k = k} (ToPipe place r) o = record o { pipe = told_at k.pipes is_pipe_held place r o.pipe }
done {k = k} (ToDescription place r) o = record o {
  description = told_at k.descriptions is_description_held place r o.description;
}
done {k = k} (ToFile number r) o = record o { file = told_at k.files (λ s. true) number r o.file }

unfoldable pub all_done : {A B C D : Type 0} {k : Keeping A B C D} → List Doing → Objects k → Objects k
all_done [] o = o
all_done (d ∷ ds) o = all_done ds (done d o)

-- ---- what a filter sees

-- the size of a file; of a file that is not there, 0
abbrev pub size_of : Option FileState → ℕ
size_of None = 0
size_of (Some s) = s.size

unfoldable pub description_view : Objects counted → DescriptionState → View
description_view o s = view.Open (pos (size_of (o.file s.file))) (pos s.offset)

-- None for what was not made or has ended; Process is not an object, and Signal and Own have no view
unfoldable pub view_of : Target → Objects counted → Option View
view_of (target.Socket place) o = option_map socket_view (o.socket place)
view_of (target.Pipe place) o = option_map pipe_view (o.pipe place)
view_of (target.Open place) o = option_map (description_view o) (o.description place)
view_of (target.File number) o = option_map (λ s. view.File) (o.file number)
view_of _ o = None

-- no object is at the place
pub record IsFree (place : ℕ) (o : Objects counted) : Type 0 where
  pub socket : o.socket place ≡ None
  pub pipe : o.pipe place ≡ None
  pub description : o.description place ≡ None

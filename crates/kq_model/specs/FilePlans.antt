-- The plans of the records about files and open file descriptions. `place` is that of the record that
-- opened the file.
-- Source: open(2), read(2), write(2), lseek(2), ftruncate(2), and kqueue(2) for the notes; what is
-- impossible is this project's choice.
use Rattle.std.specs.Prelude.{ℕ, ◌+◌, ◌-◌, ◌==◌, nat_lt, nat_le, ℤ, pos, negsuc, Bool, not}
use Rattle.std.specs.Prelude.{◌&&◌, List, [], ◌∷◌, ◌++◌}
use Rattle.std.specs.Prelude.{map, Option, Some, None, Ok, Err, if◌then◌else◌}
use Rattle.std.specs.Option.{is_some}
use Rattle.kq_model.specs.declared.doing.DescriptionRecord.TheVariants as description
use Rattle.kq_model.specs.declared.doing.Doing.{Doing}
use Rattle.kq_model.specs.declared.doing.Doing.TheVariants.{ToDescription, ToFile}
use Rattle.kq_model.specs.declared.doing.FileRecord.TheVariants as file
use Rattle.kq_model.specs.declared.mode.Mode.{Mode}
use Rattle.kq_model.specs.declared.note.Note.{Note}
use Rattle.kq_model.specs.declared.note.Note.TheVariants as note
use Rattle.kq_model.specs.declared.object.Hint.{Hint}
use Rattle.kq_model.specs.declared.object.Hint.TheVariants as hint
use Rattle.kq_model.specs.declared.object.Named.{Named}
use Rattle.kq_model.specs.declared.object.Named.TheVariants as named
use Rattle.kq_model.specs.declared.object.Target.{Target}
use Rattle.kq_model.specs.declared.object.Target.TheVariants as target
use Rattle.kq_model.specs.declared.why.Why.TheVariants.{WrongKind, Absent, UsedFile, TooMany}
use Rattle.kq_model.specs.Files.{DescriptionState, FileState, may_read, may_write}
use Rattle.kq_model.specs.Limits.{most_file_size}
use Rattle.kq_model.specs.NoteBits.{bit_of, note_write, note_extend, note_attrib, note_open, note_read}
use Rattle.kq_model.specs.ObjectPlan.{Planned}
use Rattle.kq_model.specs.Objects.{Objects, counted, size_of}

-- a size or an offset, if it is within the limits
unfoldable pub file_amount : ℤ → Option ℕ
file_amount (pos n) = if nat_le n most_file_size then Some n else None
file_amount (negsuc n) = None

-- ---- hints

unfoldable pub noted : ℕ → ℕ → Target × Hint
noted number bits = (target.File number, hint.Note bits)

-- the descriptions of a file are readable as far as its size says
abbrev pub readable : ℕ → Target × Hint
readable place = (target.Open place, hint.Readable)

abbrev pub readable_each : List ℕ → List (Target × Hint)
readable_each places = map readable places

-- NOTE_EXTEND comes with the bits where the file grows
unfoldable pub extending : ℕ → Bool → ℕ
extending bits grows = if grows then bits + note_extend else bits

-- ---- on a file by its number

unfoldable pub made_file : ℕ → Option ℕ → Planned
made_file number None = Err TooMany
made_file number (Some size) = Ok (record { doings = ToFile number (file.Made size) ∷ []; hints = [] })

unfoldable pub plan_file : ℕ → ℤ → Objects counted → Planned
plan_file number size o = if is_some (o.file number) then Err UsedFile else made_file number (file_amount size)

-- a file that is there and not deleted
unfoldable pub present : Option FileState → Option FileState
present None = None
present (Some s) = if s.deleted then None else Some s

unfoldable pub opened : ℕ → ℕ → Mode → Option FileState → Planned
opened place number mode None = Err Absent
opened place number mode (Some s) = Ok (record {
  doings = ToDescription place (description.Opened number mode) ∷ ToFile number (file.Opened place) ∷ [];
  hints = noted number note_open ∷ [];
})

unfoldable pub plan_open : ℕ → ℕ → Mode → Objects counted → Planned
plan_open place number mode o = opened place number mode (present (o.file number))

unfoldable pub sized : ℕ → FileState → Option ℕ → Planned
sized number s None = Err TooMany
sized number s (Some size) = Ok (record {
  doings = ToFile number (file.Sized size) ∷ [];
  hints = readable_each s.descriptions ++ noted number (extending note_attrib (nat_lt s.size size)) ∷ [];
})

unfoldable pub truncated : ℕ → ℤ → Option FileState → Planned
truncated number size None = Err Absent
truncated number size (Some s) = sized number s (file_amount size)

unfoldable pub plan_truncate : ℕ → ℤ → Objects counted → Planned
plan_truncate number size o = truncated number size (present (o.file number))

unfoldable pub deletion : ℕ → Note → List Doing
deletion number note.Delete = ToFile number file.Deleted ∷ []
deletion number _ = []

unfoldable pub said : ℕ → Note → Option FileState → Planned
said number what None = Err Absent
said number what (Some s) = Ok (record { doings = deletion number what; hints = noted number (bit_of what) ∷ [] })

unfoldable pub plan_note : ℕ → Note → Objects counted → Planned
plan_note number what o = said number what (present (o.file number))

-- ---- on an open file description

unfoldable pub sought : ℕ → Option ℕ → Planned
sought place None = Err TooMany
sought place (Some offset) = Ok (record {
  doings = ToDescription place (description.Sought offset) ∷ [];
  hints = readable place ∷ [];
})

unfoldable pub sought_in : ℕ → ℤ → Option DescriptionState → Planned
sought_in place offset None = Err WrongKind
sought_in place offset (Some s) = sought place (file_amount offset)

unfoldable pub plan_seek : Named → ℤ → Objects counted → Planned
plan_seek (named.Open place number) offset o = sought_in place offset (o.description place)
plan_seek _ offset o = Err WrongKind

-- past the end there is nothing to read
unfoldable pub read_file : ℕ → ℕ → Option DescriptionState → Objects counted → Planned
read_file place bytes None o = Err WrongKind
read_file place bytes (Some s) o =
    if not (may_read s.mode) then Err WrongKind
    else if nat_lt (size_of (o.file s.file) - s.offset) bytes then Err TooMany
    else Ok (record {
      doings = ToDescription place (description.Moved bytes) ∷ [];
      hints = noted s.file note_read ∷ [];
    })

-- a write of nothing leaves the size as it is
unfoldable pub reached : ℕ → ℕ → ℕ → List Doing
reached number bytes end = if bytes == 0 then [] else ToFile number (file.Reached end) ∷ []

-- whether a write of so many bytes up to this end makes the file greater
unfoldable pub grows : ℕ → ℕ → ℕ → Bool
grows size bytes end = not (bytes == 0) && nat_lt size end

unfoldable pub written : ℕ → ℕ → DescriptionState → Option FileState → Planned
written place bytes s None = Err WrongKind
written place bytes s (Some f) = Ok (record {
  doings = ToDescription place (description.Moved bytes) ∷ reached s.file bytes (s.offset + bytes);
  hints = readable_each f.descriptions
      ++ noted s.file (extending note_write (grows f.size bytes (s.offset + bytes))) ∷ [];
})

-- (the file of a description is always there)
unfoldable pub write_file : ℕ → ℕ → Option DescriptionState → Objects counted → Planned
write_file place bytes None o = Err WrongKind
write_file place bytes (Some s) o =
    if not (may_write s.mode) then Err WrongKind
    else if nat_lt most_file_size (s.offset + bytes) then Err TooMany
    else written place bytes s (o.file s.file)

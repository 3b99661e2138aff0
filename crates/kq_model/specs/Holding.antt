-- Descriptors and the objects that they name: what happens when one more names an object or one no longer
-- does. The last one that no longer names it ends the object, or its end of a pipe.
-- Source: dup(2), close(2), fork(2); NOTE_CLOSE and NOTE_CLOSE_WRITE of kqueue(2).
use Rattle.std.specs.Prelude.{ℕ, ℤ, pos, int_le, Bool}
use Rattle.std.specs.Prelude.{List, [], ◌∷◌, ◌++◌, Option}
use Rattle.std.specs.Prelude.{Some, None, if◌then◌else◌}
use Rattle.kq_model.specs.declared.doing.DescriptionRecord.TheVariants as description
use Rattle.kq_model.specs.declared.doing.Doing.{Doing}
use Rattle.kq_model.specs.declared.doing.Doing.TheVariants.{ToSocket, ToPipe, ToDescription, ToFile}
use Rattle.kq_model.specs.declared.doing.FileRecord.TheVariants as file
use Rattle.kq_model.specs.declared.doing.PipeRecord.TheVariants as pipe
use Rattle.kq_model.specs.declared.doing.SocketRecord.TheVariants as socket
use Rattle.kq_model.specs.declared.object.Hint.{Hint}
use Rattle.kq_model.specs.declared.object.Hint.TheVariants as hint
use Rattle.kq_model.specs.declared.object.Named.{Named}
use Rattle.kq_model.specs.declared.object.Named.TheVariants as named
use Rattle.kq_model.specs.declared.object.Target.{Target}
use Rattle.kq_model.specs.declared.object.Target.TheVariants as target
use Rattle.kq_model.specs.declared.side.Side.TheVariants as side
use Rattle.kq_model.specs.Files.{DescriptionState, FileState, may_write}
use Rattle.kq_model.specs.NoteBits.{note_close, note_close_write}
use Rattle.kq_model.specs.Objects.{Keeping, Objects, counted, quantities, all_done}
use Rattle.kq_model.specs.Pipes.{PipeState}

-- ---- how many descriptors name an end of a pipe

abbrev pub readers : Option PipeState → ℤ
readers None = pos 0
readers (Some s) = s.readers

abbrev pub writers : Option PipeState → ℤ
writers None = pos 0
writers (Some s) = s.writers

-- ---- one more descriptor

unfoldable pub hold_doings : Named → List Doing
hold_doings (named.Socket place) = ToSocket place socket.Held ∷ []
hold_doings (named.PipeRead place) = ToPipe place (pipe.Held side.Read) ∷ []
hold_doings (named.PipeWrite place) = ToPipe place (pipe.Held side.Write) ∷ []
hold_doings (named.Open place number) = ToDescription place description.Held ∷ []
hold_doings (named.Kqueue place) = []

-- ---- one descriptor less

-- the last of so many
abbrev pub is_last : ℤ → Bool
is_last holders = int_le holders (pos 1)

unfoldable pub leaving : ℕ → ℕ → Option FileState → List Doing
leaving place number None = []
leaving place number (Some f) = ToFile number (file.Left place) ∷ []

-- its file no longer has the description, where the last descriptor goes
unfoldable pub left : ℕ → Option DescriptionState → Objects counted → List Doing
left place None o = []
left place (Some s) o = if is_last s.holders then leaving place s.file (o.file s.file) else []

unfoldable pub release_doings : Named → Objects counted → List Doing
release_doings (named.Socket place) o = ToSocket place socket.Released ∷ []
release_doings (named.PipeRead place) o = ToPipe place (pipe.Released side.Read) ∷ []
release_doings (named.PipeWrite place) o = ToPipe place (pipe.Released side.Write) ∷ []
release_doings (named.Open place number) o =
    ToDescription place description.Released ∷ left place (o.description place) o
release_doings (named.Kqueue place) o = []

unfoldable pub release : {A B C D : Type 0} {k : Keeping A B C D} → Named → Objects k → Objects k
release n o = all_done (release_doings n (quantities o)) o

-- what the knotes of a file hear of the end of a description
unfoldable pub close_hint : Option DescriptionState → Option (Target × Hint)
close_hint None = None
close_hint (Some s) =
    if is_last s.holders
    then Some (target.File s.file, hint.Note (if may_write s.mode then note_close_write else note_close))
    else None

unfoldable pub end_hint : ℕ → Hint → ℤ → Option (Target × Hint)
end_hint place hint holders = if is_last holders then Some (target.Pipe place, hint) else None

-- the hint of a last descriptor that goes; `o` is before it goes
unfoldable pub release_hint : Named → Objects counted → Option (Target × Hint)
release_hint (named.Socket place) o = None
release_hint (named.PipeRead place) o = end_hint place hint.Writable (readers (o.pipe place))
release_hint (named.PipeWrite place) o = end_hint place hint.Readable (writers (o.pipe place))
release_hint (named.Open place number) o = close_hint (o.description place)
release_hint (named.Kqueue place) o = None

-- ---- many descriptors, one after the other

-- what is noted of the objects, where each descriptor is released after the one before it
unfoldable pub release_all : List Named → Objects counted → List Doing
release_all [] o = []
release_all (n ∷ ns) o = release_doings n o ++ release_all ns (release n o)

unfoldable pub option_list : Option (Target × Hint) → List (Target × Hint)
option_list None = []
option_list (Some x) = x ∷ []

unfoldable pub release_hints : List Named → Objects counted → List (Target × Hint)
release_hints [] o = []
release_hints (n ∷ ns) o = option_list (release_hint n o) ++ release_hints ns (release n o)

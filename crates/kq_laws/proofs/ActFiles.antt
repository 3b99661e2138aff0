-- The plan of each record about files, and so that of each record about objects, tells of each condition that it makes hold.
use Rattle.std.proofs.Common.{◌≡◌, ℕ, ◌+◌, ◌-◌, ◌==◌, nat_lt, ℤ, Bool, true, false, not, ◌&&◌, ◌||◌, eqb-true, List, [], ◌∷◌, ◌++◌, Option, Some, None, Ok, Err, option_map, refl, sym, ap, ◌∙◌, if◌then◌else◌}
use Rattle.std.proofs.lemmas.Bool.{true≢false, cond_both}
use Rattle.std.proofs.lemmas.Option.{none-some}
use Rattle.std.specs.List.{list_any}
use Rattle.std.specs.Option.{is_some}
use Rattle.kq_model.specs.declared.act.Act.{Act}
use Rattle.kq_model.specs.declared.act.Act.TheVariants as act
use Rattle.kq_model.specs.declared.doing.DescriptionRecord.{DescriptionRecord}
use Rattle.kq_model.specs.declared.doing.DescriptionRecord.TheVariants as description
use Rattle.kq_model.specs.declared.doing.Doing.{Doing}
use Rattle.kq_model.specs.declared.doing.Doing.TheVariants.{ToDescription, ToFile}
use Rattle.kq_model.specs.declared.doing.FileRecord.{FileRecord}
use Rattle.kq_model.specs.declared.doing.FileRecord.TheVariants as file
use Rattle.kq_model.specs.declared.mode.Mode.{Mode}
use Rattle.kq_model.specs.declared.note.Note.{Note}
use Rattle.kq_model.specs.declared.note.Note.TheVariants as note
use Rattle.kq_model.specs.declared.object.Named.{Named}
use Rattle.kq_model.specs.declared.object.Named.TheVariants as named
use Rattle.kq_model.specs.declared.object.Target.{Target}
use Rattle.kq_model.specs.declared.object.Target.TheVariants.{Socket, Pipe, Open, File, Process, Signal, Own}
use Rattle.kq_model.specs.declared.side.Side.TheVariants.{Read, Write}
use Rattle.kq_model.specs.declared.why.Why.TheVariants.{WrongKind, UsedFile, TooMany}
use Rattle.kq_model.specs.FilePlans as file_plans
use Rattle.kq_model.specs.Files.{DescriptionState, FileState, description_after, may_read, may_write}
use Rattle.kq_model.specs.Hints.{takes}
use Rattle.kq_model.specs.Limits.{most_file_size}
use Rattle.kq_model.specs.ListedFiles.{is_listed, AreListed}
use Rattle.kq_model.specs.NoteBits.{bit_of, note_read, note_attrib, note_write}
use Rattle.kq_model.specs.ObjectPlan.{Planned}
use Rattle.kq_model.specs.Objects.{Objects, counted, done, all_done, size_of, description_view, view_of, IsFree}
use Rattle.kq_model.specs.PipeSteps as pipe_steps
use Rattle.kq_model.specs.Planning.{plan, plan_read, plan_write}
use Rattle.kq_model.specs.SocketSteps as steps
use Rattle.kq_model.specs.Targets.{Posted}
use Rattle.kq_model.specs.Touching.{touches, touched_by}
use Rattle.kq_model.proofs.KnoteLaws.{by_test}
use Rattle.kq_model.proofs.ListedObjects.{touches-listed}
use Rattle.kq_model.proofs.SameTarget.{target_eq-refl}
use Rattle.kq_laws.proofs.Amounts.{apart-before}
use Rattle.kq_laws.proofs.ActWakes.{AreCalm, TellsAll, tells-unless, here-tells, made-tells, accept-tells, made_pipe-tells, at_pipe-tells, at_socket-tells}
use Rattle.kq_laws.proofs.FileWakes.{TellsMove, description-tells, description-target, file-tells, is_of_file, listed-told, same-size}
use Rattle.kq_laws.proofs.ObjectWakes.{Tells, by-touch, touched-one}
use Rattle.kq_laws.proofs.PipeWakes as pipe_wakes
use Rattle.kq_laws.proofs.Shown.{is_told}
use Rattle.kq_laws.proofs.SocketWakes as socket_wakes

-- ---- which targets a record of a file and one of a description touch

others-file : (o : Objects counted) (n : ℕ) (r : FileRecord) (t : Target) → is_of_file t ≡ false → touched_by t (ToFile n r ∷ []) o ≡ false
unfolding touched_by touches
others-file o n r (Open p) other = absurd (true≢false other)
others-file o n r (File m) other = absurd (true≢false other)
others-file o n r (Socket p) other = refl
others-file o n r (Pipe p) other = refl
others-file o n r (Process pid) other = refl
others-file o n r (Signal pid signal) other = refl
others-file o n r Own other = refl

others-moved : (o : Objects counted) (p : ℕ) (r : DescriptionRecord) (ds : List Doing) → ((t : Target) → is_of_file t ≡ false → touched_by t ds o ≡ false)
    → (t : Target) → is_of_file t ≡ false → touched_by t (ToDescription p r ∷ ds) o ≡ false
unfolding touched_by touches
others-moved o p r ds apart (Open q) other = absurd (true≢false other)
others-moved o p r ds apart (File m) other = absurd (true≢false other)
others-moved o p r ds apart (Socket q) other = apart (Socket q) other
others-moved o p r ds apart (Pipe q) other = apart (Pipe q) other
others-moved o p r ds apart (Process pid) other = apart (Process pid) other
others-moved o p r ds apart (Signal pid signal) other = apart (Signal pid signal) other
others-moved o p r ds apart Own other = apart Own other

-- ---- files by their numbers

present-there : (x : Option FileState) (f : FileState) → file_plans.present x ≡ Some f → x ≡ Some f
unfolding file_plans.present
present-there None f e = absurd (none-some f e)
present-there (Some s) f e =
    by_test (λ b. (if b then None else Some s) ≡ Some f → Some s ≡ Some f) s.deleted (λ _ none. absurd (none-some f none)) (λ _ same. same) e

module _ (o : Objects counted) (l : AreListed o) where
  module _ (number : ℕ) where
    made_file-tells : o.file number ≡ None → (size : Option ℕ) → TellsAll o (file_plans.made_file number size)
    unfolding file_plans.made_file
    made_file-tells none None = tt
    made_file-tells none (Some size) = λ t _. file-tells o (ToFile number (file.Made size) ∷ []) []
        (λ p touched. absurd (true≢false (sym (touches-listed o p number (file.Made size) l (touched-one (Open p) (ToFile number (file.Made size)) o touched))
        ∙ ap (is_listed p) none)))
        (others-file o number (file.Made size)) t

    no_file : (x : Option FileState) → is_some x ≡ false → x ≡ None
    no_file None e = refl
    no_file (Some f) e = absurd (true≢false e)

    plan_file-tells : (size : ℤ) → TellsAll o (file_plans.plan_file number size o)
    unfolding file_plans.plan_file
    plan_file-tells size =
        tells-unless o (is_some (o.file number)) UsedFile (file_plans.made_file number (file_plans.file_amount size))
        (λ new. made_file-tells (no_file (o.file number) new) (file_plans.file_amount size))

    sized-tells : (f : FileState) → o.file number ≡ Some f → (size : Option ℕ) → TellsAll o (file_plans.sized number f size)
    unfolding file_plans.sized
    sized-tells f there None = tt
    sized-tells f there (Some size) = λ t _.
        let rest = file_plans.noted number (file_plans.extending note_attrib (nat_lt f.size size)) ∷ [] in
        file-tells o (ToFile number (file.Sized size) ∷ []) (file_plans.readable_each f.descriptions ++ rest)
        (λ p touched. listed-told p f.descriptions rest (sym (ap (is_listed p) there)
        ∙ touches-listed o p number (file.Sized size) l (touched-one (Open p) (ToFile number (file.Sized size)) o touched)))
        (others-file o number (file.Sized size)) t

    truncated-tells : (size : ℤ) (x : Option FileState) → ((f : FileState) → x ≡ Some f → o.file number ≡ Some f)
        → TellsAll o (file_plans.truncated number size x)
    unfolding file_plans.truncated
    truncated-tells size None there = tt
    truncated-tells size (Some f) there = sized-tells f (there f refl) (file_plans.file_amount size)

    truncate-tells : (size : ℤ) → TellsAll o (file_plans.plan_truncate number size o)
    unfolding file_plans.plan_truncate
    truncate-tells size = truncated-tells size (file_plans.present (o.file number)) (λ f. present-there (o.file number) f)

    deletion-tells : (what : Note) (posted : List Posted) (t : Target) → Tells o (file_plans.deletion number what) posted t
    unfolding file_plans.deletion all_done
    deletion-tells note.Delete posted t side mark quiet e = sym (same-size number file.Deleted o (λ old. refl) t side mark) ∙ e
    deletion-tells note.Attrib posted t side mark quiet e = e
    deletion-tells note.Link posted t side mark quiet e = e
    deletion-tells note.Rename posted t side mark quiet e = e
    deletion-tells note.Revoke posted t side mark quiet e = e

    said-tells : (what : Note) (x : Option FileState) → TellsAll o (file_plans.said number what x)
    unfolding file_plans.said
    said-tells what None = tt
    said-tells what (Some f) = λ t _. deletion-tells what (file_plans.noted number (bit_of what) ∷ []) t

  -- ---- a description that is opened

  opened-tells : (place number : ℕ) (mode : Mode) → IsFree place o → (x : Option FileState) → TellsAll o (file_plans.opened place number mode x)
  unfolding file_plans.opened all_done view_of
  opened-tells place number mode free None = tt
  opened-tells place number mode free (Some f) = λ t there side mark quiet e.
      let d = ToDescription place (description.Opened number mode) in
      by-touch o (d ∷ []) [] t
      (λ touched. absurd (true≢false (sym there
      ∙ ap (λ x. is_some (view_of x o)) (description-target t place (description.Opened number mode) o (touched-one t d o touched))
      ∙ ap (λ x. is_some (option_map (description_view o) x)) free.description)))
      side mark refl (sym (same-size number (file.Opened place) (done d o) (λ old. refl) t side mark) ∙ e)

  -- ---- on a description that is open

  told-here : (place : ℕ) → is_told Read (Open place) (file_plans.readable place ∷ []) ≡ true
  unfolding takes
  told-here place = ap (λ b. (b && true) || false) (target_eq-refl (Open place))

  module _ (place : ℕ) where
    sought-tells : (s : DescriptionState) → o.description place ≡ Some s → (offset : Option ℕ) → TellsAll o (file_plans.sought place offset)
    unfolding file_plans.sought description_after
    sought-tells s there None = tt
    sought-tells s there (Some offset) = λ t _.
        description-tells o place (description.Sought offset) (file_plans.readable place ∷ []) s there refl tells t
      where
        tells : TellsMove o place s (description.Sought offset) (file_plans.readable place ∷ [])
        tells Read quiet e = absurd (true≢false (sym (told-here place) ∙ quiet))
        tells Write quiet e = e

    sought_in-tells : (offset : ℤ) (x : Option DescriptionState) → o.description place ≡ x → TellsAll o (file_plans.sought_in place offset x)
    unfolding file_plans.sought_in
    sought_in-tells offset None none = tt
    sought_in-tells offset (Some s) there = sought-tells s there (file_plans.file_amount offset)

    read_file-tells : (bytes : ℕ) (x : Option DescriptionState) → o.description place ≡ x → TellsAll o (file_plans.read_file place bytes x o)
    unfolding file_plans.read_file description_after
    read_file-tells bytes None none = tt
    read_file-tells bytes (Some s) there =
        let posted : List Posted = file_plans.noted s.file note_read ∷ [] in
        let reads : Planned = Ok (record { doings = ToDescription place (description.Moved bytes) ∷ []; hints = posted }) in
        let over : Bool = nat_lt (size_of (o.file s.file) - s.offset) bytes in
        tells-unless o (not (may_read s.mode)) WrongKind (if over then Err TooMany else reads)
        (λ _. tells-unless o over TooMany reads
        (λ within t _. description-tells o place (description.Moved bytes) posted s there refl (tells posted within) t))
      where
        tells : (posted : List Posted) → nat_lt (size_of (o.file s.file) - s.offset) bytes ≡ false → TellsMove o place s (description.Moved bytes) posted
        tells posted within Read quiet e = apart-before (size_of (o.file s.file)) s.offset bytes within e
        tells posted within Write quiet e = e

    module _ (bytes : ℕ) (s : DescriptionState) (there : o.description place ≡ Some s) (f : FileState) (has : o.file s.file ≡ Some f) where
      abbrev move : Doing
      move = ToDescription place (description.Moved bytes)

      -- itself, and each other that the file's record touches
      listing : (ds : List Doing) → ((p : ℕ) → touched_by (Open p) ds o ≡ true → is_listed p (o.file s.file) ≡ true)
          → (p : ℕ) → touched_by (Open p) (move ∷ ds) o ≡ true → list_any (λ q. q == p) f.descriptions ≡ true
      unfolding touched_by touches
      listing ds later p touched =
          sym (ap (is_listed p) has)
          ∙ by_test (λ b. (place == p) ≡ b → (b || touched_by (Open p) ds o) ≡ true → is_listed p (o.file s.file) ≡ true) (place == p)
          (λ _ here _. sym (ap (λ q. is_listed q (o.file s.file)) (eqb-true place p here)) ∙ l.listed place s there)
          (λ _ _ rest. later p rest) refl touched

      moved-tells : (ds : List Doing) → ((p : ℕ) → touched_by (Open p) ds o ≡ true → is_listed p (o.file s.file) ≡ true)
          → ((t : Target) → is_of_file t ≡ false → touched_by t ds o ≡ false) → (rest : List Posted)
          → (t : Target) → Tells o (move ∷ ds) (file_plans.readable_each f.descriptions ++ rest) t
      moved-tells ds later apart rest =
          file-tells o (move ∷ ds) (file_plans.readable_each f.descriptions ++ rest)
          (λ p touched. listed-told p f.descriptions rest (listing ds later p touched))
          (others-moved o place (description.Moved bytes) ds apart)

      reached-tells : (end : ℕ) (rest : List Posted) (t : Target)
          → Tells o (move ∷ file_plans.reached s.file bytes end) (file_plans.readable_each f.descriptions ++ rest) t
      unfolding file_plans.reached touched_by
      reached-tells end rest t =
          let d = ToFile s.file (file.Reached end) in
          cond_both (bytes == 0) [] (d ∷ []) (λ ds. Tells o (move ∷ ds) (file_plans.readable_each f.descriptions ++ rest) t)
          (λ _. moved-tells [] (λ p touched. absurd (true≢false (sym touched))) (λ _ _. refl) rest t)
          (λ _. moved-tells (d ∷ []) (λ p touched. touches-listed o p s.file (file.Reached end) l (touched-one (Open p) d o touched))
          (others-file o s.file (file.Reached end)) rest t)

    written-tells : (bytes : ℕ) (s : DescriptionState) → o.description place ≡ Some s → (x : Option FileState) → o.file s.file ≡ x
        → TellsAll o (file_plans.written place bytes s x)
    unfolding file_plans.written
    written-tells bytes s there None none = tt
    written-tells bytes s there (Some f) has = λ t _.
        reached-tells bytes s there f has (s.offset + bytes)
        (file_plans.noted s.file (file_plans.extending note_write (file_plans.grows f.size bytes (s.offset + bytes))) ∷ []) t

    write_file-tells : (bytes : ℕ) (x : Option DescriptionState) → o.description place ≡ x → TellsAll o (file_plans.write_file place bytes x o)
    unfolding file_plans.write_file
    write_file-tells bytes None none = tt
    write_file-tells bytes (Some s) there =
        let writes : Planned = file_plans.written place bytes s (o.file s.file) in
        let over : Bool = nat_lt most_file_size (s.offset + bytes) in
        tells-unless o (not (may_write s.mode)) WrongKind (if over then Err TooMany else writes)
        (λ _. tells-unless o over TooMany writes (λ _. written-tells bytes s there (o.file s.file) refl))

  -- ---- any record about objects

  seek-tells : (on : Named) (offset : ℤ) → TellsAll o (file_plans.plan_seek on offset o)
  unfolding file_plans.plan_seek
  seek-tells (named.Open place number) offset = sought_in-tells place offset (o.description place) refl
  seek-tells (named.Socket place) offset = tt
  seek-tells (named.PipeRead place) offset = tt
  seek-tells (named.PipeWrite place) offset = tt
  seek-tells (named.Kqueue place) offset = tt

  read-tells : (on : Named) (bytes : ℕ) → TellsAll o (plan_read on bytes o)
  unfolding plan_read
  read-tells (named.Socket place) bytes = here-tells o (steps.read_socket bytes) (λ s. socket_wakes.read-tells s bytes) (named.Socket place)
  read-tells (named.PipeRead place) bytes = at_pipe-tells o (pipe_steps.read_pipe bytes) (λ s. pipe_wakes.read-tells s bytes) place (o.pipe place) refl
  read-tells (named.Open place number) bytes = read_file-tells place bytes (o.description place) refl
  read-tells (named.PipeWrite place) bytes = tt
  read-tells (named.Kqueue place) bytes = tt

  write-tells : (on : Named) (bytes : ℕ) → TellsAll o (plan_write on bytes o)
  unfolding plan_write
  write-tells (named.Socket place) bytes = here-tells o (steps.write_socket bytes) (λ s. socket_wakes.write-tells s bytes) (named.Socket place)
  write-tells (named.PipeWrite place) bytes = at_pipe-tells o (pipe_steps.write_pipe bytes) (λ s. pipe_wakes.write-tells s bytes) place (o.pipe place) refl
  write-tells (named.Open place number) bytes = write_file-tells place bytes (o.description place) refl
  write-tells (named.PipeRead place) bytes = tt
  write-tells (named.Kqueue place) bytes = tt

  module _ (calm : AreCalm o) (place : ℕ) (free : IsFree place o) where
    pub act-tells : (a : Act) → TellsAll o (plan place a o)
    unfolding plan file_plans.plan_open file_plans.plan_note
    act-tells (act.Socket receive send) = made-tells o place free receive send
    act-tells (act.Listen on backlog) =
        at_socket-tells o o (λ q s there. there) (steps.listen backlog) (λ q s there. socket_wakes.listen-tells s backlog (calm.calm q s there)) on
    act-tells (act.Arrive on) = here-tells o steps.arrive socket_wakes.arrive-tells on
    act-tells (act.Accept on receive send) = accept-tells o place free receive send on
    act-tells (act.Connect on) = here-tells o steps.connect socket_wakes.connect-tells on
    act-tells (act.Receive on bytes) = here-tells o (steps.receive bytes) (λ s. socket_wakes.receive-tells s bytes) on
    act-tells (act.Transmit on bytes) = here-tells o (steps.transmit bytes) (λ s. socket_wakes.transmit-tells s bytes) on
    act-tells (act.Shut on side error) = here-tells o (steps.shut side error) (λ s. socket_wakes.shut-tells s side error) on
    act-tells (act.LowWater on side mark) = here-tells o (steps.low_water side mark) (λ s. socket_wakes.low_water-tells s side mark) on
    act-tells (act.Pipe size) = made_pipe-tells o place free size
    act-tells (act.Read on bytes) = read-tells on bytes
    act-tells (act.Write on bytes) = write-tells on bytes
    act-tells (act.File number size) = plan_file-tells number size
    act-tells (act.Open number mode) = opened-tells place number mode free (file_plans.present (o.file number))
    act-tells (act.Seek on offset) = seek-tells on offset
    act-tells (act.Truncate number size) = truncate-tells number size
    act-tells (act.Note number what) = said-tells number what (file_plans.present (o.file number))

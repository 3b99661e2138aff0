-- The plan of each record about objects: its hints, and what the record names, account for all that it does.
use Rattle.std.proofs.Common.{◌≡◌, ◌∙◌, ◌==◌, ◌+◌, ◌-◌, not, nat_lt, ◌&&◌, ◌||◌, ℕ, ℤ, Bool, true, false, cond, List, [], ◌∷◌, ◌++◌, Option, None, Some, Ok, Err, refl, sym, ap}
use Rattle.std.specs.Prelude.{All}
use Rattle.std.specs.List.{list_any}
use Rattle.std.specs.Option.{is_some}
use Rattle.std.proofs.lemmas.Bool.{eqb-true, true≢false}
use Rattle.std.proofs.lemmas.List.Elements.{All-nil, All-cons, All-head, All-tail}
use Rattle.kq_model.specs.declared.act.Act.{Act}
use Rattle.kq_model.specs.declared.act.Act.TheVariants as act
use Rattle.kq_model.specs.declared.doing.DescriptionRecord.TheVariants as description
use Rattle.kq_model.specs.declared.doing.Doing.{Doing}
use Rattle.kq_model.specs.declared.doing.Doing.TheVariants.{ToSocket, ToPipe, ToDescription, ToFile}
use Rattle.kq_model.specs.declared.doing.FileRecord.TheVariants as file
use Rattle.kq_model.specs.declared.mode.Mode.{Mode}
use Rattle.kq_model.specs.declared.note.Note.{Note}
use Rattle.kq_model.specs.declared.note.Note.TheVariants as note
use Rattle.kq_model.specs.declared.object.Named.{Named}
use Rattle.kq_model.specs.declared.object.Named.TheVariants as named
use Rattle.kq_model.specs.declared.object.Target.{Target}
use Rattle.kq_model.specs.declared.object.Target.TheVariants as target
use Rattle.kq_model.specs.declared.why.Why.{Why}
use Rattle.kq_model.specs.declared.why.Why.TheVariants.{WrongKind, TooMany, UsedFile}
use Rattle.kq_model.specs.FilePlans.{file_amount, made_file, noted, opened, plan_file, plan_note, plan_open, plan_seek, plan_truncate, present, read_file, readable_each, reached, said, deletion, sized, sought, sought_in, truncated, write_file, written}
use Rattle.kq_model.specs.Files.{DescriptionState, FileState, may_read, may_write}
use Rattle.kq_model.specs.Limits.{most_file_size}
use Rattle.kq_model.specs.ListedFiles.{is_listed}
use Rattle.kq_model.specs.ObjectPlan.{Planned}
use Rattle.kq_model.specs.Objects.{Objects, counted, size_of}
use Rattle.kq_model.specs.PipePlans.{pipe_plan, plan_at_pipe, plan_pipe}
use Rattle.kq_model.specs.PipeSteps.{PipeStep, read_pipe, write_pipe}
use Rattle.kq_model.specs.Pipes.{PipeState}
use Rattle.kq_model.specs.Planning.{plan, plan_read, plan_write}
use Rattle.kq_model.specs.SocketPlans.{accepted, plan_accept, plan_at_socket, plan_socket, socket_at, socket_found, socket_plan, step_of}
use Rattle.kq_model.specs.SocketSteps.{SocketStep, accept, arrive, connect, is_capacity, listen, low_water, read_socket, receive, shut, transmit, write_socket}
use Rattle.kq_model.specs.Sockets.{SocketState}
use Rattle.kq_model.specs.Targets.{Posted}
use Rattle.kq_model.proofs.KnoteLaws.{by_test}
use Rattle.kq_projection.specs.Accounts.{Accounts, resizes}
use Rattle.kq_projection.specs.Touched.{targets_named, told_targets}

-- what the record names: the object that its descriptor names, that which it makes, the file
abbrev pub act_targets : ℕ → Act → List Target
act_targets place (act.Socket receive_buffer send_buffer) = targets_named (Some (named.Socket place))
act_targets place (act.Listen on backlog) = targets_named (Some on)
act_targets place (act.Arrive on) = targets_named (Some on)
act_targets place (act.Accept on receive_buffer send_buffer) = target.Socket place ∷ targets_named (Some on)
act_targets place (act.Connect on) = targets_named (Some on)
act_targets place (act.Receive on bytes) = targets_named (Some on)
act_targets place (act.Transmit on bytes) = targets_named (Some on)
act_targets place (act.Shut on side error) = targets_named (Some on)
act_targets place (act.LowWater on side mark) = targets_named (Some on)
act_targets place (act.Pipe cap) = targets_named (Some (named.PipeRead place))
act_targets place (act.Read on bytes) = targets_named (Some on)
act_targets place (act.Write on bytes) = targets_named (Some on)
act_targets place (act.File number size) = target.File number ∷ []
act_targets place (act.Open number mode) = targets_named (Some (named.Open place number))
act_targets place (act.Seek on offset) = targets_named (Some on)
act_targets place (act.Truncate number size) = target.File number ∷ []
act_targets place (act.Note number what) = target.File number ∷ []

module _ (has : Target → Bool) where
  abbrev pub HasAll : List Target → Type 0
  HasAll ts = All (λ t. has t ≡ true) ts

  first : (t : Target) (ts : List Target) → HasAll (t ∷ ts) → has t ≡ true
  first t ts all = All-head (λ x. has x ≡ true) t ts all

  rest : (t : Target) (ts : List Target) → HasAll (t ∷ ts) → HasAll ts
  rest t ts all = All-tail (λ x. has x ≡ true) t ts all

  module _ (o : Objects counted) where
    abbrev pub AreAccounted : Planned → Type 0
    AreAccounted (Err why) = Unit {0}
    AreAccounted (Ok p) = HasAll (told_targets p.hints) → All (Accounts has o) p.doings

    none : All (Accounts has o) []
    none = All-nil (Accounts has o)

    and : (d : Doing) (ds : List Doing) → Accounts has o d → All (Accounts has o) ds → All (Accounts has o) (d ∷ ds)
    and d ds here later = All-cons (Accounts has o) d ds here later

    unless : (b : Bool) (why : Why) (q : Planned) → AreAccounted q → AreAccounted (cond b (Err why) q)
    unless true why q accounts = tt
    unless false why q accounts = accounts

    -- ---- sockets

    step-accounts : (p : ℕ) (r : SocketStep) → has (target.Socket p) ≡ true → AreAccounted (socket_plan p r)
    unfolding socket_plan
    step-accounts p (Err why) there = tt
    step-accounts p (Ok (told, hint)) there = λ _. and (ToSocket p told) [] there none

    found-accounts : (step : SocketState → SocketStep) (p : ℕ) (x : Option SocketState) → has (target.Socket p) ≡ true
        → AreAccounted (step_of step (socket_found p x))
    unfolding step_of socket_found
    found-accounts step p None there = tt
    found-accounts step p (Some s) there = step-accounts p (step s) there

    at_socket : (step : SocketState → SocketStep) (on : Named) → HasAll (targets_named (Some on)) → AreAccounted (plan_at_socket step on o)
    unfolding plan_at_socket socket_at step_of
    at_socket step (named.Socket p) names = found-accounts step p (o.socket p) (first (target.Socket p) [] names)
    at_socket step (named.PipeRead p) names = tt
    at_socket step (named.PipeWrite p) names = tt
    at_socket step (named.Open p f) names = tt
    at_socket step (named.Kqueue p) names = tt

    made_socket : (place receive send : ℕ) → has (target.Socket place) ≡ true → AreAccounted (plan_socket place receive send)
    unfolding plan_socket
    made_socket place receive send there =
        unless (not (is_capacity receive && is_capacity send)) TooMany _ (λ _. and (ToSocket place _) [] there none)

    accepted-accounts : (place receive send : ℕ) (p : Planned) → has (target.Socket place) ≡ true → AreAccounted p → AreAccounted (accepted place receive send p)
    unfolding accepted
    accepted-accounts place receive send (Err why) there accounts = tt
    accepted-accounts place receive send (Ok p) there accounts = λ told.
        and (ToSocket place _) (ToSocket place _ ∷ p.doings) there (and (ToSocket place _) p.doings there (accounts told))

    -- ---- pipes

    made_pipe : (place cap : ℕ) → has (target.Pipe place) ≡ true → AreAccounted (plan_pipe place cap)
    unfolding plan_pipe
    made_pipe place cap there = unless (not (is_capacity cap)) TooMany _ (λ _. and (ToPipe place _) [] there none)

    pipe-accounts : (p : ℕ) (r : PipeStep) → has (target.Pipe p) ≡ true → AreAccounted (pipe_plan p r)
    unfolding pipe_plan
    pipe-accounts p (Err why) there = tt
    pipe-accounts p (Ok (told, hint)) there = λ _. and (ToPipe p told) [] there none

    at_pipe : (step : PipeState → PipeStep) (p : ℕ) (x : Option PipeState) → has (target.Pipe p) ≡ true → AreAccounted (plan_at_pipe step p x)
    unfolding plan_at_pipe
    at_pipe step p None there = tt
    at_pipe step p (Some s) there = pipe-accounts p (step s) there

    -- ---- who is told of a file's size

    last : (ps : List ℕ) (h : Posted) → HasAll (told_targets (readable_each ps ++ h ∷ [])) → has h.0 ≡ true
    last [] h all = first h.0 [] all
    last (p ∷ ps) h all = last ps h (rest (target.Open p) (told_targets (readable_each ps ++ h ∷ [])) all)

    each : (ps : List ℕ) (h : Posted) (place : ℕ) → HasAll (told_targets (readable_each ps ++ h ∷ [])) → list_any (λ p. p == place) ps ≡ true → has (target.Open place) ≡ true
    each [] h place all there = absurd (true≢false (sym there))
    each (p ∷ ps) h place all there =
        by_test (λ b. (p == place) ≡ b → (b || list_any (λ q. q == place) ps) ≡ true → has (target.Open place) ≡ true) (p == place)
        (λ _ is _. ap (λ n. has (target.Open n)) (sym (eqb-true p place is)) ∙ first (target.Open p) (told_targets (readable_each ps ++ h ∷ [])) all)
        (λ _ _ later. each ps h place (rest (target.Open p) (told_targets (readable_each ps ++ h ∷ [])) all) later) refl there

    -- the size of a file is changed: its descriptions and then the file are told
    resized : (number : ℕ) (r : _) (f : FileState) (h : Posted) → o.file number ≡ Some f → h.0 ≡ target.File number
        → HasAll (told_targets (readable_each f.descriptions ++ h ∷ [])) → Accounts has o (ToFile number r)
    resized number r f h there is all = (
      ap has (sym is) ∙ last f.descriptions h all,
      λ _ place listed. each f.descriptions h place all (ap (is_listed place) (sym there) ∙ listed),
    )

    present-is : (x : Option FileState) (f : FileState) → present x ≡ Some f → x ≡ Some f
    unfolding present
    present-is None f is = is
    present-is (Some s) f is = by_test (λ b. cond b None (Some s) ≡ Some f → Some s ≡ Some f) s.deleted (λ _ no_file. absurd (cc)) (λ _ same. same) is

    -- ---- files

    made_file-accounts : (number : ℕ) (size : Option ℕ) → has (target.File number) ≡ true → o.file number ≡ None → AreAccounted (made_file number size)
    unfolding made_file
    made_file-accounts number None there absent = tt
    made_file-accounts number (Some size) there absent = λ _. and (ToFile number _) []
        (there, λ _ place listed. absurd (true≢false (sym listed ∙ ap (is_listed place) absent))) none

    no_file : (x : Option FileState) → is_some x ≡ false → x ≡ None
    no_file None none = refl
    no_file (Some s) none = absurd (cc)

    file-accounts : (number : ℕ) (size : ℤ) → has (target.File number) ≡ true → AreAccounted (plan_file number size o)
    unfolding plan_file
    file-accounts number size there =
        by_test (λ b. is_some (o.file number) ≡ b → AreAccounted (cond b (Err UsedFile) (made_file number (file_amount size)))) (is_some (o.file number))
        (λ _ _. tt) (λ _ absent. made_file-accounts number (file_amount size) there (no_file (o.file number) absent)) refl

    opened-accounts : (place number : ℕ) (mode : Mode) (x : Option FileState) → has (target.Open place) ≡ true → has (target.File number) ≡ true → AreAccounted (opened place number mode x)
    unfolding opened resizes
    opened-accounts place number mode None at_place there = tt
    opened-accounts place number mode (Some s) at_place there = λ _.
        and (ToDescription place _) (ToFile number (file.Opened place) ∷ []) at_place
        (and (ToFile number (file.Opened place)) [] (there, λ never. absurd (true≢false (sym never))) none)

    sized-accounts : (number : ℕ) (s : FileState) (size : Option ℕ) → o.file number ≡ Some s → AreAccounted (sized number s size)
    unfolding sized noted
    sized-accounts number s None there = tt
    sized-accounts number s (Some size) there = λ told. and (ToFile number (file.Sized size)) [] (resized number (file.Sized size) s _ there refl told) none

    truncated-accounts : (number : ℕ) (size : ℤ) (x : Option FileState) → present (o.file number) ≡ x → AreAccounted (truncated number size x)
    unfolding truncated
    truncated-accounts number size None is = tt
    truncated-accounts number size (Some s) is = sized-accounts number s (file_amount size) (present-is (o.file number) s is)

    deletion-accounts : (number : ℕ) (what : Note) → has (target.File number) ≡ true → All (Accounts has o) (deletion number what)
    unfolding deletion resizes
    deletion-accounts number note.Delete there = and (ToFile number file.Deleted) [] (there, λ never. absurd (true≢false (sym never))) none
    deletion-accounts number what there = none

    said-accounts : (number : ℕ) (what : Note) (x : Option FileState) → has (target.File number) ≡ true → AreAccounted (said number what x)
    unfolding said
    said-accounts number what None there = tt
    said-accounts number what (Some s) there = λ _. deletion-accounts number what there

    -- ---- open file descriptions

    sought-accounts : (place : ℕ) (x : Option ℕ) → has (target.Open place) ≡ true → AreAccounted (sought place x)
    unfolding sought
    sought-accounts place None there = tt
    sought-accounts place (Some offset) there = λ _. and (ToDescription place _) [] there none

    seek-accounts : (place : ℕ) (offset : ℤ) (x : Option DescriptionState) → has (target.Open place) ≡ true → AreAccounted (sought_in place offset x)
    unfolding sought_in
    seek-accounts place offset None there = tt
    seek-accounts place offset (Some s) there = sought-accounts place (file_amount offset) there

    read-accounts : (place bytes : ℕ) (x : Option DescriptionState) → has (target.Open place) ≡ true → AreAccounted (read_file place bytes x o)
    unfolding read_file
    read-accounts place bytes None there = tt
    read-accounts place bytes (Some s) there =
        unless (not (may_read s.mode)) WrongKind _ (unless (nat_lt (size_of (o.file s.file) - s.offset) bytes) TooMany _
        (λ _. and (ToDescription place _) [] there none))

    reached-accounts : (number bytes end : ℕ) (f : FileState) (h : Posted) → o.file number ≡ Some f → h.0 ≡ target.File number
        → HasAll (told_targets (readable_each f.descriptions ++ h ∷ [])) → All (Accounts has o) (reached number bytes end)
    unfolding reached
    reached-accounts number bytes end f h there is all =
        by_test (λ b. All (Accounts has o) (cond b [] (ToFile number (file.Reached end) ∷ []))) (bytes == 0)
        (λ _. none) (λ _. and (ToFile number (file.Reached end)) [] (resized number (file.Reached end) f h there is all) none)

    written-accounts : (place bytes : ℕ) (s : DescriptionState) (x : Option FileState) → o.file s.file ≡ x → has (target.Open place) ≡ true → AreAccounted (written place bytes s x)
    unfolding written noted
    written-accounts place bytes s None is there = tt
    written-accounts place bytes s (Some f) is there = λ told.
        and (ToDescription place (description.Moved bytes)) (reached s.file bytes (s.offset + bytes)) there
        (reached-accounts s.file bytes (s.offset + bytes) f _ is refl told)

    write-accounts : (place bytes : ℕ) (x : Option DescriptionState) → has (target.Open place) ≡ true → AreAccounted (write_file place bytes x o)
    unfolding write_file
    write-accounts place bytes None there = tt
    write-accounts place bytes (Some s) there =
        unless (not (may_write s.mode)) WrongKind _ (unless (nat_lt most_file_size (s.offset + bytes)) TooMany _
        (written-accounts place bytes s (o.file s.file) refl there))

    -- ---- what a descriptor names

    at_read : (on : Named) (bytes : ℕ) → HasAll (targets_named (Some on)) → AreAccounted (plan_read on bytes o)
    unfolding plan_read
    at_read (named.Socket p) bytes names = at_socket (read_socket bytes) (named.Socket p) names
    at_read (named.PipeRead p) bytes names = at_pipe (read_pipe bytes) p (o.pipe p) (first (target.Pipe p) [] names)
    at_read (named.PipeWrite p) bytes names = tt
    at_read (named.Open p f) bytes names = read-accounts p bytes (o.description p) (first (target.Open p) (target.File f ∷ []) names)
    at_read (named.Kqueue p) bytes names = tt

    at_write : (on : Named) (bytes : ℕ) → HasAll (targets_named (Some on)) → AreAccounted (plan_write on bytes o)
    unfolding plan_write
    at_write (named.Socket p) bytes names = at_socket (write_socket bytes) (named.Socket p) names
    at_write (named.PipeRead p) bytes names = tt
    at_write (named.PipeWrite p) bytes names = at_pipe (write_pipe bytes) p (o.pipe p) (first (target.Pipe p) [] names)
    at_write (named.Open p f) bytes names = write-accounts p bytes (o.description p) (first (target.Open p) (target.File f ∷ []) names)
    at_write (named.Kqueue p) bytes names = tt

    at_seek : (on : Named) (offset : ℤ) → HasAll (targets_named (Some on)) → AreAccounted (plan_seek on offset o)
    unfolding plan_seek
    at_seek (named.Socket p) offset names = tt
    at_seek (named.PipeRead p) offset names = tt
    at_seek (named.PipeWrite p) offset names = tt
    at_seek (named.Open p f) offset names = seek-accounts p offset (o.description p) (first (target.Open p) (target.File f ∷ []) names)
    at_seek (named.Kqueue p) offset names = tt

    -- ---- any record about objects

    pub accounted : (place : ℕ) (a : Act) → HasAll (act_targets place a) → AreAccounted (plan place a o)
    unfolding plan plan_accept plan_open plan_truncate plan_note
    accounted place (act.Socket receive_buffer send_buffer) all = made_socket place receive_buffer send_buffer (first (target.Socket place) [] all)
    accounted place (act.Listen on backlog) all = at_socket (listen backlog) on all
    accounted place (act.Arrive on) all = at_socket arrive on all
    accounted place (act.Accept on receive_buffer send_buffer) all =
        accepted-accounts place receive_buffer send_buffer (plan_at_socket (accept receive_buffer send_buffer) on o) (first (target.Socket place) (targets_named (Some on)) all)
        (at_socket (accept receive_buffer send_buffer) on (rest (target.Socket place) (targets_named (Some on)) all))
    accounted place (act.Connect on) all = at_socket connect on all
    accounted place (act.Receive on bytes) all = at_socket (receive bytes) on all
    accounted place (act.Transmit on bytes) all = at_socket (transmit bytes) on all
    accounted place (act.Shut on side error) all = at_socket (shut side error) on all
    accounted place (act.LowWater on side mark) all = at_socket (low_water side mark) on all
    accounted place (act.Pipe cap) all = made_pipe place cap (first (target.Pipe place) [] all)
    accounted place (act.Read on bytes) all = at_read on bytes all
    accounted place (act.Write on bytes) all = at_write on bytes all
    accounted place (act.File number size) all = file-accounts number size (first (target.File number) [] all)
    accounted place (act.Open number mode) all =
        opened-accounts place number mode (present (o.file number)) (first (target.Open place) (target.File number ∷ []) all)
        (first (target.File number) [] (rest (target.Open place) (target.File number ∷ []) all))
    accounted place (act.Seek on offset) all = at_seek on offset all
    accounted place (act.Truncate number size) all = truncated-accounts number size (present (o.file number)) refl
    accounted place (act.Note number what) all = said-accounts number what (present (o.file number)) (first (target.File number) [] all)

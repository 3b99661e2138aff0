-- Lists of things noted that can be carried out.
use Rattle.std.proofs.Common.{◌≡◌, ◌∙◌, ◌==◌, ℕ, ◌+◌, ◌<◌, ◌≤◌, Bool, true, false, List, [], ◌∷◌, Option, None, Some, refl, sym, ap, cond, subst, arith, eqb-true, eq-eqb, if◌then◌else◌}
use Rattle.kq_model.specs.declared.mode.Mode.{Mode}
use Rattle.kq_model.specs.declared.doing.DescriptionRecord.{DescriptionRecord}
use Rattle.kq_model.specs.declared.doing.DescriptionRecord.TheVariants as description
use Rattle.kq_model.specs.declared.doing.Doing.{Doing}
use Rattle.kq_model.specs.declared.doing.Doing.TheVariants.{ToSocket, ToPipe, ToDescription, ToFile}
use Rattle.kq_model.specs.declared.doing.FileRecord.{FileRecord}
use Rattle.kq_model.specs.declared.doing.FileRecord.TheVariants as file
use Rattle.kq_model.specs.declared.doing.PipeRecord.{PipeRecord}
use Rattle.kq_model.specs.declared.doing.PipeRecord.TheVariants as pipe
use Rattle.kq_model.specs.declared.doing.SocketRecord.{SocketRecord}
use Rattle.kq_model.specs.declared.doing.SocketRecord.TheVariants as socket
use Rattle.kq_model.specs.declared.note.Note.{Note}
use Rattle.kq_model.specs.declared.note.Note.TheVariants as note
use Rattle.kq_model.specs.FilePlans.{deletion, reached}
use Rattle.kq_model.specs.Files.{FileState}
use Rattle.kq_model.specs.Limits.{most_file_size}
use Rattle.kq_model.specs.Objects as model
use Rattle.kq_model.specs.Sockets.{SocketState, is_socket_held, no_socket, socket_after}
use Rattle.kq_objects.specs.declared.objects.Objects.{Objects}
use Rattle.kq_objects.specs.ByPlace.{object_at, room_in}
use Rattle.kq_objects.specs.Files.{file_at, room_on}
use Rattle.kq_objects.specs.Fits.{FitsDescriptionAt, FitsFileAt, FitsPipeAt, FitsSocketAt, IsNote, IsPipeNote, made_description, made_file, opened_at, opened_on}
use Rattle.kq_objects.specs.Objects.{objects_of, AllFit, sockets_made, pipes_made, descriptions_made, files_made, opened_in, spare_room, AreSocketNotes, IsRoomFor, IsReady, Room}
use Rattle.kq_objects.proofs.Making.{made-at, made_socket-held}

-- ---- nothing has to grow

-- what makes nothing needs no room
pub room-none : (d : Doing) (o : Objects) → sockets_made d ≡ 0 → pipes_made d ≡ 0 → descriptions_made d ≡ 0 → files_made d ≡ 0
    → ((number : ℕ) → opened_in number d ≡ 0) → IsRoomFor (d ∷ []) (spare_room o)
room-none d o s p e f l = record {
  sockets = omega arith;
  pipes = omega arith;
  descriptions = omega arith;
  files = omega arith;
  lists = λ number. let none : opened_in number d ≡ 0 = l number in omega arith;
}

opened_at-none : (number n : ℕ) (r : FileRecord) → opened_on r ≡ 0 → opened_at number n r ≡ 0
opened_at-none number n (file.Opened place) none = absurd (omega arith)
opened_at-none number n (file.Made size) none = refl
opened_at-none number n (file.Sized size) none = refl
opened_at-none number n (file.Reached end) none = refl
opened_at-none number n file.Deleted none = refl
opened_at-none number n (file.Left place) none = refl

-- the first of several
pub room-first : (d : Doing) (ds : List Doing) (o : Objects) → IsRoomFor (d ∷ ds) (spare_room o) → IsRoomFor (d ∷ []) (spare_room o)
room-first d ds o room = record {
  sockets = let h = room.sockets in omega arith;
  pipes = let h = room.pipes in omega arith;
  descriptions = let h = room.descriptions in omega arith;
  files = let h = room.files in omega arith;
  lists = λ number. let h = room.lists number in omega arith;
}

-- ---- one thing noted of what is there

pub ready-none : (o : Objects) → IsReady [] o
ready-none o = record {
  fits = tt;
  room = record { sockets = omega arith; pipes = omega arith; descriptions = omega arith; files = omega arith; lists = λ number. omega arith };
}

pub ready-socket : (o : Objects) (place : ℕ) (r : SocketRecord) → IsNote r (object_at o.sockets place) → IsReady (ToSocket place r ∷ []) o
ready-socket o place r note = record { fits = (note.1, tt); room = room-none (ToSocket place r) o note.0 refl refl refl (λ number. refl) }

pub ready-pipe : (o : Objects) (place : ℕ) (r : PipeRecord) → IsPipeNote r (object_at o.pipes place) → IsReady (ToPipe place r ∷ []) o
ready-pipe o place r note = record { fits = (note.1, tt); room = room-none (ToPipe place r) o refl note.0 refl refl (λ number. refl) }

pub ready-description : (o : Objects) (place : ℕ) (r : DescriptionRecord) → made_description r ≡ 0 → FitsDescriptionAt r (object_at o.descriptions place)
    → IsReady (ToDescription place r ∷ []) o
ready-description o place r none fits = record { fits = (fits, tt); room = room-none (ToDescription place r) o refl refl none refl (λ number. refl) }

pub ready-file : (o : Objects) (number : ℕ) (r : FileRecord) → made_file r ≡ 0 → opened_on r ≡ 0 → FitsFileAt r (file_at o.files number)
    → IsReady (ToFile number r ∷ []) o
ready-file o number r made none fits = record {
  fits = (fits, tt);
  room = room-none (ToFile number r) o refl refl refl made (λ n. opened_at-none n number r none);
}

-- ---- what is made

fits-new_socket : (x : Option SocketState) (receive send : ℕ) → x ≡ None → FitsSocketAt (socket.Made receive send) x
fits-new_socket x receive send none = subst (FitsSocketAt (socket.Made receive send)) (sym none) tt

pub ready-new_socket : (o : Objects) (place receive send : ℕ) → object_at o.sockets place ≡ None → 0 < room_in o.sockets
    → IsReady (ToSocket place (socket.Made receive send) ∷ []) o
ready-new_socket o place receive send none room = record {
  fits = (fits-new_socket (object_at o.sockets place) receive send none, tt);
  room = record { sockets = omega arith; pipes = omega arith; descriptions = omega arith; files = omega arith; lists = λ number. omega arith };
}

pub ready-new_pipe : (o : Objects) (place cap : ℕ) → object_at o.pipes place ≡ None → 0 < room_in o.pipes
    → IsReady (ToPipe place (pipe.Made cap) ∷ []) o
ready-new_pipe o place cap none room = record {
  fits = (subst (FitsPipeAt (pipe.Made cap)) (sym none) tt, tt);
  room = record { sockets = omega arith; pipes = omega arith; descriptions = omega arith; files = omega arith; lists = λ number. omega arith };
}

pub ready-new_file : (o : Objects) (number size : ℕ) → file_at o.files number ≡ None → size ≤ most_file_size → 0 < room_in o.files.table
    → IsReady (ToFile number (file.Made size) ∷ []) o
ready-new_file o number size none within room = record {
  fits = (subst (FitsFileAt (file.Made size)) (sym none) within, tt);
  room = record { sockets = omega arith; pipes = omega arith; descriptions = omega arith; files = omega arith; lists = λ number. omega arith };
}

-- ---- a file that is opened

opened_if : (here : Bool) (number n : ℕ) (o : Objects) → (here ≡ true → n ≡ number) → 1 ≤ room_on n o.files
    → (if here then 1 else 0) + 0 ≤ room_on number o.files
opened_if true number n o same room = let e : room_on n o.files ≡ room_on number o.files = ap (λ q. room_on q o.files) (same refl) in omega arith
opened_if false number n o same room = omega arith

pub ready-open : (o : Objects) (place number : ℕ) (mode : Mode) (s : FileState) → object_at o.descriptions place ≡ None
    → file_at o.files number ≡ Some s → 0 < room_in o.descriptions → 0 < room_on number o.files
    → IsReady (ToDescription place (description.Opened number mode) ∷ ToFile number (file.Opened place) ∷ []) o
unfolding model.done
ready-open o place number mode s none there room list = record {
  fits = (
    subst (FitsDescriptionAt (description.Opened number mode)) (sym none) tt,
    (subst (FitsFileAt (file.Opened place)) (sym there) tt, tt),
  );
  room = record {
    sockets = omega arith;
    pipes = omega arith;
    descriptions = omega arith;
    files = omega arith;
    lists = λ n. let h = opened_if (number == n) n number o (eqb-true number n) list in omega arith;
  };
}

-- ---- a connection that is accepted

not_made : (r : SocketRecord) → IsNote r None → ⊥
not_made (socket.Made receive send) note = absurd (omega (arith, note.0))
not_made r note = note.1

-- at the socket that listens, which is not the new one
listener_if : (here : Bool) (x y z : Option SocketState) (r : SocketRecord) → (here ≡ true → x ≡ None) → IsNote r x
    → FitsSocketAt r (if here then z else (if here then y else x))
listener_if true x y z r gone note = absurd (not_made r (subst (IsNote r) (gone refl) note))
listener_if false x y z r gone note = note.1

pub ready-accept : (o : Objects) (place receive send listener : ℕ) (r : SocketRecord) → object_at o.sockets place ≡ None
    → IsNote r (object_at o.sockets listener) → 0 < room_in o.sockets
    → IsReady (ToSocket place (socket.Made receive send) ∷ ToSocket place socket.Connected ∷ ToSocket listener r ∷ []) o
unfolding model.done
ready-accept o place receive send listener r none note room =
    let table : ℕ → Option SocketState = λ p. object_at o.sockets p in
    let made = socket_after (socket.Made receive send) no_socket in
    let there = made-at model.counted.sockets is_socket_held place (socket.Made receive send) table made none refl (made_socket-held (socket.Made receive send) tt)
    place (Some made) (sym (ap (λ t. cond t (Some made) (table place)) (eq-eqb place place refl))) in
    record {
      fits = (
        subst (FitsSocketAt (socket.Made receive send)) (sym none) tt,
        (
          subst (FitsSocketAt socket.Connected) there tt,
          (listener_if (place == listener) (table listener) _ _ r (λ here. ap table (sym (eqb-true place listener here)) ∙ none) note, tt),
        ),
      );
      room = record {
        sockets = let h = note.0 in omega arith;
        pipes = omega arith;
        descriptions = omega arith;
        files = omega arith;
        lists = λ number. omega arith;
      };
    }

-- ---- a write, and a note

reached_if : (nothing : Bool) (o : Objects) (place number bytes end : ℕ) (s : FileState)
    → FitsDescriptionAt (description.Moved bytes) (object_at o.descriptions place) → file_at o.files number ≡ Some s → end ≤ most_file_size
    → IsReady (ToDescription place (description.Moved bytes) ∷ (if nothing then [] else ToFile number (file.Reached end) ∷ [])) o
unfolding model.done
reached_if true o place number bytes end s fits there within = ready-description o place (description.Moved bytes) refl fits
reached_if false o place number bytes end s fits there within = record {
  fits = (fits, (subst (FitsFileAt (file.Reached end)) (sym there) within, tt));
  room = record { sockets = omega arith; pipes = omega arith; descriptions = omega arith; files = omega arith; lists = λ n. omega arith };
}

pub ready-write : (o : Objects) (place number bytes end : ℕ) (s : FileState)
    → FitsDescriptionAt (description.Moved bytes) (object_at o.descriptions place) → file_at o.files number ≡ Some s → end ≤ most_file_size
    → IsReady (ToDescription place (description.Moved bytes) ∷ reached number bytes end) o
unfolding reached
ready-write o place number bytes end s = reached_if (bytes == 0) o place number bytes end s

pub ready-deletion : (o : Objects) (number : ℕ) (what : Note) (s : FileState) → file_at o.files number ≡ Some s → IsReady (deletion number what) o
unfolding deletion
ready-deletion o number note.Delete s there = ready-file o number file.Deleted refl refl (subst (FitsFileAt file.Deleted) (sym there) tt)
ready-deletion o number note.Attrib s there = ready-none o
ready-deletion o number note.Link s there = ready-none o
ready-deletion o number note.Rename s there = ready-none o
ready-deletion o number note.Revoke s there = ready-none o

-- the same where the step at the listening socket was worked out before the new one had room
pub ready-accept-notes : (o : Objects) (old : model.Objects model.counted) (place receive send : ℕ) (ds : List Doing)
    → object_at o.sockets place ≡ None → ((q : ℕ) → object_at o.sockets q ≡ old.socket q)
    → AreSocketNotes ds old → 0 < room_in o.sockets
    → IsReady (ToSocket place (socket.Made receive send) ∷ ToSocket place socket.Connected ∷ ds) o
ready-accept-notes o old place receive send (ToSocket listener r ∷ []) none same note room =
    ready-accept o place receive send listener r none (subst (IsNote r) (sym (same listener)) note) room
ready-accept-notes o old place receive send ds none same note room = absurd note

-- ---- where there is no less room

more-room : (ds : List Doing) (old new : Room) → old.sockets ≤ new.sockets → old.pipes ≤ new.pipes → old.descriptions ≤ new.descriptions
    → old.files ≤ new.files → ((number : ℕ) → old.on_file number ≤ new.on_file number) → IsRoomFor ds old → IsRoomFor ds new
more-room ds old new sockets pipes descriptions files lists room = record {
  sockets = let h = room.sockets in omega arith;
  pipes = let h = room.pipes in omega arith;
  descriptions = let h = room.descriptions in omega arith;
  files = let h = room.files in omega arith;
  lists = λ number. let h = room.lists number in let l = lists number in omega arith;
}

-- what could be carried out still can
pub still-ready : (ds : List Doing) (old new : Objects) → objects_of new ≡ objects_of old
    → (spare_room old).sockets ≤ (spare_room new).sockets → (spare_room old).pipes ≤ (spare_room new).pipes
    → (spare_room old).descriptions ≤ (spare_room new).descriptions → (spare_room old).files ≤ (spare_room new).files
    → ((number : ℕ) → (spare_room old).on_file number ≤ (spare_room new).on_file number) → IsReady ds old → IsReady ds new
still-ready ds old new same sockets pipes descriptions files lists ready = record {
  fits = subst (AllFit ds) (sym same) ready.fits;
  room = more-room ds (spare_room old) (spare_room new) sockets pipes descriptions files lists ready.room;
}

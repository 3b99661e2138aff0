-- Records about files by example: each effect, each hint and each reason.
use Rattle.std.specs.Prelude.{◌≡◌, pos, negsuc, [], ◌∷◌, None, Some, Ok}
use Rattle.std.proofs.Common.{refl}
use Rattle.kq_model.specs.declared.act.Act.TheVariants.{Read, Write, File, Open, Seek, Truncate, Note}
use Rattle.kq_model.specs.declared.mode.Mode.TheVariants as mode
use Rattle.kq_model.specs.declared.note.Note.TheVariants as note
use Rattle.kq_model.specs.declared.object.Hint.TheVariants as hint
use Rattle.kq_model.specs.declared.object.Named.TheVariants as on
use Rattle.kq_model.specs.declared.object.Target.TheVariants as target
use Rattle.kq_model.specs.declared.object.View.TheVariants as view
use Rattle.kq_model.specs.declared.why.Why.TheVariants.{WrongKind, Absent, UsedFile, TooMany}
use Rattle.kq_model.specs.Holders.{all_held, all_released}
use Rattle.kq_model.proofs.ObjectBuilders.{objects_opened, answers, answers_from, after, seen, closing, quiet, says, cannot}

-- a number is used once, whatever the size; sizes are from 0 to 2^61
pub numbers : answers (File 8 (pos 10) ∷ File 8 (negsuc 0) ∷ File 9 (negsuc 0) ∷ File 9 (pos 2305843009213693953) ∷ File 9 (pos 2305843009213693952) ∷ [])
    ≡ quiet ∷ cannot UsedFile ∷ cannot TooMany ∷ cannot TooMany ∷ quiet ∷ []
unfolding objects_opened
numbers = refl

pub new_file : seen (target.File 8) (after (File 8 (pos 10) ∷ [])) ≡ Some view.File
unfolding objects_opened
new_file = refl

-- OPEN 128
pub opening : answers (Open 8 mode.Read ∷ File 8 (pos 10) ∷ Open 8 mode.Read ∷ [])
    ≡ cannot Absent ∷ quiet ∷ says (target.File 8) (hint.Note 128) ∷ []
unfolding objects_opened
opening = refl

pub opened_seen : seen (target.Open 2) (after (File 8 (pos 10) ∷ Open 8 mode.Read ∷ [])) ≡ Some (view.Open (pos 10) (pos 0))
unfolding objects_opened
opened_seen = refl

-- ---- offsets: READ 1024

pub reading : answers (File 8 (pos 10) ∷ Open 8 mode.Read ∷ Read (on.Open 2 8) 11 ∷ Read (on.Open 2 8) 4 ∷ Read (on.Open 2 8) 7 ∷ Read (on.Open 2 8) 6 ∷ Read (on.Open 2 8) 0 ∷ [])
    ≡ quiet ∷ says (target.File 8) (hint.Note 128) ∷ cannot TooMany ∷ says (target.File 8) (hint.Note 1024) ∷ cannot TooMany ∷ says (target.File 8) (hint.Note 1024) ∷ says (target.File 8) (hint.Note 1024) ∷ []
unfolding objects_opened
reading = refl

pub seeking : answers (File 8 (pos 10) ∷ Open 8 mode.ReadWrite ∷ Seek (on.Open 2 8) (pos 14) ∷ Read (on.Open 2 8) 1 ∷ Read (on.Open 2 8) 0 ∷ Seek (on.Open 2 8) (negsuc 0) ∷ Seek (on.Open 2 8) (pos 2305843009213693953) ∷ Seek (on.Socket 9) (negsuc 0) ∷ [])
    ≡ quiet ∷ says (target.File 8) (hint.Note 128) ∷ says (target.Open 2) hint.Readable ∷ cannot TooMany ∷ says (target.File 8) (hint.Note 1024) ∷ cannot TooMany ∷ cannot TooMany ∷ cannot WrongKind ∷ []
unfolding objects_opened
seeking = refl

-- an offset past the end, and a write there: WRITE 2, EXTEND 4
pub past_the_end : answers (File 8 (pos 10) ∷ Open 8 mode.ReadWrite ∷ Seek (on.Open 2 8) (pos 14) ∷ Write (on.Open 2 8) 0 ∷ Write (on.Open 2 8) 1 ∷ Seek (on.Open 2 8) (pos 2) ∷ Write (on.Open 2 8) 3 ∷ [])
    ≡ quiet ∷ says (target.File 8) (hint.Note 128) ∷ says (target.Open 2) hint.Readable
    ∷ Ok ((target.Open 2, hint.Readable) ∷ (target.File 8, hint.Note 2) ∷ [])
    ∷ Ok ((target.Open 2, hint.Readable) ∷ (target.File 8, hint.Note 6) ∷ [])
    ∷ says (target.Open 2) hint.Readable
    ∷ Ok ((target.Open 2, hint.Readable) ∷ (target.File 8, hint.Note 2) ∷ []) ∷ []
unfolding objects_opened
past_the_end = refl

pub grown : seen (target.Open 2) (after (File 8 (pos 10) ∷ Open 8 mode.ReadWrite ∷ Seek (on.Open 2 8) (pos 14) ∷ Write (on.Open 2 8) 1 ∷ Seek (on.Open 2 8) (pos 2) ∷ Write (on.Open 2 8) 3 ∷ []))
    ≡ Some (view.Open (pos 15) (pos 5))
unfolding objects_opened
grown = refl

-- a write of nothing leaves the size as it is
pub nothing_written : seen (target.Open 2) (after (File 8 (pos 10) ∷ Open 8 mode.Write ∷ Seek (on.Open 2 8) (pos 14) ∷ Write (on.Open 2 8) 0 ∷ [])) ≡ Some (view.Open (pos 10) (pos 14))
unfolding objects_opened
nothing_written = refl

pub end_of_offsets : answers (File 8 (pos 0) ∷ Open 8 mode.Write ∷ Seek (on.Open 2 8) (pos 2305843009213693951) ∷ Write (on.Open 2 8) 2 ∷ Write (on.Open 2 8) 1 ∷ Write (on.Open 2 8) 1 ∷ [])
    ≡ quiet ∷ says (target.File 8) (hint.Note 128) ∷ says (target.Open 2) hint.Readable ∷ cannot TooMany
    ∷ Ok ((target.Open 2, hint.Readable) ∷ (target.File 8, hint.Note 6) ∷ []) ∷ cannot TooMany ∷ []
unfolding objects_opened
end_of_offsets = refl

-- what the file was opened for comes before amounts
pub modes : answers (File 8 (pos 1) ∷ Open 8 mode.Read ∷ Open 8 mode.Write ∷ Read (on.Open 3 8) 9 ∷ Write (on.Open 2 8) 0 ∷ [])
    ≡ quiet ∷ says (target.File 8) (hint.Note 128) ∷ says (target.File 8) (hint.Note 128) ∷ cannot WrongKind ∷ cannot WrongKind ∷ []
unfolding objects_opened
modes = refl

-- each open description hears of a write, by rising place; each has an offset of its own
pub two_descriptions : answers (File 8 (pos 0) ∷ Open 8 mode.Read ∷ Open 8 mode.Write ∷ Write (on.Open 3 8) 5 ∷ [])
    ≡ quiet ∷ says (target.File 8) (hint.Note 128) ∷ says (target.File 8) (hint.Note 128)
    ∷ Ok ((target.Open 2, hint.Readable) ∷ (target.Open 3, hint.Readable) ∷ (target.File 8, hint.Note 6) ∷ []) ∷ []
unfolding objects_opened
two_descriptions = refl

pub own_offsets : seen (target.Open 2) (after (File 8 (pos 0) ∷ Open 8 mode.Read ∷ Open 8 mode.Write ∷ Write (on.Open 3 8) 5 ∷ [])) ≡ Some (view.Open (pos 5) (pos 0))
unfolding objects_opened
own_offsets = refl

-- ---- truncating: ATTRIB 8, with EXTEND where the file grows

pub truncating : answers (Truncate 8 (pos 1) ∷ File 8 (pos 10) ∷ Open 8 mode.Read ∷ Truncate 8 (pos 10) ∷ Truncate 8 (pos 11) ∷ Truncate 8 (pos 3) ∷ Truncate 8 (negsuc 0) ∷ Truncate 8 (pos 2305843009213693953) ∷ [])
    ≡ cannot Absent ∷ quiet ∷ says (target.File 8) (hint.Note 128)
    ∷ Ok ((target.Open 3, hint.Readable) ∷ (target.File 8, hint.Note 8) ∷ [])
    ∷ Ok ((target.Open 3, hint.Readable) ∷ (target.File 8, hint.Note 12) ∷ [])
    ∷ Ok ((target.Open 3, hint.Readable) ∷ (target.File 8, hint.Note 8) ∷ [])
    ∷ cannot TooMany ∷ cannot TooMany ∷ []
unfolding objects_opened
truncating = refl

-- the size is that of the last truncation, and of later writes
pub truncated_seen : seen (target.Open 2) (after (File 8 (pos 10) ∷ Open 8 mode.Write ∷ Write (on.Open 2 8) 6 ∷ Truncate 8 (pos 2) ∷ Write (on.Open 2 8) 1 ∷ [])) ≡ Some (view.Open (pos 7) (pos 7))
unfolding objects_opened
truncated_seen = refl

-- ---- notes

pub notes : answers (Note 8 note.Link ∷ File 8 (pos 1) ∷ Note 8 note.Attrib ∷ Note 8 note.Link ∷ Note 8 note.Rename ∷ Note 8 note.Revoke ∷ [])
    ≡ cannot Absent ∷ quiet ∷ says (target.File 8) (hint.Note 8) ∷ says (target.File 8) (hint.Note 16) ∷ says (target.File 8) (hint.Note 32) ∷ says (target.File 8) (hint.Note 64) ∷ []
unfolding objects_opened
notes = refl

-- a deleted file cannot be opened, truncated or noted; its descriptions stay usable, and its number used
pub deleting : answers (File 8 (pos 1) ∷ Open 8 mode.ReadWrite ∷ Note 8 note.Delete ∷ Note 8 note.Delete ∷ Open 8 mode.Read ∷ Truncate 8 (negsuc 0) ∷ File 8 (pos 1) ∷ Read (on.Open 2 8) 1 ∷ Write (on.Open 2 8) 1 ∷ [])
    ≡ quiet ∷ says (target.File 8) (hint.Note 128) ∷ says (target.File 8) (hint.Note 1) ∷ cannot Absent ∷ cannot Absent ∷ cannot Absent ∷ cannot UsedFile
    ∷ says (target.File 8) (hint.Note 1024) ∷ Ok ((target.Open 2, hint.Readable) ∷ (target.File 8, hint.Note 6) ∷ []) ∷ []
unfolding objects_opened
deleting = refl

pub deleted_seen : seen (target.File 8) (after (File 8 (pos 1) ∷ Note 8 note.Delete ∷ [])) ≡ Some view.File
unfolding objects_opened
deleted_seen = refl

-- ---- the last descriptor of a description: CLOSE 256, CLOSE_WRITE 512

pub closes : closing (on.Open 2 8 ∷ on.Open 3 8 ∷ on.Open 4 8 ∷ []) (after (File 8 (pos 1) ∷ Open 8 mode.Read ∷ Open 8 mode.Write ∷ Open 8 mode.ReadWrite ∷ []))
    ≡ (target.File 8, hint.Note 256) ∷ (target.File 8, hint.Note 512) ∷ (target.File 8, hint.Note 512) ∷ []
unfolding objects_opened
closes = refl

pub closed_twice : closing (on.Open 2 8 ∷ on.Open 2 8 ∷ []) (all_held (on.Open 2 8 ∷ []) (after (File 8 (pos 1) ∷ Open 8 mode.Read ∷ []))) ≡ (target.File 8, hint.Note 256) ∷ []
unfolding objects_opened
closed_twice = refl

-- a description that ended is not seen, and no longer hears of its file
pub description_gone : seen (target.Open 2) (all_released (on.Open 2 8 ∷ []) (after (File 8 (pos 1) ∷ Open 8 mode.Read ∷ []))) ≡ None
unfolding objects_opened
description_gone = refl

pub no_longer_told : answers_from 4 (Write (on.Open 3 8) 1 ∷ []) (all_released (on.Open 2 8 ∷ []) (after (File 8 (pos 1) ∷ Open 8 mode.Read ∷ Open 8 mode.Write ∷ [])))
    ≡ Ok ((target.Open 3, hint.Readable) ∷ (target.File 8, hint.Note 2) ∷ []) ∷ []
unfolding objects_opened
no_longer_told = refl

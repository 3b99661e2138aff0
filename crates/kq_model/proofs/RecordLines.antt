-- Records of each kind by example: how they are spelled, that they read as what they spell, and what is refused.
use Rattle.std.specs.Prelude.{◌≡◌, ◌-◌, ◌^◌, pos, negsuc, true, false, List, [], ◌∷◌, map, replicate, codes}
use Rattle.std.proofs.Common.{refl}
use Rattle.kq_model.specs.declared.event.Event.{Event}
use Rattle.kq_model.specs.declared.event.Event.TheVariants as event
use Rattle.kq_model.specs.declared.line_fault.LineFault.TheVariants.{Field, Range}
use Rattle.kq_model.specs.declared.mode.Mode.TheVariants as mode
use Rattle.kq_model.specs.declared.note.Note.TheVariants as note
use Rattle.kq_model.specs.declared.side.Side.TheVariants as side
use Rattle.kq_model.specs.Reading.{Good, Bad, reading}
use Rattle.kq_model.specs.Spelling.{spelling}
use Rattle.kq_model.proofs.Builders.{second_line, text}
use Rattle.kq_model.proofs.Opened.{system_opened}
use Rattle.kq_model.proofs.ReadingOpened.{reading_opened}

-- ---- one record of each kind

abbrev pub each_kind : List Event
each_kind =
    event.Proc 1 ∷ event.Fork 1 2 ∷ event.Exit 2 9 ∷ event.Kqueue 1 3 ∷ event.Dup 1 4 5 ∷ event.Close 1 4
    ∷ event.Socket 1 6 100 60 ∷ event.Listen 1 6 128 ∷ event.Arrive 1 6 ∷ event.Accept 1 6 7 10 20 ∷ event.Connect 1 8
    ∷ event.Rx 1 7 11 ∷ event.Tx 1 7 0 ∷ event.Shut 1 7 side.Read 54 ∷ event.Lowat 1 7 side.Write 40
    ∷ event.Pipe 1 10 11 4096 ∷ event.Read 1 10 12 ∷ event.Write 1 11 13
    ∷ event.Exec 1 ∷ event.Sigset 1 20 true ∷ event.Sigset 1 15 false ∷ event.Sig 1 128 ∷ event.File 8 (pos 0)
    ∷ event.Open 1 12 8 mode.ReadWrite ∷ event.Seek 1 12 (negsuc 0) ∷ event.Truncate 8 (pos 5) ∷ event.Note 8 note.Revoke
    ∷ event.Clock (pos (2 ^ 63 - 1)) ∷ event.Kevent 1 3 [] 4 ∷ []

pub each_kind_spelled : spelling 1 each_kind ≡ text (
    codes "{\"kqsim\":1}"
    ∷ codes "{\"op\":\"proc\",\"pid\":1}"
    ∷ codes "{\"child\":2,\"op\":\"fork\",\"pid\":1}"
    ∷ codes "{\"op\":\"exit\",\"pid\":2,\"status\":9}"
    ∷ codes "{\"fd\":3,\"op\":\"kqueue\",\"pid\":1}"
    ∷ codes "{\"fd\":4,\"op\":\"dup\",\"pid\":1,\"to\":5}"
    ∷ codes "{\"fd\":4,\"op\":\"close\",\"pid\":1}"
    ∷ codes "{\"fd\":6,\"op\":\"socket\",\"pid\":1,\"rcv\":100,\"snd\":60}"
    ∷ codes "{\"backlog\":128,\"fd\":6,\"op\":\"listen\",\"pid\":1}"
    ∷ codes "{\"fd\":6,\"op\":\"arrive\",\"pid\":1}"
    ∷ codes "{\"fd\":6,\"op\":\"accept\",\"pid\":1,\"rcv\":10,\"snd\":20,\"to\":7}"
    ∷ codes "{\"fd\":8,\"op\":\"connect\",\"pid\":1}"
    ∷ codes "{\"fd\":7,\"n\":11,\"op\":\"rx\",\"pid\":1}"
    ∷ codes "{\"fd\":7,\"n\":0,\"op\":\"tx\",\"pid\":1}"
    ∷ codes "{\"error\":54,\"fd\":7,\"op\":\"shut\",\"pid\":1,\"side\":\"read\"}"
    ∷ codes "{\"fd\":7,\"n\":40,\"op\":\"lowat\",\"pid\":1,\"side\":\"write\"}"
    ∷ codes "{\"cap\":4096,\"op\":\"pipe\",\"pid\":1,\"rfd\":10,\"wfd\":11}"
    ∷ codes "{\"fd\":10,\"n\":12,\"op\":\"read\",\"pid\":1}"
    ∷ codes "{\"fd\":11,\"n\":13,\"op\":\"write\",\"pid\":1}"
    ∷ codes "{\"op\":\"exec\",\"pid\":1}"
    ∷ codes "{\"ignore\":true,\"op\":\"sigset\",\"pid\":1,\"sig\":20}"
    ∷ codes "{\"ignore\":false,\"op\":\"sigset\",\"pid\":1,\"sig\":15}"
    ∷ codes "{\"op\":\"sig\",\"pid\":1,\"sig\":128}"
    ∷ codes "{\"file\":8,\"op\":\"file\",\"size\":0}"
    ∷ codes "{\"fd\":12,\"file\":8,\"mode\":\"rw\",\"op\":\"open\",\"pid\":1}"
    ∷ codes "{\"fd\":12,\"offset\":-1,\"op\":\"seek\",\"pid\":1}"
    ∷ codes "{\"file\":8,\"op\":\"truncate\",\"size\":5}"
    ∷ codes "{\"file\":8,\"note\":\"revoke\",\"op\":\"note\"}"
    ∷ codes "{\"ns\":9223372036854775807,\"op\":\"clock\"}"
    ∷ codes "{\"changes\":[],\"fd\":3,\"op\":\"kevent\",\"pid\":1,\"room\":4}" ∷ [])
unfolding system_opened
each_kind_spelled = refl

pub each_kind_reads_again : reading (spelling 1 each_kind) ≡ Good 1 each_kind
unfolding system_opened reading_opened
each_kind_reads_again = refl

-- members stand in any order
pub members_in_other_orders : map second_line (
    codes "{\"op\":\"accept\",\"pid\":1,\"fd\":6,\"to\":7,\"rcv\":10,\"snd\":20}"
    ∷ codes "{\"snd\":20,\"rcv\":10,\"to\":7,\"fd\":6,\"pid\":1,\"op\":\"accept\"}" ∷ [])
    ≡ replicate 2 (Good 1 (event.Accept 1 6 7 10 20 ∷ []))
unfolding reading_opened
members_in_other_orders = refl

-- amounts go up to 2^32 - 1, also where the record is not possible
pub widest_amounts : map second_line (
    codes "{\"op\":\"socket\",\"pid\":0,\"fd\":0,\"rcv\":4294967295,\"snd\":0}"
    ∷ codes "{\"op\":\"rx\",\"pid\":4294967295,\"fd\":4294967295,\"n\":4294967295}" ∷ [])
    ≡ Good 1 (event.Socket 0 0 (2 ^ 32 - 1) 0 ∷ []) ∷ Good 1 (event.Rx (2 ^ 32 - 1) (2 ^ 32 - 1) (2 ^ 32 - 1) ∷ []) ∷ []
unfolding reading_opened
widest_amounts = refl

-- ---- what is refused

-- each member has to be there, and no further one
pub just_the_members : map second_line (
    codes "{\"op\":\"fork\",\"pid\":1}"
    ∷ codes "{\"op\":\"fork\",\"child\":2}"
    ∷ codes "{\"op\":\"close\",\"pid\":1,\"fd\":4,\"to\":5}"
    ∷ codes "{\"op\":\"dup\",\"pid\":1,\"fd\":4}"
    ∷ codes "{\"op\":\"socket\",\"pid\":1,\"fd\":6,\"rcv\":100}"
    ∷ codes "{\"op\":\"pipe\",\"pid\":1,\"rfd\":10,\"wfd\":11}"
    ∷ codes "{\"op\":\"shut\",\"pid\":1,\"fd\":7,\"side\":\"read\"}"
    ∷ codes "{\"op\":\"lowat\",\"pid\":1,\"fd\":7,\"n\":40}" ∷ [])
    ≡ replicate 8 (Bad 2 Field)
unfolding reading_opened
just_the_members = refl

-- each of its type, and each name whole
pub types_of_members : map second_line (
    codes "{\"op\":\"exit\",\"pid\":1,\"status\":\"9\"}"
    ∷ codes "{\"op\":\"exit\",\"pid\":1,\"status\":9.0}"
    ∷ codes "{\"op\":\"exit\",\"pid\":1,\"status\":null}"
    ∷ codes "{\"op\":\"shut\",\"pid\":1,\"fd\":7,\"side\":0,\"error\":0}"
    ∷ codes "{\"op\":\"shut\",\"pid\":1,\"fd\":7,\"side\":\"READ\",\"error\":0}"
    ∷ codes "{\"op\":\"shut\",\"pid\":1,\"fd\":7,\"side\":\"reads\",\"error\":0}"
    ∷ codes "{\"op\":\"lowat\",\"pid\":1,\"fd\":7,\"side\":\"w\",\"n\":1}"
    ∷ codes "{\"op\":\"closed\",\"pid\":1,\"fd\":4}"
    ∷ codes "{\"op\":\"clos\",\"pid\":1,\"fd\":4}"
    ∷ codes "{\"op\":\"\",\"pid\":1}" ∷ [])
    ≡ replicate 10 (Bad 2 Field)
unfolding reading_opened
types_of_members = refl

-- whole numbers that are no u32; a member of another type hides them
pub numbers_of_records : map second_line (
    codes "{\"op\":\"fork\",\"pid\":1,\"child\":4294967296}"
    ∷ codes "{\"op\":\"exit\",\"pid\":1,\"status\":-1}"
    ∷ codes "{\"op\":\"pipe\",\"pid\":1,\"rfd\":10,\"wfd\":11,\"cap\":18446744073709551615}"
    ∷ codes "{\"op\":\"shut\",\"pid\":1,\"fd\":7,\"side\":\"read\",\"error\":-9223372036854775808}"
    ∷ codes "{\"op\":\"shut\",\"pid\":1,\"fd\":7,\"side\":\"both\",\"error\":-1}"
    ∷ codes "{\"op\":\"pipe\",\"pid\":1,\"rfd\":-1,\"wfd\":11,\"cap\":18446744073709551616}" ∷ [])
    ≡ Bad 2 Range ∷ Bad 2 Range ∷ Bad 2 Range ∷ Bad 2 Range ∷ Bad 2 Field ∷ Bad 2 Field ∷ []
unfolding reading_opened
numbers_of_records = refl

-- a moment of the clock is a number of 63 bits; other numbers of files have a sign
pub numbers_with_a_sign : map second_line (
    codes "{\"op\":\"clock\",\"ns\":-1}"
    ∷ codes "{\"op\":\"clock\",\"ns\":9223372036854775808}"
    ∷ codes "{\"op\":\"clock\",\"ns\":18446744073709551616}"
    ∷ codes "{\"op\":\"truncate\",\"file\":8,\"size\":9223372036854775808}"
    ∷ codes "{\"op\":\"truncate\",\"file\":8,\"size\":-9223372036854775808}" ∷ [])
    ≡ Bad 2 Range ∷ Bad 2 Range ∷ Bad 2 Field ∷ Bad 2 Range ∷ Good 1 (event.Truncate 8 (negsuc (2 ^ 63 - 1)) ∷ []) ∷ []
unfolding reading_opened
numbers_with_a_sign = refl

-- names of modes and notes, and true and false
pub names_of_records : map second_line (
    codes "{\"op\":\"open\",\"pid\":1,\"fd\":3,\"file\":8,\"mode\":\"r\"}"
    ∷ codes "{\"op\":\"open\",\"pid\":1,\"fd\":3,\"file\":8,\"mode\":\"wr\"}"
    ∷ codes "{\"op\":\"note\",\"file\":8,\"note\":\"delete\"}"
    ∷ codes "{\"op\":\"note\",\"file\":8,\"note\":\"DELETE\"}"
    ∷ codes "{\"op\":\"sigset\",\"pid\":1,\"sig\":2,\"ignore\":1}"
    ∷ codes "{\"op\":\"sigset\",\"pid\":1,\"sig\":2,\"ignore\":\"true\"}" ∷ [])
    ≡ Good 1 (event.Open 1 3 8 mode.Read ∷ []) ∷ Bad 2 Field ∷ Good 1 (event.Note 8 note.Delete ∷ []) ∷ Bad 2 Field ∷ Bad 2 Field ∷ Bad 2 Field ∷ []
unfolding reading_opened
names_of_records = refl

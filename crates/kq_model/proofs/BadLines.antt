-- Bad lines by example, and good ones next to them.
use Rattle.std.specs.Prelude.{◌≡◌, ℕ, zero, suc, ◌^◌, true, List, [], ◌∷◌, ◌++◌, length, map, replicate, codes, nat_lt, Ok, Err}
use Rattle.std.proofs.Common.{refl}
use Rattle.std.proofs.Math.ListN.{length-replicate}
use Rattle.kq_model.specs.declared.event.Event.TheVariants.{Proc}
use Rattle.kq_model.specs.declared.line_fault.LineFault.TheVariants.{TooLong, Header, TooManyRecords, Json, Field, Range}
use Rattle.kq_model.specs.Lines.{onto_first, pieces_of, without_empty_end, lines_among, lines_of}
use Rattle.kq_model.specs.Reading.{Good, Bad, version_on, record_on, with_event, joined, read_records, behind_header, read_lines, reading}
use Rattle.kq_model.proofs.Builders.{kevent, second_line}
use Rattle.kq_model.proofs.ReadingOpened.{reading_opened}

-- ---- line 1

-- versions 1 and 2 are read
pub header_of_another_version : map reading (
    codes "{\"kqsim\":3}"
    ∷ codes "{\"kqsim\":0}"
    ∷ codes "{\"kqsim\":-1}"
    ∷ codes "{\"kqsim\":3}\n{\"op\":\"proc\",\"pid\":1}\n" ∷ [])
    ≡ replicate 4 (Bad 1 Header)
unfolding reading_opened
header_of_another_version = refl

-- the version is a whole number
pub header_is_one_number : map reading (
    codes "{\"kqsim\":1.0}"
    ∷ codes "{\"kqsim\":1e0}"
    ∷ codes "{\"kqsim\":true}"
    ∷ codes "{\"kqsim\":\"1\"}"
    ∷ codes "{\"kqsim\":[1]}" ∷ [])
    ≡ replicate 5 (Bad 1 Header)
unfolding reading_opened
header_is_one_number = refl

-- the header has just its member
pub header_has_one_member : map reading (
    codes "{}"
    ∷ codes "{\"kqsim\":1,\"op\":\"proc\"}"
    ∷ codes "{\"version\":1}"
    ∷ codes "[1]"
    ∷ codes "1" ∷ [])
    ≡ replicate 5 (Bad 1 Header)
unfolding reading_opened
header_has_one_member = refl

-- a first line that is no JSON is no header
pub header_that_is_no_json : map reading (
    codes "\n"
    ∷ codes "{\"kqsim\":1"
    ∷ codes "kqsim"
    ∷ codes "\n{\"kqsim\":1}\n" ∷ [])
    ≡ replicate 4 (Bad 1 Header)
unfolding reading_opened
header_that_is_no_json = refl

-- blanks do not matter, and the last of two equal members counts
pub header_with_blanks : map reading (
    codes " { \"kqsim\" : 1 } "
    ∷ codes "{\"kqsim\":1}\r\n"
    ∷ codes "{\"kqsim\":2,\"kqsim\":1}"
    ∷ codes "{\"kqsim\":\"x\",\"\\u006bqsim\":1}" ∷ [])
    ≡ replicate 4 (Good 1 [])
unfolding reading_opened
header_with_blanks = refl

-- ---- no JSON

-- what serde_json does not read
pub no_json : map second_line (
    codes "{\"op\":\"p"
    ∷ codes "{"
    ∷ codes "{\"op\":\"proc\",\"pid\":01}"
    ∷ codes "{\"op\":\"proc\",\"pid\":+1}"
    ∷ codes "{\"op\":\"proc\",\"pid\":1,}"
    ∷ codes "{\"op\":\"proc\",\"pid\":1} x"
    ∷ codes "{\"op\":\"proc\",\"pid\":1e999}"
    ∷ codes "{'op':'proc','pid':1}" ∷ [])
    ≡ replicate 8 (Bad 2 Json)
unfolding reading_opened
no_json = refl

-- a line that is empty is no JSON, and only one LF at the end is no line
pub empty_lines : map reading (
    codes "{\"kqsim\":1}\n\n"
    ∷ codes "{\"kqsim\":1}\n\n\n"
    ∷ codes "{\"kqsim\":1}\n \n" ∷ [])
    ≡ replicate 3 (Bad 2 Json)
unfolding reading_opened
empty_lines = refl

-- bytes that are not UTF-8
pub no_utf8 : map second_line ((255 ∷ []) ∷ (codes "{\"op\":\"" ++ 195 ∷ codes "\"}") ∷ [])
    ≡ Bad 2 Json ∷ Bad 2 Json ∷ []
unfolding reading_opened
no_utf8 = refl

-- 127 nested arrays are read, and are no record; 128 are not read
pub nesting : map (λ deep. second_line (replicate deep 91 ++ replicate deep 93)) (127 ∷ 128 ∷ [])
    ≡ Bad 2 Field ∷ Bad 2 Json ∷ []
unfolding reading_opened
nesting = refl

-- ---- members

-- a record has just its members
pub members_of_a_record : map second_line (
    codes "{\"op\":\"proc\"}"
    ∷ codes "{\"pid\":1}"
    ∷ codes "{}"
    ∷ codes "{\"op\":\"proc\",\"pid\":1,\"fd\":9}"
    ∷ codes "{\"op\":\"kqueue\",\"pid\":1}"
    ∷ codes "{\"op\":\"kevent\",\"pid\":1,\"fd\":9,\"room\":4}"
    ∷ codes "{\"op\":\"kevent\",\"pid\":1,\"fd\":9,\"changes\":[]}" ∷ [])
    ≡ replicate 7 (Bad 2 Field)
unfolding reading_opened
members_of_a_record = refl

-- each of its own kind
pub kinds_of_members : map second_line (
    codes "{\"op\":\"proc\",\"pid\":\"1\"}"
    ∷ codes "{\"op\":\"proc\",\"pid\":null}"
    ∷ codes "{\"op\":\"proc\",\"pid\":[1]}"
    ∷ codes "{\"op\":1,\"pid\":1}"
    ∷ codes "{\"op\":\"kevent\",\"pid\":1,\"fd\":9,\"changes\":{},\"room\":4}"
    ∷ codes "{\"op\":\"kevent\",\"pid\":1,\"fd\":9,\"changes\":null,\"room\":4}" ∷ [])
    ≡ replicate 6 (Bad 2 Field)
unfolding reading_opened
kinds_of_members = refl

-- a record is an object
pub no_object : map second_line (
    codes "1"
    ∷ codes "\"proc\""
    ∷ codes "[]"
    ∷ codes "[\"proc\",1]"
    ∷ codes "null" ∷ [])
    ≡ replicate 5 (Bad 2 Field)
unfolding reading_opened
no_object = refl

-- the records are known by name
pub unknown_record : map second_line (
    codes "{\"op\":\"process\",\"pid\":1}"
    ∷ codes "{\"op\":\"Proc\",\"pid\":1}"
    ∷ codes "{\"op\":\"\",\"pid\":1}" ∷ [])
    ≡ replicate 3 (Bad 2 Field)
unfolding reading_opened
unknown_record = refl

-- a float is no whole number, and so is what does not fit 64 bits
pub floats : map second_line (
    codes "{\"op\":\"proc\",\"pid\":1.0}"
    ∷ codes "{\"op\":\"proc\",\"pid\":1e0}"
    ∷ codes "{\"op\":\"proc\",\"pid\":-0}"
    ∷ codes "{\"op\":\"proc\",\"pid\":18446744073709551616}"
    ∷ codes "{\"op\":\"proc\",\"pid\":-9223372036854775809}" ∷ [])
    ≡ replicate 5 (Bad 2 Field)
unfolding reading_opened
floats = refl

-- a pid has 32 bits and no sign
pub pid_out_of_range : map second_line (
    codes "{\"op\":\"proc\",\"pid\":4294967296}"
    ∷ codes "{\"op\":\"proc\",\"pid\":-1}"
    ∷ codes "{\"op\":\"proc\",\"pid\":18446744073709551615}"
    ∷ codes "{\"op\":\"proc\",\"pid\":-9223372036854775808}" ∷ [])
    ≡ replicate 4 (Bad 2 Range)
unfolding reading_opened
pid_out_of_range = refl

-- to 2^32 - 1
pub largest_pid : second_line (codes "{\"op\":\"proc\",\"pid\":4294967295}")
    ≡ Good 1 (Proc 4294967295 ∷ [])
unfolding reading_opened
largest_pid = refl

-- the last of two equal members counts, also where one is escaped
pub repeated_member : map second_line (
    codes "{\"op\":\"proc\",\"pid\":\"x\",\"pid\":1}"
    ∷ codes "{\"pid\":2,\"op\":\"kqueue\",\"op\":\"proc\",\"pid\":1}"
    ∷ codes "{\"op\":\"proc\",\"pid\":4294967296,\"\\u0070id\":1}"
    ∷ codes "\t{ \"pid\" : 1 , \"op\" : \"pr\\u006fc\" } \r" ∷ [])
    ≡ replicate 4 (Good 1 (Proc 1 ∷ []))
unfolding reading_opened
repeated_member = refl

-- ---- which fault, and which line

-- one member that is missing, unknown or of the wrong kind hides every number out of range
pub field_before_range : map second_line (
    codes "{\"op\":\"kqueue\",\"pid\":4294967296}"
    ∷ codes "{\"op\":\"kqueue\",\"pid\":4294967296,\"fd\":\"9\"}"
    ∷ codes "{\"op\":\"kevent\",\"pid\":4294967296,\"fd\":9,\"changes\":[{\"ident\":-1,\"filter\":\"USER\",\"flags\":[\"NONE\"]}],\"room\":4}"
    ∷ codes "{\"op\":\"kevent\",\"pid\":1,\"fd\":9,\"changes\":[{\"ident\":-1,\"filter\":\"USER\",\"flags\":[]},{\"ident\":1,\"filter\":\"USER\",\"flags\":[],\"data\":1.5}],\"room\":4294967296}" ∷ [])
    ≡ replicate 4 (Bad 2 Field)
unfolding reading_opened
field_before_range = refl

-- pid, fd and room have 32 bits
pub range_of_a_call : map second_line (
    codes "{\"op\":\"kevent\",\"pid\":4294967296,\"fd\":9,\"changes\":[],\"room\":4}"
    ∷ codes "{\"op\":\"kevent\",\"pid\":1,\"fd\":4294967296,\"changes\":[],\"room\":4}"
    ∷ codes "{\"op\":\"kevent\",\"pid\":1,\"fd\":9,\"changes\":[],\"room\":4294967296}"
    ∷ codes "{\"op\":\"kqueue\",\"pid\":1,\"fd\":-1}" ∷ [])
    ≡ replicate 4 (Bad 2 Range)
unfolding reading_opened
range_of_a_call = refl

-- a room that no call may have is read: it is the record that is impossible
pub room_over_the_limit : second_line (codes "{\"op\":\"kevent\",\"pid\":1,\"fd\":9,\"changes\":[],\"room\":65537}")
    ≡ Good 1 (kevent [] 65537 ∷ [])
unfolding reading_opened
room_over_the_limit = refl

-- the least bad line counts, whatever the faults
pub least_bad_line : reading (codes "{\"kqsim\":1}\n{\"op\":\"proc\",\"pid\":1}\n{\"op\":\"proc\",\"pid\":-1}\n{\n{}\n")
    ≡ Bad 3 Range
unfolding reading_opened
least_bad_line = refl

-- line 1 before all
pub header_before_the_rest : reading (codes "{\"kqsim\":3}\n{\n")
    ≡ Bad 1 Header
unfolding reading_opened
header_before_the_rest = refl

-- a line too long is that, whatever it holds and wherever it stands
pub too_long_header : (bytes : List ℕ) → nat_lt (2 ^ 20) (length bytes) ≡ true → version_on bytes ≡ Err TooLong
unfolding version_on
too_long_header bytes long = rw long

pub too_long : (line : ℕ) (bytes : List ℕ) → nat_lt (2 ^ 20) (length bytes) ≡ true → record_on line bytes ≡ Err TooLong
unfolding record_on
too_long line bytes long = rw long

-- so it is behind the header
header_is_read : version_on (codes "{\"kqsim\":1}") ≡ Ok 1
unfolding reading_opened
header_is_read = refl

blanks_are_one_piece : (n : ℕ) → pieces_of (replicate n 32 ++ 10 ∷ []) ≡ replicate n 32 ∷ [] ∷ []
unfolding pieces_of onto_first
blanks_are_one_piece zero = refl
blanks_are_one_piece (suc n) = rw (blanks_are_one_piece n) refl

pub line_over_the_limit : (n : ℕ) → nat_lt (2 ^ 20) (suc n) ≡ true → second_line (replicate (suc n) 32) ≡ Bad 2 TooLong
unfolding pieces_of onto_first without_empty_end lines_among lines_of read_records behind_header read_lines reading joined with_event
line_over_the_limit n long =
    let over : nat_lt (2 ^ 20) (length (replicate (suc n) 32)) ≡ true = rw (length-replicate {A = ℕ} n 32) long in
    let refused : record_on 2 (replicate (suc n) 32) ≡ Err TooLong = too_long 2 (replicate (suc n) 32) over in
    rw (blanks_are_one_piece n, header_is_read, refused) refl

-- the record on line 1,000,001 is the last that is read; what stands behind is not looked at
pub records_over_the_limit : (record_on 1000001 (codes "{\"op\":\"proc\",\"pid\":1}") ≡ Ok (Proc 1)) × (record_on 1000002 (codes "{") ≡ Err TooManyRecords)
unfolding reading_opened
records_over_the_limit = (refl, refl)

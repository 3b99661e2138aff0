-- Change lists by example: entries, refusals, and what a change does to a USER.
use Rattle.std.specs.Prelude.{◌≡◌, ◌+◌, List, [], ◌∷◌, codes}
use Rattle.std.proofs.Common.{refl}
use Rattle.kq_model.specs.declared.event.Event.{Event}
use Rattle.kq_model.specs.declared.filter.Filter.TheVariants.{Aio}
use Rattle.kq_model.specs.Bits.{add, delete, receipt, trigger}
use Rattle.kq_model.specs.Report.{report_of}
use Rattle.kq_model.proofs.Builders.{user, ff_and, ff_or, ff_copy, kevent, opened, text}
use Rattle.kq_model.proofs.Opened.{system_opened}

-- A change that fails is answered by an entry where there is room, else the call fails; earlier changes stay.

abbrev pub failed_change : List Event
failed_change = opened (
    kevent (user 5 delete 0 ∷ []) 1
    ∷ kevent (user 1 add trigger ∷ user 5 delete 0 ∷ []) 0
    ∷ kevent [] 1 ∷ [])

pub failed_change_report : report_of 1 failed_change ≡ text (
    codes "{\"at\":3,\"events\":[{\"data\":2,\"fflags\":0,\"filter\":\"USER\",\"flags\":[\"ERROR\"],\"ident\":5,\"udata\":0}]}"
    ∷ codes "{\"at\":4,\"failed\":2}"
    ∷ codes "{\"at\":5,\"events\":[{\"data\":0,\"fflags\":0,\"filter\":\"USER\",\"flags\":[],\"ident\":1,\"udata\":0}]}"
    ∷ codes "{\"calls\":3,\"events\":2,\"records\":5}" ∷ [])
unfolding system_opened
failed_change_report = refl

-- RECEIPT places an entry for each success; where the third finds no room, its change has been made and the next one has not.

abbrev pub receipt_without_room : List Event
receipt_without_room = opened (
    kevent (user 1 add trigger ∷ []) 0
    ∷ kevent (user 2 (add + receipt) 0 ∷ user 3 (add + receipt) 0 ∷ user 4 (add + receipt) 0 ∷ user 5 add 0 ∷ []) 2
    ∷ kevent (user 4 delete 0 ∷ user 5 delete 0 ∷ []) 3
    ∷ kevent [] 3 ∷ [])

pub receipt_without_room_report : report_of 1 receipt_without_room ≡ text (
    codes "{\"at\":3,\"events\":[]}"
    ∷ codes "{\"at\":4,\"events\":[{\"data\":0,\"fflags\":0,\"filter\":\"USER\",\"flags\":[\"ERROR\"],\"ident\":2,\"udata\":0},{\"data\":0,\"fflags\":0,\"filter\":\"USER\",\"flags\":[\"ERROR\"],\"ident\":3,\"udata\":0}]}"
    ∷ codes "{\"at\":5,\"events\":[{\"data\":2,\"fflags\":0,\"filter\":\"USER\",\"flags\":[\"ERROR\"],\"ident\":5,\"udata\":0}]}"
    ∷ codes "{\"at\":6,\"events\":[{\"data\":0,\"fflags\":0,\"filter\":\"USER\",\"flags\":[],\"ident\":1,\"udata\":0}]}"
    ∷ codes "{\"calls\":4,\"events\":4,\"records\":6}" ∷ [])
unfolding system_opened
receipt_without_room_report = refl

-- No knote and no ADD is ENOENT, and a filter that is left out EINVAL; what was added before stays.

abbrev pub user_failed_without_room : List Event
user_failed_without_room = opened (
    kevent (user 7 0 0 ∷ []) 1
    ∷ kevent (user 7 add trigger ∷ record (user 3 add 0) { filter = Aio } ∷ []) 0
    ∷ kevent [] 1 ∷ [])

pub user_failed_without_room_report : report_of 1 user_failed_without_room ≡ text (
    codes "{\"at\":3,\"events\":[{\"data\":2,\"fflags\":0,\"filter\":\"USER\",\"flags\":[\"ERROR\"],\"ident\":7,\"udata\":0}]}"
    ∷ codes "{\"at\":4,\"failed\":22}"
    ∷ codes "{\"at\":5,\"events\":[{\"data\":0,\"fflags\":0,\"filter\":\"USER\",\"flags\":[],\"ident\":7,\"udata\":0}]}"
    ∷ codes "{\"calls\":3,\"events\":2,\"records\":5}" ∷ [])
unfolding system_opened
user_failed_without_room_report = refl

-- FFOR, FFAND and FFCOPY on the bits of a USER.

abbrev pub control_bits : List Event
control_bits = opened (
    kevent (user 1 add 12 ∷ []) 0
    ∷ kevent (user 1 0 (ff_or + trigger + 3) ∷ []) 1
    ∷ kevent (user 1 0 (ff_and + 5) ∷ []) 1
    ∷ kevent (user 1 0 (ff_copy + 9) ∷ []) 1 ∷ [])

pub control_bits_report : report_of 1 control_bits ≡ text (
    codes "{\"at\":3,\"events\":[]}"
    ∷ codes "{\"at\":4,\"events\":[{\"data\":0,\"fflags\":15,\"filter\":\"USER\",\"flags\":[],\"ident\":1,\"udata\":0}]}"
    ∷ codes "{\"at\":5,\"events\":[{\"data\":0,\"fflags\":5,\"filter\":\"USER\",\"flags\":[],\"ident\":1,\"udata\":0}]}"
    ∷ codes "{\"at\":6,\"events\":[{\"data\":0,\"fflags\":9,\"filter\":\"USER\",\"flags\":[],\"ident\":1,\"udata\":0}]}"
    ∷ codes "{\"calls\":4,\"events\":3,\"records\":6}" ∷ [])
unfolding system_opened
control_bits_report = refl

-- A later change replaces udata, also without ADD.

abbrev pub udata_of_a_later_change : List Event
udata_of_a_later_change = opened (
    kevent (user 3 add 0 ∷ []) 0
    ∷ kevent (record (user 3 0 trigger) { udata = 8 } ∷ []) 1 ∷ [])

pub udata_of_a_later_change_report : report_of 1 udata_of_a_later_change ≡ text (
    codes "{\"at\":3,\"events\":[]}"
    ∷ codes "{\"at\":4,\"events\":[{\"data\":0,\"fflags\":0,\"filter\":\"USER\",\"flags\":[],\"ident\":3,\"udata\":8}]}"
    ∷ codes "{\"calls\":2,\"events\":1,\"records\":4}" ∷ [])
unfolding system_opened
udata_of_a_later_change_report = refl

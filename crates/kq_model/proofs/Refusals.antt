-- Refusals by example: which error comes first, and that a refused change leaves everything as it was.
use Rattle.std.specs.Prelude.{◌≡◌, ◌+◌, pos, [], ◌∷◌}
use Rattle.std.proofs.Common.{refl}
use Rattle.kq_model.specs.declared.errno.Errno.TheVariants.{ENOENT, EINVAL}
use Rattle.kq_model.specs.declared.filter.Filter.TheVariants.{Aio}
use Rattle.kq_model.specs.declared.reply.Reply.TheVariants.{Events, Failed}
use Rattle.kq_model.specs.Bits.{add, delete, enable, disable, oneshot, clear, receipt, trigger}
use Rattle.kq_model.specs.System.{rows}
use Rattle.kq_model.proofs.Builders.{user, ff_copy, kevent, opened, event, entry, rows_from}
use Rattle.kq_model.proofs.Opened.{system_opened}

-- ENABLE together with DISABLE is refused on an absent knote, and makes none
pub enable_with_disable_makes_none : rows 1 (opened (
    kevent (user 1 (add + enable + disable) trigger ∷ []) 1
    ∷ kevent [] 1
    ∷ kevent (user 1 delete 0 ∷ []) 1 ∷ []))
    ≡ rows_from 3 (
    Events (entry 1 trigger 22 ∷ [])
    ∷ Events []
    ∷ Events (entry 1 0 2 ∷ []) ∷ [])
unfolding system_opened
enable_with_disable_makes_none = refl

-- ENABLE together with DISABLE leaves a present knote as it was: bits, data, udata and trigger
pub enable_with_disable_changes_nothing : rows 1 (opened (
    kevent (record (user 1 add 5) { datum = pos 6; udata = 7 } ∷ []) 0
    ∷ kevent (record (user 1 (add + enable + disable) (ff_copy + trigger + 8)) { datum = pos 9; udata = 10 } ∷ []) 1
    ∷ kevent [] 1
    ∷ kevent (record (user 1 0 trigger) { datum = pos 6; udata = 7 } ∷ []) 1 ∷ []))
    ≡ rows_from 3 (
    Events []
    ∷ Events (record (entry 1 (ff_copy + trigger + 8) 22) { udata = 10 } ∷ [])
    ∷ Events []
    ∷ Events (record (event 1 0 5) { datum = pos 6; udata = 7 } ∷ []) ∷ [])
unfolding system_opened
enable_with_disable_changes_nothing = refl

-- ENABLE together with DISABLE is refused before the want of a knote, and before DELETE removes one
pub enable_with_disable_comes_first : rows 1 (opened (
    kevent (user 1 (enable + disable) 0 ∷ []) 1
    ∷ kevent (user 1 add trigger ∷ []) 0
    ∷ kevent (user 1 (delete + enable + disable) 0 ∷ []) 1
    ∷ kevent [] 1 ∷ []))
    ≡ rows_from 3 (
    Events (entry 1 0 22 ∷ [])
    ∷ Events []
    ∷ Events (entry 1 0 22 ∷ [])
    ∷ Events (event 1 0 0 ∷ []) ∷ [])
unfolding system_opened
enable_with_disable_comes_first = refl

-- a filter that is left out is refused before the want of a knote
pub left_out_filter_comes_first : rows 1 (opened (kevent (record (user 1 delete 3) { filter = Aio } ∷ []) 1 ∷ []))
    ≡ rows_from 3 (Events (record (entry 1 3 22) { filter = Aio } ∷ []) ∷ [])
unfolding system_opened
left_out_filter_comes_first = refl

-- without a knote, neither DELETE nor ENABLE nor DISABLE nor no flag at all does anything
pub absent_knote : rows 1 (opened (
    kevent (user 1 delete 0 ∷ user 1 enable 0 ∷ user 1 disable 0 ∷ user 1 (oneshot + clear) trigger ∷ []) 4
    ∷ kevent [] 1 ∷ []))
    ≡ rows_from 3 (
    Events (entry 1 0 2 ∷ entry 1 0 2 ∷ entry 1 0 2 ∷ entry 1 trigger 2 ∷ [])
    ∷ Events [] ∷ [])
unfolding system_opened
absent_knote = refl

-- a failed change without room fails the call, even where entries were placed before; what they answer stays
pub failed_behind_an_entry : rows 1 (opened (
    kevent (user 1 (add + receipt) trigger ∷ user 5 delete 0 ∷ user 2 add trigger ∷ []) 1
    ∷ kevent [] 2 ∷ []))
    ≡ rows_from 3 (
    Failed ENOENT
    ∷ Events (event 1 0 0 ∷ []) ∷ [])
unfolding system_opened
failed_behind_an_entry = refl

-- the first failed change without room ends the call
pub first_failure_counts : rows 1 (opened (
    kevent (user 1 (enable + disable) 0 ∷ user 5 delete 0 ∷ []) 0
    ∷ kevent (user 5 delete 0 ∷ user 1 (enable + disable) 0 ∷ []) 0 ∷ []))
    ≡ rows_from 3 (Failed EINVAL ∷ Failed ENOENT ∷ [])
unfolding system_opened
first_failure_counts = refl

-- a receipt of a success without room ends the call with no events; the change was made, the next one was not
pub receipt_in_no_room : rows 1 (opened (
    kevent (user 1 (add + receipt) trigger ∷ user 2 add trigger ∷ []) 0
    ∷ kevent [] 2 ∷ []))
    ≡ rows_from 3 (
    Events []
    ∷ Events (event 1 0 0 ∷ []) ∷ [])
unfolding system_opened
receipt_in_no_room = refl

-- a call that placed an entry reads no pending events, though there is room
pub entry_in_place_of_events : rows 1 (opened (
    kevent (user 1 add trigger ∷ []) 0
    ∷ kevent (user 1 receipt 0 ∷ user 2 add trigger ∷ []) 8
    ∷ kevent [] 8 ∷ []))
    ≡ rows_from 3 (
    Events []
    ∷ Events (entry 1 0 0 ∷ [])
    ∷ Events (event 1 0 0 ∷ event 2 0 0 ∷ []) ∷ [])
unfolding system_opened
entry_in_place_of_events = refl

-- an entry has ERROR alone, and the change's fflags and udata; RECEIPT of a failed change is the one entry
pub entry_has_error_alone : rows 1 (opened (
    kevent (record (user 5 (delete + receipt + oneshot + clear) 77) { udata = 8; datum = pos 9 } ∷ []) 2 ∷ []))
    ≡ rows_from 3 (Events (record (entry 5 77 2) { udata = 8 } ∷ []) ∷ [])
unfolding system_opened
entry_has_error_alone = refl

-- RECEIPT is answered also where the change removes
pub receipt_of_a_removal : rows 1 (opened (
    kevent (user 1 add trigger ∷ []) 0
    ∷ kevent (user 1 (delete + receipt) 0 ∷ []) 1
    ∷ kevent [] 1 ∷ []))
    ≡ rows_from 3 (
    Events []
    ∷ Events (entry 1 0 0 ∷ [])
    ∷ Events [] ∷ [])
unfolding system_opened
receipt_of_a_removal = refl

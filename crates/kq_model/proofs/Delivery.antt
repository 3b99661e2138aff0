-- Retrievals by example: what is returned, in which order, and what becomes of it.
use Rattle.std.specs.Prelude.{◌≡◌, ◌+◌, List, [], ◌∷◌, codes}
use Rattle.std.proofs.Common.{refl}
use Rattle.kq_model.specs.declared.event.Event.{Event}
use Rattle.kq_model.specs.declared.event.Event.TheVariants.{Proc, Kqueue, Kevent}
use Rattle.kq_model.specs.declared.reply.Reply.TheVariants.{Events}
use Rattle.kq_model.specs.Bits.{add, delete, enable, disable, oneshot, clear, dispatch, trigger}
use Rattle.kq_model.specs.Report.{report_of}
use Rattle.kq_model.specs.System.{rows}
use Rattle.kq_model.proofs.Builders.{user, kevent, opened, event, entry, rows_from, text}
use Rattle.kq_model.proofs.Opened.{system_opened}

-- What is delivered and stays ready goes to the back of the queue.

abbrev pub three_users_two_rooms : List Event
three_users_two_rooms = opened (
    kevent (user 1 add trigger ∷ user 2 add trigger ∷ user 3 add trigger ∷ []) 0
    ∷ kevent [] 2
    ∷ kevent [] 2 ∷ [])

pub three_users_two_rooms_report : report_of 1 three_users_two_rooms ≡ text (
    codes "{\"at\":3,\"events\":[]}"
    ∷ codes "{\"at\":4,\"events\":[{\"data\":0,\"fflags\":0,\"filter\":\"USER\",\"flags\":[],\"ident\":1,\"udata\":0},{\"data\":0,\"fflags\":0,\"filter\":\"USER\",\"flags\":[],\"ident\":2,\"udata\":0}]}"
    ∷ codes "{\"at\":5,\"events\":[{\"data\":0,\"fflags\":0,\"filter\":\"USER\",\"flags\":[],\"ident\":3,\"udata\":0},{\"data\":0,\"fflags\":0,\"filter\":\"USER\",\"flags\":[],\"ident\":1,\"udata\":0}]}"
    ∷ codes "{\"calls\":3,\"events\":4,\"records\":5}" ∷ [])
unfolding system_opened
three_users_two_rooms_report = refl

-- ONESHOT deletes a knote when it is retrieved.

abbrev pub oneshot_user : List Event
oneshot_user = opened (
    kevent (user 1 (add + oneshot) trigger ∷ []) 1
    ∷ kevent (user 1 delete 0 ∷ []) 1 ∷ [])

pub oneshot_user_report : report_of 1 oneshot_user ≡ text (
    codes "{\"at\":3,\"events\":[{\"data\":0,\"fflags\":0,\"filter\":\"USER\",\"flags\":[\"ONESHOT\"],\"ident\":1,\"udata\":0}]}"
    ∷ codes "{\"at\":4,\"events\":[{\"data\":2,\"fflags\":0,\"filter\":\"USER\",\"flags\":[\"ERROR\"],\"ident\":1,\"udata\":0}]}"
    ∷ codes "{\"calls\":2,\"events\":2,\"records\":4}" ∷ [])
unfolding system_opened
oneshot_user_report = refl

-- CLEAR takes the trigger back and leaves the bits; a disabled knote comes out once it is enabled.

abbrev pub clear_and_enable : List Event
clear_and_enable = opened (
    kevent (user 1 (add + clear) (trigger + 5) ∷ []) 1
    ∷ kevent [] 1
    ∷ kevent (user 2 (add + disable) trigger ∷ []) 1
    ∷ kevent (user 2 enable 0 ∷ []) 1 ∷ [])

pub clear_and_enable_report : report_of 1 clear_and_enable ≡ text (
    codes "{\"at\":3,\"events\":[{\"data\":0,\"fflags\":5,\"filter\":\"USER\",\"flags\":[\"CLEAR\"],\"ident\":1,\"udata\":0}]}"
    ∷ codes "{\"at\":4,\"events\":[]}"
    ∷ codes "{\"at\":5,\"events\":[]}"
    ∷ codes "{\"at\":6,\"events\":[{\"data\":0,\"fflags\":0,\"filter\":\"USER\",\"flags\":[],\"ident\":2,\"udata\":0}]}"
    ∷ codes "{\"calls\":4,\"events\":2,\"records\":6}" ∷ [])
unfolding system_opened
clear_and_enable_report = refl

-- ---- one rule at a time

-- with room 0 nothing is read, and the queue stays
pub no_room : rows 1 (opened (kevent (user 1 (add + oneshot) trigger ∷ []) 0 ∷ kevent [] 0 ∷ kevent [] 1 ∷ []))
    ≡ rows_from 3 (Events [] ∷ Events [] ∷ Events (event 1 oneshot 0 ∷ []) ∷ [])
unfolding system_opened
no_room = refl

-- DISPATCH disables a knote when it is retrieved; it stays triggered, so ENABLE brings it back
pub dispatch_then_enable : rows 1 (opened (
    kevent (user 1 (add + dispatch) trigger ∷ []) 1
    ∷ kevent [] 1
    ∷ kevent (user 1 0 trigger ∷ []) 1
    ∷ kevent (user 1 enable 0 ∷ []) 1
    ∷ kevent (user 1 add 0 ∷ []) 1 ∷ []))
    ≡ rows_from 3 (
    Events (event 1 dispatch 0 ∷ [])
    ∷ Events []
    ∷ Events []
    ∷ Events (event 1 dispatch 0 ∷ [])
    ∷ Events (event 1 dispatch 0 ∷ []) ∷ [])
unfolding system_opened
dispatch_then_enable = refl

-- with CLEAR and DISPATCH a knote is both reset and disabled
pub clear_with_dispatch : rows 1 (opened (
    kevent (user 1 (add + clear + dispatch) (trigger + 5) ∷ []) 1
    ∷ kevent (user 1 enable 0 ∷ []) 1
    ∷ kevent (user 1 0 trigger ∷ []) 1
    ∷ kevent (user 1 0 trigger ∷ []) 1 ∷ []))
    ≡ rows_from 3 (
    Events (event 1 (clear + dispatch) 5 ∷ [])
    ∷ Events []
    ∷ Events (event 1 (clear + dispatch) 5 ∷ [])
    ∷ Events [] ∷ [])
unfolding system_opened
clear_with_dispatch = refl

-- ONESHOT comes before CLEAR and DISPATCH: the knote is deleted
pub oneshot_with_all : rows 1 (opened (
    kevent (user 1 (add + oneshot + clear + dispatch) trigger ∷ []) 1
    ∷ kevent (user 1 enable 0 ∷ []) 1 ∷ []))
    ≡ rows_from 3 (Events (event 1 (oneshot + clear + dispatch) 0 ∷ []) ∷ Events (entry 1 0 2 ∷ []) ∷ [])
unfolding system_opened
oneshot_with_all = refl

-- a CLEAR knote that is triggered again goes to the back
pub cleared_to_the_back : rows 1 (opened (
    kevent (user 1 (add + clear) trigger ∷ user 2 add trigger ∷ []) 1
    ∷ kevent (user 1 0 trigger ∷ []) 2 ∷ []))
    ≡ rows_from 3 (Events (event 1 clear 0 ∷ []) ∷ Events (event 2 0 0 ∷ event 1 clear 0 ∷ []) ∷ [])
unfolding system_opened
cleared_to_the_back = refl

-- room 1 goes round: each is returned before one is returned again
pub one_at_a_time : rows 1 (opened (
    kevent (user 1 add trigger ∷ user 2 (add + oneshot) trigger ∷ user 3 add trigger ∷ []) 1
    ∷ kevent [] 1 ∷ kevent [] 1 ∷ kevent [] 1 ∷ kevent [] 9 ∷ []))
    ≡ rows_from 3 (
    Events (event 1 0 0 ∷ [])
    ∷ Events (event 2 oneshot 0 ∷ [])
    ∷ Events (event 3 0 0 ∷ [])
    ∷ Events (event 1 0 0 ∷ [])
    ∷ Events (event 3 0 0 ∷ event 1 0 0 ∷ []) ∷ [])
unfolding system_opened
one_at_a_time = refl

-- a deleted knote is not returned
pub deleted_before_retrieval : rows 1 (opened (
    kevent (user 1 add trigger ∷ user 2 add trigger ∷ []) 0
    ∷ kevent (user 1 delete 0 ∷ []) 2 ∷ []))
    ≡ rows_from 3 (Events [] ∷ Events (event 2 0 0 ∷ []) ∷ [])
unfolding system_opened
deleted_before_retrieval = refl

-- each kqueue has knotes and a queue of its own, in one process or in two
pub three_kqueues : rows 1 (opened (
    Kqueue 1 10 ∷ Proc 2 ∷ Kqueue 2 9
    ∷ Kevent 1 10 (user 1 (add + clear) (trigger + 6) ∷ []) 0
    ∷ kevent (user 1 add (trigger + 5) ∷ []) 0
    ∷ Kevent 2 9 (user 1 0 trigger ∷ []) 1
    ∷ Kevent 1 10 [] 1
    ∷ Kevent 1 10 [] 1
    ∷ kevent [] 1 ∷ []))
    ≡ rows_from 6 (
    Events []
    ∷ Events []
    ∷ Events (entry 1 trigger 2 ∷ [])
    ∷ Events (event 1 clear 6 ∷ [])
    ∷ Events []
    ∷ Events (event 1 0 5 ∷ []) ∷ [])
unfolding system_opened
three_kqueues = refl

-- Changes that succeed, by example: what of a knote they replace, and where it stands in the queue.
use Rattle.std.specs.Prelude.{◌≡◌, ◌+◌, ◌^◌, ◌-◌, pos, negsuc, [], ◌∷◌}
use Rattle.std.proofs.Common.{refl}
use Rattle.kq_model.specs.declared.reply.Reply.TheVariants.{Events}
use Rattle.kq_model.specs.Bits.{add, delete, enable, disable, oneshot, clear, dispatch, eof, error, trigger}
use Rattle.kq_model.specs.System.{rows}
use Rattle.kq_model.proofs.Builders.{user, ff_and, ff_or, ff_copy, kevent, opened, event, entry, rows_from}
use Rattle.kq_model.proofs.Opened.{system_opened}

-- ---- ADD and DELETE

-- ADD with DELETE on an absent knote only adds
pub add_with_delete_adds : rows 1 (opened (kevent (user 1 (add + delete) (trigger + 5) ∷ []) 1 ∷ kevent [] 1 ∷ []))
    ≡ rows_from 3 (Events (event 1 0 5 ∷ []) ∷ Events (event 1 0 5 ∷ []) ∷ [])
unfolding system_opened
add_with_delete_adds = refl

-- ADD with DELETE on a present knote removes it and adds nothing
pub add_with_delete_removes : rows 1 (opened (
    kevent (user 1 add trigger ∷ []) 0
    ∷ kevent (user 1 (add + delete) trigger ∷ []) 1
    ∷ kevent (user 1 delete 0 ∷ []) 1 ∷ []))
    ≡ rows_from 3 (Events [] ∷ Events [] ∷ Events (entry 1 0 2 ∷ []) ∷ [])
unfolding system_opened
add_with_delete_removes = refl

-- ADD twice makes one knote
pub added_twice : rows 1 (opened (
    kevent (user 1 add trigger ∷ user 1 add 0 ∷ []) 4
    ∷ kevent (user 1 delete 0 ∷ user 1 delete 0 ∷ []) 4 ∷ []))
    ≡ rows_from 3 (Events (event 1 0 0 ∷ []) ∷ Events (entry 1 0 2 ∷ []) ∷ [])
unfolding system_opened
added_twice = refl

-- a later ADD keeps the actions of the first, whether it had some or none
pub later_add_keeps_actions : rows 1 (opened (
    kevent (user 1 (add + clear) 0 ∷ user 2 add 0 ∷ []) 0
    ∷ kevent (user 1 (add + oneshot + dispatch) trigger ∷ user 2 (add + oneshot + clear + dispatch) trigger ∷ []) 2
    ∷ kevent [] 2
    ∷ kevent (user 1 0 trigger ∷ []) 2 ∷ []))
    ≡ rows_from 3 (
    Events []
    ∷ Events (event 1 clear 0 ∷ event 2 0 0 ∷ [])
    ∷ Events (event 2 0 0 ∷ [])
    ∷ Events (event 2 0 0 ∷ event 1 clear 0 ∷ []) ∷ [])
unfolding system_opened
later_add_keeps_actions = refl

-- deleted and added again is a first ADD: new actions, and the low bits whatever the control bits
pub added_anew : rows 1 (opened (
    kevent (user 1 (add + clear) (trigger + 12) ∷ []) 0
    ∷ kevent (user 1 delete 0 ∷ user 1 (add + dispatch) (ff_or + trigger + 3) ∷ []) 1 ∷ []))
    ≡ rows_from 3 (Events [] ∷ Events (event 1 dispatch 3 ∷ []) ∷ [])
unfolding system_opened
added_anew = refl

-- ---- what a change replaces

-- the first ADD stores the low 24 bits, whatever the control bits
pub first_bits : rows 1 (opened (
    kevent (user 1 add (ff_and + trigger + 6) ∷ user 2 add (ff_or + trigger + 7) ∷ user 3 add (ff_copy + trigger + (2 ^ 24 - 1)) ∷ []) 3 ∷ []))
    ≡ rows_from 3 (Events (event 1 0 6 ∷ event 2 0 7 ∷ event 3 0 (2 ^ 24 - 1) ∷ []) ∷ [])
unfolding system_opened
first_bits = refl

-- FFNOP leaves the bits, with ADD and without; the bits between the user's own and NOTE_TRIGGER's do nothing
pub bits_left_alone : rows 1 (opened (
    kevent (user 1 add 12 ∷ []) 0
    ∷ kevent (user 1 0 (trigger + 3) ∷ []) 1
    ∷ kevent (user 1 add (2 ^ 25 + 2 ^ 29 + 3) ∷ []) 1 ∷ []))
    ≡ rows_from 3 (Events [] ∷ Events (event 1 0 12 ∷ []) ∷ Events (event 1 0 12 ∷ []) ∷ [])
unfolding system_opened
bits_left_alone = refl

-- a later ADD applies its control as any later change does
pub control_of_a_later_add : rows 1 (opened (
    kevent (user 1 add (trigger + 12) ∷ []) 0
    ∷ kevent (user 1 add (ff_or + 3) ∷ []) 1
    ∷ kevent (user 1 add (ff_and + 6) ∷ []) 1
    ∷ kevent (user 1 add (ff_copy + 9) ∷ []) 1 ∷ []))
    ≡ rows_from 3 (Events [] ∷ Events (event 1 0 15 ∷ []) ∷ Events (event 1 0 6 ∷ []) ∷ Events (event 1 0 9 ∷ []) ∷ [])
unfolding system_opened
control_of_a_later_add = refl

-- each later change of a USER replaces data and udata, with ADD and without
pub data_and_udata : rows 1 (opened (
    kevent (record (user 1 add trigger) { datum = pos 5; udata = 6 } ∷ []) 1
    ∷ kevent (record (user 1 0 0) { datum = negsuc 6; udata = 2 ^ 64 - 1 } ∷ []) 1
    ∷ kevent (record (user 1 add 0) { datum = pos (2 ^ 63 - 1) } ∷ []) 1
    ∷ kevent (user 1 enable 0 ∷ []) 1 ∷ []))
    ≡ rows_from 3 (
    Events (record (event 1 0 0) { datum = pos 5; udata = 6 } ∷ [])
    ∷ Events (record (event 1 0 0) { datum = negsuc 6; udata = 2 ^ 64 - 1 } ∷ [])
    ∷ Events (record (event 1 0 0) { datum = pos (2 ^ 63 - 1) } ∷ [])
    ∷ Events (event 1 0 0 ∷ []) ∷ [])
unfolding system_opened
data_and_udata = refl

-- EOF, ERROR and bits without a name do nothing in a change
pub flags_without_effect : rows 1 (opened (kevent (user 1 (add + eof + error + 2 ^ 12) trigger ∷ []) 1 ∷ []))
    ≡ rows_from 3 (Events (event 1 0 0 ∷ []) ∷ [])
unfolding system_opened
flags_without_effect = refl

-- ---- ENABLE and DISABLE

-- DISABLE takes the knote out of the queue, and ENABLE puts it to the back
pub enabled_to_the_back : rows 1 (opened (
    kevent (user 1 add trigger ∷ user 2 add trigger ∷ []) 0
    ∷ kevent (user 1 disable 0 ∷ []) 2
    ∷ kevent (user 1 enable 0 ∷ []) 2 ∷ []))
    ≡ rows_from 3 (
    Events []
    ∷ Events (event 2 0 0 ∷ [])
    ∷ Events (event 2 0 0 ∷ event 1 0 0 ∷ []) ∷ [])
unfolding system_opened
enabled_to_the_back = refl

-- within one call too
pub disabled_and_enabled : rows 1 (opened (
    kevent (user 1 add trigger ∷ user 2 add trigger ∷ []) 0
    ∷ kevent (user 1 disable 0 ∷ user 1 enable 0 ∷ []) 2 ∷ []))
    ≡ rows_from 3 (Events [] ∷ Events (event 2 0 0 ∷ event 1 0 0 ∷ []) ∷ [])
unfolding system_opened
disabled_and_enabled = refl

-- ENABLE of a knote in the queue, and a second trigger, leave its place
pub place_is_kept : rows 1 (opened (
    kevent (user 1 add trigger ∷ user 2 add trigger ∷ []) 0
    ∷ kevent (user 1 enable trigger ∷ user 1 add trigger ∷ []) 2 ∷ []))
    ≡ rows_from 3 (Events [] ∷ Events (event 1 0 0 ∷ event 2 0 0 ∷ []) ∷ [])
unfolding system_opened
place_is_kept = refl

-- ADD enables a disabled knote, which goes to the back; with DISABLE it disables an enabled one
pub add_enables : rows 1 (opened (
    kevent (user 1 add trigger ∷ user 2 add trigger ∷ []) 0
    ∷ kevent (user 1 (add + disable) 0 ∷ []) 2
    ∷ kevent (user 1 add 0 ∷ []) 2 ∷ []))
    ≡ rows_from 3 (
    Events []
    ∷ Events (event 2 0 0 ∷ [])
    ∷ Events (event 2 0 0 ∷ event 1 0 0 ∷ []) ∷ [])
unfolding system_opened
add_enables = refl

-- without ADD and ENABLE a disabled knote stays disabled, and its trigger waits for ENABLE
pub triggered_while_disabled : rows 1 (opened (
    kevent (user 1 (add + disable) 0 ∷ user 2 add trigger ∷ []) 0
    ∷ kevent (user 1 0 trigger ∷ []) 2
    ∷ kevent (user 1 enable 0 ∷ []) 2 ∷ []))
    ≡ rows_from 3 (
    Events []
    ∷ Events (event 2 0 0 ∷ [])
    ∷ Events (event 2 0 0 ∷ event 1 0 0 ∷ []) ∷ [])
unfolding system_opened
triggered_while_disabled = refl

-- the order of the queue is that of activation, not of registration
pub order_of_activation : rows 1 (opened (
    kevent (user 1 add 0 ∷ user 2 add 0 ∷ user 3 add trigger ∷ user 2 0 trigger ∷ user 1 0 trigger ∷ []) 3 ∷ []))
    ≡ rows_from 3 (Events (event 3 0 0 ∷ event 2 0 0 ∷ event 1 0 0 ∷ []) ∷ [])
unfolding system_opened
order_of_activation = refl

-- The texts of the worked runs read as their events.
use Rattle.std.specs.Prelude.{◌≡◌, [], ◌∷◌, codes}
use Rattle.std.proofs.Common.{refl}
use Rattle.kq_model.specs.Reading.{Good, reading}
use Rattle.kq_model.proofs.Builders.{text}
use Rattle.kq_model.proofs.ReadingOpened.{reading_opened}
use Rattle.kq_model.proofs.Changes.{failed_change, receipt_without_room, user_failed_without_room, control_bits, udata_of_a_later_change}
use Rattle.kq_model.proofs.Delivery.{three_users_two_rooms, oneshot_user, clear_and_enable}
use Rattle.kq_model.proofs.Impossible.{kqueue_of_no_process}

pub failed_change_reads : reading (text (
    codes "{\"kqsim\":1}"
    ∷ codes "{\"op\":\"proc\",\"pid\":1}"
    ∷ codes "{\"op\":\"kqueue\",\"pid\":1,\"fd\":9}"
    ∷ codes "{\"op\":\"kevent\",\"pid\":1,\"fd\":9,\"changes\":[{\"ident\":5,\"filter\":\"USER\",\"flags\":[\"DELETE\"]}],\"room\":1}"
    ∷ codes "{\"op\":\"kevent\",\"pid\":1,\"fd\":9,\"changes\":[{\"ident\":1,\"filter\":\"USER\",\"flags\":[\"ADD\"],\"fflags\":16777216},{\"ident\":5,\"filter\":\"USER\",\"flags\":[\"DELETE\"]}],\"room\":0}"
    ∷ codes "{\"op\":\"kevent\",\"pid\":1,\"fd\":9,\"changes\":[],\"room\":1}" ∷ [])) ≡ Good 1 failed_change
unfolding reading_opened
failed_change_reads = refl

pub receipt_without_room_reads : reading (text (
    codes "{\"kqsim\":1}"
    ∷ codes "{\"op\":\"proc\",\"pid\":1}"
    ∷ codes "{\"op\":\"kqueue\",\"pid\":1,\"fd\":9}"
    ∷ codes "{\"op\":\"kevent\",\"pid\":1,\"fd\":9,\"changes\":[{\"ident\":1,\"filter\":\"USER\",\"flags\":[\"ADD\"],\"fflags\":16777216}],\"room\":0}"
    ∷ codes "{\"op\":\"kevent\",\"pid\":1,\"fd\":9,\"changes\":[{\"ident\":2,\"filter\":\"USER\",\"flags\":[\"ADD\",\"RECEIPT\"]},{\"ident\":3,\"filter\":\"USER\",\"flags\":[\"ADD\",\"RECEIPT\"]},{\"ident\":4,\"filter\":\"USER\",\"flags\":[\"ADD\",\"RECEIPT\"]},{\"ident\":5,\"filter\":\"USER\",\"flags\":[\"ADD\"]}],\"room\":2}"
    ∷ codes "{\"op\":\"kevent\",\"pid\":1,\"fd\":9,\"changes\":[{\"ident\":4,\"filter\":\"USER\",\"flags\":[\"DELETE\"]},{\"ident\":5,\"filter\":\"USER\",\"flags\":[\"DELETE\"]}],\"room\":3}"
    ∷ codes "{\"op\":\"kevent\",\"pid\":1,\"fd\":9,\"changes\":[],\"room\":3}" ∷ [])) ≡ Good 1 receipt_without_room
unfolding reading_opened
receipt_without_room_reads = refl

pub user_failed_without_room_reads : reading (text (
    codes "{\"kqsim\":1}"
    ∷ codes "{\"op\":\"proc\",\"pid\":1}"
    ∷ codes "{\"op\":\"kqueue\",\"pid\":1,\"fd\":9}"
    ∷ codes "{\"op\":\"kevent\",\"pid\":1,\"fd\":9,\"changes\":[{\"ident\":7,\"filter\":\"USER\",\"flags\":[]}],\"room\":1}"
    ∷ codes "{\"op\":\"kevent\",\"pid\":1,\"fd\":9,\"changes\":[{\"ident\":7,\"filter\":\"USER\",\"flags\":[\"ADD\"],\"fflags\":16777216},{\"ident\":3,\"filter\":\"AIO\",\"flags\":[\"ADD\"]}],\"room\":0}"
    ∷ codes "{\"op\":\"kevent\",\"pid\":1,\"fd\":9,\"changes\":[],\"room\":1}" ∷ [])) ≡ Good 1 user_failed_without_room
unfolding reading_opened
user_failed_without_room_reads = refl

pub control_bits_reads : reading (text (
    codes "{\"kqsim\":1}"
    ∷ codes "{\"op\":\"proc\",\"pid\":1}"
    ∷ codes "{\"op\":\"kqueue\",\"pid\":1,\"fd\":9}"
    ∷ codes "{\"op\":\"kevent\",\"pid\":1,\"fd\":9,\"changes\":[{\"ident\":1,\"filter\":\"USER\",\"flags\":[\"ADD\"],\"fflags\":12}],\"room\":0}"
    ∷ codes "{\"op\":\"kevent\",\"pid\":1,\"fd\":9,\"changes\":[{\"ident\":1,\"filter\":\"USER\",\"flags\":[],\"fflags\":2164260867}],\"room\":1}"
    ∷ codes "{\"op\":\"kevent\",\"pid\":1,\"fd\":9,\"changes\":[{\"ident\":1,\"filter\":\"USER\",\"flags\":[],\"fflags\":1073741829}],\"room\":1}"
    ∷ codes "{\"op\":\"kevent\",\"pid\":1,\"fd\":9,\"changes\":[{\"ident\":1,\"filter\":\"USER\",\"flags\":[],\"fflags\":3221225481}],\"room\":1}" ∷ [])) ≡ Good 1 control_bits
unfolding reading_opened
control_bits_reads = refl

pub udata_of_a_later_change_reads : reading (text (
    codes "{\"kqsim\":1}"
    ∷ codes "{\"op\":\"proc\",\"pid\":1}"
    ∷ codes "{\"op\":\"kqueue\",\"pid\":1,\"fd\":9}"
    ∷ codes "{\"op\":\"kevent\",\"pid\":1,\"fd\":9,\"changes\":[{\"ident\":3,\"filter\":\"USER\",\"flags\":[\"ADD\"]}],\"room\":0}"
    ∷ codes "{\"op\":\"kevent\",\"pid\":1,\"fd\":9,\"changes\":[{\"ident\":3,\"filter\":\"USER\",\"flags\":[],\"fflags\":16777216,\"udata\":8}],\"room\":1}" ∷ [])) ≡ Good 1 udata_of_a_later_change
unfolding reading_opened
udata_of_a_later_change_reads = refl

pub three_users_two_rooms_reads : reading (text (
    codes "{\"kqsim\":1}"
    ∷ codes "{\"op\":\"proc\",\"pid\":1}"
    ∷ codes "{\"op\":\"kqueue\",\"pid\":1,\"fd\":9}"
    ∷ codes "{\"op\":\"kevent\",\"pid\":1,\"fd\":9,\"changes\":[{\"ident\":1,\"filter\":\"USER\",\"flags\":[\"ADD\"],\"fflags\":16777216},{\"ident\":2,\"filter\":\"USER\",\"flags\":[\"ADD\"],\"fflags\":16777216},{\"ident\":3,\"filter\":\"USER\",\"flags\":[\"ADD\"],\"fflags\":16777216}],\"room\":0}"
    ∷ codes "{\"op\":\"kevent\",\"pid\":1,\"fd\":9,\"changes\":[],\"room\":2}"
    ∷ codes "{\"op\":\"kevent\",\"pid\":1,\"fd\":9,\"changes\":[],\"room\":2}" ∷ [])) ≡ Good 1 three_users_two_rooms
unfolding reading_opened
three_users_two_rooms_reads = refl

pub oneshot_user_reads : reading (text (
    codes "{\"kqsim\":1}"
    ∷ codes "{\"op\":\"proc\",\"pid\":1}"
    ∷ codes "{\"op\":\"kqueue\",\"pid\":1,\"fd\":9}"
    ∷ codes "{\"op\":\"kevent\",\"pid\":1,\"fd\":9,\"changes\":[{\"ident\":1,\"filter\":\"USER\",\"flags\":[\"ADD\",\"ONESHOT\"],\"fflags\":16777216}],\"room\":1}"
    ∷ codes "{\"op\":\"kevent\",\"pid\":1,\"fd\":9,\"changes\":[{\"ident\":1,\"filter\":\"USER\",\"flags\":[\"DELETE\"]}],\"room\":1}" ∷ [])) ≡ Good 1 oneshot_user
unfolding reading_opened
oneshot_user_reads = refl

pub clear_and_enable_reads : reading (text (
    codes "{\"kqsim\":1}"
    ∷ codes "{\"op\":\"proc\",\"pid\":1}"
    ∷ codes "{\"op\":\"kqueue\",\"pid\":1,\"fd\":9}"
    ∷ codes "{\"op\":\"kevent\",\"pid\":1,\"fd\":9,\"changes\":[{\"ident\":1,\"filter\":\"USER\",\"flags\":[\"ADD\",\"CLEAR\"],\"fflags\":16777221}],\"room\":1}"
    ∷ codes "{\"op\":\"kevent\",\"pid\":1,\"fd\":9,\"changes\":[],\"room\":1}"
    ∷ codes "{\"op\":\"kevent\",\"pid\":1,\"fd\":9,\"changes\":[{\"ident\":2,\"filter\":\"USER\",\"flags\":[\"ADD\",\"DISABLE\"],\"fflags\":16777216}],\"room\":1}"
    ∷ codes "{\"op\":\"kevent\",\"pid\":1,\"fd\":9,\"changes\":[{\"ident\":2,\"filter\":\"USER\",\"flags\":[\"ENABLE\"]}],\"room\":1}" ∷ [])) ≡ Good 1 clear_and_enable
unfolding reading_opened
clear_and_enable_reads = refl

pub kqueue_of_no_process_reads : reading (text (
    codes "{\"kqsim\":1}"
    ∷ codes "{\"op\":\"proc\",\"pid\":1}"
    ∷ codes "{\"op\":\"kqueue\",\"pid\":1,\"fd\":9}"
    ∷ codes "{\"op\":\"kqueue\",\"pid\":2,\"fd\":1}" ∷ [])) ≡ Good 1 kqueue_of_no_process
unfolding reading_opened
kqueue_of_no_process_reads = refl

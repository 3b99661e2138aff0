-- A USER is triggered by a second change and stays ready, so each of two polls returns it.
use Rattle.std.specs.Prelude.{◌≡◌, List, [], ◌∷◌, codes}
use Rattle.std.proofs.Common.{refl}
use Rattle.kq_model.specs.declared.event.Event.{Event}
use Rattle.kq_model.specs.Bits.{add, trigger}
use Rattle.kq_model.specs.Report.{report_of}
use Rattle.kq_model.proofs.Builders.{user, kevent, opened, text}
use Rattle.kq_model.proofs.Opened.{system_opened}

pub header_alone : report_of 1 [] ≡ codes "{\"calls\":0,\"events\":0,\"records\":0}\n"
unfolding system_opened
header_alone = refl

abbrev pub stored_run : List Event
stored_run = opened (kevent (user 7 add 5 ∷ []) 4 ∷ kevent (user 7 0 trigger ∷ []) 0 ∷ kevent [] 4 ∷ kevent [] 4 ∷ [])

pub stored_run_report : report_of 1 stored_run ≡ text (
    codes "{\"at\":3,\"events\":[]}"
    ∷ codes "{\"at\":4,\"events\":[]}"
    ∷ codes "{\"at\":5,\"events\":[{\"data\":0,\"fflags\":5,\"filter\":\"USER\",\"flags\":[],\"ident\":7,\"udata\":0}]}"
    ∷ codes "{\"at\":6,\"events\":[{\"data\":0,\"fflags\":5,\"filter\":\"USER\",\"flags\":[],\"ident\":7,\"udata\":0}]}"
    ∷ codes "{\"calls\":4,\"events\":2,\"records\":6}" ∷ [])
unfolding system_opened
stored_run_report = refl

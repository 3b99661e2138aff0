-- The canonical text by example: every flag and filter, the widest numbers, and that it reads as what it spells.
use Rattle.std.specs.Prelude.{◌≡◌, ◌+◌, ◌-◌, ◌^◌, pos, negsuc, List, [], ◌∷◌, map, codes}
use Rattle.std.proofs.Common.{refl}
use Rattle.kq_model.specs.declared.event.Event.{Event}
use Rattle.kq_model.specs.declared.event.Event.TheVariants.{Proc, Kqueue, Kevent}
use Rattle.kq_model.specs.declared.filter.Filter.TheVariants.{Timer}
use Rattle.kq_model.specs.Bits.{add, delete, enable, disable, oneshot, clear, dispatch, receipt, eof, error}
use Rattle.kq_model.specs.Names.{filters}
use Rattle.kq_model.specs.Reading.{Good, reading}
use Rattle.kq_model.specs.Spelling.{spelling}
use Rattle.kq_model.proofs.Builders.{user, kevent, text}
use Rattle.kq_model.proofs.Opened.{system_opened}
use Rattle.kq_model.proofs.ReadingOpened.{reading_opened}

pub no_record_spelled : spelling 1 [] ≡ codes "{\"kqsim\":1}\n"
unfolding system_opened
no_record_spelled = refl

-- every flag, once each in the order of the list of flags, with the widest numbers
abbrev pub widest : List Event
widest = Proc (2 ^ 32 - 1) ∷ Kqueue 0 (2 ^ 32 - 1) ∷ Kevent 1 2 (
    record (user (2 ^ 64 - 1) (add + delete + enable + disable + oneshot + clear + receipt + dispatch + error + eof) (2 ^ 32 - 1)) { filter = Timer; datum = negsuc (2 ^ 63 - 1); udata = 2 ^ 64 - 1 }
    ∷ record (user 0 0 0) { datum = pos (2 ^ 63 - 1) } ∷ []) 3 ∷ []

pub widest_spelled : spelling 1 widest ≡ text (
    codes "{\"kqsim\":1}"
    ∷ codes "{\"op\":\"proc\",\"pid\":4294967295}"
    ∷ codes "{\"fd\":4294967295,\"op\":\"kqueue\",\"pid\":0}"
    ∷ codes "{\"changes\":[{\"data\":-9223372036854775808,\"fflags\":4294967295,\"filter\":\"TIMER\",\"flags\":[\"ADD\",\"DELETE\",\"ENABLE\",\"DISABLE\",\"ONESHOT\",\"CLEAR\",\"DISPATCH\",\"RECEIPT\",\"EOF\",\"ERROR\"],\"ident\":18446744073709551615,\"udata\":18446744073709551615},{\"data\":9223372036854775807,\"fflags\":0,\"filter\":\"USER\",\"flags\":[],\"ident\":0,\"udata\":0}],\"fd\":2,\"op\":\"kevent\",\"pid\":1,\"room\":3}" ∷ [])
unfolding system_opened
widest_spelled = refl

pub widest_reads_again : reading (spelling 1 widest) ≡ Good 1 widest
unfolding system_opened reading_opened
widest_reads_again = refl

-- every filter has a name, which reads as that filter
abbrev pub all_filters : List Event
all_filters = kevent (map (λ f. record (user 7 0 0) { filter = f }) filters) 4 ∷ []

pub all_filters_read_again : reading (spelling 1 all_filters) ≡ Good 1 all_filters
unfolding system_opened reading_opened
all_filters_read_again = refl

-- bits of flags without a name are not spelled, so they do not come back
pub unnamed_bits : reading (spelling 1 (kevent (user 7 (add + 2 ^ 8 + 2 ^ 13) 0 ∷ []) 4 ∷ [])) ≡ Good 1 (kevent (user 7 add 0 ∷ []) 4 ∷ [])
unfolding system_opened reading_opened
unnamed_bits = refl

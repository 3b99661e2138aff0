-- Changes in a trace by example: what is read, and what is Field or Range.
use Rattle.std.specs.Prelude.{◌≡◌, ◌+◌, ◌-◌, ◌^◌, pos, negsuc, [], ◌∷◌, map, replicate, codes}
use Rattle.std.proofs.Common.{refl}
use Rattle.kq_model.specs.declared.line_fault.LineFault.TheVariants.{Field, Range}
use Rattle.kq_model.specs.Bits.{add, delete, enable, disable, oneshot, clear, dispatch, receipt, eof, error}
use Rattle.kq_model.specs.Names.{filters}
use Rattle.kq_model.specs.Reading.{Good, Bad}
use Rattle.kq_model.proofs.Builders.{user, kevent, second_line}
use Rattle.kq_model.proofs.ReadingOpened.{reading_opened}

-- a change has ident, filter and flags, and no unknown member
pub members_of_a_change : map second_line (
    codes "{\"op\":\"kevent\",\"pid\":1,\"fd\":9,\"changes\":[{\"filter\":\"USER\",\"flags\":[]}],\"room\":4}"
    ∷ codes "{\"op\":\"kevent\",\"pid\":1,\"fd\":9,\"changes\":[{\"ident\":7,\"flags\":[]}],\"room\":4}"
    ∷ codes "{\"op\":\"kevent\",\"pid\":1,\"fd\":9,\"changes\":[{\"ident\":7,\"filter\":\"USER\"}],\"room\":4}"
    ∷ codes "{\"op\":\"kevent\",\"pid\":1,\"fd\":9,\"changes\":[{\"ident\":7,\"filter\":\"USER\",\"flags\":[],\"datum\":0}],\"room\":4}"
    ∷ codes "{\"op\":\"kevent\",\"pid\":1,\"fd\":9,\"changes\":[7],\"room\":4}"
    ∷ codes "{\"op\":\"kevent\",\"pid\":1,\"fd\":9,\"changes\":[[]],\"room\":4}"
    ∷ codes "{\"op\":\"kevent\",\"pid\":1,\"fd\":9,\"changes\":[{\"ident\":7,\"filter\":\"USER\",\"flags\":[\"ADD\"]},{}],\"room\":4}" ∷ [])
    ≡ replicate 7 (Bad 2 Field)
unfolding reading_opened
members_of_a_change = refl

-- filters and flags are known by name
pub names_in_a_change : map second_line (
    codes "{\"op\":\"kevent\",\"pid\":1,\"fd\":9,\"changes\":[{\"ident\":7,\"filter\":\"user\",\"flags\":[]}],\"room\":4}"
    ∷ codes "{\"op\":\"kevent\",\"pid\":1,\"fd\":9,\"changes\":[{\"ident\":7,\"filter\":\"\",\"flags\":[]}],\"room\":4}"
    ∷ codes "{\"op\":\"kevent\",\"pid\":1,\"fd\":9,\"changes\":[{\"ident\":7,\"filter\":7,\"flags\":[]}],\"room\":4}"
    ∷ codes "{\"op\":\"kevent\",\"pid\":1,\"fd\":9,\"changes\":[{\"ident\":7,\"filter\":\"USER\",\"flags\":[\"add\"]}],\"room\":4}"
    ∷ codes "{\"op\":\"kevent\",\"pid\":1,\"fd\":9,\"changes\":[{\"ident\":7,\"filter\":\"USER\",\"flags\":[\"\"]}],\"room\":4}"
    ∷ codes "{\"op\":\"kevent\",\"pid\":1,\"fd\":9,\"changes\":[{\"ident\":7,\"filter\":\"USER\",\"flags\":\"ADD\"}],\"room\":4}"
    ∷ codes "{\"op\":\"kevent\",\"pid\":1,\"fd\":9,\"changes\":[{\"ident\":7,\"filter\":\"USER\",\"flags\":[\"ADD\",1]}],\"room\":4}"
    ∷ codes "{\"op\":\"kevent\",\"pid\":1,\"fd\":9,\"changes\":[{\"ident\":7,\"filter\":\"USER\",\"flags\":[\"KEEPUDATA\"]}],\"room\":4}" ∷ [])
    ≡ replicate 8 (Bad 2 Field)
unfolding reading_opened
names_in_a_change = refl

-- each number of a change in its range
pub numbers_in_a_change : map second_line (
    codes "{\"op\":\"kevent\",\"pid\":1,\"fd\":9,\"changes\":[{\"ident\":-1,\"filter\":\"USER\",\"flags\":[]}],\"room\":4}"
    ∷ codes "{\"op\":\"kevent\",\"pid\":1,\"fd\":9,\"changes\":[{\"ident\":7,\"filter\":\"USER\",\"flags\":[],\"fflags\":4294967296}],\"room\":4}"
    ∷ codes "{\"op\":\"kevent\",\"pid\":1,\"fd\":9,\"changes\":[{\"ident\":7,\"filter\":\"USER\",\"flags\":[],\"fflags\":-1}],\"room\":4}"
    ∷ codes "{\"op\":\"kevent\",\"pid\":1,\"fd\":9,\"changes\":[{\"ident\":7,\"filter\":\"USER\",\"flags\":[],\"data\":9223372036854775808}],\"room\":4}"
    ∷ codes "{\"op\":\"kevent\",\"pid\":1,\"fd\":9,\"changes\":[{\"ident\":7,\"filter\":\"USER\",\"flags\":[],\"udata\":-1}],\"room\":4}" ∷ [])
    ≡ replicate 5 (Bad 2 Range)
unfolding reading_opened
numbers_in_a_change = refl

-- and each of its kind
pub kinds_in_a_change : map second_line (
    codes "{\"op\":\"kevent\",\"pid\":1,\"fd\":9,\"changes\":[{\"ident\":7.0,\"filter\":\"USER\",\"flags\":[]}],\"room\":4}"
    ∷ codes "{\"op\":\"kevent\",\"pid\":1,\"fd\":9,\"changes\":[{\"ident\":7,\"filter\":\"USER\",\"flags\":[],\"fflags\":null}],\"room\":4}"
    ∷ codes "{\"op\":\"kevent\",\"pid\":1,\"fd\":9,\"changes\":[{\"ident\":7,\"filter\":\"USER\",\"flags\":[],\"data\":-0}],\"room\":4}"
    ∷ codes "{\"op\":\"kevent\",\"pid\":1,\"fd\":9,\"changes\":[{\"ident\":7,\"filter\":\"USER\",\"flags\":[],\"udata\":18446744073709551616}],\"room\":4}" ∷ [])
    ≡ replicate 4 (Bad 2 Field)
unfolding reading_opened
kinds_in_a_change = refl

-- the widest numbers of a change
pub widest_change : second_line (codes "{\"op\":\"kevent\",\"pid\":1,\"fd\":9,\"changes\":[{\"ident\":18446744073709551615,\"filter\":\"USER\",\"flags\":[],\"fflags\":4294967295,\"data\":-9223372036854775808,\"udata\":18446744073709551615}],\"room\":4}")
    ≡ Good 1 (kevent (record (user (2 ^ 64 - 1) 0 (2 ^ 32 - 1)) { datum = negsuc (2 ^ 63 - 1); udata = 2 ^ 64 - 1 } ∷ []) 4 ∷ [])
unfolding reading_opened
widest_change = refl

-- the greatest data
pub largest_data : second_line (codes "{\"op\":\"kevent\",\"pid\":1,\"fd\":9,\"changes\":[{\"udata\":0,\"data\":9223372036854775807,\"flags\":[],\"filter\":\"USER\",\"ident\":7}],\"room\":4}")
    ≡ Good 1 (kevent (record (user 7 0 0) { datum = pos (2 ^ 63 - 1) } ∷ []) 4 ∷ [])
unfolding reading_opened
largest_data = refl

-- a flag may be repeated, in any order
pub repeated_flags : map second_line (
    codes "{\"op\":\"kevent\",\"pid\":1,\"fd\":9,\"changes\":[{\"ident\":7,\"filter\":\"USER\",\"flags\":[\"ONESHOT\",\"ADD\",\"ONESHOT\",\"ADD\"]}],\"room\":4}"
    ∷ codes "{\"op\":\"kevent\",\"pid\":1,\"fd\":9,\"changes\":[{\"ident\":7,\"filter\":\"USER\",\"flags\":[\"ADD\",\"ONESHOT\"],\"fflags\":0,\"data\":0,\"udata\":0}],\"room\":4}" ∷ [])
    ≡ replicate 2 (Good 1 (kevent (user 7 (add + oneshot) 0 ∷ []) 4 ∷ []))
unfolding reading_opened
repeated_flags = refl

-- every flag by its name
pub every_flag : second_line (codes "{\"op\":\"kevent\",\"pid\":1,\"fd\":9,\"changes\":[{\"ident\":7,\"filter\":\"USER\",\"flags\":[\"ADD\",\"DELETE\",\"ENABLE\",\"DISABLE\",\"ONESHOT\",\"CLEAR\",\"DISPATCH\",\"RECEIPT\",\"EOF\",\"ERROR\"]}],\"room\":4}")
    ≡ Good 1 (kevent (user 7 (add + delete + enable + disable + oneshot + clear + dispatch + receipt + eof + error) 0 ∷ []) 4 ∷ [])
unfolding reading_opened
every_flag = refl

-- every filter by its name, also those that are left out
pub every_filter : second_line (
    codes "{\"op\":\"kevent\",\"pid\":1,\"fd\":9,\"changes\":[{\"ident\":7,\"filter\":\"READ\",\"flags\":[]},{\"ident\":7,\"filter\":\"WRITE\",\"flags\":[]},{\"ident\":7,\"filter\":\"VNODE\",\"flags\":[]},{\"ident\":7,\"filter\":\"PROC\",\"flags\":[]},{\"ident\":7,\"filter\":\"SIGNAL\",\"flags\":[]},{\"ident\":7,\"filter\":\"TIMER\",\"flags\":[]},{\"ident\":7,\"filter\":\"USER\",\"flags\":[]},{\"ident\":7,\"filter\":\"AIO\",\"flags\":[]},{\"ident\":7,\"filter\":\"LIO\",\"flags\":[]},{\"ident\":7,\"filter\":\"FS\",\"flags\":[]},{\"ident\":7,\"filter\":\"PROCDESC\",\"flags\":[]},{\"ident\":7,\"filter\":\"SENDFILE\",\"flags\":[]},{\"ident\":7,\"filter\":\"EMPTY\",\"flags\":[]}],\"room\":4}")
    ≡ Good 1 (kevent (map (λ f. record (user 7 0 0) { filter = f }) filters) 4 ∷ [])
unfolding reading_opened
every_filter = refl

-- The names of flags that all have names are read as these flags.
use Rattle.std.proofs.Common.{◌≡◌, ℕ, zero, suc, ◌*◌, ◌^◌, ◌<◌, ◌==◌, Bool, true, false, cond, List, [], ◌∷◌, map, max, min, Some, refl, sym, ap, ◌∙◌, arith}
use Rattle.std.proofs.lemmas.Bool.Decides.{nat_tests}
use Rattle.std.proofs.lemmas.Nat.Bits.{and_pow, bit_at_and, bit_at_or, bit_at-lt, bit_at-zero, same_from_bits}
use Rattle.std.specs.Int.{bit_at}
use Rattle.std.specs.Int.RustNames.{bit_and, bit_or}
use Rattle.std.specs.Prelude.{filter}
use Rattle.bitflags.specs.Sets.{find_row, known_bits, known_from}
use Rattle.serde_json.specs.Data.{string}
use Rattle.serde_json.specs.View.{items_of}
use Rattle.kq_model.specs.declared.event_flags.EvFlags.{EvFlags}
use Rattle.kq_model.specs.Bits.{asks}
use Rattle.kq_model.specs.ChangeText.{flag_in, flags_among, flags_in}
use Rattle.kq_model.specs.FlagNames.{flag_table}
use Rattle.kq_model.specs.Names.{names_of}
use Rattle.kq_model.specs.Spelling.{flags_data}

-- ---- bits

min_over_max : (x y z : ℕ) → min x (max y z) ≡ max (min x y) (min x z)
min_over_max x y z = omega arith

and_over_or : (f a b : ℕ) → bit_and f (bit_or a b) ≡ bit_or (bit_and f a) (bit_and f b)
and_over_or f a b = same_from_bits _ _ (λ i.
    bit_at_and f (bit_or a b) i ∙ ap (min (bit_at f i)) (bit_at_or a b i) ∙ min_over_max (bit_at f i) (bit_at a i) (bit_at b i)
    ∙ sym (bit_at_or (bit_and f a) (bit_and f b) i ∙ rw (bit_at_and f a i, bit_at_and f b i) refl))

min_zero : (x : ℕ) → min x 0 ≡ 0
min_zero x = omega arith

max_zero : (x : ℕ) → max x 0 ≡ x
max_zero x = omega arith

and_nothing : (f : ℕ) → bit_and f 0 ≡ 0
and_nothing f = same_from_bits _ _ (λ i. bit_at_and f 0 i ∙ rw (bit_at-zero i) (min_zero (bit_at f i)))

or_nothing : (a : ℕ) → bit_or a 0 ≡ a
or_nothing a = same_from_bits _ _ (λ i. bit_at_or a 0 i ∙ rw (bit_at-zero i) (max_zero (bit_at a i)))

times : (t p : ℕ) → t < 2 → (t * p == p) ≡ false → t * p ≡ 0
times zero p lt other = omega arith
times (suc zero) p lt other = grind (arith, nat_tests)
times (suc (suc t)) p lt other = absurd (omega arith)

-- a flag is one bit: it is there, or nothing of it is
not_there : (f k : ℕ) → (bit_and f (2 ^ k) == 2 ^ k) ≡ false → bit_and f (2 ^ k) ≡ 0
not_there f k other = and_pow f k ∙ times (bit_at f k) (2 ^ k) (bit_at-lt f k) (ap (λ n. n == 2 ^ k) (sym (and_pow f k)) ∙ other)

there : (a b : ℕ) → (a == b) ≡ true → a ≡ b
there a b same = grind (arith, nat_tests)

-- ---- the flags of a table that are set

abbrev Row : Type 0
Row = List ℕ × ℕ

chosen : ℕ → ℕ → List Row → ℕ
chosen flags so_far [] = so_far
chosen flags so_far (row ∷ rows) = cond (bit_and flags row.1 == row.1) (chosen flags (bit_or so_far row.1) rows) (chosen flags so_far rows)

abbrev AreBits : List Row → Type 0
AreBits [] = Unit {0}
AreBits (row ∷ rows) = ((k : ℕ) × (row.1 ≡ 2 ^ k)) × AreBits rows

chosen_step : (b : Bool) (flags so_far k : ℕ) (rows : List Row) → (bit_and flags (2 ^ k) == 2 ^ k) ≡ b
    → ((a : ℕ) → chosen flags (bit_and flags a) rows ≡ bit_and flags (known_from a rows))
    → cond b (chosen flags (bit_or (bit_and flags so_far) (2 ^ k)) rows) (chosen flags (bit_and flags so_far) rows)
    ≡ bit_and flags (known_from (bit_or so_far (2 ^ k)) rows)
chosen_step true flags so_far k rows is rest =
    ap (λ a. chosen flags (bit_or (bit_and flags so_far) a) rows) (sym (there _ _ is))
    ∙ ap (λ a. chosen flags a rows) (sym (and_over_or flags so_far (2 ^ k))) ∙ rest (bit_or so_far (2 ^ k))
chosen_step false flags so_far k rows is rest =
    ap (λ a. chosen flags a rows)
    (sym (and_over_or flags so_far (2 ^ k) ∙ ap (bit_or (bit_and flags so_far)) (not_there flags k is) ∙ or_nothing (bit_and flags so_far)))
    ∙ rest (bit_or so_far (2 ^ k))

chosen_known : (flags so_far : ℕ) (rows : List Row) → AreBits rows → chosen flags (bit_and flags so_far) rows ≡ bit_and flags (known_from so_far rows)
unfolding chosen known_from
chosen_known flags so_far [] bits = refl
chosen_known flags so_far (row ∷ rows) bits =
    rw bits.0.1 (chosen_step _ flags so_far bits.0.0 rows refl (λ a. chosen_known flags a rows bits.1))

-- ---- reading their names

abbrev AreNames : List Row → Type 0
AreNames [] = Unit {0}
AreNames (row ∷ rows) = (flag_in (string row.0) ≡ Some row.1) × AreNames rows

reads_step : (b : Bool) (flags so_far : ℕ) (row : Row) (rows among : List Row) → flag_in (string row.0) ≡ Some row.1
    → ((a : ℕ) → flags_among a (items_of (map string (map (λ r. r.0) among))) ≡ Some (chosen flags a rows))
    → flags_among so_far (items_of (map string (map (λ r. r.0) (cond b (row ∷ among) among))))
    ≡ Some (cond b (chosen flags (bit_or so_far row.1) rows) (chosen flags so_far rows))
unfolding flags_among
reads_step true flags so_far row rows among named rest = rw named (rest (bit_or so_far row.1))
reads_step false flags so_far row rows among named rest = rest so_far

reads_names : (flags : EvFlags) (so_far : ℕ) (rows : List Row) → AreNames rows
    → flags_among so_far (items_of (map string (map (λ r. r.0) (filter (λ r. asks flags r.1) rows)))) ≡ Some (chosen flags.0 so_far rows)
unfolding chosen flags_among
reads_names flags so_far [] named = refl
reads_names flags so_far (row ∷ rows) named =
    reads_step (asks flags row.1) flags.0 so_far row rows (filter (λ r. asks flags r.1) rows) named.0 (λ a. reads_names flags a rows named.1)

table_bits : AreBits flag_table
table_bits = ((0, refl), ((1, refl), ((2, refl), ((3, refl), ((4, refl), ((5, refl), ((7, refl), ((6, refl), ((15, refl), ((14, refl), tt))))))))))

table_names : AreNames flag_table
unfolding flag_in find_row
table_names = (refl, (refl, (refl, (refl, (refl, (refl, (refl, (refl, (refl, (refl, tt))))))))))

pub flags_again : (flags : EvFlags) → bit_and flags.0 (known_bits flag_table) ≡ flags.0 → flags_in (flags_data flags) ≡ Some flags.0
unfolding flags_in flags_data names_of
flags_again flags known =
    reads_names flags 0 flag_table table_names
    ∙ ap Some (ap (λ a. chosen flags.0 a flag_table) (sym (and_nothing flags.0)) ∙ chosen_known flags.0 0 flag_table table_bits ∙ known)

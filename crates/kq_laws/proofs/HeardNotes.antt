-- What a PROC knote hears brings no NOTE_CHILD.
use Rattle.std.proofs.Common.{◌≡◌, ℕ, true, cond, List, [], ◌∷◌, map, Option, Some, None, refl, sym, ◌==◌, filter, arith}
use Rattle.std.proofs.lemmas.Bool.{cond_both, true≢false}
use Rattle.std.proofs.lemmas.Nat.Bits.{bit_at-zero, bit_at_and, bit_at_or}
use Rattle.std.specs.Int.{bit_at}
use Rattle.std.specs.Int.RustNames.{bit_and, bit_or}
use Rattle.kq_model.specs.declared.object.Hint.{Hint}
use Rattle.kq_model.specs.declared.object.Hint.TheVariants.{Readable, Writable, Note, Delivered, Child}
use Rattle.kq_model.specs.declared.object.Target.{Target}
use Rattle.kq_model.specs.declared.object.Target.TheVariants as target
use Rattle.kq_model.specs.Hearing.{Expired, notes_of}
use Rattle.kq_model.specs.Hints.{takes, kept, hints_for, added, heard_by}
use Rattle.kq_model.specs.Tallied.{Knote}
use Rattle.kq_model.specs.Tallying.{Tally, tallying}
use Rattle.kq_model.specs.Targets.{Posted, is_target, target_eq}
use Rattle.kq_model.proofs.KnoteLaws.{by_test}
use Rattle.kq_laws.proofs.Childless.{AreChildless, IsChildless, IsChildlessFor, child_bit}

-- ---- what a PROC knote has heard

abbrev pub HasNoChild : Tally → Type 0
HasNoChild t = bit_at (tallying.notes t) child_bit ≡ 0

-- more notes without the bit
more_notes : (a b : ℕ) → bit_at a child_bit ≡ 0 → bit_at b child_bit ≡ 0 → bit_at (bit_or a b) child_bit ≡ 0
more_notes a b first second = omega (arith, bit_at_or a b child_bit, first, second)

-- nothing has no bit
pub no_notes : HasNoChild tallying.empty
no_notes = bit_at-zero child_bit

wanted_notes : (bits wanted : ℕ) → bit_at bits child_bit ≡ 0 → bit_at (bit_and bits wanted) child_bit ≡ 0
wanted_notes bits wanted none = omega (arith, bit_at_and bits wanted child_bit, none)

pub expired-childless : (t : Tally) → HasNoChild t → HasNoChild (tallying.heard Expired t)
unfolding notes_of
expired-childless t none = more_notes t.notes 0 none no_notes

added-childless : (hint : Hint) (k : Knote) → IsChildless hint → HasNoChild k.seen
    → HasNoChild (added (kept k.fflags hint) k).seen
unfolding kept added notes_of
added-childless (Note bits) k tame none =
    cond_both (bit_and bits k.fflags == 0) _ _ (λ (hint : Option Hint). HasNoChild (added hint k).seen) (λ _. none)
    (λ _. more_notes k.seen.notes (bit_and bits k.fflags) none (wanted_notes bits k.fflags tame))
added-childless Readable k tame none = more_notes k.seen.notes 0 none no_notes
added-childless Writable k tame none = more_notes k.seen.notes 0 none no_notes
added-childless Delivered k tame none = more_notes k.seen.notes 0 none no_notes
added-childless (Child pid) k tame none = none

abbrev pub AllChildless : List Hint → Type 0
AllChildless [] = Unit {0}
AllChildless (hint ∷ hints) = IsChildless hint × AllChildless hints

pub heard-childless : (hints : List Hint) (k : Knote) → AllChildless hints → HasNoChild k.seen
    → HasNoChild (heard_by hints k).seen
unfolding heard_by
heard-childless [] k tame none = none
heard-childless (hint ∷ hints) k tame none =
    heard-childless hints (added (kept k.fflags hint) k) tame.1 (added-childless hint k tame.0 none)

-- it watches a process, or nothing that is there
abbrev pub WatchesProcess : Option Target → Type 0
WatchesProcess (Some (target.Process pid)) = Unit {0}
WatchesProcess None = Unit {0}
WatchesProcess _ = ⊥

-- the hint for such a knote is childless
for_process : (watched : Option Target) (t : Target) (hint : Hint) → WatchesProcess watched → is_target watched t ≡ true
    → IsChildlessFor t hint → IsChildless hint
unfolding is_target target_eq
for_process None t hint watches for_it tame = absurd (true≢false (sym for_it))
for_process (Some (target.Process pid)) (target.Process other) hint watches for_it tame = tame
for_process (Some (target.Process pid)) _ hint watches for_it tame = absurd (true≢false (sym for_it))
for_process (Some _) t hint watches for_it tame = absurd watches

pub hints-childless : (k : Knote) (posted : List Posted) → WatchesProcess k.target → AreChildless posted
    → AllChildless (hints_for k posted)
hints-childless k [] watches tame = tt
hints-childless k (p ∷ posted) watches tame =
    let rest = filter (λ (q : Posted). is_target k.target q.0) posted in
    let hints = map (λ (q : Posted). q.1) rest in
    let more = filter (takes k.key.filter) hints in
    let later : AllChildless more = hints-childless k posted watches tame.1 in
    by_test (λ b. is_target k.target p.0 ≡ b
    → AllChildless (filter (takes k.key.filter) (map (λ (q : Posted). q.1) (cond b (p ∷ rest) rest)))) (is_target k.target p.0)
    (λ _ for_it. cond_both (takes k.key.filter p.1) (p.1 ∷ more) more AllChildless
    (λ _. (for_process k.target p.0 p.1 watches for_it tame.0, later)) (λ _. later)) (λ _ _. later) refl

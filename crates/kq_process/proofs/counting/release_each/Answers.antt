use Rattle.std.proofs.Common.{◌≡◌, ◌∙◌, suc, ◌<◌, ◌≤◌, ◌+◌, ◌∷◌, ◌++◌, List, [], length, drop, sym, ap, arith}
use Rattle.std.proofs.lemmas.List.{drop_all, append-nil}
use Rattle.std.specs.Vec.{vec_len, vec_capacity}
use Rattle.kq_model.specs.Holding.{release, release_hint, release_hints, option_list}
use Rattle.kq_model.specs.Holders.{all_released}
use Rattle.kq_model.specs.declared.object.Named.{Named}
use Rattle.kq_objects.specs.Objects.{objects_of}
use Rattle.kq_process.specs.Counts.{names_in}
use Rattle.kq_process.specs.Slots.{filled}
use Rattle.kq_process.proofs.CountedSteps.{next-empty, next-full, release-next, release-rest, release-said}
use Rattle.kq_process.proofs.counting.release_each.Goals.{in-Some, in_default}
use Rattle.kq_process.proofs.counting.release_each.Goals as goal

pub loop-slot-preserved : goal.loop-slot-preserved
loop-slot-preserved c =
    let ss = c.args.slots.now in
    let i = c.loop-slot.slot-index in
    let o = objects_of c.loop-slot.objects in
    let before = c.loop-slot.invariant in
    let below : i < length ss = omega arith in
    let left : List Named = names_in (filled (drop (i + 1) ss)) in
    elim c.match-slot.branch [
      | in-Some w ↦
          let n = w.in-Some.named in
          let next : names_in (filled (drop i ss)) ≡ n ∷ left = ap names_in (next-full ss i below n w.in-Some.is) in
          let shorter : length (filled (drop i ss)) ≡ suc (length (filled (drop (i + 1) ss))) =
          ap length (next-full ss i below n w.in-Some.is) in
          let done : objects_of c.match-slot.objects ≡ release n o = ap objects_of w.objects-is ∙ w.release_one.ensures.objects in
          let told : c.match-slot.hints.items ≡ c.loop-slot.hints.items ++ option_list (release_hint n o) =
          rw w.hints-is w.release_one.ensures.hints in
          let longer : vec_len c.match-slot.hints ≤ vec_len c.loop-slot.hints + 1 = rw w.hints-is w.release_one.ensures.len in
          let room : vec_capacity c.loop-slot.hints ≤ vec_capacity c.match-slot.hints =
          rw w.hints-is w.release_one.ensures.capacity in
          record {
            rest = release-rest n left _ o _ next done ∙ before.rest;
            can = release-next n left _ o _ next done before.can;
            said = release-said n left _ o _ next done c.loop-slot.hints.items c.match-slot.hints.items told ∙ before.said;
            len = omega (arith, before.len, longer, shorter);
            capacity = omega (arith, before.capacity, room);
          }
      | in_default w ↦
          let pairs : filled (drop i ss) ≡ filled (drop (i + 1) ss) = next-empty ss i below w.in_default.is in
          let next : names_in (filled (drop i ss)) ≡ left = ap names_in pairs in
          let same : objects_of c.match-slot.objects ≡ o = ap objects_of w.objects-is in
          let shorter : length (filled (drop i ss)) ≡ length (filled (drop (i + 1) ss)) = ap length pairs in
          record {
            rest = rw same (ap (λ ns. all_released ns o) (sym next) ∙ before.rest);
            can = rw (same, ← next) before.can;
            said = rw (w.hints-is, same)
                (ap (λ ns. c.loop-slot.hints.items ++ release_hints ns o) (sym next) ∙ before.said);
            len = rw w.hints-is (omega (arith, before.len, shorter));
            capacity = rw w.hints-is before.capacity;
          }
    ]

pub returns-clause-objects : goal.returns-clause-objects
unfolding all_released
returns-clause-objects c =
    let past : length c.args.slots.now ≤ c.loop-slot.slot-index = omega arith in
    let none : drop c.loop-slot.slot-index c.args.slots.now ≡ [] = drop_all c.loop-slot.slot-index c.args.slots.now past in
    ap (λ ss. all_released (names_in (filled ss)) (objects_of c.loop-slot.objects)) (sym none)
    ∙ c.loop-slot.invariant.rest

pub returns-clause-hints : goal.returns-clause-hints
unfolding release_hints
returns-clause-hints c =
    let past : length c.args.slots.now ≤ c.loop-slot.slot-index = omega arith in
    let none : drop c.loop-slot.slot-index c.args.slots.now ≡ [] = drop_all c.loop-slot.slot-index c.args.slots.now past in
    sym (append-nil c.loop-slot.hints.items)
    ∙ ap (λ ss. c.loop-slot.hints.items ++ release_hints (names_in (filled ss)) (objects_of c.loop-slot.objects)) (sym none)
    ∙ c.loop-slot.invariant.said

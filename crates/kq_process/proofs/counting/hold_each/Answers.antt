use Rattle.std.proofs.Common.{◌≡◌, ◌∙◌, ◌<◌, ◌≤◌, ◌+◌, ◌∷◌, List, [], length, drop, sym, ap, arith}
use Rattle.std.proofs.lemmas.List.{drop_all}
use Rattle.kq_model.specs.Holders.{all_held, hold}
use Rattle.kq_model.specs.declared.object.Named.{Named}
use Rattle.kq_objects.specs.Objects.{objects_of}
use Rattle.kq_process.specs.Counts.{names_in}
use Rattle.kq_process.specs.Slots.{filled}
use Rattle.kq_process.proofs.CountedSteps.{next-empty, next-full, hold-next, hold-rest}
use Rattle.kq_process.proofs.counting.hold_each.Goals.{in-Some, in_default}
use Rattle.kq_process.proofs.counting.hold_each.Goals as goal

pub loop-slot-preserved : goal.loop-slot-preserved
loop-slot-preserved c =
    let ss = c.args.slots.now in
    let i = c.loop-slot.slot-index in
    let before = c.loop-slot.invariant in
    let below : i < length ss = omega arith in
    let left : List Named = names_in (filled (drop (i + 1) ss)) in
    elim c.match-slot.branch [
      | in-Some w ↦
          let n = w.in-Some.named in
          let next : names_in (filled (drop i ss)) ≡ n ∷ left = ap names_in (next-full ss i below n w.in-Some.is) in
          let done : objects_of c.match-slot.objects ≡ hold n (objects_of c.loop-slot.objects) =
          ap objects_of w.objects-is ∙ w.hold.ensures in
          record {
            rest = hold-rest n left _ (objects_of c.loop-slot.objects) _ next done ∙ before.rest;
            can = hold-next n left _ (objects_of c.loop-slot.objects) _ next done before.can;
          }
      | in_default w ↦
          let same : objects_of c.match-slot.objects ≡ objects_of c.loop-slot.objects = ap objects_of w.objects-is in
          let next : names_in (filled (drop i ss)) ≡ left = ap names_in (next-empty ss i below w.in_default.is) in
          record {
            rest = rw same (ap (λ ns. all_held ns (objects_of c.loop-slot.objects)) (sym next) ∙ before.rest);
            can = rw (same, ← next) before.can;
          }
    ]

pub returns : goal.returns
unfolding all_held
returns c =
    let past : length c.args.slots.now ≤ c.loop-slot.slot-index = omega arith in
    let none : drop c.loop-slot.slot-index c.args.slots.now ≡ [] = drop_all c.loop-slot.slot-index c.args.slots.now past in
    ap (λ ss. all_held (names_in (filled ss)) (objects_of c.loop-slot.objects)) (sym none)
    ∙ c.loop-slot.invariant.rest

use Rattle.std.proofs.Common.{◌^◌, ◌<◌, [], List, length, refl, sym, subst, arith}
use Rattle.kq_model.specs.declared.event.Event.{Event}
use Rattle.kq_projection.specs.Splitting.{IsSplitSoFar}
use Rattle.kq_projection.proofs.history.split.Split.of.Goals as goal

pub take-requires-clause-few : goal.take-requires-clause-few
take-requires-clause-few c =
    let few : length c.as_slice-events.result.now < 2 ^ 31 =
    subst (λ (xs : List Event). length xs < 2 ^ 31) (sym c.as_slice-events.ensures) c.args.trace.now.countable in
    omega (arith, few)

pub take-requires-clause-before : goal.take-requires-clause-before
take-requires-clause-before c = (record { version = 1; events = [] }, refl, c.in_ok-splitting.ensures 1)

pub end-requires : goal.end-requires
end-requires c =
    let version = c.args.trace.now.version in
    subst (λ (xs : List Event). IsSplitSoFar (record { version = version; events = xs }) c.take.new.self) c.as_slice-events.ensures
    (c.in_ok-take.ensures (record { version = version; events = [] }) refl (c.in_ok-splitting.ensures version))

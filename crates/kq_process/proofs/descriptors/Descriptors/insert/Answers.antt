use Rattle.std.proofs.Common.{◌≡◌, ◌∙◌, Some, Result, Ok, Err, OnOk, OnErr, sym, ap, rules}
use Rattle.std.specs.List.{insert}
use Rattle.kq_process.specs.Slots.{filled}
use Rattle.kq_process.proofs.Filled.{absent-filled, filled-rises, insert-filled, set-filled}
use Rattle.kq_process.proofs.descriptors.Descriptors.insert.Goals as goal

on_err : {T E : Type 0} {P : Type 0} (r : Result T E) → P → OnErr r P
on_err (Ok x) p = tt
on_err (Err e) p = p

pub returns-in_err-make_room-in-Err-clause-err : goal.returns-in_err-make_room-in-Err-clause-err
returns-in_err-make_room-in-Err-clause-err c =
    let es = c.self.inside.slots.items in
    let gap = rw c.deref.ensures.value at c.in-Err.ensures in
    on_err c.from_residual.result (
      c.self.view_is,
      rw (← c.self.view_is) (sym (absent-filled c.args.number es c.in-Err.index c.self.invariant gap)),
    )

pub returns-in_err-make_room-in-Err-clause-rising : goal.returns-in_err-make_room-in-Err-clause-rising
returns-in_err-make_room-in-Err-clause-rising c = rw (← c.self.view_is) (filled-rises _ c.self.invariant)

pub returns-in_err-map_err-in-Err-clause-err : goal.returns-in_err-map_err-in-Err-clause-err
returns-in_err-map_err-in-Err-clause-err c =
    let es = c.self.inside.slots.items in
    let gap = rw c.deref.ensures.value at c.in-Err.ensures in
    let on_error : OnErr c.map_err.result (c.insert.new.self.items ≡ es) = search rules in
    let kept = rw c.in_err-map_err-in-Err.was at on_error in
    on_err c.from_residual-in_err-map_err-in-Err.result (
      rw (← c.self.view_is) (ap filled kept),
      rw (← c.self.view_is) (sym (absent-filled c.args.number es c.in-Err.index c.self.invariant gap)),
    )

pub returns-in_err-map_err-in-Err-clause-rising : goal.returns-in_err-map_err-in-Err-clause-rising
returns-in_err-map_err-in-Err-clause-rising c = rw (← c.self.view_is) (filled-rises _ c.self.invariant)

pub returns-in-Ok-clause-ok : goal.returns-in-Ok-clause-ok
returns-in-Ok-clause-ok c =
    let place = rw c.deref.ensures.value at c.in-Ok.ensures in
    rw (← c.self.view_is)
    (set-filled c.args.number c.self.inside.slots.items c.in-Ok.index c.self.invariant place c.args.named)

pub returns-in-Ok-clause-rising : goal.returns-in-Ok-clause-rising
returns-in-Ok-clause-rising c = rw (← c.self.view_is) (filled-rises _ c.self.invariant)

pub returns-in_ok-map_err-in-Err-clause-ok : goal.returns-in_ok-map_err-in-Err-clause-ok
returns-in_ok-map_err-in-Err-clause-ok c =
    let es = c.self.inside.slots.items in
    let gap = rw c.deref.ensures.value at c.in-Err.ensures in
    let on_answer : OnOk c.map_err.result
    (c.insert.new.self.items ≡ insert es c.in-Err.index (c.args.number, Some c.args.named)) = search rules in
    let more = rw c.in_ok-map_err-in-Err.was at on_answer in
    rw (← c.self.view_is)
    (ap filled more ∙ insert-filled c.args.number es c.in-Err.index c.self.invariant gap c.args.named)

pub returns-in_ok-map_err-in-Err-clause-rising : goal.returns-in_ok-map_err-in-Err-clause-rising
returns-in_ok-map_err-in-Err-clause-rising c = rw (← c.self.view_is) (filled-rises _ c.self.invariant)

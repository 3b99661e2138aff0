use Rattle.std.proofs.Common.{rules, arith, sym, ap, ◌∙◌, inl, inr, Some}
use Rattle.kq_lock.specs.declared.entry.Entry.{Entry}
use Rattle.kq_lock.specs.declared.view.Stage.TheVariants.{Holds}
use Rattle.kq_lock.specs.Turns.{logged}
use Rattle.kq_lock.proofs.Logs.{plain_more}
use Rattle.kq_lock.proofs.Allowed.{may_raise}
use Rattle.kq_lock.proofs.Held.{carried, is_back, items_on, lead_on, long_is, unchanged}
use Rattle.kq_lock.proofs.Held.{raised_stage, after_turn, turn_done}
use Rattle.kq_lock.proofs.turn.take_turn.Goals as goal

pub exchange-requires : goal.exchange-requires
exchange-requires g c = let turn = c.requires.turn.0 in
    (c.requires.table.0, (Some turn.kept, carried c.args.token.now.me.1 turn.kept turn.slot))

pub store-requires : goal.store-requires
store-requires g c =
    let turn = c.requires.turn.0 in
    let me = c.args.token.now.me in
    let out = c.unwrap-kept.result in
    let kept = c.take_step-stepped.new.kept in
    let entry : Entry g.row.M-Step.Denot g.row.M-Answer.Denot =
    record { step = c.args.step; answer = c.in-Ok.answer } in
    let back = is_back g.M.Machine.leads c.args.ticket me turn c.exchange.result out kept
    c.exchange.new.seat.me c.exchange-2.new.seat.me c.exchange.ensures.2
    c.unwrap-kept.ensures c.exchange.ensures.3 c.exchange-2.ensures.3 in
    let items = items_on out turn.kept kept entry turn.log back.same turn.items
    c.in-Ok.ensures.entry in
    let long = long_is c.len-len.result kept entry turn.log c.len-len.ensures
    kept.history.ok.0 items in (
      search rules,
      search rules,
      may_raise _ _ _ _ _ c.exchange-2.new.seat.me
          (search rules) c.args.ticket turn.kept.value turn.log kept entry _
          back.stage back.slot items (lead_on g.M.Machine.leads out turn.kept c.args.step
          c.in-Ok.answer kept.value back.same c.in-Ok.ensures.leads) (omega arith),
    )

pub pass_on-requires : goal.pass_on-requires
pass_on-requires g c =
    let turn = c.requires.turn.0 in
    let me = c.args.token.now.me in
    let out = c.unwrap-kept.result in
    let kept = c.take_step-stepped.new.kept in
    let entry : Entry g.row.M-Step.Denot g.row.M-Answer.Denot =
    record { step = c.args.step; answer = c.in-Ok.answer } in
    let back = is_back g.M.Machine.leads c.args.ticket me turn c.exchange.result out kept
    c.exchange.new.seat.me c.exchange-2.new.seat.me c.exchange.ensures.2
    c.unwrap-kept.ensures c.exchange.ensures.3 c.exchange-2.ensures.3 in
    let items = items_on out turn.kept kept entry turn.log back.same turn.items
    c.in-Ok.ensures.entry in
    let raise = c.store.ensures.2 c.args.ticket turn.kept.value turn.log kept entry back.stage
    back.slot items in
    let after = raised_stage g.M.Machine.leads c.args.ticket me turn kept entry
    c.exchange-2.new.seat.me c.store.new.seat.me back.back raise in (
      search rules,
      (search rules, search rules),
      record {
        kept = kept;
        log = logged me.0 turn.log entry;
        stage = inr after.0;
        slot = after.1;
        items = items ∙ sym (plain_more turn.log me.0.number entry);
      },
      let limit = turn.limit in let last = c.requires.turn.1 in omega arith,
    )

pub pass_on-requires-in-Err : goal.pass_on-requires-in-Err
pass_on-requires-in-Err g c =
    let turn = c.requires.turn.0 in
    let me = c.args.token.now.me in
    let out = c.unwrap-kept.result in
    let kept = c.take_step-stepped.new.kept in
    let back = is_back g.M.Machine.leads c.args.ticket me turn c.exchange.result out kept
    c.exchange.new.seat.me c.exchange-2.new.seat.me c.exchange.ensures.2
    c.unwrap-kept.ensures c.exchange.ensures.3 c.exchange-2.ensures.3 in
    let left = unchanged out turn.kept kept turn.log back.same turn.items (c.in-Err.ensures.err, c.in-Err.ensures.history) in (
      search rules,
      (search rules, search rules),
      record {
        kept = kept;
        log = turn.log;
        stage = inl (back.stage ∙ ap (λ v. Holds c.args.ticket v turn.log) (sym left.0));
        slot = back.slot;
        items = left.1;
      },
      let limit = turn.limit in let last = c.requires.turn.1 in omega arith,
    )

pub returns-in-Ok-clause-view : goal.returns-in-Ok-clause-view
returns-in-Ok-clause-view g c =
    let turn = c.requires.turn.0 in
    let me = c.args.token.now.me in
    let out = c.unwrap-kept.result in
    let kept = c.take_step-stepped.new.kept in
    let entry : Entry g.row.M-Step.Denot g.row.M-Answer.Denot =
    record { step = c.args.step; answer = c.in-Ok.answer } in
    let back = is_back g.M.Machine.leads c.args.ticket me turn c.exchange.result out kept
    c.exchange.new.seat.me c.exchange-2.new.seat.me c.exchange.ensures.2
    c.unwrap-kept.ensures c.exchange.ensures.3 c.exchange-2.ensures.3 in
    let items = items_on out turn.kept kept entry turn.log back.same turn.items
    c.in-Ok.ensures.entry in
    let raise = c.store.ensures.2 c.args.ticket turn.kept.value turn.log kept entry back.stage
    back.slot items in
    let after = after_turn g.M.Machine.leads c.args.ticket me turn kept entry
    c.exchange-2.new.seat.me c.store.new.seat.me c.pass_on.new.token.me back.back raise
    c.pass_on.ensures.me in
    let done = turn_done g.M.Machine.leads c.args.ticket me turn kept entry
    c.pass_on.new.token.me c.len-len.result after
    (lead_on g.M.Machine.leads out turn.kept c.args.step c.in-Ok.answer kept.value back.same
    c.in-Ok.ensures.leads)
    (long_is c.len-len.result kept entry turn.log c.len-len.ensures kept.history.ok.0 items) in
    done.view

pub returns-in-Ok-clause-ok : goal.returns-in-Ok-clause-ok
returns-in-Ok-clause-ok g c =
    let turn = c.requires.turn.0 in
    let me = c.args.token.now.me in
    let out = c.unwrap-kept.result in
    let kept = c.take_step-stepped.new.kept in
    let entry : Entry g.row.M-Step.Denot g.row.M-Answer.Denot =
    record { step = c.args.step; answer = c.in-Ok.answer } in
    let back = is_back g.M.Machine.leads c.args.ticket me turn c.exchange.result out kept
    c.exchange.new.seat.me c.exchange-2.new.seat.me c.exchange.ensures.2
    c.unwrap-kept.ensures c.exchange.ensures.3 c.exchange-2.ensures.3 in
    let items = items_on out turn.kept kept entry turn.log back.same turn.items
    c.in-Ok.ensures.entry in
    let raise = c.store.ensures.2 c.args.ticket turn.kept.value turn.log kept entry back.stage
    back.slot items in
    let after = after_turn g.M.Machine.leads c.args.ticket me turn kept entry
    c.exchange-2.new.seat.me c.store.new.seat.me c.pass_on.new.token.me back.back raise
    c.pass_on.ensures.me in
    let done = turn_done g.M.Machine.leads c.args.ticket me turn kept entry
    c.pass_on.new.token.me c.len-len.result after
    (lead_on g.M.Machine.leads out turn.kept c.args.step c.in-Ok.answer kept.value back.same
    c.in-Ok.ensures.leads)
    (long_is c.len-len.result kept entry turn.log c.len-len.ensures kept.history.ok.0 items) in
    done.added

pub returns-in-Ok-clause-at : goal.returns-in-Ok-clause-at
returns-in-Ok-clause-at g c =
    let turn = c.requires.turn.0 in
    let me = c.args.token.now.me in
    let out = c.unwrap-kept.result in
    let kept = c.take_step-stepped.new.kept in
    let entry : Entry g.row.M-Step.Denot g.row.M-Answer.Denot =
    record { step = c.args.step; answer = c.in-Ok.answer } in
    let back = is_back g.M.Machine.leads c.args.ticket me turn c.exchange.result out kept
    c.exchange.new.seat.me c.exchange-2.new.seat.me c.exchange.ensures.2
    c.unwrap-kept.ensures c.exchange.ensures.3 c.exchange-2.ensures.3 in
    let items = items_on out turn.kept kept entry turn.log back.same turn.items
    c.in-Ok.ensures.entry in
    let raise = c.store.ensures.2 c.args.ticket turn.kept.value turn.log kept entry back.stage
    back.slot items in
    let after = after_turn g.M.Machine.leads c.args.ticket me turn kept entry
    c.exchange-2.new.seat.me c.store.new.seat.me c.pass_on.new.token.me back.back raise
    c.pass_on.ensures.me in
    let done = turn_done g.M.Machine.leads c.args.ticket me turn kept entry
    c.pass_on.new.token.me c.len-len.result after
    (lead_on g.M.Machine.leads out turn.kept c.args.step c.in-Ok.answer kept.value back.same
    c.in-Ok.ensures.leads)
    (long_is c.len-len.result kept entry turn.log c.len-len.ensures kept.history.ok.0 items) in
    done.place

pub returns-in-Ok-clause-others : goal.returns-in-Ok-clause-others
returns-in-Ok-clause-others g c =
    let turn = c.requires.turn.0 in
    let me = c.args.token.now.me in
    let out = c.unwrap-kept.result in
    let kept = c.take_step-stepped.new.kept in
    let entry : Entry g.row.M-Step.Denot g.row.M-Answer.Denot =
    record { step = c.args.step; answer = c.in-Ok.answer } in
    let back = is_back g.M.Machine.leads c.args.ticket me turn c.exchange.result out kept
    c.exchange.new.seat.me c.exchange-2.new.seat.me c.exchange.ensures.2
    c.unwrap-kept.ensures c.exchange.ensures.3 c.exchange-2.ensures.3 in
    let items = items_on out turn.kept kept entry turn.log back.same turn.items
    c.in-Ok.ensures.entry in
    let raise = c.store.ensures.2 c.args.ticket turn.kept.value turn.log kept entry back.stage
    back.slot items in
    let after = after_turn g.M.Machine.leads c.args.ticket me turn kept entry
    c.exchange-2.new.seat.me c.store.new.seat.me c.pass_on.new.token.me back.back raise
    c.pass_on.ensures.me in
    let done = turn_done g.M.Machine.leads c.args.ticket me turn kept entry
    c.pass_on.new.token.me c.len-len.result after
    (lead_on g.M.Machine.leads out turn.kept c.args.step c.in-Ok.answer kept.value back.same
    c.in-Ok.ensures.leads)
    (long_is c.len-len.result kept entry turn.log c.len-len.ensures kept.history.ok.0 items) in
    done.others

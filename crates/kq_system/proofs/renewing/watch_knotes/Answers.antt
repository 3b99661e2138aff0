use Rattle.std.proofs.Common.{◌≡◌, ◌∙◌, Some, add-one, take, slice_get, sym, ap, arith}
use Rattle.kq_model.specs.Knote.{key_eq}
use Rattle.kq_model.specs.Subjects.{HasSubject}
use Rattle.kq_model.specs.Tallied.{Knote}
use Rattle.kq_table.specs.Rows.{row_after}
use Rattle.kq_system.specs.Showing.{IsListed}
use Rattle.kq_system.proofs.FoundLemmas.{listed_more}
use Rattle.kq_system.proofs.RenewLemmas.{All-end, All-next, All-none, next-place}
use Rattle.kq_system.proofs.renewing.watch_knotes.Goals as goal

pub loop-step-preserved : goal.loop-step-preserved
loop-step-preserved c =
    let ks = c.args.knotes.now.knotes in
    let i = c.loop-step._step in
    let grows = c.watch_knote.ensures.grows in
    let at : slice_get ks i ≡ Some c.in-Some.knote = sym c.loop-step.invariant.next ∙ c.in-Some.is in
    record {
      next = c.next_after-next.ensures ∙ ap (λ (k : Knote). row_after key_eq (λ (x : Knote). x.key) k.key ks) c.knote.view_is
          ∙ next-place ks i c.in-Some.knote c.requires at ∙ ap (slice_get ks) (sym (add-one i));
      grows = record { grows = λ key place has. grows.grows key place (c.loop-step.invariant.grows.grows key place has) };
      listed = All-next (HasSubject (IsListed c.args.place c.watch_knote.new.watching.table)) ks i c.in-Some.knote at
          (listed_more c.args.place c.loop-step.watching.table c.watch_knote.new.watching.table grows (take i ks)
          c.loop-step.invariant.listed)
          c.in_ok-watch_knote.ensures.listed;
    }

pub returns-in_default-clause-listed : goal.returns-in_default-clause-listed
returns-in_default-clause-listed c =
    All-none (HasSubject (IsListed c.args.place c.loop-step.watching.table)) c.args.knotes.now.knotes c.loop-step._step
    (sym c.loop-step.invariant.next ∙ c.in_default.is) c.loop-step.invariant.listed

pub returns-clause-listed : goal.returns-clause-listed
returns-clause-listed c =
    All-end (HasSubject (IsListed c.args.place c.loop-step.watching.table)) c.args.knotes.now.knotes c.loop-step._step
    (omega (arith, c.loop-step-test.false, c.len-step-end.ensures)) c.loop-step.invariant.listed

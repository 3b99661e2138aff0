-- The header, and what the lines behind it come to.
use Rattle.std.proofs.Common.{rules, subst, sym}
use Rattle.std.proofs.lemmas.Result.{IfErr-weaker, on_ok_weaker}
use Rattle.std.specs.Io.KnownBytes.{prepend_known}
use Rattle.kq_step.specs.Answering.{LeavesBy}
use Rattle.kq_step.specs.Stepping.{before_records}
use Rattle.kq_step.specs.Stood.{IsAt}
use Rattle.kq_step.proofs.SoFar.{by_header, opened, opened_only}
use Rattle.kq_step.proofs.answering.answer_behind.Goals as goal

pub returns-in_err-version-clause-fault : goal.returns-in_err-version-clause-fault
returns-in_err-version-clause-fault g c =
    let given = g.I.Read.remaining c.args.input.now in
    let before = g.O.Write.contents c.args.out.now in
    let rest = g.I.Read.remaining c.header.new.input in
    let left : LeavesBy given rest before before c.in_err-version.field-0.0 = by_header given rest before c.in_err-version.field-0.0 c.in_err-version.ensures.fault in
    search (rules, left)

pub returns-in_default-clause-fault : goal.returns-in_default-clause-fault
returns-in_default-clause-fault g c =
    opened_only (g.I.Read.remaining c.args.input.now) (g.I.Read.remaining c.header.new.input) (g.O.Write.contents c.args.out.now)
    c.header.new.lines.waiting c.in_ok-version.version c.in_ok-version.ensures.opened c.in_ok-version.ensures.few

pub returns-clause-all : goal.returns-clause-all
returns-clause-all g c =
    let given = g.I.Read.remaining c.args.input.now in
    let before = g.O.Write.contents c.args.out.now in
    let so_far = opened given before (prepend_known c.header.new.lines.waiting (g.I.Read.remaining c.header.new.input))
    c.in_ok-version.version c.deref_mut.result.now c.in_ok-version.ensures.opened
    (subst (IsAt (before_records c.in_ok-version.version)) (sym c.deref_mut.ensures.value) c.in-Ok.ensures) in
    on_ok_weaker c.answer_lines.result (λ all. all given before so_far) c.answer_lines.ensures.all

pub returns-clause-fault : goal.returns-clause-fault
returns-clause-fault g c =
    let given = g.I.Read.remaining c.args.input.now in
    let before = g.O.Write.contents c.args.out.now in
    let so_far = opened given before (prepend_known c.header.new.lines.waiting (g.I.Read.remaining c.header.new.input))
    c.in_ok-version.version c.deref_mut.result.now c.in_ok-version.ensures.opened
    (subst (IsAt (before_records c.in_ok-version.version)) (sym c.deref_mut.ensures.value) c.in-Ok.ensures) in
    IfErr-weaker c.answer_lines.result _ _ (λ fault leaves. leaves given before so_far) c.answer_lines.ensures.fault

-- The first line names the version, or has a fault.
use Rattle.std.proofs.Common.{◌≡◌, ◌∙◌, [], ap, arith, subst, sym, true, false}
use Rattle.std.specs.Io.KnownBytes.{Keeps, prepend_known}
use Rattle.std.proofs.KnownBytes.{prepend_known-nil}
use Rattle.kq_input.specs.Unread.{IsLastLine, TookLine, TookPart}
use Rattle.kq_model.specs.Reading.{version_on}
use Rattle.kq_model.proofs.Results.{error_passed}
use Rattle.kq_step.specs.declared.fault.Fault.TheVariants.{Memory}
use Rattle.kq_step.specs.Answering.{IsHeaderFault}
use Rattle.kq_step.specs.Fault.{fault_of}
use Rattle.kq_step.proofs.LinesRead.{bad_by, header_refused, header_stopped, opened_by}
use Rattle.kq_step.proofs.answering.header.Goals as goal

pub returns-in-Ok-clause-opened : goal.returns-in-Ok-clause-opened
returns-in-Ok-clause-opened g c =
    let given = g.I.Read.remaining c.args.input.now in
    let left = prepend_known c.next.new.self.waiting (g.I.Read.remaining c.next.new.input) in
    let line = c.next.new.self.line in
    let same : prepend_known c.args.lines.now.waiting given ≡ given = ap (λ w. prepend_known w given) c.requires ∙ prepend_known-nil given in
    let is = ap version_on (sym c.line.ensures.kept) ∙ c.in_ok-version.ensures.version ∙ c.in-Ok.is in
    opened_by c.in_ok-next.field-0 given left line c.in-Ok.version
    (λ some. subst (λ b. TookLine 1048577 b left line) same (c.in_ok-next.ensures.taken some))
    c.in_ok-next.ensures.none is

pub returns-in-Err-clause-fault : goal.returns-in-Err-clause-fault
returns-in-Err-clause-fault g c =
    let given = g.I.Read.remaining c.args.input.now in
    let left = prepend_known c.next.new.self.waiting (g.I.Read.remaining c.next.new.input) in
    let line = c.next.new.self.line in
    let same : prepend_known c.args.lines.now.waiting given ≡ given = ap (λ w. prepend_known w given) c.requires ∙ prepend_known-nil given in
    let is = ap version_on (sym c.line.ensures.kept) ∙ c.in_ok-version.ensures.version ∙ c.in-Err.is in
    bad_by c.in_ok-next.field-0 given left line c.in-Err.fault
    (λ some. subst (λ b. TookLine 1048577 b left line) same (c.in_ok-next.ensures.taken some))
    c.in_ok-next.ensures.none (λ none. subst (λ b. IsLastLine b left) same (c.in_ok-next.ensures.last none)) is

pub returns-in_err-next-clause-fault : goal.returns-in_err-next-clause-fault
returns-in_err-next-clause-fault g c =
    let given = g.I.Read.remaining c.args.input.now in
    let rest = g.I.Read.remaining c.next.new.input in
    let waiting = c.next.new.self.waiting in
    let same : prepend_known c.args.lines.now.waiting given ≡ given = ap (λ w. prepend_known w given) c.requires ∙ prepend_known-nil given in
    let e = c.in_err-next.field-0.0 in
    error_passed c.from_residual.result (fault_of e) (IsHeaderFault given rest) c.from_residual.ensures.1
    (header_stopped given rest waiting c.next.new.self.line e
    (subst (λ b. TookPart 1048577 b (prepend_known waiting rest) c.next.new.self.line) same c.in_err-next.ensures.part)
    c.in_err-next.ensures.read c.in_err-next.ensures.few)

pub returns-in_err-version-clause-fault : goal.returns-in_err-version-clause-fault
returns-in_err-version-clause-fault g c =
    let given = g.I.Read.remaining c.args.input.now in
    let rest = g.I.Read.remaining c.next.new.input in
    let waiting = c.next.new.self.waiting in
    let left = prepend_known waiting rest in
    let line = c.next.new.self.line in
    let same : prepend_known c.args.lines.now.waiting given ≡ given = ap (λ w. prepend_known w given) c.requires ∙ prepend_known-nil given in
    error_passed c.from_residual-in_err-version.result Memory (IsHeaderFault given rest) c.from_residual-in_err-version.ensures.1
    (header_refused c.in_ok-next.field-0 given rest waiting line
    (λ some. subst (λ b. TookLine 1048577 b left line) same (c.in_ok-next.ensures.taken some))
    (λ none. subst (λ b. Keeps b left) same (c.in_ok-next.ensures.kept none)) c.in_ok-next.ensures.few)

pub returns-in-Ok-clause-few : goal.returns-in-Ok-clause-few
returns-in-Ok-clause-few g c = omega (arith, c.in_ok-next.ensures.few)

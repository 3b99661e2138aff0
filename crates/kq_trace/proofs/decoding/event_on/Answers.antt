-- A line that is too long, and one that is not.
use Rattle.std.proofs.Common.{◌≡◌, None, Err, refl, sym, ap, ◌∙◌}
use Rattle.std.specs.Option.{option_map}
use Rattle.std.proofs.lemmas.Result.{IfOk-weaker}
use Rattle.serde_json.specs.View.{view}
use Rattle.kq_model.specs.declared.line_fault.LineFault.TheVariants.{Json}
use Rattle.kq_model.specs.Reading.{event_of}
use Rattle.kq_trace.proofs.TraceLines.{long_line, plain_line}
use Rattle.kq_trace.proofs.decoding.event_on.Goals as goal

pub returns-then-line-gt-MOST_LINE_BYTES : goal.returns-then-line-gt-MOST_LINE_BYTES
returns-then-line-gt-MOST_LINE_BYTES c = λ number early. long_line number c.args.line.now c.if-line-gt-MOST_LINE_BYTES.true

pub returns-in-Some : goal.returns-in-Some
returns-in-Some c = λ number early. plain_line number c.args.line.now _ c.if-line-gt-MOST_LINE_BYTES.false early c.in-Some.ensures

pub returns-in-Some-2 : goal.returns-in-Some-2
returns-in-Some-2 c =
    let json = ap (option_map view) (sym c.in-Some-2.is) ∙ c.in_ok-value.ensures in
    IfOk-weaker c.event_of.result _ _
    (λ event means number early.
    plain_line number c.args.line.now event c.if-line-gt-MOST_LINE_BYTES.false early (ap event_of (sym json) ∙ sym means))
    c.event_of.ensures

no_json : event_of None ≡ Err Json
unfolding event_of
no_json = refl

pub returns-in-None : goal.returns-in-None
returns-in-None c = λ number early.
    let json = ap (option_map view) (sym c.in-None.is) ∙ c.in_ok-value.ensures in
    plain_line number c.args.line.now _ c.if-line-gt-MOST_LINE_BYTES.false early (ap event_of (sym json) ∙ no_json)

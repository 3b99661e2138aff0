use Rattle.std.proofs.Common.{sym, ap, ◌∙◌}
use Rattle.std.specs.Option.{is_some}
use Rattle.kq_trace.proofs.ChangeParts.{flags_there, is_some-option_map}
use Rattle.kq_trace.proofs.change.has_flags.Goals as goal

pub returns : goal.returns
returns c =
    c.is_some.ensures ∙ sym (is_some-option_map (λ flags. flags.0) c.flags_at.result)
    ∙ ap is_some c.flags_at.ensures ∙ flags_there _

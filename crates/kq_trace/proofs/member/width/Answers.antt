-- The map has as many entries as the object has members.
use Rattle.std.proofs.Common.{sym, ap, ◌∙◌}
use Rattle.std.specs.Option.{option_map_or}
use Rattle.serde_json.proofs.Views.{members_len-members_view}
use Rattle.serde_json.specs.Events.{members_len}
use Rattle.serde_json.specs.View.{view}
use Rattle.kq_trace.proofs.Found.{found_width}
use Rattle.kq_trace.proofs.member.width.Goals as goal

pub returns-in-Some : goal.returns-in-Some
returns-in-Some c =
    c.len.ensures.len ∙ sym (members_len-members_view c.in-Some.members.now.entries)
    ∙ ap (λ o. option_map_or members_len o 0) c.in-Some.ensures ∙ found_width (view c.args.value.now)

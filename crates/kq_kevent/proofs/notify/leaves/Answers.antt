use Rattle.std.proofs.Common.{sym, ◌∙◌}
use Rattle.kq_kevent.proofs.SettledLaws.{after-plain}
use Rattle.kq_kevent.proofs.notify.leaves.Goals as goal

pub returns-then-is_plain : goal.returns-then-is_plain
returns-then-is_plain c = λ _ _. after-plain c.args.hint c.args.knote.now (sym c.is_plain.ensures ∙ c.if-is_plain.true)

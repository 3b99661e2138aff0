use Rattle.std.proofs.Common.{not, rules, sym}
use Rattle.indexmap.proofs.CallerLemmas.{filter-RetainsPairs}
use Rattle.kq_system.proofs.PassedLemmas.{all_standing}
use Rattle.kq_system.proofs.showing.drop_ended.Goals as goal

pub returns-then-any : goal.returns-then-any
returns-then-any c =
    filter-RetainsPairs _ (λ e. not e.1.ended) _ (λ k v b w g t. (search rules, search rules, search rules)) _ _
    c.retain.ensures.filtered

pub returns-else-any : goal.returns-else-any
returns-else-any c = sym (all_standing c.args.live.now.entries (c.requires c.if-any.false))

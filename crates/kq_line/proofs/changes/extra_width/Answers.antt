use Rattle.serde_json.specs.Data.{object}
use Rattle.kq_line.proofs.KnownChange.{extras}
use Rattle.kq_line.proofs.changes.extra_width.Goals as goal

pub returns-clause-count : goal.returns-clause-count
returns-clause-count c = λ ms shows.
    extras (object ms) c.has.result c.has-2.result c.has-3.result c.from.result c.from-2.result c.from-3.result
    c.from.ensures c.from-2.ensures c.from-3.ensures
    (c.has.ensures.there ms shows) (c.has-2.ensures.there ms shows) (c.has-3.ensures.there ms shows)

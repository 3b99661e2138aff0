use Rattle.std.proofs.Common.{◌≡◌, ℕ, Option, Some, None, slice_get, sym, ap, ◌∙◌}
use Rattle.std.specs.Option.{option_map}
use Rattle.kq_table.proofs.KeptLaws.{seen, first-waiting}
use Rattle.kq_table.proofs.WatchLaws.{front-row}
use Rattle.kq_table.proofs.table.Table.look_front.Goals as goal

pub returns : goal.returns
returns g c =
    let table = seen g.met.T.Key.Eq.laws g.met.T.Target.Eq.laws g.met.T.Keyed.one_key c.self.invariant c.self.view_is in
    front-row table _ c.seen_at.ensures

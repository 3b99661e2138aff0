use Rattle.std.proofs.Common.{◌∷◌, List, sym, ap, ◌∙◌, subst}
use Rattle.std.specs.Option.{option_map}
use Rattle.kq_table.specs.Rows.{without_waiting, AreOnce}
use Rattle.kq_table.proofs.KeptLaws.{seen, first-waiting, once}
use Rattle.kq_table.proofs.QueueLaws.{front-of, none-of, without_waiting-front}
use Rattle.kq_table.proofs.WatchLaws.{row-found}
use Rattle.kq_table.proofs.table.Table.take_front.Goals as goal

pub returns-in_default-clause-queue : goal.returns-in_default-clause-queue
returns-in_default-clause-queue g c =
    let table = seen g.met.T.Key.Eq.laws g.met.T.Target.Eq.laws g.met.T.Keyed.one_key c.self.invariant c.self.view_is in
    let none = none-of c.args.self.now.queue (sym (first-waiting table) ∙ ap (option_map g.T.Keyed.key_of) (sym c.in_default.ensures)) in
    (none, none)

pub returns-clause-queue : goal.returns-clause-queue
returns-clause-queue g c =
    let table = seen g.met.T.Key.Eq.laws g.met.T.Target.Eq.laws g.met.T.Keyed.one_key c.self.invariant c.self.view_is in
    let same = g.T.Key.PartialEq.eq in
    let key = g.T.Keyed.key_of c.in-Some.front.row in
    let first = sym c.in-Some.ensures in
    let rest = front-of c.args.self.now.queue key (sym (first-waiting table) ∙ ap (option_map g.T.Keyed.key_of) first) in
    let left = c.take_out_at.ensures.queue ∙ ap (λ k. without_waiting same k c.args.self.now.queue) c.key.ensures ∙ ap (without_waiting same key) rest.1
    ∙ without_waiting-front same table.laws key rest.0 (subst (AreOnce same) rest.1 (once table)) in
    (rest.1 ∙ ap (λ (keys : List g.row.T-Key.Denot). key ∷ keys) (sym left), row-found table _ c.in-Some.front.row first)

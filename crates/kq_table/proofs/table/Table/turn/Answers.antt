use Rattle.std.proofs.Common.{sym, ap, ◌∙◌}
use Rattle.kq_table.specs.Rows.{put_in, turned}
use Rattle.kq_table.proofs.QueueLaws.{none-of, turned-front}
use Rattle.kq_table.proofs.table.Table.turn.Goals as goal

pub returns-in_default-clause-queue : goal.returns-in_default-clause-queue
unfolding turned
returns-in_default-clause-queue g c =
    let empty = none-of c.args.self.now.queue (sym c.front.ensures.front ∙ c.in_default.is) in
    empty ∙ sym (ap turned empty)

pub returns-clause-queue : goal.returns-clause-queue
returns-clause-queue g c =
    let same = g.T.Key.PartialEq.eq in
    let key_of = g.T.Keyed.key_of in
    let key = c.in-Some.key in
    let table = c.args.self.now in
    c.put_in_at.ensures.queue
    ∙ ap (λ rows. put_in same key_of key rows c.take_out_at.new.self.queue) c.take_out_at.ensures.rows
    ∙ ap (put_in same key_of key table.rows) c.take_out_at.ensures.queue
    ∙ turned-front same g.met.T.Key.Eq.laws key_of key table.rows table.queue (sym c.front.ensures.front ∙ c.in-Some.is)
    c.front.ensures.once c.front.ensures.have_rows

use Rattle.std.proofs.Common.{subst, sym}
use Rattle.kq_live.specs.Lives.{IsWhole, LiveName}
use Rattle.kq_live.specs.Recorded.{Recorded}
use Rattle.kq_live.proofs.Telling.{ended_book, ended_whole}
use Rattle.kq_live.proofs.live.Live.close.Goals as goal

pub new-requires : goal.new-requires
new-requires c =
    ended_book c.self.inside.lock c.self.inside.version c.args.seat c.in-Ok.field-0-0 c.in-Ok.entries.items
    c.self.invariant c.in-Ok.ensures.ok

pub returns-in-Ok-clause-ok : goal.returns-in-Ok-clause-ok
returns-in-Ok-clause-ok c =
    let live : LiveName = record { lock = c.self.inside.lock; version = c.self.inside.version } in
    let whole = ended_whole live c.args.seat c.in-Ok.field-0-0 c.in-Ok.entries.items c.in-Ok.ensures.ok in
    subst (λ (n : LiveName). IsWhole n c.args.seat c.new.result) c.self.view_is
    (subst (λ (b : Recorded). IsWhole live c.args.seat b) (sym c.new.ensures) whole)

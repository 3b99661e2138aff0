use Rattle.std.proofs.Common.{List, ap, ◌∙◌}
use Rattle.std.specs.Option.{is_some}
use Rattle.kq_model.specs.Knote.{find_knote, with_knote}
use Rattle.kq_model.specs.Retrieval.{without_notice}
use Rattle.kq_model.specs.Tallied.{Knote}
use Rattle.kq_kevent.proofs.SoundLaws.{found-put}
use Rattle.kq_kevent.proofs.retrieve.take_back.Goals as goal

pub put_last-requires-clause-there : goal.put_last-requires-clause-there
put_last-requires-clause-there g c =
    let told = c.args.told.now.row in
    let ks = c.args.knotes.now.knotes in
    ap (λ (n : Knote). is_some (find_knote n.key c.modify_at.new.self.knotes)) c.rest-then-is_some.view_is
    ∙ ap (λ (n : Knote). is_some (find_knote n.key c.modify_at.new.self.knotes)) c.rest.view_is
    ∙ ap (λ (now : List Knote). is_some (find_knote told.key now))
    (c.modify_at.ensures.knotes ∙ ap (λ (n : Knote). with_knote (without_notice n) ks) c.rest.view_is)
    ∙ ap is_some (found-put (without_notice told) told ks c.requires.there)

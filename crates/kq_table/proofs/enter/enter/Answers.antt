use Rattle.std.proofs.Common.{ap, ◌∙◌}
use Rattle.std.proofs.lemmas.Option.{none-some, same_Some}
use Rattle.std.specs.Option.{option_map}
use Rattle.kq_table.specs.Threads.{rows_in}
use Rattle.kq_table.proofs.EnterLaws.{indexed-push}
use Rattle.kq_table.proofs.enter.enter.Goals as goal

pub returns-in_default-clause-entered : goal.returns-in_default-clause-entered
returns-in_default-clause-entered g c = λ slots row here.
    absurd (none-some (g.T.Keyed.key_of row) (c.in_default.ensures ∙ ap (option_map g.T.Keyed.key_of) here))

pub returns-clause-entered : goal.returns-clause-entered
returns-clause-entered g c = λ slots row here out apart is.
    let key_of = g.T.Keyed.key_of in
    record {
      indexed = indexed-push g.T.Key.PartialEq.eq g.T.Target.PartialEq.eq key_of g.T.Keyed.target_of g.met.T.Key.Eq.laws g.met.T.Target.Eq.laws (rows_in c.args.nodes.now) c.args.index.now c.note.new.names slots c.args.slot row c.in-Some.key
          (same_Some c.in-Some.key (key_of row) (c.in-Some.ensures ∙ ap (option_map key_of) here)) here apart c.note.ensures.noted is.indexed;
      watched = c.watch.ensures.watched slots row here out is.watched;
    }

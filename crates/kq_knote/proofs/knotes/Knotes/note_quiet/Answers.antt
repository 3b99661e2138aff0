use Rattle.std.proofs.Common.{sym, subst}
use Rattle.std.proofs.lemmas.Bool.{true≢false}
use Rattle.kq_knote.specs.Quiet.{AreQuiet}
use Rattle.kq_knote.specs.Reserved.{Reserved}
use Rattle.kq_knote.proofs.knotes.Knotes.note_quiet.Goals as goal

pub invariant_of-self : goal.invariant_of-self
invariant_of-self c = record {
  own_keys = c.self.invariant.own_keys;
  begun = c.requires.within;
  quiet = subst (λ (v : Reserved). AreQuiet c.args.since c.args.soonest v.knotes) (sym c.self.view_is) c.requires.quiet;
  armed = λ whole. absurd (true≢false (sym whole));
}

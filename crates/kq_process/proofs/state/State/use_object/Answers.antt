use Rattle.kq_process.proofs.Acted.{uses-make}
use Rattle.std.proofs.Common.{◌∙◌, ap}
use Rattle.kq_model.specs.Holders.{made_names}
use Rattle.kq_process.proofs.state.State.use_object.Goals as goal

pub act-requires-clause-none : goal.act-requires-clause-none
act-requires-clause-none c = ap (made_names c.args.place) c.on-in-Ok.ensures ∙ uses-make c.args.what c.args.place c.in-Ok.on

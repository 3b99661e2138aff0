use Rattle.std.proofs.Common.{[], ◌∷◌}
use Rattle.std.proofs.lemmas.List.Elements.{Contains-push, Contains-append_left, Contains-append_right}
use Rattle.std.proofs.lemmas.List.Sorted.{Contains-permutation}
use Rattle.kq_alarm.specs.Armed.{Entry, entry_of}
use Rattle.kq_knote.proofs.arming.put_alarm.Goals as goal

pub returns-clause-kept : goal.returns-clause-kept
returns-clause-kept c = λ e here.
    let added : Entry = entry_of (record { moment = c.args.moment; ident = c.args.ident }) in
    Contains-permutation (added ∷ c.args.alarms.now.entries) c.add.new.self.entries e c.add.ensures.entries (Contains-append_right (added ∷ []) c.args.alarms.now.entries e here)

pub returns-clause-here : goal.returns-clause-here
returns-clause-here c = λ _ _.
    let added : Entry = entry_of (record { moment = c.args.moment; ident = c.args.ident }) in
    Contains-permutation (added ∷ c.args.alarms.now.entries) c.add.new.self.entries added c.add.ensures.entries
    (Contains-append_left (added ∷ []) c.args.alarms.now.entries added (Contains-push [] added))

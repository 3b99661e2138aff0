use Rattle.std.proofs.Common.{ℕ, sym, ap, ap₂, ◌∙◌, arith}
use Rattle.kq_model.specs.Following.{Fork, heir, heir_in, with_heir}
use Rattle.kq_model.specs.Knote.{find_knote}
use Rattle.kq_model.proofs.Following.{heir-one, heir-absent}
use Rattle.kq_kevent.specs.Owned.{OwnedKqueue}
use Rattle.kq_kevent.proofs.kq.Kq.follow_child.Goals as goal

abbrev fork_of : ℕ → ℕ → Fork
fork_of parent child = record { parent = parent; child = child }

pub take_in-requires-clause-room : goal.take_in-requires-clause-room
take_in-requires-clause-room c =
    let f = fork_of c.args.parent c.args.child in
    let kq = c.args.self.now.kq in
    let found = c.heir.ensures
    ∙ ap₂ (heir f) (c.get.ensures.knote ∙ ap (λ key. find_knote key c.self.inside.knotes.knotes) c.process_key-2.ensures)
    (c.get-known.ensures.knote ∙ ap (λ key. find_knote key c.self.inside.knotes.knotes) c.process_key.ensures)
    ∙ ap (λ (v : OwnedKqueue). heir_in f v.kq) c.self.view_is in
    let one = heir-one (heir_in f kq) c.in-Some.knote kq (sym found ∙ c.in-Some.is) in
    omega (arith, one, c.requires)

pub take_in-requires-clause-absent : goal.take_in-requires-clause-absent
take_in-requires-clause-absent c =
    let f = fork_of c.args.parent c.args.child in
    let kq = c.args.self.now.kq in
    let found = c.heir.ensures
    ∙ ap₂ (heir f) (c.get.ensures.knote ∙ ap (λ key. find_knote key c.self.inside.knotes.knotes) c.process_key-2.ensures)
    (c.get-known.ensures.knote ∙ ap (λ key. find_knote key c.self.inside.knotes.knotes) c.process_key.ensures)
    ∙ ap (λ (v : OwnedKqueue). heir_in f v.kq) c.self.view_is in
    heir-absent f kq c.in-Some.knote (sym found ∙ c.in-Some.is)

pub returns-in-Some-clause-kq : goal.returns-in-Some-clause-kq
unfolding with_heir
returns-in-Some-clause-kq c =
    let f = fork_of c.args.parent c.args.child in
    let kq = c.args.self.now.kq in
    let found = c.heir.ensures
    ∙ ap₂ (heir f) (c.get.ensures.knote ∙ ap (λ key. find_knote key c.self.inside.knotes.knotes) c.process_key-2.ensures)
    (c.get-known.ensures.knote ∙ ap (λ key. find_knote key c.self.inside.knotes.knotes) c.process_key.ensures)
    ∙ ap (λ (v : OwnedKqueue). heir_in f v.kq) c.self.view_is in
    c.take_in.ensures.kq ∙ ap (λ o. with_heir o kq) (sym (sym found ∙ c.in-Some.is))

pub returns-in_default-clause-kq : goal.returns-in_default-clause-kq
unfolding with_heir
returns-in_default-clause-kq c =
    let f = fork_of c.args.parent c.args.child in
    let kq = c.args.self.now.kq in
    let found = c.heir.ensures
    ∙ ap₂ (heir f) (c.get.ensures.knote ∙ ap (λ key. find_knote key c.self.inside.knotes.knotes) c.process_key-2.ensures)
    (c.get-known.ensures.knote ∙ ap (λ key. find_knote key c.self.inside.knotes.knotes) c.process_key.ensures)
    ∙ ap (λ (v : OwnedKqueue). heir_in f v.kq) c.self.view_is in
    ap (λ o. with_heir o kq) (sym (sym found ∙ c.in_default.is))

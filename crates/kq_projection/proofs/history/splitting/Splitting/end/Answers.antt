use Rattle.std.proofs.Common.{List, ℕ, sym, subst}
use Rattle.kq_model.specs.declared.event.Event.{Event}
use Rattle.kq_projection.specs.Split.{IsSplit}
use Rattle.kq_projection.specs.Traced.{traced}
use Rattle.kq_projection.proofs.history.splitting.Splitting.end.Goals as goal

pub end-requires : goal.end-requires
end-requires c = (traced c.args.trace.now, c.requires.said)

pub invariant_of-result : goal.invariant_of-result
invariant_of-result c =
    let given = c.args.self in
    subst (λ (v : ℕ). IsSplit (record { version = v; events = c.as_slice-events.result.now }) given.seen c.in_ok-said.said given.plain.items)
    (sym c.new-version.ensures)
    (subst (λ (xs : List Event). IsSplit (record { version = c.args.trace.now.version; events = xs }) given.seen c.in_ok-said.said given.plain.items)
    (sym c.as_slice-events.ensures) (record {
      shows = c.requires.tracked.shows;
      said = c.in_ok-said.ensures (traced c.args.trace.now) c.requires.said;
      plain_is = c.requires.plain_is;
      countable = c.args.trace.now.countable;
    }))

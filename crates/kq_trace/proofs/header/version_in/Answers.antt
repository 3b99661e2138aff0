-- The number of the value, where there is one.
use Rattle.std.proofs.Common.{refl, sym, ◌∙◌, ne_eqb, arith}
use Rattle.serde_json.specs.View.{view}
use Rattle.kq_trace.proofs.Found.{version_there, other_there, none_there}
use Rattle.kq_trace.proofs.header.version_in.Goals as goal

pub returns-then-number-from-clause-named : goal.returns-then-number-from-clause-named
returns-then-number-from-clause-named c =
    version_there (view c.args.value.now) c.in-Some.number 1 c.in-Some.ensures (omega arith) refl

pub returns-then-number-from-2-clause-named : goal.returns-then-number-from-2-clause-named
returns-then-number-from-2-clause-named c =
    version_there (view c.args.value.now) c.in-Some.number 2 c.in-Some.ensures (omega arith) refl

pub returns-else-number-from-2-clause-named : goal.returns-else-number-from-2-clause-named
returns-else-number-from-2-clause-named c =
    other_there (view c.args.value.now) c.in-Some.number c.in-Some.ensures
    (ne_eqb c.in-Some.number 1 (λ e. c.if-number-from.false (e ∙ sym c.from.ensures)))
    (ne_eqb c.in-Some.number 2 (λ e. c.if-number-from-2.false (e ∙ sym c.from-else-number-from.ensures)))

pub returns-in-None-clause-named : goal.returns-in-None-clause-named
returns-in-None-clause-named c = none_there (view c.args.value.now) c.in-None.ensures

-- The system is new, and stands on the heap as it was made.
use Rattle.std.proofs.Common.{◌≡◌, rules, of_calls, sym, subst}
use Rattle.libkqsim.specs.Handles.{IsEmpty}
use Rattle.libkqsim.proofs.life.empty.Goals as goal

pub returns-clause-sim : goal.returns-clause-sim
returns-clause-sim c =
    let same : c.in_ok-sim-2.sim.value ≡ c.in_ok-sim.sim = search rules in
    subst (IsEmpty c.args.version) (sym same) (search (rules, of_calls))

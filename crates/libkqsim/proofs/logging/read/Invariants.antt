-- The bytes so far were taken, and nothing stands behind them but what stood there.
use Rattle.std.proofs.Common.{◌≡◌, ◌≤◌, ◌-◌, ◌++◌, drop, length, take}
use Rattle.libkqsim.specs.Logs.{stream_of, with_rest}
use Rattle.libkqsim.proofs.logging.read.Given as goal

abbrev pub invariant-bytes : goal.invariant-bytes
invariant-bytes l = record {
  taken : stream_of l.of l.fn.sim.state.log ≡ take l.count l.into ++ stream_of l.of l.sim.state.log;
  rest : l.sim.state.log ≡ with_rest l.of (stream_of l.of l.sim.state.log) l.fn.sim.state.log;
  same : l.sim.state.system ≡ l.fn.sim.state.system;
  within : l.count ≤ length l.fn.into;
  behind : drop l.count l.into ≡ drop l.count l.fn.into;
}

abbrev pub decreases-bytes : goal.decreases-bytes
decreases-bytes l = length l.into - l.count

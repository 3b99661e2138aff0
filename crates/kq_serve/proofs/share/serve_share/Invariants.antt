use Rattle.std.proofs.Common.{◌≡◌, take}
use Rattle.kq_serve.specs.Shares.{share, HasServed}
use Rattle.kq_serve.proofs.share.serve_share.Given as goal

-- the share of the steps so far is served
abbrev pub invariant-loop-step : goal.invariant-loop-step
invariant-loop-step g l =
    HasServed l.fn.seat l.seat (share g.M.Served.owner l.threads l.thread (take l.step-index l.steps))
    × (l.place ≡ l.step-index)

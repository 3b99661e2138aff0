-- The report of the trace is that of what the input had.
use Rattle.std.proofs.Common.{ℕ, List, Result, Ok, Err, OnErr, IfErr, inr, subst}
use Rattle.kq_run.specs.Replay.{IsReport, IsReportFrom}
use Rattle.kq_run.proofs.replaying.replay_input.Goals as goal

both_err : {A E P : Type 0} {Q R : E → Type 0} (r : Result A E) → (P → (f : E) → Q f → R f) → OnErr r P → IfErr r Q → IfErr r R
both_err (Ok x) then p q = tt
both_err (Err f) then p q = then p f q

pub returns-clause-fault : goal.returns-clause-fault
returns-clause-fault g c =
    let all : List ℕ = c.in_ok-text.text in
    let (bytes, had, report) = subst (λ ahead. IsReportFrom ahead all) c.new.ensures c.in_ok-text.ensures.report in
    both_err c.write_chunks.result
    (λ (done, rest, cut, appends) fault is.
    inr (is, (done, rest, (bytes, had, subst (IsReport bytes) cut report), appends)))
    c.write_chunks.ensures.part c.write_chunks.ensures.fault

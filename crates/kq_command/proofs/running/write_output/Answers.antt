-- What was written or kept is by what the order makes of the bytes that the reader had.
use Rattle.std.proofs.Common.{IfErr, inl, rules, subst, sym}
use Rattle.std.proofs.KnownBytes.{Keeps-refl}
use Rattle.std.proofs.lemmas.Result.{IfErr-weaker}
use Rattle.kq_model.proofs.Results.{error_passed}
use Rattle.kq_run.specs.Living.{IsLiveFault, IsLiveReport}
use Rattle.kq_run.specs.Replay.{Had, IsInputFault, IsReportIn}
use Rattle.kq_run.specs.Workers.{IsThreadCount}
use Rattle.kq_run.specs.Written.{Leaves}
use Rattle.kq_command.specs.Run.{IsInRange, IsReaderFault, IsReaderOutput, most_bytes}
use Rattle.kq_command.specs.declared.order.Order.TheVariants as order
use Rattle.kq_command.proofs.Outputs.{bytes_left, input_fault_given, leaves_as, live_fault_given}
use Rattle.kq_command.proofs.running.write_output.Goals as goal

pub returns-in-Replay-clause-fault : goal.returns-in-Replay-clause-fault
returns-in-Replay-clause-fault g c =
    let given = g.I.Read.remaining c.args.reader.now in
    let before = g.O.Write.contents c.args.out.now in
    let after = g.O.Write.contents c.replay_input.new.out in
    let workers = c.in-Replay.workers in
    let made = order.Replay workers c.in-Replay.file in
    subst (λ o. IfErr c.replay_input.result (λ f. Leaves (IsReaderOutput o given) (IsReaderFault o given) f before after)) (sym c.in-Replay.is)
    (IfErr-weaker c.replay_input.result _ _
    (leaves_as (IsReportIn given most_bytes) (IsReaderOutput made given) (IsInputFault given most_bytes workers) (IsReaderFault made given)
    before after (λ text is. is) (input_fault_given made workers given (λ bytes fault is. is))) c.replay_input.ensures.fault)

pub returns-in_ok-bytes-in-Live-clause-fault : goal.returns-in_ok-bytes-in-Live-clause-fault
returns-in_ok-bytes-in-Live-clause-fault g c =
    let given = g.I.Read.remaining c.args.reader.now in
    let before = g.O.Write.contents c.args.out.now in
    let after = g.O.Write.contents c.live_report.new.out in
    let bytes = c.as_slice.result.now in
    let threads = c.in-Live.threads in
    let made = order.Live threads c.in-Live.file in
    let had : Had given most_bytes bytes =
    rw c.as_slice.ensures.value (c.in_ok-bytes-in-Live.ensures.all, c.in_ok-bytes-in-Live.ensures.within) in
    let in_range : IsInRange c.args.order.now = search rules in
    let is : IsThreadCount threads = subst IsInRange c.in-Live.is in_range in
    subst (λ o. IfErr c.live_report.result (λ f. Leaves (IsReaderOutput o given) (IsReaderFault o given) f before after)) (sym c.in-Live.is)
    (IfErr-weaker c.live_report.result _ _
    (leaves_as (IsLiveReport bytes threads) (IsReaderOutput made given) (IsLiveFault bytes threads) (IsReaderFault made given)
    before after (λ text report. (bytes, had, report)) (live_fault_given made threads given bytes had is (λ fault h. h))) c.live_report.ensures.fault)

pub returns-in_err-text-in-Book-clause-fault : goal.returns-in_err-text-in-Book-clause-fault
returns-in_err-text-in-Book-clause-fault g c =
    let given = g.I.Read.remaining c.args.reader.now in
    let kept = g.O.Write.contents c.args.out.now in
    let bytes = c.as_slice-in-Book.result.now in
    let threads = c.in-Book.threads in
    let made = order.Book threads c.in-Book.file in
    let fault = c.in_err-text-in-Book.field-0.0 in
    let had : Had given most_bytes bytes =
    rw c.as_slice-in-Book.ensures.value (c.in_ok-bytes-in-Book.ensures.all, c.in_ok-bytes-in-Book.ensures.within) in
    let in_range : IsInRange c.args.order.now = search rules in
    let is : IsThreadCount threads = subst IsInRange c.in-Book.is in_range in
    let failed = c.from_residual-in_err-text-in-Book.result in
    subst (λ o. IfErr failed (λ f. Leaves (IsReaderOutput o given) (IsReaderFault o given) f kept kept)) (sym c.in-Book.is)
    (error_passed failed fault (λ f. Leaves (IsReaderOutput made given) (IsReaderFault made given) f kept kept)
    c.from_residual-in_err-text-in-Book.ensures.1
    (inl (live_fault_given made threads given bytes had is (λ f h. h) fault c.in_err-text-in-Book.ensures.fault, Keeps-refl kept)))

pub returns-in_ok-text-in-Book-clause-fault : goal.returns-in_ok-text-in-Book-clause-fault
returns-in_ok-text-in-Book-clause-fault g c =
    let given = g.I.Read.remaining c.args.reader.now in
    let before = g.O.Write.contents c.args.out.now in
    let after = g.O.Write.contents c.write_out.new.writer in
    let bytes = c.as_slice-in-Book.result.now in
    let text = c.as_slice-in-Book-2.result.now in
    let made = order.Book c.in-Book.threads c.in-Book.file in
    let had : Had given most_bytes bytes =
    rw c.as_slice-in-Book.ensures.value (c.in_ok-bytes-in-Book.ensures.all, c.in_ok-bytes-in-Book.ensures.within) in
    let is : IsReaderOutput made given text =
    rw c.as_slice-in-Book-2.ensures.value (bytes, had, c.in_ok-text-in-Book.ensures.text) in
    subst (λ o. IfErr c.write_out.result (λ f. Leaves (IsReaderOutput o given) (IsReaderFault o given) f before after)) (sym c.in-Book.is)
    (bytes_left (IsReaderOutput made given) (IsReaderFault made given) c.write_out.result before after text is
    c.write_out.ensures.part c.write_out.ensures.fault)

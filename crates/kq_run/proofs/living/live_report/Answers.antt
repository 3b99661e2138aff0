-- The report of the book's trace is that of a book of the bytes.
use Rattle.std.proofs.Common.{◌≡◌, ◌∙◌, Result, Ok, Err, OnErr, IfErr, inl, inr, sym}
use Rattle.std.proofs.KnownBytes.{Keeps-refl}
use Rattle.kq_model.specs.Report.{report_of}
use Rattle.kq_model.proofs.Results.{error_passed}
use Rattle.kq_run.specs.Living.{IsLiveFault, IsLiveReport}
use Rattle.kq_run.specs.Written.{Leaves}
use Rattle.kq_run.proofs.living.live_report.Goals as goal

pub returns-in_err-book-clause-fault : goal.returns-in_err-book-clause-fault
returns-in_err-book-clause-fault g c =
    let bytes = c.args.bytes.now in
    let threads = c.args.threads in
    let kept = g.O.Write.contents c.args.out.now in
    error_passed c.from_residual.result c.in_err-book.field-0.0
    (λ f. Leaves (IsLiveReport bytes threads) (IsLiveFault bytes threads) f kept kept) c.from_residual.ensures.1
    (inl (c.in_err-book.ensures.fault, Keeps-refl kept))

both_err : {A E P : Type 0} {Q R : E → Type 0} (r : Result A E) → (P → (f : E) → Q f → R f) → OnErr r P → IfErr r Q → IfErr r R
both_err (Ok x) then p q = tt
both_err (Err f) then p q = then p f q

pub returns-clause-fault : goal.returns-clause-fault
returns-clause-fault g c =
    let book = c.in_ok-book.book in
    let text : c.in_ok-text.text.items ≡ report_of book.version book.events = c.in_ok-text.ensures in
    both_err c.write_out.result
    (λ (done, rest, cut, appends) fault is.
    inr (is, (done, rest, (book, c.in_ok-book.ensures.book, sym (sym c.as_slice.ensures.value ∙ cut) ∙ text), appends)))
    c.write_out.ensures.part c.write_out.ensures.fault
